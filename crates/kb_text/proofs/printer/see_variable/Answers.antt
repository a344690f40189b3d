use Rattle.std.proofs.Common.{◌≡◌, sym, ◌∙◌, ap, false}
use Rattle.kb_term.proofs.Distinct.{has, distinct-new, distinct-old}
use Rattle.kb_text.proofs.printer.see_variable.Goals as goal

pub returns-in_ok-push : goal.returns-in_ok-push
returns-in_ok-push c vs e =
    let absent : has c.args.n c.args.seen.now.items ≡ false = ap (has c.args.n) (sym c.deref.ensures.value) ∙ sym c.has.ensures ∙ c.if-not-has.true in
    c.in_ok-push.ensures.items ∙ distinct-new c.args.seen.now.items vs c.args.n e absent

pub returns-else-not-has : goal.returns-else-not-has
returns-else-not-has c vs e = distinct-old c.args.seen.now.items vs c.args.n e (ap (has c.args.n) (sym c.deref.ensures.value) ∙ sym c.has.ensures ∙ c.if-not-has.false)
