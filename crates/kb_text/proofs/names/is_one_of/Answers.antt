use Rattle.std.proofs.Common.{◌≡◌, ap, sym, ◌∙◌, true, false}
use Rattle.std.specs.Prelude.{bytes_eq}
use Rattle.kb_text.specs.Names.{is_among}
use Rattle.kb_text.proofs.NameLists.{is_among-left, names_from-end}
use Rattle.kb_text.proofs.names.is_one_of.Goals as goal

pub returns-then-eq : goal.returns-then-eq
returns-then-eq c =
    let e : bytes_eq c.args.name.now c.other-item.result.items ≡ true = sym (c.eq.ensures ∙ ap (bytes_eq c.args.name.now) c.as_slice.ensures.value) ∙ c.if-eq.true in
    sym (c.loop-other.invariant ∙ is_among-left c.args.names.now c.loop-other.other-index c.args.name.now c.other-item.result true c.other-item.is c.loop-other-test.true e)

pub loop-other-preserved : goal.loop-other-preserved
loop-other-preserved c =
    let e : bytes_eq c.args.name.now c.other-item.result.items ≡ false = sym (c.eq.ensures ∙ ap (bytes_eq c.args.name.now) c.as_slice.ensures.value) ∙ c.if-eq.false in
    c.loop-other.invariant ∙ is_among-left c.args.names.now c.loop-other.other-index c.args.name.now c.other-item.result false c.other-item.is c.loop-other-test.true e

pub returns : goal.returns
returns c = sym (c.loop-other.invariant ∙ ap (λ ns. is_among ns c.args.name.now) (names_from-end c.args.names.now c.loop-other.other-index c.loop-other-test.false))
