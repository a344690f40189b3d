use Rattle.std.proofs.Common.{arith, sym, ◌∙◌}
use Rattle.std.proofs.lemmas.List.{get_or_default}
use Rattle.kb_label.proofs.Members.{name_eq-eq}
use Rattle.kb_label.proofs.Searched.{at-has}
use Rattle.mkb_rules.proofs.sleepers.Sleepers.is_at.Goals as goal

pub returns-then-place-len : goal.returns-then-place-len
returns-then-place-len c t =
    let l = c.self.inside.names.items in
    let p = c.args.p.now in
    let q = c.index.result.now in
    let same = name_eq-eq q p (sym c.eq.ensures ∙ t) in
    rw (← c.self.view_is) (at-has l p c.args.place (omega (arith, c.if-place-len.true, c.len.ensures)) (get_or_default l c.args.place p q (omega (arith, c.if-place-len.true, c.len.ensures)) ∙ sym c.index.ensures ∙ same))
