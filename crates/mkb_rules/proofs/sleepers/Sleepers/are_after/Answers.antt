use Rattle.std.proofs.Common.{arith, ap, sym, ◌∙◌}
use Rattle.kb_label.specs.Names.{name_cmp}
use Rattle.kb_label.proofs.Searched.{after-place, greater-told}
use Rattle.mkb_rules.proofs.sleepers.Sleepers.are_after.Goals as goal

pub returns-else-place-len : goal.returns-else-place-len
returns-else-place-len c t =
    let l = c.self.inside.names.items in
    let p = c.args.p.now in
    let greater = ap (λ q. name_cmp q p) (sym c.index.ensures) ∙ sym c.cmp.ensures ∙ greater-told c.cmp.result (sym c.is_gt.ensures ∙ t) in
    rw (← c.self.view_is) (after-place l p c.self.invariant.0 c.args.place c.index.result.now (omega (arith, c.if-place-len.false, c.len.ensures)) greater)
