use Rattle.std.proofs.Common.{arith, ap, sym, ◌∙◌}
use Rattle.kb_label.specs.Names.{name_cmp}
use Rattle.kb_label.proofs.Searched.{before-place, less-told}
use Rattle.mkb_rules.proofs.sleepers.Sleepers.are_before.Goals as goal

pub returns-then-place-len : goal.returns-then-place-len
returns-then-place-len c t =
    let l = c.self.inside.names.items in
    let p = c.args.p.now in
    let less = ap (λ q. name_cmp q p) (sym c.index.ensures) ∙ sym c.cmp.ensures ∙ less-told c.cmp.result (sym c.is_lt.ensures ∙ t) in
    rw (← c.self.view_is) (before-place l p c.self.invariant.0 c.args.place c.index.result.now (omega (arith, c.if-place-eq0.false)) (omega (arith, c.if-place-len.true, c.len.ensures)) less)
