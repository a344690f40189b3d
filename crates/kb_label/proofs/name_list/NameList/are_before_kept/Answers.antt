use Rattle.std.proofs.Common.{arith, ap, sym, ◌∙◌}
use Rattle.kb_label.specs.Names.{name_cmp}
use Rattle.kb_label.proofs.Searched.{before-place, less-told}
use Rattle.kb_label.proofs.name_list.NameList.are_before_kept.Goals as goal

pub returns-then-place-len : goal.returns-then-place-len
returns-then-place-len c t =
    let l = c.self.inside.names.items in
    let p = c.args.name.now in
    let less = ap (λ q. name_cmp q p) (sym c.index.ensures) ∙ sym c.beside.ensures ∙ less-told c.beside.result (sym c.is_lt.ensures ∙ t) in
    rw (← c.self.view_is) (before-place l p c.self.invariant c.args.place c.index.result.now (omega (arith, c.if-place-eq0.false)) (omega (arith, c.if-place-len.true, c.len.ensures)) less)
