use Rattle.std.proofs.Common.{arith, ap, sym, ◌∙◌}
use Rattle.std.proofs.lemmas.List.{get_or_default}
use Rattle.kb_label.specs.Names.{name_cmp}
use Rattle.kb_label.specs.NameOrder.{name_cmp-equal}
use Rattle.kb_label.proofs.Searched.{after-place, at-has}
use Rattle.kb_label.proofs.name_list.NameList.beside_at.Goals as goal

pub returns-then-place-len-clause-equal : goal.returns-then-place-len-clause-equal
returns-then-place-len-clause-equal c e =
    let l = c.self.inside.names.items in
    let p = c.args.name.now in
    let q = c.index.result.now in
    let same = name_cmp-equal q p (sym c.beside.ensures ∙ e) in
    rw (← c.self.view_is) (at-has l p c.args.place (omega (arith, c.if-place-len.true, c.len.ensures)) (get_or_default l c.args.place p q (omega (arith, c.if-place-len.true, c.len.ensures)) ∙ sym c.index.ensures ∙ same))

pub returns-then-place-len-clause-greater : goal.returns-then-place-len-clause-greater
returns-then-place-len-clause-greater c e =
    let l = c.self.inside.names.items in
    let p = c.args.name.now in
    let greater = ap (λ q. name_cmp q p) (sym c.index.ensures) ∙ sym c.beside.ensures ∙ e in
    rw (← c.self.view_is) (after-place l p c.self.invariant c.args.place c.index.result.now (omega (arith, c.if-place-len.true, c.len.ensures)) greater)
