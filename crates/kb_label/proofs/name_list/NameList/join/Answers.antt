use Rattle.std.proofs.Common.{◌≡◌, ◌∙◌, sym, ap, subst, OnOk, [], ◌∷◌, List}
use Rattle.kb_label.specs.Names.{Name, join}
use Rattle.kb_label.proofs.Ordered.{ordered-join}
use Rattle.kb_label.proofs.Sets.{join-only}
use Rattle.kb_label.proofs.name_list.NameList.join.Goals as goal

pub invariant_of-self : goal.invariant_of-self
invariant_of-self c = rw (c.in_ok-self-inside.ensures.items_if_clones_equal (λ p q e. e), c.as_slice.ensures.value) c.other.invariant

pub invariant_of-self-2 : goal.invariant_of-self-2
invariant_of-self-2 c =
    rw (c.in_ok-names.ensures, c.as_slice-3.ensures.value, c.as_slice-4.ensures.value) (ordered-join c.self.inside.names.items c.other.inside.names.items c.other.invariant)

pub returns-in-Some-clause-ok : goal.returns-in-Some-clause-ok
returns-in-Some-clause-ok c =
    let p = c.in-Some.name.now in
    let alone : c.args.other.now ≡ p ∷ [] = sym c.other.view_is ∙ sym c.as_slice-2.ensures.value ∙ rw c.in-Some.is at c.only_name.ensures in
    subst (λ (l : List Name). OnOk c.add_kept.result (c.add_kept.new.self ≡ l)) (sym (join-only p c.args.self.now (rw (← c.self.view_is) c.self.invariant)) ∙ ap (join c.args.self.now) (sym alone)) c.add_kept.ensures.ok
