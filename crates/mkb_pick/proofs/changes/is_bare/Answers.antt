use Rattle.std.proofs.Common.{refl, sym, subst}
use Rattle.mkb_pick.specs.declared.tree.Tree.{Tree}
use Rattle.mkb_pick.specs.Tasks.{Has, IsAgenda}
use Rattle.mkb_pick.proofs.Tasks.{none_in_leaf, some_in_fork}
use Rattle.mkb_pick.proofs.changes.is_bare.Goals as goal

pub returns-in-Fork : goal.returns-in-Fork
returns-in-Fork c =
    let some = some_in_fork _ _ _ _ _ (subst {A = Tree} IsAgenda c.in-Fork.is c.requires) in
    (λ h. absurd (cc), λ h. absurd (h some.0 (subst {A = Tree} (λ z. Has z some.0) (sym c.in-Fork.is) some.1)))

pub returns-in-Leaf : goal.returns-in-Leaf
returns-in-Leaf c = (λ h t k. none_in_leaf t (subst {A = Tree} (λ z. Has z t) c.in-Leaf.is k), λ h. refl)
