-- Where each left side of some rules has a step by others, each term that they rewrite has one; where each rule's sides are joinable by others, so are the ends of each step.
use Rattle.std.proofs.Common.{sym, subst₂, subst}
use Rattle.kb_term.specs.Tree.{Tree, apply, Trees, more_trees}
use Rattle.kb_term.specs.Substitution.{instance}
use Rattle.kb_term.specs.Rule.{Rule}
use Rattle.kb_term.proofs.Relation.{IsJoinable}
use Rattle.kb_term.proofs.Steps.{Step, StepIn, at_root, inside, here, there}
use Rattle.kb_term.proofs.StepsInside.{step-instance, joinable_instance, reaches_inside, reaches_here, reaches_there}

module _ (P Q : Rule → Type 0) where
  mutual
    pub reducible : ((r : Rule) → P r → (z : Tree) × Step Q r.left z) → {s t : Tree} → Step P s t → (z : Tree) × Step Q s z
    reducible h (at_root (r, m, i, e, d)) = let k = h r i in (instance m k.0, subst (λ x. Step Q x (instance m k.0)) (sym e) (step-instance Q m k.1))
    reducible h (inside {f = f} k) = let z = reducible_in h k in (apply f z.0, inside z.1)

    reducible_in : ((r : Rule) → P r → (z : Tree) × Step Q r.left z) → {ss ts : Trees} → StepIn P ss ts → (zs : Trees) × StepIn Q ss zs
    reducible_in h (here {ts = ts} k) = let z = reducible h k in (more_trees z.0 ts, here z.1)
    reducible_in h (there {t = t} k) = let z = reducible_in h k in (more_trees t z.0, there z.1)

  mutual
    pub step_joined : ((r : Rule) → P r → IsJoinable (Step Q) r.left r.right) → {s t : Tree} → Step P s t → IsJoinable (Step Q) s t
    step_joined h (at_root (r, m, i, e, d)) = subst₂ (IsJoinable (Step Q)) (sym e) (sym d) (joinable_instance Q m r.left r.right (h r i))
    step_joined h (inside {f = f} {ts = ts} {us = us} k) = let z = step_joined_in h k in (apply f z.0, reaches_inside Q f ts z.0 z.1, reaches_inside Q f us z.0 z.2)

    step_joined_in : ((r : Rule) → P r → IsJoinable (Step Q) r.left r.right) → {ss ts : Trees} → StepIn P ss ts → IsJoinable (StepIn Q) ss ts
    step_joined_in h (here {t = t} {u = u} {ts = ts} k) = let z = step_joined h k in (more_trees z.0 ts, reaches_here Q t z.0 ts z.1, reaches_here Q u z.0 ts z.2)
    step_joined_in h (there {t = t} {ts = ts} {us = us} k) = let z = step_joined_in h k in (more_trees t z.0, reaches_there Q t ts z.0 z.1, reaches_there Q t us z.0 z.2)
