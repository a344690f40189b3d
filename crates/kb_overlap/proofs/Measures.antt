-- Extents of instances, argument by argument.
use Rattle.std.proofs.Common.{ℕ, zero, suc, ◌+◌, ◌<◌, ◌≡◌, List, [], ◌∷◌, length, get_or, take, subst, arith}
use Rattle.std.specs.Prelude.{min, max}
use Rattle.kb_term.specs.Tree.{Tree, variable, trees_of, tree_size, trees_size, tree_depth, trees_depth}
use Rattle.kb_term.specs.Substitution.{instance, instances}
use Rattle.kb_unify.specs.Extent.{IsExtent, IsExtentOfAll}
use Rattle.kb_unify.specs.declared.extent.Extent.{Extent}

sizes-take : (m : ℕ → Tree) (us : List Tree) (k : ℕ) → k < length us → trees_size (instances m (trees_of (take (suc k) us))) ≡ trees_size (instances m (trees_of (take k us))) + tree_size (instance m (get_or us k (variable 0)))
sizes-take m [] k h = absurd (omega (arith, h))
sizes-take m (u ∷ us) zero h = omega arith
sizes-take m (u ∷ us) (suc k) h = omega (arith, sizes-take m us k (omega (arith, h)))

depths-take : (m : ℕ → Tree) (us : List Tree) (k : ℕ) → k < length us → trees_depth (instances m (trees_of (take (suc k) us))) ≡ max (trees_depth (instances m (trees_of (take k us)))) (tree_depth (instance m (get_or us k (variable 0))))
depths-take m [] k h = absurd (omega (arith, h))
depths-take m (u ∷ us) zero h = omega arith
depths-take m (u ∷ us) (suc k) h = omega (arith, depths-take m us k (omega (arith, h)))

-- one more argument
pub extent_more : (m : ℕ → Tree) (us : List Tree) (k : ℕ) (e d r : Extent) → k < length us → IsExtentOfAll e (instances m (trees_of (take k us))) → IsExtent d (instance m (get_or us k (variable 0))) → r.size ≡ min (d.size + e.size) 513 → r.depth ≡ max d.depth e.depth
    → IsExtentOfAll r (instances m (trees_of (take (k + 1) us)))
extent_more m us k e d r h so_far here size depth =
    let next : suc k ≡ k + 1 = omega arith in
    subst (λ n. IsExtentOfAll r (instances m (trees_of (take n us)))) next (record {
      size = omega (arith, size, so_far.size, here.size, sizes-take m us k h);
      depth = omega (arith, depth, so_far.depth, here.depth, depths-take m us k h);
    })
