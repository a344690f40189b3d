use Rattle.std.proofs.Common.{◌≡◌}
use Rattle.std.specs.Prelude.{map, take}
use Rattle.kb_term.specs.Tree.{apply, trees_of}
use Rattle.kb_term.specs.Substitution.{instance, substitution_of}
use Rattle.kb_term.specs.View.{tree_of}
use Rattle.kb_term.proofs.subst.+instance_of.Given as goal

abbrev pub decreases-instance_of : goal.decreases-instance_of
decreases-instance_of l = goal.size-instance_of l

-- the instances of the arguments so far
abbrev pub invariant-loop-argument : goal.invariant-loop-argument
invariant-loop-argument l =
    (map tree_of l.items.items ≡ map (λ u. instance (substitution_of l.m) (tree_of u)) (take l.argument-index l.argument-items))
    × (instance (substitution_of l.m) (tree_of l.t) ≡ apply l.f.0 (trees_of (map (λ u. instance (substitution_of l.m) (tree_of u)) l.argument-items)))
