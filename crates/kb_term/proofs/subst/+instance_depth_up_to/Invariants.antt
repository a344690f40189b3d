use Rattle.std.proofs.Common.{◌≡◌, ◌+◌, ◌-◌, ◌<◌}
use Rattle.std.specs.Prelude.{map, take, min}
use Rattle.kb_term.specs.Tree.{tree_depth, list_depth}
use Rattle.kb_term.specs.Substitution.{instance, substitution_of}
use Rattle.kb_term.specs.View.{tree_of}
use Rattle.kb_term.proofs.subst.+instance_depth_up_to.Given as goal

-- the deepest instance of an argument seen so far, as far as the cap
abbrev pub invariant-loop-argument : goal.invariant-loop-argument
invariant-loop-argument l =
    (l.deepest ≡ min (list_depth (map (λ u. instance (substitution_of l.m) (tree_of u)) (take l.argument-index l.argument-items))) (l.cap - 1))
    × (tree_depth (instance (substitution_of l.m) (tree_of l.t)) ≡ list_depth (map (λ u. instance (substitution_of l.m) (tree_of u)) l.argument-items) + 1)
    × (0 < l.cap)
