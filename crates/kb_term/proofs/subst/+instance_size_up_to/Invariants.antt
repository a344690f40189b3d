use Rattle.std.proofs.Common.{◌≡◌, ◌+◌, ◌<◌}
use Rattle.std.specs.Prelude.{sum_by, take, min}
use Rattle.kb_term.specs.Tree.{tree_size}
use Rattle.kb_term.specs.Substitution.{instance, substitution_of}
use Rattle.kb_term.specs.View.{tree_of}
use Rattle.kb_term.proofs.subst.+instance_size_up_to.Given as goal

-- the instances of the arguments so far are counted, as far as the cap
abbrev pub invariant-loop-argument : goal.invariant-loop-argument
invariant-loop-argument l =
    (l.total ≡ min (sum_by (λ u. tree_size (instance (substitution_of l.m) (tree_of u))) (take l.argument-index l.argument-items) + 1) l.cap)
    × (tree_size (instance (substitution_of l.m) (tree_of l.t)) ≡ sum_by (λ u. tree_size (instance (substitution_of l.m) (tree_of u))) l.argument-items + 1)
    × (0 < l.cap)
