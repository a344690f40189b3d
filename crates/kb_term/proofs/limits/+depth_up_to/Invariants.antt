use Rattle.std.proofs.Common.{◌≡◌, ◌+◌, ◌-◌, ◌<◌}
use Rattle.std.specs.Prelude.{map, take, min}
use Rattle.kb_term.specs.Tree.{tree_depth, list_depth}
use Rattle.kb_term.specs.View.{tree_of}
use Rattle.kb_term.proofs.limits.+depth_up_to.Given as goal

-- the deepest argument seen so far, as far as the cap, and how deep the term is
abbrev pub invariant-loop-argument : goal.invariant-loop-argument
invariant-loop-argument l =
    (l.deepest ≡ min (list_depth (map tree_of (take l.argument-index l.argument-items))) (l.cap - 1))
    × (tree_depth (tree_of l.t) ≡ list_depth (map tree_of l.argument-items) + 1)
    × (0 < l.cap)
