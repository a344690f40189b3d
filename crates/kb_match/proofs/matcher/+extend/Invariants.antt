use Rattle.std.specs.Prelude.{map}
use Rattle.kb_term.specs.Tree.{tree_depth}
use Rattle.kb_term.specs.View.{tree_of}
use Rattle.kb_match.specs.Binding.{bindings_of_list}
use Rattle.kb_match.proofs.Extensions.{IsExtendedBy}
use Rattle.kb_match.proofs.matcher.+extend.Given as goal

abbrev pub decreases-extend : goal.decreases-extend
decreases-extend l = tree_depth (tree_of l.pattern.now)

-- the entries after the arguments so far
abbrev pub invariant-loop-i : goal.invariant-loop-i
invariant-loop-i l = IsExtendedBy l.i (map tree_of l.patterns) (map tree_of l.subjects) (bindings_of_list l.initial.bindings.items) (bindings_of_list l.bindings.items)
