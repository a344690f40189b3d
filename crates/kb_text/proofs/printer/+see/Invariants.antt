use Rattle.std.proofs.Common.{◌≡◌, ℕ, List, ◌++◌}
use Rattle.std.specs.Prelude.{take}
use Rattle.kb_term.specs.Pair.{distinct}
use Rattle.kb_term.specs.Tree.{tree_depth, variables_of}
use Rattle.kb_term.specs.View.{tree_of}
use Rattle.kb_term.proofs.Numbered.{variables_list}
use Rattle.kb_text.proofs.printer.+see.Given as goal

abbrev pub decreases-see : goal.decreases-see
decreases-see l = tree_depth (tree_of l.t.now)

-- the variables of the arguments so far have been added
abbrev pub invariant-loop-argument : goal.invariant-loop-argument
invariant-loop-argument l = record {
  added : (vs : List ℕ) → l.fn.seen.items ≡ distinct vs → l.seen.items ≡ distinct (vs ++ variables_list (take l.argument-index l.arguments));
  all : variables_of (tree_of l.t) ≡ variables_list l.arguments;
}
