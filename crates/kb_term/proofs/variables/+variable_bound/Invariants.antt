use Rattle.std.proofs.Common.{◌≡◌}
use Rattle.std.specs.Prelude.{take}
use Rattle.kb_term.specs.Tree.{variables_of}
use Rattle.kb_term.specs.View.{tree_of}
use Rattle.kb_term.proofs.Numbered.{variables_list}
use Rattle.kb_term.proofs.Bounded.{IsLeastBound}
use Rattle.kb_term.proofs.variables.+variable_bound.Given as goal

-- the least bound of the variables of the arguments so far
abbrev pub invariant-loop-argument : goal.invariant-loop-argument
invariant-loop-argument l = record {
  least : IsLeastBound l.bound (variables_list (take l.argument-index l.argument-items));
  whole : variables_of (tree_of l.t) ≡ variables_list l.argument-items;
}
