use Rattle.std.proofs.Common.{◌≡◌, ◌≤◌, ◌+◌, [], drop, length}
use Rattle.kb_term.specs.View.{equations_of_list}
use Rattle.mkb_model.specs.Journals.{with_inputs}
use Rattle.mkb_rules.proofs.opening.add_inputs.Given as goal

-- the first input equations have nodes
abbrev pub invariant-loop-i : goal.invariant-loop-i
invariant-loop-i l = (with_inputs 1 (equations_of_list l.equations) [] ≡ with_inputs (l.i + 1) (equations_of_list (drop l.i l.equations)) l.nodes.now) × (length l.nodes.now ≤ l.i)
