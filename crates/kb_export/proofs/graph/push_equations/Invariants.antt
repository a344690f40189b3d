use Rattle.std.proofs.Common.{◌≡◌, ◌++◌, take}
use Rattle.kb_term.specs.View.{equations_of_list}
use Rattle.kb_text.specs.Terms.{names_of}
use Rattle.kb_export.specs.Graphs.{equation_lines}
use Rattle.kb_export.proofs.graph.push_equations.Given as goal

-- the equations so far were added
abbrev pub invariant-loop-i : goal.invariant-loop-i
invariant-loop-i l = l.out.items ≡ l.fn.out.items ++ equation_lines (names_of l.signature) 1 (equations_of_list (take l.i l.equations))
