use Rattle.std.proofs.Common.{◌≡◌, ◌++◌}
use Rattle.std.specs.Prelude.{flat_map, take}
use Rattle.kb_term.specs.View.{equations_of_list}
use Rattle.kb_text.specs.Terms.{problem_line, names_of}
use Rattle.kb_text.proofs.printer.push_equations.Given as goal

-- the lines of the equations so far were added
abbrev pub invariant-loop-equation : goal.invariant-loop-equation
invariant-loop-equation l = l.out.items ≡ l.fn.out.items ++ flat_map (problem_line (names_of l.signature)) (equations_of_list (take l.equation-index l.equations))
