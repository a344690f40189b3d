use Rattle.std.proofs.Common.{◌≡◌, max, drop}
use Rattle.kb_term.specs.View.{equations_of_list}
use Rattle.kb_text.specs.Terms.{most_variables}
use Rattle.kb_text.proofs.printer.most_variables.Given as goal

-- the equations that are left decide
abbrev pub invariant-loop-equation : goal.invariant-loop-equation
invariant-loop-equation l = max l.most (most_variables (equations_of_list (drop l.equation-index l.equations))) ≡ most_variables (equations_of_list l.equations)
