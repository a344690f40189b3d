use Rattle.std.proofs.Common.{◌≡◌}
use Rattle.std.specs.Prelude.{take}
use Rattle.kb_text.specs.Problems.{names_in, names_in_all, variables_among}
use Rattle.kb_syntax.specs.Variables.{with_found}
use Rattle.kb_syntax.specs.Written.{written_of}
use Rattle.kb_syntax.proofs.WrittenArguments.{args}
use Rattle.kb_syntax.proofs.written.WrittenTerm.+find_variables.Given as goal

-- the variables of the arguments so far have been added behind the symbol
abbrev pub invariant-loop-argument : goal.invariant-loop-argument
invariant-loop-argument l = record {
  added : l.variables ≡ with_found l.initial.variables (variables_among l.initial.variables.declared (names_in_all (args (take l.argument-index l.argument-items))));
  all : with_found l.fn.variables (variables_among l.fn.variables.declared (names_in (written_of l.self))) ≡ with_found l.initial.variables (variables_among l.initial.variables.declared (names_in_all (args l.argument-items)));
}
