use Rattle.std.proofs.Common.{◌≡◌}
use Rattle.std.specs.Prelude.{map, take}
use Rattle.kb_term.specs.View.{equations_of_list}
use Rattle.kb_text.specs.Problems.{equation_of as problem_equation}
use Rattle.kb_syntax.specs.Written.{equation_of}
use Rattle.kb_syntax.proofs.problem.equations.Given as goal

-- the equations so far
abbrev pub invariant-loop-e : goal.invariant-loop-e
invariant-loop-e l = record {
  declared : l.variables.declared ≡ l.fn.variables.declared;
  made : equations_of_list l.all.items ≡ map (problem_equation l.fn.variables.declared l.symbols) (map equation_of (take l.e-index l.written));
}
