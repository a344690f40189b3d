use Rattle.std.proofs.Common.{◌≡◌}
use Rattle.std.specs.Prelude.{map}
use Rattle.std.specs.List.{range_with_len}
use Rattle.kb_term.specs.View.{equations_of_list}
use Rattle.kb_syntax.specs.Generator.{generated_equation}
use Rattle.kb_syntax.proofs.generator.generate.Given as goal

-- the equations so far
abbrev pub invariant-loop-i : goal.invariant-loop-i
invariant-loop-i l = equations_of_list l.equations.items ≡ map (generated_equation l.letters.items) (range_with_len 0 l.i)
