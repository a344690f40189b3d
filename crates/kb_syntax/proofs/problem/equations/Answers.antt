use Rattle.std.proofs.Common.{arith, length, ap, List}
use Rattle.std.specs.Prelude.{nat_le}
use Rattle.kb_text.specs.Names.{Name}
use Rattle.kb_text.specs.Problems.{equation_variables}
use Rattle.kb_syntax.specs.Written.{equation_of}
use Rattle.kb_syntax.proofs.ProblemLaws.{all_at}
use Rattle.kb_syntax.proofs.problem.equations.Goals as goal

pub equation-requires-clause-variables : goal.equation-requires-clause-variables
equation-requires-clause-variables c =
    let few = all_at (λ e. nat_le (length (equation_variables c.args.variables.now.declared e)) 64) equation_of c.args.written.now c.loop-e.e-index c.e-item.result c.requires.variables c.loop-e-test.true c.e-item.is in
    let same = ap (λ (vs : List Name). length (equation_variables vs (equation_of c.e-item.result))) c.loop-e.invariant.declared in
    grind (arith, few, same)
