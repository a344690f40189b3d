use Rattle.std.proofs.Common.{arith}
use Rattle.kb_linear.proofs.Weights.{weighted-set, weighted-part}
use Rattle.kb_kbo.specs.KnuthBendix.{symbol_weight}
use Rattle.kb_kbo.proofs.level.Tally.add_symbol.Goals as goal

pub overflow_add-self : goal.overflow_add-self
overflow_add-self c = let k = weighted-part c.args.self.now.symbols c.args.f.0 in omega (arith, k, c.requires)

pub returns-then-f-lt8 : goal.returns-then-f-lt8
returns-then-f-lt8 c = λ order l. let w = weighted-set c.args.self.now.symbols c.args.f.0 1 (symbol_weight order) (omega arith) in omega (arith, w)
