use Rattle.std.proofs.Common.{arith}
use Rattle.kb_kbo.proofs.Levels.{weighted_same}
use Rattle.kb_kbo.proofs.level.Level.is_even.Goals as goal

pub returns : goal.returns
returns c = λ e a. omega (arith, c.if-self.false, weighted_same c.args.self.now.left.symbols c.args.self.now.right.symbols a (omega arith) (λ f h. c.loop-f.invariant f (omega arith)))
