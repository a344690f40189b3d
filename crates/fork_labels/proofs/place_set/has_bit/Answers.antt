use Rattle.std.proofs.Common.{ℕ, ◌<◌, IsTrue, not, nat_eq, zero, suc, sym, arith}
use mathlib.Core.Bool.{true≢false}
use Rattle.fork_labels.proofs.Clear.{some_bit}
use Rattle.fork_labels.proofs.place_set.has_bit.Goals as goal

above_none : (w : ℕ) → IsTrue (not (nat_eq w 0)) → 0 < w
above_none zero h = absurd (true≢false (sym h))
above_none (suc w) h = omega arith

pub returns-clause-some : goal.returns-clause-some
returns-clause-some c = λ h. some_bit c.args.word (above_none c.args.word h) (omega (arith, c.ranges.word))
