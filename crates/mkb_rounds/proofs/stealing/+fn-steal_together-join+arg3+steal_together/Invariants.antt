use Rattle.std.proofs.Common.{ℕ, ◌+◌, ◌*◌}
use Rattle.mkb_rounds.proofs.stealing.+fn-steal_together-join+arg3+steal_together.Given as goal

abbrev pub decreases-join+arg3 : goal.decreases-join+arg3
decreases-join+arg3 g l = 2 * l.threads

abbrev pub decreases-steal_together : goal.decreases-steal_together
decreases-steal_together g l = 2 * l.threads + 1
