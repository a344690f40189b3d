use Rattle.mkb_moves.proofs.Stopped.{limit_stops}
use Rattle.mkb_moves.proofs.laws.limits_stop_their_processes.Goals as goal

pub returns : goal.returns
returns c = λ r P n past b w t next run. limit_stops P n past b run w t r next
