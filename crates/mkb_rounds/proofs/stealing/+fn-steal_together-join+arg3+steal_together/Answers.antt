use denote.Param.Send.{sendable}
use Rattle.std.proofs.Crossing.{crosses}
use Rattle.mkb_rounds.proofs.Syncs.{assignment_sync, outcome_send}
use Rattle.mkb_rounds.proofs.stealing.Bench.TheSendSync as bench
use Rattle.mkb_rounds.proofs.stealing.+fn-steal_together-join+arg3+steal_together.Goals as goal

pub join-mine-requires-send-F : goal.join-mine-requires-send-F
join-mine-requires-send-F g t c κs within = search (sendable, crosses, bench.the_sync, assignment_sync) depth 60 fits 100000

pub join-mine-requires-send-A : goal.join-mine-requires-send-A
join-mine-requires-send-A g t c κs within = search (sendable, crosses, outcome_send) depth 40
