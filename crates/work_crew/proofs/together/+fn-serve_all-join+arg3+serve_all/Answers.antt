use denote.Param.Send.{sendable}
use Rattle.std.proofs.Crossing.{crosses}
use Rattle.turn_lock.proofs.lock.Seat.TheSendSync as seat
use Rattle.work_crew.proofs.Sends.{shared_send, workplace_sync}
use Rattle.work_crew.proofs.Joining.{kept_after, joined_after}
use Rattle.work_crew.proofs.together.+fn-serve_all-join+arg3+serve_all.Goals as goal

pub returns-clause-kept : goal.returns-clause-kept
returns-clause-kept g t c = kept_after c.args.first c.split-other.new.seat c.join-other.result.1 c.join-other.result.0 c.join.new.seat c.split-other.ensures.first c.join-other.ensures.second.1.1.1.0 c.join.ensures.first

pub returns-clause-joined : goal.returns-clause-joined
returns-clause-joined g t c = joined_after c.args.first c.split-other.new.seat c.split-other.result c.join-other.result.1 c.join-other.result.0 c.join.new.seat c.split-other.ensures.first c.split-other.ensures.next c.join-other.ensures.first.1 c.join-other.ensures.second.1.1.1.1 c.join.ensures.first

pub join-other-requires-send-F : goal.join-other-requires-send-F
join-other-requires-send-F g t c κs within = search (sendable, crosses, seat.the_send, shared_send, workplace_sync) depth 60 fits 100000

pub join-other-requires-send-A : goal.join-other-requires-send-A
join-other-requires-send-A g t c κs within = search (sendable, crosses, seat.the_send, shared_send) depth 40
