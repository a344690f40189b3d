-- Pairs of overlapped rules may go to another thread.
use denote.Struct.Declared as S
use denote.Param.Send.{IsSend, sendable, recorded_send, struct_send, view_send}
use Rattle.std.proofs.Crossing.{crosses}
use Rattle.std.proofs.alloc.Global.TheSendSync as global
use Rattle.indexmap.proofs.set.IndexSet.TheSendSync as set
use Rattle.mkb_rules.proofs.overlapped.DonePair.TheSendSync as done
use Rattle.mkb_rules.proofs.overlapped.OverlapKey.TheSendSync as key
use Rattle.mkb_rules.specs.contracts.overlapped.OverlappedPairs as OverlappedPairs
use Rattle.mkb_rules.specs.contracts.overlapped.OverlappedPairs.TheInside as Inside

pub overlapped_send : IsSend OverlappedPairs.the_row
overlapped_send = view_send Inside.the_row _ _ _ _ (recorded_send (Inside.the_field).row _ _ (Inside.the_type).to_one (struct_send (S.shape Inside.the_type) (
  search (sendable, crosses, done.the_send),
  (search (sendable, crosses, set.the_send, key.the_send, global.the_send) depth 20 fits 100000, tt),
)))
