-- The tickets of a round may be read by several threads, and what their jobs propose may be handed over.
use denote.Enum.Declared as E
use denote.Struct.Declared as S
use denote.Param.Send.{IsSend, IsSync, sendable, enum_sync, recorded_sync, struct_sync, view_sync}
use Rattle.std.proofs.Crossing.{crosses}
use Rattle.kb_term.proofs.term.Terms.TheLaws.TheKnot.{crosses as term_crosses}
use Rattle.kb_term.proofs.Crossing.{rule_sync}
use Rattle.kb_term.proofs.origin.RuleRef.TheSendSync as rule_ref
use Rattle.kb_term.proofs.signature.Signature.TheSendSync as signature
use Rattle.kb_label.proofs.process.Process.TheSendSync as process
use Rattle.kb_cert.proofs.certificate.Certificate.TheSendSync as certificate
use Rattle.kb_cert.proofs.family.Family.TheSendSync as family
use Rattle.kb_node.proofs.node.NodeId.TheSendSync as node_id
use Rattle.kb_io.proofs.gate.Moment.TheSendSync as moment
use Rattle.kb_jobs.proofs.Crossing.{shared_rules_sync}
use Rattle.kb_jobs.specs.contracts.rules.NamedRules as NamedRules
use Rattle.kb_jobs.specs.contracts.rules.SharedPair as SharedPair
use Rattle.kb_jobs.specs.contracts.rules.SharedPair.TheInside as PairInside
use Rattle.kb_jobs.specs.contracts.reducing.ReduceSnapshot as ReduceSnapshot
use Rattle.kb_jobs.specs.contracts.orienting.OrientSnapshot as OrientSnapshot
use Rattle.kb_jobs.specs.contracts.overlapping.OverlapSnapshot as OverlapSnapshot
use Rattle.kb_jobs.specs.contracts.closing.CloseSnapshot as CloseSnapshot
use Rattle.kb_jobs.specs.contracts.working.Snapshot as Snapshot
use Rattle.mkb_model.proofs.entry.Ticket.TheSendSync as ticket
use Rattle.work_crew.specs.contracts.shared.Assignment as Assignment
use Rattle.work_crew.proofs.Sends.{pair_send, pair_sync, proposed_field}
use Rattle.mkb_rounds.specs.contracts.stealing.Outcome as Outcome

named_field : IsSync (NamedRules.the_field).row
named_field = struct_sync (S.shape NamedRules.the_type) (search (sendable, crosses, rule_ref.the_sync) depth 20, (shared_rules_sync, tt))

shared_pair_sync : IsSync SharedPair.the_row
shared_pair_sync = view_sync PairInside.the_row _ _ _ _ (recorded_sync (PairInside.the_field).row _ _ (PairInside.the_type).to_one (struct_sync (S.shape PairInside.the_type) (search (sendable, crosses, pair_send, pair_sync) depth 20 fits 100000, tt)))

reduce_field : IsSync (ReduceSnapshot.the_field).row
reduce_field =
    struct_sync (S.shape ReduceSnapshot.the_type) (process.the_sync, (node_id.the_field_sync, (shared_pair_sync, (named_field, (search sendable, (search sendable, (search (sendable, crosses) depth 20, tt)))))))

orient_field : IsSync (OrientSnapshot.the_field).row
orient_field =
    struct_sync (S.shape OrientSnapshot.the_type)
    (process.the_sync, (node_id.the_field_sync, (family.the_field_sync, (signature.the_sync, (certificate.the_field_sync, (search (sendable, crosses, rule_sync) depth 20, (search (sendable, crosses, rule_sync) depth 20, tt)))))))

overlap_field : IsSync (OverlapSnapshot.the_field).row
overlap_field = struct_sync (S.shape OverlapSnapshot.the_type) (process.the_sync, (rule_ref.the_field_sync, (rule_sync, (rule_ref.the_field_sync, (rule_sync, tt)))))

close_field : IsSync (CloseSnapshot.the_field).row
close_field = struct_sync (S.shape CloseSnapshot.the_type) (process.the_sync, (named_field, (search (sendable, crosses, pair_sync) depth 20, (search (sendable, crosses, term_crosses) depth 20, tt))))

snapshot_field : IsSync (Snapshot.the_field).row
snapshot_field = enum_sync (E.shape Snapshot.the_type) ((reduce_field, tt), ((orient_field, tt), ((overlap_field, tt), ((close_field, tt), tt))))

pub assignment_sync : IsSync Assignment.the_row
assignment_sync = recorded_sync (Assignment.the_field).row _ _ (Assignment.the_type).to_one (struct_sync (S.shape Assignment.the_type) (ticket.the_field_sync, (snapshot_field, (moment.the_field_sync, tt))))

pub outcome_send : IsSend Outcome.the_row
outcome_send = search (sendable, crosses, proposed_field) depth 30
