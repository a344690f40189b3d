-- A shared board may go to another thread.
use denote.RattleType.{RattleType}
use denote.Enum.Declared as E
use denote.Struct.Declared as S
use denote.Param.Send.{IsSend, IsSync, sendable, plain_send, recorded_send, enum_send, struct_send, view_send}
use Rattle.std.proofs.Crossing.{crosses}
use Rattle.kb_term.proofs.term.Terms.TheLaws.TheKnot.{crosses as term_crosses}
use Rattle.kb_term.proofs.Crossing.{rule_send}
use Rattle.kb_term.proofs.origin.RuleRef.TheSendSync as rule_ref
use Rattle.kb_term.proofs.origin.Found.TheSendSync as found
use Rattle.kb_term.proofs.origin.Origin.TheSendSync as origin
use Rattle.kb_term.proofs.position.Position.TheSendSync as position
use Rattle.kb_label.proofs.process.Process.TheSendSync as process
use Rattle.kb_label.proofs.verdict.Verdict.TheSendSync as verdict
use Rattle.kb_label.proofs.verdict.Reason.TheSendSync as reason
use Rattle.kb_label.proofs.list_labels.ListLabels.TheSendSync as labels
use Rattle.kb_label.proofs.list_labels.NameLog.TheSendSync as log
use Rattle.kb_cert.proofs.certificate.Certificate.TheSendSync as certificate
use Rattle.kb_node.proofs.job.Job.TheSendSync as job
use Rattle.kb_node.proofs.job.LimitCause.TheSendSync as cause
use Rattle.kb_node.proofs.node.NodeId.TheSendSync as node_id
use Rattle.kb_node.proofs.sides.Sides.TheSendSync as sides
use Rattle.term_bank.proofs.bank.Bank.TheSendSync as bank
use Rattle.mkb_model.proofs.entry.Ticket.TheSendSync as ticket
use Rattle.mkb_model.proofs.settings.Settings.TheSendSync as settings
use Rattle.mkb_model.proofs.proposed.FactList.TheSendSync as facts
use Rattle.mkb_rules.proofs.facts.Facts.TheSendSync as known
use Rattle.mkb_rules.proofs.state.Certified.TheSendSync as certified
use Rattle.mkb_rules.proofs.Crossing.{overlapped_send}
use Rattle.mkb_rules.proofs.state.GivenUp.TheSendSync as over
use Rattle.mkb_rules.proofs.sleepers.Sleepers.TheSendSync as sleepers
use Rattle.mkb_rules.proofs.account.Account.TheSendSync as account
use Rattle.mkb_rules.proofs.marks.Marks.TheSendSync as marks
use Rattle.mkb_pick.proofs.tree.Tree.TheLaws.TheKnot.{crosses as tree_crosses}
use Rattle.mkb_pick.specs.contracts.agenda.Agenda as Agenda
use Rattle.std.specs.contracts.alloc.Global as Global
use Rattle.std.specs.contracts.impls.GlobalAllocator.TheImpl as heap
use Rattle.std.proofs.vec.Vec.TheSendSync as vec
use Rattle.std.proofs.alloc.Global.TheSendSync as global
use Rattle.indexmap.proofs.set.IndexSet.TheSendSync as set
use Rattle.mkb_rules.proofs.nodes.Replaced.TheSendSync as replaced
use Rattle.kb_label.specs.declared.labels.Labels as Labels
use Rattle.kb_label.specs.declared.living.Living as Living
use Rattle.kb_label.specs.contracts.list_labels.ListLabels as LabelList
use Rattle.kb_label.specs.contracts.list_labels.NameLog as NameLog
use Rattle.kb_label.specs.contracts.list_labels.ListLabelsLabels.TheImpl as label_ghosts
use Rattle.kb_label.specs.contracts.list_labels.NameLogLiving.TheImpl as log_ghosts
use Rattle.kb_node.specs.contracts.node.Entry as NodeEntry
use Rattle.kb_node.specs.contracts.table.NodeTable as NodeTable
use Rattle.kb_node.specs.contracts.table.NodeTable.TheInside as TableInside
use Rattle.mkb_rules.specs.contracts.nodes.Nodes as Nodes
use Rattle.mkb_rules.specs.contracts.nodes.Nodes.TheInside as NodesInside
use Rattle.mkb_rules.specs.contracts.state.State.TheInside as StateInside
use Rattle.mkb_rules.specs.contracts.tracked.Tracked as Tracked
use Rattle.mkb_rules.specs.contracts.tracked.Tracked.TheInside as TrackedInside
use Rattle.kb_term.specs.contracts.pair.Pair as Pair
use Rattle.kb_term.specs.contracts.problem.Problem as Problem
use Rattle.kb_node.specs.contracts.job.Deduced as Deduced
use Rattle.mkb_model.specs.contracts.proposed.DeducedList as DeducedList
use Rattle.mkb_model.specs.contracts.proposed.Proposed as Proposed
use Rattle.mkb_model.specs.contracts.entry.Effect as Effect
use Rattle.mkb_model.specs.contracts.entry.Entry as Entry
use Rattle.mkb_rules.specs.contracts.state.State as State
use Rattle.kb_jobs.proofs.Crossing.{shared_rules_send}
use Rattle.kb_jobs.specs.contracts.rules.NamedRules as NamedRules
use Rattle.kb_jobs.specs.contracts.rules.SharedPair as SharedPair
use Rattle.kb_jobs.specs.contracts.rules.SharedPair.TheInside as PairInside
use Rattle.mkb_board.specs.contracts.board.Board as Board
use Rattle.mkb_board.specs.contracts.board.Board.TheInside as BoardInside
use Rattle.mkb_board.specs.contracts.shelf.Shelf as Shelf
use Rattle.mkb_board.specs.contracts.working.Placed as Placed
use Rattle.turn_lock.proofs.lock.Turns.TheSendSync as turns
use Rattle.work_crew.specs.contracts.shared.Shared as Shared
use Rattle.work_crew.specs.contracts.together.Workplace as Workplace

pub pair_send : IsSend Pair.the_row
pair_send = search (sendable, crosses, term_crosses) depth 20

pub pair_sync : IsSync Pair.the_row
pair_sync = search (sendable, crosses, term_crosses) depth 20

pub problem_send : IsSend Problem.the_row
problem_send = search (sendable, crosses, term_crosses) depth 20

deduced_send : IsSend Deduced.the_row
deduced_send = search (sendable, pair_send, rule_ref.the_send, position.the_send) depth 20

pairs_send : IsSend DeducedList.the_row
pairs_send = search (sendable, crosses, deduced_send) depth 20

pub proposed_field : IsSend (Proposed.the_field).row
proposed_field =
    let n = node_id.the_field_send in let p = process.the_send in let r = rule_ref.the_field_send in let c = certificate.the_field_send in
    enum_send (E.shape Proposed.the_type) (
      (facts.the_send, tt),
      (
        (n, (plain_send _ _ _ _ _, (position.the_send, (r, (found.the_field_send, (search (sendable, crosses, term_crosses), tt)))))),
        (
          (p, (n, (plain_send _ _ _ _ _, (c, tt)))),
          ((p, (n, (c, (c, tt)))), ((p, (n, tt)), ((r, (r, (pairs_send, tt))), ((p, (pairs_send, tt)), ((p, tt), ((job.the_field_send, (cause.the_field_send, tt)), tt)))))),
        ),
      ),
    )

effect_field : IsSend (Effect.the_field).row
effect_field = enum_send (E.shape Effect.the_type) ((reason.the_field_send, tt), ((proposed_field, tt), tt))

pub entry_send : IsSend Entry.the_row
entry_send =
    recorded_send (Entry.the_field).row _ _ (Entry.the_type).to_one (enum_send (E.shape Entry.the_type) (
      (plain_send _ _ _ _ _, (plain_send _ _ _ _ _, (job.the_field_send, tt))),
      (
        (plain_send _ _ _ _ _, (plain_send _ _ _ _ _, (effect_field, tt))),
        ((plain_send _ _ _ _ _, (plain_send _ _ _ _ _, (process.the_send, tt))), ((plain_send _ _ _ _ _, (plain_send _ _ _ _ _, tt)), (tt, tt))),
      ),
    ))

node_send : (T : RattleType) → IsSend T → IsSend (NodeEntry.the_row T)
node_send T s = recorded_send (NodeEntry.the_field T).row _ _ (NodeEntry.the_type T).to_one (struct_send (S.shape (NodeEntry.the_type T)) (origin.the_field_send, (s, (s, (s, (s, (s, (s, tt))))))))

table_send : (T L : RattleType) (g : Labels.Ghosts T.Denot L.Denot) (h : Living.Ghosts L.Denot) → IsSend T → IsSend (NodeTable.the_row T L g h)
table_send T L g h s = view_send (TableInside.the_row T L g h) _ _ _ _ (recorded_send (TableInside.the_field T L g h).row _ _ (TableInside.the_type T L g h).to_one (struct_send (S.shape (TableInside.the_type T L g h)) (
  vec.the_send (NodeEntry.the_row T) Global.the_row heap.ghosts (node_send T s) global.the_send (search crosses),
  (bank.the_send, (search (sendable, crosses, set.the_send, sides.the_send, global.the_send) depth 20 fits 100000, (search (sendable, crosses), tt))),
)))

tracked_send : IsSend Tracked.the_row
tracked_send = view_send TrackedInside.the_row _ _ _ _ (recorded_send (TrackedInside.the_field).row _ _ (TrackedInside.the_type).to_one (struct_send (S.shape TrackedInside.the_type) (
  table_send LabelList.the_row NameLog.the_row label_ghosts.ghosts log_ghosts.ghosts labels.the_send,
  (marks.the_send, (marks.the_send, (search (sendable, crosses, account.the_send), tt))),
)))

nodes_send : IsSend Nodes.the_row
nodes_send = view_send NodesInside.the_row _ _ _ _ (recorded_send (NodesInside.the_field).row _ _ (NodesInside.the_type).to_one (struct_send (S.shape NodesInside.the_type) (
  tracked_send,
  (plain_send _ _ _ _ _, (search (sendable, crosses, replaced.the_send), tt)),
)))

pub state_send : IsSend State.the_row
state_send = view_send StateInside.the_row _ _ _ _ (recorded_send (StateInside.the_field).row _ _ (StateInside.the_type).to_one (struct_send (S.shape StateInside.the_type) (
  search (sendable, problem_send),
  (
    settings.the_field_send,
    (
      log.the_send,
      (nodes_send, (overlapped_send, (known.the_send, (labels.the_send, (over.the_field_send, (sleepers.the_send, (plain_send _ _ _ _ _, (search (sendable, crosses, certified.the_send), tt)))))))),
    ),
  ),
)))

agenda_send : IsSend Agenda.the_row
agenda_send = search (sendable, crosses, tree_crosses, process.the_send, rule_ref.the_send, node_id.the_send, global.the_send) depth 40 fits 100000

placed_send : IsSend Placed.the_row
placed_send = search (sendable, crosses, process.the_send) depth 20

named_send : IsSend NamedRules.the_row
named_send = recorded_send (NamedRules.the_field).row _ _ (NamedRules.the_type).to_one (struct_send (S.shape NamedRules.the_type) (search (sendable, crosses, rule_ref.the_send) depth 20, (shared_rules_send, tt)))

shared_pair_send : IsSend SharedPair.the_row
shared_pair_send = view_send PairInside.the_row _ _ _ _ (recorded_send (PairInside.the_field).row _ _ (PairInside.the_type).to_one (struct_send (S.shape PairInside.the_type) (search (sendable, crosses, pair_send, pair_sync) depth 20 fits 100000, tt)))

shelf_field : IsSend (Shelf.the_field).row
shelf_field =
    struct_send (S.shape Shelf.the_type) (search (sendable, crosses, global.the_send) depth 20, (search (sendable, crosses, rule_send) depth 20, (search (sendable, crosses, named_send) depth 20, (search (sendable, crosses, shared_pair_send) depth 20, tt))))

pub board_send : IsSend Board.the_row
board_send = view_send BoardInside.the_row _ _ _ _ (recorded_send (BoardInside.the_field).row _ _ (BoardInside.the_type).to_one (struct_send (S.shape BoardInside.the_type) (
  state_send,
  (search (sendable, crosses, verdict.the_send) depth 20, (search (sendable, crosses, ticket.the_send) depth 20, (search (sendable, crosses, entry_send) depth 20, (plain_send _ _ _ _ _, (plain_send _ _ _ _ _, (plain_send _ _ _ _ _, (search (sendable, crosses, agenda_send) depth 20 fits 100000, (shelf_field, (search (sendable, crosses, placed_send) depth 20, tt))))))))),
)))

pub shared_send : IsSend Shared.the_row
shared_send = search (sendable, board_send) depth 20

pub workplace_sync : IsSync Workplace.the_row
workplace_sync = search (sendable, crosses, turns.the_sync, shared_send) depth 40 fits 100000
