-- Rules that are shared may be handed to another thread, and several threads may read them.
use denote.Struct.Declared as S
use denote.Param.Send.{IsSend, IsSync, sendable, recorded_send, recorded_sync, struct_send, struct_sync, view_send, view_sync}
use Rattle.std.proofs.Crossing.{crosses}
use Rattle.kb_term.proofs.Crossing.{rule_send, rule_sync}
use Rattle.kb_rewrite.specs.contracts.rule_list.RuleList as RuleList
use Rattle.kb_rewrite.specs.contracts.rule_list.RuleList.TheInside as ListInside
use Rattle.kb_jobs.specs.contracts.rules.SharedRules as SharedRules
use Rattle.kb_jobs.specs.contracts.rules.SharedRules.TheInside as SharedInside

list_send : IsSend RuleList.the_row
list_send = view_send ListInside.the_row _ _ _ _ (recorded_send (ListInside.the_field).row _ _ (ListInside.the_type).to_one (struct_send (S.shape ListInside.the_type) (
  search (sendable, crosses, rule_send) depth 20,
  (search (sendable, crosses) depth 20, (search (sendable, crosses) depth 20, tt)),
)))

list_sync : IsSync RuleList.the_row
list_sync = view_sync ListInside.the_row _ _ _ _ (recorded_sync (ListInside.the_field).row _ _ (ListInside.the_type).to_one (struct_sync (S.shape ListInside.the_type) (
  search (sendable, crosses, rule_sync) depth 20,
  (search (sendable, crosses) depth 20, (search (sendable, crosses) depth 20, tt)),
)))

pub shared_rules_send : IsSend SharedRules.the_row
shared_rules_send = view_send SharedInside.the_row _ _ _ _ (recorded_send (SharedInside.the_field).row _ _ (SharedInside.the_type).to_one (struct_send (S.shape SharedInside.the_type) (search (sendable, crosses, list_send, list_sync) depth 20 fits 100000, tt)))

pub shared_rules_sync : IsSync SharedRules.the_row
shared_rules_sync = view_sync SharedInside.the_row _ _ _ _ (recorded_sync (SharedInside.the_field).row _ _ (SharedInside.the_type).to_one (struct_sync (S.shape SharedInside.the_type) (search (sendable, crosses, list_send, list_sync) depth 20 fits 100000, tt)))
