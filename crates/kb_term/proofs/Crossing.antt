-- A rule may be handed to another thread, and several threads may read it.
use denote.Param.Send.{IsSend, IsSync, sendable}
use Rattle.std.proofs.Crossing.{crosses}
use Rattle.kb_term.proofs.term.Terms.TheLaws.TheKnot.{crosses as term_crosses}
use Rattle.kb_term.specs.contracts.rule.Rule as Rule

pub rule_send : IsSend Rule.the_row
rule_send = search (sendable, crosses, term_crosses) depth 20

pub rule_sync : IsSync Rule.the_row
rule_sync = search (sendable, crosses, term_crosses) depth 20
