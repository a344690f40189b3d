use Rattle.kb_cert.proofs.FamilyLaws.{terminating_by_member}
use Rattle.kb_laws.proofs.Stated.{has_member, member_orders_rules_only, interpretation_halts, lighter_are_few, chains_are_short}
use Rattle.kb_laws.proofs.laws.ordered_rules_halt.Goals as goal

pub returns : goal.returns
returns c = record { exists = has_member; rules = member_orders_rules_only; halts = terminating_by_member; linear = interpretation_halts; few = lighter_are_few; short = chains_are_short }
