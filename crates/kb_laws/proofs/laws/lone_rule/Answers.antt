use Rattle.kb_laws.proofs.LoneRule.{lone_rule_is_system, pair_rule_is_system}
use Rattle.kb_laws.proofs.laws.lone_rule.Goals as goal

pub returns : goal.returns
returns c = record { same = lone_rule_is_system; pair = pair_rule_is_system }
