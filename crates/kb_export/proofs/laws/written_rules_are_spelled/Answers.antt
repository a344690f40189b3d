use Rattle.kb_export.proofs.RulesSpelled.{rules_spelled}
use Rattle.kb_export.proofs.laws.written_rules_are_spelled.Goals as goal

pub returns : goal.returns
returns c = rules_spelled
