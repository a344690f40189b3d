use Rattle.kb_cert.proofs.Parts.{bounds_more, none_more}
use Rattle.kb_cert.proofs.laws.more_rules_are_never_earlier.Goals as goal

pub returns : goal.returns
returns c = record { bound = bounds_more; none = none_more }
