use Rattle.kb_lpo.proofs.PathOrderLaws.{first_bounds_more, none_for_more}
use Rattle.kb_lpo.proofs.laws.more_rules_are_never_earlier.Goals as goal

pub returns : goal.returns
returns c = record { bound = first_bounds_more; none = none_for_more }
