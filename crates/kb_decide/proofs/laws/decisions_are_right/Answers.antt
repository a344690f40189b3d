use Rattle.kb_decide.proofs.Means.{yes_replays, no_is_right}
use Rattle.kb_decide.proofs.laws.decisions_are_right.Goals as goal

pub returns-clause-yes : goal.returns-clause-yes
returns-clause-yes c = yes_replays

pub returns-clause-no : goal.returns-clause-no
returns-clause-no c = no_is_right
