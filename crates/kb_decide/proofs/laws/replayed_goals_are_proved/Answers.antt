use Rattle.kb_decide.proofs.Means.{replays_proves}
use Rattle.kb_decide.proofs.laws.replayed_goals_are_proved.Goals as goal

pub returns : goal.returns
returns c = replays_proves
