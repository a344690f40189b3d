use Rattle.kb_text.proofs.RoundProblem.{round_trip}
use Rattle.kb_text.proofs.laws.written_problems_are_spelled.Goals as goal

pub returns : goal.returns
returns c = round_trip
