use Rattle.mkb_rounds.proofs.OneJournal.{rounds_once}
use Rattle.mkb_rounds.proofs.laws.rounds_have_one_journal.Goals as goal

pub returns : goal.returns
returns c = rounds_once
