use Rattle.mkb_model.specs.Journals.{IsFreeJob}
use Rattle.mkb_model.proofs.runs.KnownFacts.{facts_hold}
use Rattle.mkb_model.proofs.laws.facts_hold.Goals as goal

pub returns : goal.returns
returns c = facts_hold IsFreeJob
