use Rattle.mkb_model.specs.Journals.{IsFreeJob}
use Rattle.mkb_model.proofs.nodes.DistinctPairs.{pairs_stay}
use Rattle.mkb_model.proofs.runs.LawsStated.{run_pairs_differ}
use Rattle.mkb_model.proofs.laws.pairs_stay.Goals as goal

pub returns-clause-differ : goal.returns-clause-differ
returns-clause-differ c = run_pairs_differ

pub returns-clause-numbers : goal.returns-clause-numbers
returns-clause-numbers c = pairs_stay IsFreeJob
