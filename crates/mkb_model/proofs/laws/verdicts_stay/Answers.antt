use Rattle.mkb_model.specs.Journals.{IsFreeJob}
use Rattle.mkb_model.proofs.runs.Meanings.{verdict_means}
use Rattle.mkb_model.proofs.runs.Endings.{verdict-stays}
use Rattle.mkb_model.proofs.laws.verdicts_stay.Goals as goal

pub returns-clause-means : goal.returns-clause-means
returns-clause-means c = verdict_means

pub returns-clause-leaves : goal.returns-clause-leaves
returns-clause-leaves c = λ past b e d v f h. (verdict-stays IsFreeJob past b e d v f h).0

pub returns-clause-stays : goal.returns-clause-stays
returns-clause-stays c = λ past b e d v f h. (verdict-stays IsFreeJob past b e d v f h).1
