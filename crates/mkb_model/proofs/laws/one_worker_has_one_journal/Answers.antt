use Rattle.mkb_model.proofs.journals.OneWorker.{alone_once}
use Rattle.mkb_model.proofs.laws.one_worker_has_one_journal.Goals as goal

pub returns : goal.returns
returns c = λ P n within J K b d. alone_once P n J K b d within
