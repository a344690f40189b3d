use Rattle.mkb_agenda.proofs.FirstOffered.{first_offered}
use Rattle.mkb_agenda.proofs.laws.what_is_offered_first_is_the_first_job.Goals as goal

pub returns : goal.returns
returns c = λ b ps o agenda least. first_offered b ps agenda o least
