use Rattle.mkb_moves.proofs.DueJobsKept.{others_jobs}
use Rattle.mkb_moves.proofs.laws.others_keep_their_jobs.Goals as goal

pub returns : goal.returns
returns c = λ e P n past b w t next. others_jobs P n past b w t e next
