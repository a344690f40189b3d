use Rattle.mkb_moves.proofs.FirstJob.{first_least, no_first, free_may}
use Rattle.mkb_moves.proofs.laws.first_job_is_the_least.Goals as goal

pub returns-clause-least : goal.returns-clause-least
returns-clause-least c = first_least

pub returns-clause-free : goal.returns-clause-free
returns-clause-free c = free_may

pub returns-clause-none : goal.returns-clause-none
returns-clause-none c = no_first
