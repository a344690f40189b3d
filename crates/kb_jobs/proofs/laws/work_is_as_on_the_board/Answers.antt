use Rattle.kb_jobs.proofs.TakenLaws.{work_taken}
use Rattle.kb_jobs.proofs.laws.work_is_as_on_the_board.Goals as goal

pub returns : goal.returns
returns c = work_taken
