use Rattle.mkbtt_top.proofs.Tasks.{asked_of}
use Rattle.mkbtt_top.proofs.task.asked_task.Goals as goal

pub returns-in-Ok-clause-asked : goal.returns-in-Ok-clause-asked
returns-in-Ok-clause-asked c = asked_of c.task_of.result c.in-Ok.read _ c.in-Ok.ensures.read c.task_of.ensures
