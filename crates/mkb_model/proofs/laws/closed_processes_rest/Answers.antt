use Rattle.mkb_model.proofs.closing.RestInRuns.{closed_rests}
use Rattle.mkb_model.proofs.closing.StillClosed.{closed_run}
use Rattle.mkb_model.proofs.laws.closed_processes_rest.Goals as goal

pub returns-clause-rest : goal.returns-clause-rest
returns-clause-rest c = closed_rests

pub returns-clause-closed : goal.returns-clause-closed
returns-clause-closed c = closed_run
