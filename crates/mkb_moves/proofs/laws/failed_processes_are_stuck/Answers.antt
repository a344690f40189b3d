use Rattle.mkb_moves.proofs.Refused.{refused_unorientable}
use Rattle.mkb_moves.proofs.Stuck.{failed_stuck, all_stuck}
use Rattle.mkb_moves.proofs.laws.failed_processes_are_stuck.Goals as goal

pub returns-clause-refused : goal.returns-clause-refused
returns-clause-refused c = refused_unorientable

pub returns-clause-stuck : goal.returns-clause-stuck
returns-clause-stuck c = λ P n past b within run p. failed_stuck P n past b p within run

pub returns-clause-all : goal.returns-clause-all
returns-clause-all c = λ P n past b within run p. all_stuck P n past b p within run
