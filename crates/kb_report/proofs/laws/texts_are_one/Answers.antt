use Rattle.kb_report.proofs.SystemForm.{one_spelled, written_is_read}
use Rattle.kb_report.proofs.laws.texts_are_one.Goals as goal

pub returns-clause-one : goal.returns-clause-one
returns-clause-one c = one_spelled

pub returns-clause-read : goal.returns-clause-read
returns-clause-read c = written_is_read
