use Rattle.mkb_report.proofs.Made.{one_report}
use Rattle.mkb_report.proofs.laws.reports_are_one.Goals as goal

pub returns : goal.returns
returns c = one_report
