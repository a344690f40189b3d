use Rattle.kb_checker.specs.declared.verdict.Checked.TheVariants.{Accepted}
use Rattle.kb_checker.proofs.OneVerdict.{verdict_once}
use Rattle.mkb_report.proofs.Made.{made_good, made_accepted}
use Rattle.mkb_report.proofs.laws.reports_are_good.Goals as goal

pub returns-clause-good : goal.returns-clause-good
returns-clause-good c = λ b p a r stands h. made_good b p a r stands h

pub returns-clause-accepted : goal.returns-clause-accepted
returns-clause-accepted c = λ b p a r stands h. made_accepted b p a r stands h

pub returns-clause-checked : goal.returns-clause-checked
returns-clause-checked c = λ b p a said r stands h formed v. verdict_once a said Accepted formed v (made_accepted b p a r stands h)
