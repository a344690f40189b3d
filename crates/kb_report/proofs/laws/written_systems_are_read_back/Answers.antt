use Rattle.std.proofs.Common.{refl}
use Rattle.kb_checker.specs.Answers.{Answer}
use Rattle.kb_report.specs.Answers.{IsSystem, IsTextOf}
use Rattle.kb_report.specs.Reports.{report_text}
use Rattle.kb_report.specs.declared.report.Report.TheVariants.{System}
use Rattle.kb_report.proofs.SystemForm.{one_spelled, written_is_read}
use Rattle.kb_report.proofs.laws.written_systems_are_read_back.Goals as goal

own_text : (a : Answer) → IsSystem a → IsTextOf (report_text (System a)) a
own_text a s = written_is_read (report_text (System a)) a (record { form = s; spelling = refl })

pub returns-clause-written : goal.returns-clause-written
returns-clause-written c = own_text

pub returns-clause-alone : goal.returns-clause-alone
returns-clause-alone c = λ a b s t. one_spelled (report_text (System a)) b a t (own_text a s)
