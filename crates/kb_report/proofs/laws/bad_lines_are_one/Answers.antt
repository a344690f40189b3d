use Rattle.kb_text.proofs.BadLines.{one_bad_line}
use Rattle.kb_report.specs.Answers.{IsSystemText}
use Rattle.kb_report.proofs.laws.bad_lines_are_one.Goals as goal

pub returns-clause-one : goal.returns-clause-one
returns-clause-one c = one_bad_line IsSystemText

pub returns-clause-none : goal.returns-clause-none
returns-clause-none c = λ bytes a n t b. b.not_whole (a, t)
