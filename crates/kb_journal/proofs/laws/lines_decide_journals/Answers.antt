use Rattle.kb_journal.proofs.LinesOfRuns.{same_lines}
use Rattle.kb_journal.proofs.laws.lines_decide_journals.Goals as goal

pub returns : goal.returns
returns c = same_lines
