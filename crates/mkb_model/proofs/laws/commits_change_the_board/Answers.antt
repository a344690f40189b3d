use Rattle.mkb_model.proofs.commits.Progress.{commits_change, idle_commits}
use Rattle.mkb_model.proofs.laws.commits_change_the_board.Goals as goal

pub returns-clause-changes : goal.returns-clause-changes
returns-clause-changes c = λ e P n past b w t next. commits_change P n past b w t e next

pub returns-clause-idle : goal.returns-clause-idle
returns-clause-idle c = λ P n past b run w t e next. idle_commits P n past b w t e next run
