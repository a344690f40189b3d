use Rattle.mkb_model.proofs.tickets.Drops.{drops_follow_commits, closings_commit}
use Rattle.mkb_model.proofs.laws.tickets_are_dropped_after_commits.Goals as goal

pub returns-clause-since : goal.returns-clause-since
returns-clause-since c = λ P n past b run w t p next. drops_follow_commits P n past b w t p next run

pub returns-clause-closings : goal.returns-clause-closings
returns-clause-closings c = λ P n past b run w t p next. closings_commit P n past b w t p next run
