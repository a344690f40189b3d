use Rattle.mkb_pick.specs.Firsts.{IsChoice}
use Rattle.mkb_pick.proofs.search.best_choice.Given as goal

-- the choice among the processes so far
abbrev pub invariant-loop-place : goal.invariant-loop-place
invariant-loop-place l = IsChoice l.queue l.flight l.place l.best
