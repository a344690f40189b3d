use Rattle.std.proofs.Common.{length}
use Rattle.kb_term.proofs.position.+subterm_at.Given as goal

abbrev pub decreases-subterm_at : goal.decreases-subterm_at
decreases-subterm_at l = length l.steps.now
