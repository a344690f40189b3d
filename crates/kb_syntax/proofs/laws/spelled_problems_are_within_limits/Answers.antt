use Rattle.kb_syntax.proofs.WithinLimits.{within_limits}
use Rattle.kb_syntax.proofs.laws.spelled_problems_are_within_limits.Goals as goal

pub returns : goal.returns
returns c = within_limits
