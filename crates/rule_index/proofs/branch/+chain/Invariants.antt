use Rattle.std.proofs.Common.{length}
use Rattle.rule_index.proofs.branch.+chain.Given as goal

abbrev pub decreases-chain : goal.decreases-chain
decreases-chain l = length l.marks.now
