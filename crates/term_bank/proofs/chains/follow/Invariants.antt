use Rattle.term_bank.proofs.Linking.{HasPassed}
use Rattle.term_bank.proofs.chains.follow.Given as goal

abbrev pub invariant-loop-link : goal.invariant-loop-link
invariant-loop-link l = HasPassed l.heads l.links l.hash l.from l.link

abbrev pub decreases-loop-link : goal.decreases-loop-link
decreases-loop-link l = l.link
