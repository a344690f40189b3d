use Rattle.kb_trace.proofs.Reaching.{IsSwept}
use Rattle.kb_trace.proofs.reached.reached.Given as goal

abbrev pub invariant-loop-i : goal.invariant-loop-i
invariant-loop-i l = IsSwept l.nodes l.wanted l.marks.items l.i
