use Rattle.kb_trace.proofs.Reaching.{IsListed}
use Rattle.kb_trace.proofs.reached.trace_of.Given as goal

abbrev pub invariant-loop-n : goal.invariant-loop-n
invariant-loop-n l = IsListed l.nodes l.marks.items l.places.items l.steps.items l.n
