use Rattle.std.proofs.Common.{take}
use Rattle.kb_trace.specs.Reached.{HasMarked}
use Rattle.kb_trace.proofs.reached.mark.Given as goal

abbrev pub invariant-loop-k : goal.invariant-loop-k
invariant-loop-k l = HasMarked (take l.k l.numbers) l.initial.marks.items l.marks.items
