use Rattle.std.proofs.Common.{◌≡◌, ◌≤◌, List, ◌++◌, length, take}
use Rattle.kb_overlap.specs.Trace.{TraceStep}
use Rattle.kb_reduce.specs.Reducing.{AreComposed}
use Rattle.kb_reduce.proofs.reducing.reduce.Given as goal

-- the rules so far are composed, and there was room for their steps
abbrev pub invariant-loop-k : goal.invariant-loop-k
invariant-loop-k l = record {
  more : List TraceStep;
  steps : l.steps.items ≡ l.a.trace ++ more;
  composed : AreComposed l.a.rules (length l.a.trace) (take l.k l.a.rules) more l.rules.items;
  room : length l.steps.items ≤ 4096;
}
