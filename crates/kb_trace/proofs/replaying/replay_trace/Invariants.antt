use Rattle.std.proofs.Common.{◌≡◌, take}
use Rattle.kb_overlap.specs.Trace.{IsRightTrace}
use Rattle.kb_trace.specs.Steps.{pairs_of}
use Rattle.kb_trace.proofs.replaying.replay_trace.Given as goal

-- the steps so far are right
abbrev pub invariant-loop-k : goal.invariant-loop-k
invariant-loop-k l = record {
  pairs : l.pairs.items ≡ pairs_of (take l.k l.t);
  right : IsRightTrace l.p.equations (take l.k l.t);
}
