use Rattle.std.proofs.Common.{take}
use Rattle.kb_jobs.specs.Reducing.{AreFactsAt}
use Rattle.kb_jobs.proofs.reducing.facts.Given as goal

-- the facts so far
abbrev pub invariant-loop-i : goal.invariant-loop-i
invariant-loop-i l = AreFactsAt l.s (take l.i l.s.unknown.items) l.facts.items
