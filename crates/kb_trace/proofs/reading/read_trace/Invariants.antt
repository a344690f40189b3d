use Rattle.std.proofs.Common.{length, ◌-◌}
use Rattle.kb_term.specs.Signature.{IsSignature}
use Rattle.kb_trace.proofs.TraceLines.{IsReadPart}
use Rattle.kb_trace.proofs.reading.read_trace.Given as goal

-- the steps so far were read, and the next line begins at the place
abbrev pub invariant-loop-at : goal.invariant-loop-at
invariant-loop-at l = record {
  read : IsReadPart l.sig l.lines l.at l.number l.steps.items;
  names : IsSignature l.sig;
}

abbrev pub decreases-loop-at : goal.decreases-loop-at
decreases-loop-at l = length l.lines - l.at
