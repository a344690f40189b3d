use Rattle.std.proofs.Common.{◌≡◌, take}
use Rattle.kb_text.specs.Terms.{names_of}
use Rattle.kb_trace.specs.TraceText.{step_lines}
use Rattle.kb_trace.proofs.text.trace_text.Given as goal

-- the lines of the steps so far
abbrev pub invariant-loop-k : goal.invariant-loop-k
invariant-loop-k l = l.out.items ≡ step_lines (names_of l.sig) 1 (take l.k l.t)
