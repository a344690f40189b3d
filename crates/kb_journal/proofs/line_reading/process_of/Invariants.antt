use Rattle.std.proofs.Common.{◌≡◌, ◌==◌, map, take}
use Rattle.kb_journal.proofs.line_reading.process_of.Given as goal

-- the bits so far
abbrev pub invariant-loop-b : goal.invariant-loop-b
invariant-loop-b l = l.process ≡ map (λ b. b == 49) (take l.b-index l.text)
