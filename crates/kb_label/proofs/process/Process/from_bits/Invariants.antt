use Rattle.std.proofs.Common.{◌≡◌, take}
use Rattle.kb_label.proofs.process.Process.from_bits.Given as goal

abbrev pub invariant-loop-bit : goal.invariant-loop-bit
invariant-loop-bit l = l.process ≡ take l.bit-index l.bits
