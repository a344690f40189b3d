use Rattle.std.proofs.Common.{◌≡◌, drop}
use Rattle.kb_term.specs.Identifier.{is_unbroken}
use Rattle.kb_report.proofs.symbols.is_unbroken.Given as goal

-- the bytes that are left decide
abbrev pub invariant-loop-i : goal.invariant-loop-i
invariant-loop-i l = is_unbroken l.bytes ≡ is_unbroken (drop l.i l.bytes)
