use Rattle.std.proofs.Common.{arith, refl}
use Rattle.kb_report.proofs.symbols.is_new.Goals as goal

pub returns : goal.returns
returns c = (λ h j d l. c.loop-j.invariant j d (omega (arith, l, c.loop-j-test.false)), λ h. refl)
