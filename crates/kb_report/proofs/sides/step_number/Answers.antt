use Rattle.std.proofs.Common.{arith, sym, ◌∙◌}
use Rattle.std.proofs.lemmas.Fmt.{decimal_injective}
use Rattle.kb_report.proofs.sides.step_number.Goals as goal

pub returns-then-number-eq0 : goal.returns-then-number-eq0
returns-then-number-eq0 c = λ n low high e. let r = c.in-Some.ensures in let same = decimal_injective n c.in-Some.number (omega arith) (omega (arith, r.0)) (e ∙ sym r.1) in omega arith

pub returns-then-number-gt-STEPS : goal.returns-then-number-gt-STEPS
returns-then-number-gt-STEPS c = λ n low high e. let r = c.in-Some.ensures in let same = decimal_injective n c.in-Some.number (omega arith) (omega (arith, r.0)) (e ∙ sym r.1) in omega arith
