use Rattle.std.proofs.Common.{arith}
use Rattle.kb_unify.proofs.unifier.variable_places.Goals as goal

pub returns : goal.returns
returns c n = (
  (λ h. ((c.variable_bound.ensures n).0 (omega (arith, h, c.max.ensures)), (c.variable_bound-2.ensures n).0 (omega (arith, h, c.max.ensures)))),
  (λ h. let a = (c.variable_bound.ensures n).1 h.0 in let b = (c.variable_bound-2.ensures n).1 h.1 in omega (arith, a, b, c.max.ensures)),
)
