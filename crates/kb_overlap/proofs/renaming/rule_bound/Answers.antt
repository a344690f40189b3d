use Rattle.std.proofs.Common.{arith, subst, sym}
use Rattle.kb_term.specs.Tree.{HasVariablesBelow}
use Rattle.kb_overlap.proofs.renaming.rule_bound.Goals as goal

pub returns : goal.returns
returns c n = (
  (λ h. (subst (HasVariablesBelow n) c.left.ensures ((c.variable_bound.ensures n).0 (omega (arith, h, c.max.ensures))), subst (HasVariablesBelow n) c.right.ensures ((c.variable_bound-2.ensures n).0 (omega (arith, h, c.max.ensures))))),
  (λ h. let a = (c.variable_bound.ensures n).1 (subst (HasVariablesBelow n) (sym c.left.ensures) h.0) in let b = (c.variable_bound-2.ensures n).1 (subst (HasVariablesBelow n) (sym c.right.ensures) h.1) in omega (arith, a, b, c.max.ensures)),
)
