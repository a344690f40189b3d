use Rattle.std.proofs.Common.{refl, subst}
use Rattle.kb_term.specs.Tree.{HasVariablesBelow}
use Rattle.terms_tests.proofs.overlapping.is_ready.Goals as goal

pub returns-then-has_variables_below-2-clause-variables : goal.returns-then-has_variables_below-2-clause-variables
returns-then-has_variables_below-2-clause-variables c h =
    (subst (HasVariablesBelow 64) c.left.ensures (c.if-has_variables_below.ensures.0 refl), subst (HasVariablesBelow 64) c.right.ensures (c.if-has_variables_below-2.ensures.0 refl))
