use Rattle.std.proofs.Common.{refl}
use Rattle.terms_tests.proofs.unifying.unified.Goals as goal

pub unify-requires-clause-a_variables : goal.unify-requires-clause-a_variables
unify-requires-clause-a_variables c = c.if-has_variables_below.ensures.0 refl

pub unify-requires-clause-b_variables : goal.unify-requires-clause-b_variables
unify-requires-clause-b_variables c = c.if-has_variables_below-2.ensures.0 refl
