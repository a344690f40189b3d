use Rattle.std.proofs.Common.{refl}
use Rattle.terms_tests.proofs.overlapping.listed.Goals as goal

pub overlaps-requires-clause-outer_variables : goal.overlaps-requires-clause-outer_variables
overlaps-requires-clause-outer_variables c = c.if-is_ready.ensures.variables refl

pub overlaps-requires-clause-inner_variables : goal.overlaps-requires-clause-inner_variables
overlaps-requires-clause-inner_variables c = c.if-is_ready-2.ensures.variables refl
