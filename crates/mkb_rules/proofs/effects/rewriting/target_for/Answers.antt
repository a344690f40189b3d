use Rattle.std.proofs.Common.{arith}
use Rattle.kb_term.specs.View.{tree_of}
use Rattle.kb_term.proofs.NameList.{variables_of_pair-swapped}
use Rattle.mkb_rules.proofs.effects.rewriting.target_for.Goals as goal

pub direction-requires-clause-few : goal.direction-requires-clause-few
direction-requires-clause-few c = omega (arith, c.requires, variables_of_pair-swapped (tree_of c.args.rest.now) (tree_of c.args.outcome.now))
