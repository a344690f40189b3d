use Rattle.std.proofs.Common.{arith}
use Rattle.kb_term.specs.View.{tree_of}
use Rattle.kb_term.proofs.NameList.{variables_of_pair-swapped}
use Rattle.kb_term.proofs.rule.rule_of.Goals as goal

pub numbered_pair-requires-else-dir-eq0 : goal.numbered_pair-requires-else-dir-eq0
numbered_pair-requires-else-dir-eq0 c = omega (arith, c.pair.invariant.few, variables_of_pair-swapped (tree_of c.pair.inside.second) (tree_of c.pair.inside.first))
