use Rattle.std.proofs.Common.{sym, subst}
use Rattle.kb_term.specs.Tree.{HasVariablesBelow}
use Rattle.kb_term.proofs.variables.apart.Goals as goal

pub shifted-requires : goal.shifted-requires
shifted-requires c = subst (HasVariablesBelow 64) (sym c.left.ensures) c.requires.left

pub shifted-requires-2 : goal.shifted-requires-2
shifted-requires-2 c = subst (HasVariablesBelow 64) (sym c.right.ensures) c.requires.right
