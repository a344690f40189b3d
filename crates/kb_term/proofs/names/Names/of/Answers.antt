use Rattle.std.proofs.Common.{[], refl}
use Rattle.kb_term.specs.Tree.{variables_of}
use Rattle.kb_term.specs.View.{tree_of}
use Rattle.kb_term.proofs.names.Names.of.Goals as goal

pub returns : goal.returns
returns c = c.see-2.ensures (variables_of (tree_of c.args.a.now)) (c.see.ensures [] refl)
