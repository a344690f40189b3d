use Rattle.std.proofs.Common.{◌∙◌, sym}
use Rattle.kb_term.specs.View.{tree_of}
use Rattle.kb_reduce.proofs.Forms.{differ_some}
use Rattle.kb_reduce.proofs.composing.pair_of.Goals as goal

pub unreachable-requires : goal.unreachable-requires
unreachable-requires c = differ_some (tree_of c.args.s.now) (tree_of c.args.t.now) c.requires.different (sym c.in_ok-pair.ensures ∙ c.in-None.is)
