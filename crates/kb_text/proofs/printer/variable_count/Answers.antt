use Rattle.std.proofs.Common.{[], ◌∙◌, ap, length}
use Rattle.kb_term.specs.Tree.{variables_of}
use Rattle.kb_term.specs.View.{tree_of}
use Rattle.kb_text.proofs.Vectors.{vec_length}
use Rattle.kb_text.proofs.printer.variable_count.Goals as goal

pub returns : goal.returns
returns c = c.len.ensures ∙ vec_length c.see-2.new.seen ∙ ap length (c.in_ok-see-2.ensures (variables_of (tree_of c.args.equation.now.0)) (c.in_ok-see.ensures [] c.new-seen.ensures.items))
