use Rattle.std.proofs.Common.{Some, sym, ap, ◌∙◌}
use Rattle.kb_node.proofs.Adding.{has-lacks}
use Rattle.mkb_model.specs.Effects.{node_of}
use Rattle.mkb_rules.specs.Parts.{plain_nodes}
use Rattle.mkb_rules.proofs.Finding.{pair-plain}
use Rattle.kb_journal.proofs.lines.number_of.Goals as goal

pub returns-in-None : goal.returns-in-None
returns-in-None c =
    let xs = c.args.nodes.now in
    let q = c.args.pair.now in
    let n = node_of (plain_nodes xs) q in
    absurd (has-lacks xs q n (pair-plain xs n ∙ c.requires.there) c.in-None.ensures)

pub returns-in-Some : goal.returns-in-Some
returns-in-Some c =
    let xs = c.args.nodes.now in
    ap Some (c.requires.only c.in-Some.node.0 (sym (pair-plain xs c.in-Some.node.0) ∙ c.in-Some.ensures))
