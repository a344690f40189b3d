use Rattle.std.proofs.Common.{sym, ap, ◌∙◌}
use Rattle.kb_term.specs.Pair.{canonical_pair}
use Rattle.kb_term.specs.View.{tree_of}
use Rattle.mkb_rules.specs.Parts.{plain_nodes}
use Rattle.mkb_rules.proofs.Finding.{pair-plain}
use Rattle.kb_journal.proofs.Kept.{no_target, one_target, kept_target}
use Rattle.kb_journal.proofs.lines.target_of.Goals as goal

pub returns-in-None : goal.returns-in-None
returns-in-None c =
    let t = tree_of c.args.outcome.now in
    no_target (plain_nodes c.args.nodes.now) c.args.node.0 c.args.side t c.in_ok-before.before (sym (pair-plain c.args.nodes.now c.args.node.0) ∙ c.in_ok-before.ensures)
    (ap (canonical_pair t) (sym c.other_side_of.ensures) ∙ sym c.in_ok-canonical.ensures ∙ c.in-None.is)

pub number_of-requires : goal.number_of-requires
number_of-requires c =
    let t = tree_of c.args.outcome.now in
    kept_target (plain_nodes c.args.nodes.now) c.args.node.0 c.args.side t c.in_ok-before.before c.in-Some.pair c.requires (sym (pair-plain c.args.nodes.now c.args.node.0) ∙ c.in_ok-before.ensures)
    (ap (canonical_pair t) (sym c.other_side_of.ensures) ∙ sym c.in_ok-canonical.ensures ∙ c.in-Some.is)

pub returns : goal.returns
returns c =
    let t = tree_of c.args.outcome.now in
    one_target (plain_nodes c.args.nodes.now) c.args.node.0 c.args.side t c.in_ok-before.before (sym (pair-plain c.args.nodes.now c.args.node.0) ∙ c.in_ok-before.ensures) c.in-Some.pair c.number_of.result
    (ap (canonical_pair t) (sym c.other_side_of.ensures) ∙ sym c.in_ok-canonical.ensures ∙ c.in-Some.is)
    c.number_of.ensures
