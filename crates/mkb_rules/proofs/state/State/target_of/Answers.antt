use Rattle.std.proofs.Common.{◌≡◌, ◌∙◌, ap, rules}
use Rattle.kb_term.specs.View.{tree_of}
use Rattle.kb_overlap.specs.Trace.{other_side}
use Rattle.mkb_model.specs.Plain.{Plain}
use Rattle.mkb_model.proofs.commits.Views.{there_pair}
use Rattle.mkb_rules.proofs.Finding.{side_read}
use Rattle.mkb_rules.proofs.state.State.target_of.Goals as goal

pub target_for-requires : goal.target_for-requires
target_for-requires c =
    let here = there_pair c.args.self.now.nodes c.args.n.0 c.requires.node in
    let same = side_read c.args.self.now c.table.result.now c.args.n.0 c.args.side (tree_of c.in_ok-rest.rest) (c.table.ensures ∙ ap (λ (b : Plain). b.nodes) c.self.view_is) c.in_ok-rest.ensures here.0 here.1 in
    rw same (c.requires.few here.0 here.1)

pub returns : goal.returns
returns c = λ q here.
    let same : tree_of c.in_ok-rest.rest ≡ other_side q c.args.side = side_read c.args.self.now c.table.result.now c.args.n.0 c.args.side (tree_of c.in_ok-rest.rest) (c.table.ensures ∙ ap (λ (b : Plain). b.nodes) c.self.view_is) c.in_ok-rest.ensures q here in
    rw (← same) (search rules)
