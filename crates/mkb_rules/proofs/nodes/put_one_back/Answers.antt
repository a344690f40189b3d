use Rattle.std.proofs.Common.{◌∙◌, ap, sym}
use Rattle.mkb_model.specs.Plain.{label_at}
use Rattle.mkb_model.specs.Effects.{with_label}
use Rattle.mkb_rules.specs.Parts.{plain_nodes}
use Rattle.mkb_rules.specs.Nodes.{former_label}
use Rattle.mkb_rules.proofs.PutBack.{plain-with_label}
use Rattle.mkb_rules.proofs.nodes.put_one_back.Goals as goal

pub returns-in-Label-clause-nodes : goal.returns-in-Label-clause-nodes
returns-in-Label-clause-nodes c =
    let n = c.args.replaced.node.0 in
    let k = c.args.replaced.kind in
    let xs = plain_nodes c.args.table.now in
    ap plain_nodes c.put_back.ensures.new
    ∙ plain-with_label c.args.table.now n k c.in-Label.label
    ∙ ap (λ f. with_label n k (former_label f (label_at xs n k)) xs) (sym c.in-Label.is)
