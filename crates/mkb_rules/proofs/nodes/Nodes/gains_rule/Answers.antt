use Rattle.std.proofs.Common.{length, ap, arith}
use Rattle.kb_label.specs.Names.{minus}
use Rattle.kb_node.specs.declared.node.LabelKind.TheVariants.{E}
use Rattle.mkb_model.specs.Plain.{label_at}
use Rattle.mkb_model.proofs.commits.Roles.{length-put}
use Rattle.mkb_rules.proofs.nodes.Nodes.gains_rule.Goals as goal

pub gains-requires : goal.gains-requires
gains-requires c =
    omega (arith, c.requires, ap length c.in_ok-loses.ensures.ok, length-put c.args.self.now.now c.args.rule.node E (minus (label_at c.args.self.now.now c.args.rule.node E) c.args.names.now))
