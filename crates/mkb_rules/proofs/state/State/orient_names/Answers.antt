use Rattle.std.proofs.Common.{ap, sym, ◌∙◌}
use Rattle.kb_node.specs.declared.node.LabelKind.TheVariants.{E}
use Rattle.mkb_model.specs.Plain.{Plain, label}
use Rattle.mkb_rules.proofs.Sets.{orient_none}
use Rattle.mkb_rules.proofs.state.State.orient_names.Goals as goal

pub returns-else-has : goal.returns-else-has
returns-else-has c =
    c.new.ensures c.self.inside.log
    ∙ sym (orient_none c.args.self.now c.args.p.now c.args.n.0 c.node_label.result.now (c.node_label.ensures ∙ ap (λ (b : Plain). label b c.args.n.0 E) c.self.view_is) (sym c.has.ensures ∙ c.if-has.false))
