use Rattle.std.proofs.Common.{◌∙◌, ◌<◌, ◌++◌, ◌∷◌, [], length, take, ap, arith}
use Rattle.mkb_rules.specs.Parts.{plain_nodes}
use Rattle.mkb_rules.specs.Nodes.{put_back, Changed}
use Rattle.mkb_rules.specs.declared.nodes.Former.TheVariants.{Label}
use Rattle.mkb_rules.specs.declared.nodes.Replaced.{Replaced}
use Rattle.mkb_rules.proofs.PutBack.{plain-with_label, plain-label, put_back-put}
use Rattle.mkb_rules.proofs.nodes.Nodes.set.Goals as goal

pub returns-clause-ok : goal.returns-clause-ok
returns-clause-ok c =
    rw (← c.self.view_is)
    (ap plain_nodes c.set_label-label.ensures.new ∙ plain-with_label c.self.inside.table c.args.change.now.node.0 c.args.change.now.kind c.args.label)

pub returns-clause-before : goal.returns-clause-before
returns-clause-before c =
    let r : Replaced = record { node = c.args.change.now.node; kind = c.args.change.now.kind; former = Label c.set_label-label.result } in
    let there : c.args.change.now.node.0 < length (plain_nodes c.self.inside.table) = omega (arith, c.requires.there, ap (λ (z : Changed). length z.now) c.self.view_is) in
    rw (← c.self.view_is)
    (ap (λ rs. take c.self.inside.kept (put_back rs (plain_nodes c.set_label-label.new.self))) (rw (c.unwrap.ensures, c.in_ok-reserve.ensures.items) at c.push.ensures.items)
    ∙ ap (λ ys. take c.self.inside.kept (put_back (c.self.inside.replaced.items ++ r ∷ []) ys)) (ap plain_nodes c.set_label-label.ensures.new ∙ plain-with_label c.self.inside.table c.args.change.now.node.0 c.args.change.now.kind c.args.label)
    ∙ ap (take c.self.inside.kept) (put_back-put c.self.inside.replaced.items r (plain_nodes c.self.inside.table) c.args.label there (plain-label c.self.inside.table c.args.change.now.node.0 c.args.change.now.kind c.set_label-label.result c.set_label-label.ensures.old)))
