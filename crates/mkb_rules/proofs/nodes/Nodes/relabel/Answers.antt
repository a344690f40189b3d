use Rattle.std.proofs.Common.{◌∙◌, ◌<◌, ◌++◌, ◌∷◌, [], List, length, take, ap, arith, false, true}
use Rattle.mkb_rules.specs.Parts.{plain_nodes}
use Rattle.mkb_rules.specs.Nodes.{put_back, Changed}
use Rattle.mkb_rules.specs.declared.nodes.Former.TheVariants.{Forked}
use Rattle.mkb_rules.specs.declared.nodes.Replaced.{Replaced}
use Rattle.mkb_rules.proofs.PutBack.{put_back-put}
use Rattle.kb_label.specs.Names.{child, has, relabel, Name}
use Rattle.mkb_model.specs.Plain.{label_at, PlainNode}
use Rattle.mkb_rules.proofs.nodes.Nodes.relabel.Goals as goal

pub returns-clause-before : goal.returns-clause-before
returns-clause-before c =
    let p = c.args.p.now in
    let n = c.args.n.0 in
    let k = c.args.kind in
    let xs = plain_nodes c.self.inside.table in
    let r : Replaced = record { node = c.args.n; kind = k; former = Forked p } in
    let seen = ap (λ (z : Changed). z.now) c.self.view_is in
    let named = λ (q : Name). ap (λ (ys : List PlainNode). has (label_at ys n k) q) seen in
    let there : n < length xs = omega (arith, c.requires.there, ap length seen) in
    let back = c.relabel.ensures.back c.requires.short (named p ∙ c.requires.named) (named (child p false) ∙ c.requires.alone false) (named (child p true) ∙ c.requires.alone true) in
    rw (← c.self.view_is)
    (ap (λ rs. take c.self.inside.kept (put_back rs (plain_nodes c.relabel.new.self))) (rw (c.unwrap.ensures, c.in_ok-reserve.ensures.items) at c.push.ensures.items)
    ∙ ap (λ ys. take c.self.inside.kept (put_back (c.self.inside.replaced.items ++ r ∷ []) ys)) c.in_ok-relabel.ensures.ok
    ∙ ap (take c.self.inside.kept) (put_back-put c.self.inside.replaced.items r xs (relabel p (label_at xs n k)) there back))
