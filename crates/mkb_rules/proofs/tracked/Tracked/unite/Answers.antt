use Rattle.std.proofs.Common.{◌≡◌, List, Bool, true, length, ◌∙◌, sym, ap, subst, arith}
use mathlib.Core.Bool.{true≢false}
use Rattle.kb_label.specs.Names.{united}
use Rattle.mkb_model.specs.Plain.{PlainNode}
use Rattle.mkb_model.specs.Effects.{with_label}
use Rattle.mkb_rules.specs.Parts.{plain_nodes}
use Rattle.mkb_rules.specs.Constrained.{AreConstraintsMarked}
use Rattle.mkb_rules.specs.Sizes.{is_dead_node, AreMarked}
use Rattle.mkb_rules.proofs.Paying.{constraints_marked, marked}
use Rattle.mkb_rules.proofs.PutBack.{plain-label, plain-with_label, put-twice}
use Rattle.mkb_rules.proofs.tracked.Tracked.unite.Goals as goal

-- the table has the label that was taken out and put back, as it is then
nodes : (c : goal.After-drop-empty-inside) → plain_nodes c.set_label-empty.new.self ≡ with_label c.args.n.0 c.args.kind c.unite.new.self (plain_nodes c.self.inside.table)
nodes c =
    let n = c.args.n.0 in
    let k = c.args.kind in
    let new = c.unite.new.self in
    ap plain_nodes c.set_label-empty.ensures.new
    ∙ plain-with_label c.set_label-label.new.self n k new
    ∙ ap (with_label n k new) (ap plain_nodes c.set_label-label.ensures.new ∙ plain-with_label c.self.inside.table n k c.new-empty.result)
    ∙ put-twice (plain_nodes c.self.inside.table) n k new c.new-empty.result

pub invariant_of-self : goal.invariant_of-self
invariant_of-self c =
    let xs = plain_nodes c.self.inside.table in
    let new = with_label c.args.n.0 c.args.kind c.unite.new.self xs in
    let put = marked is_dead_node xs c.self.inside.used c.args.n.0 c.args.kind c.unite.new.self true c.self.invariant.0 (λ e. absurd (true≢false e)) in (
      subst {A = List PlainNode} (λ ys. AreMarked ys c.set.new.self) (sym (nodes c))
          (subst {A = List Bool} (AreMarked new) (sym c.set.ensures) put),
      λ k d h. absurd (omega (arith, h, ap length c.clear.ensures.items)),
      subst {A = List PlainNode} (λ ys. AreConstraintsMarked ys c.mark_constraint.new.constrained) (sym (nodes c))
          (constraints_marked xs c.self.inside.constrained c.mark_constraint.new.constrained c.args.n.0 c.args.kind c.unite.new.self c.self.invariant.2 c.mark_constraint.ensures),
    )

pub returns-clause-new : goal.returns-clause-new
returns-clause-new c =
    let n = c.args.n.0 in
    let k = c.args.kind in
    let xs = plain_nodes c.self.inside.table in
    rw (← c.self.view_is)
    (nodes c ∙ ap (λ l. with_label n k l xs) (c.unite.ensures ∙ ap (united c.args.p.now) (plain-label c.self.inside.table n k c.set_label-label.result c.set_label-label.ensures.old)))
