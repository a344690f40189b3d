use Rattle.std.proofs.Common.{◌≡◌, List, Bool, true, false, not, ◌∙◌, sym, ap, subst}
use mathlib.Core.Bool.{true≢false}
use Rattle.std.specs.Prelude.{All}
use Rattle.kb_label.specs.Names.{Name}
use Rattle.kb_node.specs.Labelled.{Node}
use Rattle.mkb_model.specs.Plain.{PlainNode}
use Rattle.mkb_model.specs.Effects.{with_label}
use Rattle.mkb_rules.specs.Parts.{plain_nodes}
use Rattle.mkb_rules.specs.Accounts.{IsAccountOf}
use Rattle.mkb_rules.specs.Constrained.{AreConstraintsMarked}
use Rattle.mkb_rules.specs.Sizes.{is_dead_node, AreMarked, is_dead_at}
use Rattle.mkb_rules.proofs.PutBack.{plain-with_label}
use Rattle.mkb_rules.proofs.Paying.{constraints_marked, marked, dead_plain}
use Rattle.mkb_rules.proofs.tracked.Tracked.set_label.Goals as goal

used-or_dead : (b : Bool) → not b ≡ false → b ≡ true
used-or_dead true e = search
used-or_dead false e = absurd (true≢false e)

pub invariant_of-self : goal.invariant_of-self
invariant_of-self c =
    let xs = plain_nodes c.self.inside.table in
    let nodes = ap plain_nodes c.set_label-replaced.ensures.new ∙ plain-with_label c.self.inside.table c.args.change.now.node.0 c.args.change.now.kind c.args.label in
    let dead : not c.is_dead-is_dead.result ≡ false → is_dead_at (with_label c.args.change.now.node.0 c.args.change.now.kind c.args.label xs) c.args.change.now.node.0 ≡ true = λ e. ap (λ ys. is_dead_at ys c.args.change.now.node.0) (sym nodes) ∙ dead_plain c.set_label-replaced.new.self c.args.change.now.node.0 c.is_dead-is_dead.result c.is_dead-is_dead.ensures ∙ used-or_dead c.is_dead-is_dead.result e in
    let put = marked is_dead_node xs c.self.inside.used c.args.change.now.node.0 c.args.change.now.kind c.args.label (not c.is_dead-is_dead.result) c.self.invariant.0 dead in (
      subst {A = List PlainNode} (λ ys. AreMarked ys c.set.new.self) (sym nodes)
          (subst {A = List Bool} (AreMarked (with_label c.args.change.now.node.0 c.args.change.now.kind c.args.label xs)) (sym c.set.ensures) put),
      subst {A = List (Node (List Name))} (λ ys. All (IsAccountOf (plain_nodes ys)) c.follow.new.accounts.items) (sym c.set_label-replaced.ensures.new) c.follow.ensures,
      subst {A = List PlainNode} (λ ys. AreConstraintsMarked ys c.mark_constraint.new.constrained) (sym nodes)
          (constraints_marked xs c.self.inside.constrained c.mark_constraint.new.constrained c.args.change.now.node.0 c.args.change.now.kind c.args.label c.self.invariant.2 c.mark_constraint.ensures),
    )
