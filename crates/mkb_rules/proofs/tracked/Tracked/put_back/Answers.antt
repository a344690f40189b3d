use Rattle.std.proofs.Common.{List, Bool, true, ◌∙◌, sym, ap, subst, length, arith}
use mathlib.Core.Bool.{true≢false}
use Rattle.mkb_model.specs.Plain.{PlainNode}
use Rattle.mkb_model.specs.Effects.{with_label}
use Rattle.mkb_rules.specs.Parts.{plain_nodes}
use Rattle.mkb_rules.specs.Constrained.{AreConstraintsMarked}
use Rattle.mkb_rules.specs.Sizes.{is_dead_node, AreMarked}
use Rattle.mkb_rules.proofs.PutBack.{plain-with_label}
use Rattle.mkb_rules.proofs.Paying.{constraints_marked, marked}
use Rattle.mkb_rules.proofs.tracked.Tracked.put_back.Goals as goal

pub invariant_of-self : goal.invariant_of-self
invariant_of-self c =
    let xs = plain_nodes c.self.inside.table in
    let put = marked is_dead_node xs c.self.inside.used c.args.n.0 c.args.kind c.args.label true c.self.invariant.0 (λ e. absurd (true≢false e)) in
    let nodes = ap plain_nodes c.set_label-replaced.ensures.new ∙ plain-with_label c.self.inside.table c.args.n.0 c.args.kind c.args.label in (
      subst {A = List PlainNode} (λ ys. AreMarked ys c.set.new.self) (sym nodes)
          (subst {A = List Bool} (AreMarked (with_label c.args.n.0 c.args.kind c.args.label xs)) (sym c.set.ensures) put),
      λ k d h. absurd (omega (arith, h, ap length c.clear.ensures.items)),
      subst {A = List PlainNode} (λ ys. AreConstraintsMarked ys c.mark_constraint.new.constrained) (sym nodes)
          (constraints_marked xs c.self.inside.constrained c.mark_constraint.new.constrained c.args.n.0 c.args.kind c.args.label c.self.invariant.2 c.mark_constraint.ensures),
    )
