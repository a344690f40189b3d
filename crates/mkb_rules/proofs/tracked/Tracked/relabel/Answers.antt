use Rattle.std.proofs.Common.{◌≡◌, List, Bool, false, true, not, length, ◌∙◌, sym, ap, subst, arith}
use mathlib.Core.Bool.{true≢false}
use Rattle.std.proofs.lemmas.Result.{on_err_weaker, on_ok_weaker}
use Rattle.kb_label.specs.Names.{relabel, IsTakenBack, Name}
use Rattle.mkb_model.specs.Plain.{PlainNode, label_at}
use Rattle.mkb_model.specs.Effects.{with_label}
use Rattle.mkb_rules.specs.Parts.{plain_nodes}
use Rattle.mkb_rules.specs.Constrained.{AreConstraintsMarked}
use Rattle.mkb_rules.specs.Sizes.{is_dead_node, is_dead_at, AreMarked}
use Rattle.mkb_rules.proofs.Forks.{put_itself}
use Rattle.mkb_rules.proofs.Paying.{constraints_marked, marked, dead_plain}
use Rattle.mkb_rules.proofs.PutBack.{plain-label, plain-with_label, put-twice}
use Rattle.mkb_rules.proofs.tracked.Tracked.relabel.Goals as goal

used-or_dead : (b : Bool) → not b ≡ false → b ≡ true
used-or_dead true e = search
used-or_dead false e = absurd (true≢false e)

-- the table has the label that was taken out and put back, as it is then
nodes : (c : goal.After-drop-empty-inside) → plain_nodes c.set_label-empty.new.self ≡ with_label c.args.n.0 c.args.kind c.relabel-outcome.new.self (plain_nodes c.self.inside.table)
nodes c =
    let n = c.args.n.0 in
    let k = c.args.kind in
    let new = c.relabel-outcome.new.self in
    ap plain_nodes c.set_label-empty.ensures.new
    ∙ plain-with_label c.set_label-label.new.self n k new
    ∙ ap (with_label n k new) (ap plain_nodes c.set_label-label.ensures.new ∙ plain-with_label c.self.inside.table n k c.new-empty.result)
    ∙ put-twice (plain_nodes c.self.inside.table) n k new c.new-empty.result

own : (c : goal.After-drop-empty-inside) → c.set_label-label.result ≡ label_at (plain_nodes c.self.inside.table) c.args.n.0 c.args.kind
own c = plain-label c.self.inside.table c.args.n.0 c.args.kind c.set_label-label.result c.set_label-label.ensures.old

pub invariant_of-self : goal.invariant_of-self
invariant_of-self c =
    let n = c.args.n.0 in
    let xs = plain_nodes c.self.inside.table in
    let new = with_label n c.args.kind c.relabel-outcome.new.self xs in
    let dead : not c.is_dead-is_dead.result ≡ false → is_dead_at new n ≡ true = λ e. ap (λ ys. is_dead_at ys n) (sym (nodes c)) ∙ dead_plain c.set_label-empty.new.self n c.is_dead-is_dead.result c.is_dead-is_dead.ensures ∙ used-or_dead c.is_dead-is_dead.result e in
    let put = marked is_dead_node xs c.self.inside.used n c.args.kind c.relabel-outcome.new.self (not c.is_dead-is_dead.result) c.self.invariant.0 dead in (
      subst {A = List PlainNode} (λ ys. AreMarked ys c.set.new.self) (sym (nodes c))
          (subst {A = List Bool} (AreMarked new) (sym c.set.ensures) put),
      λ k d h. absurd (omega (arith, h, ap length c.clear.ensures.items)),
      subst {A = List PlainNode} (λ ys. AreConstraintsMarked ys c.mark_constraint.new.constrained) (sym (nodes c))
          (constraints_marked xs c.self.inside.constrained c.mark_constraint.new.constrained c.args.n.0 c.args.kind c.relabel-outcome.new.self c.self.invariant.2 c.mark_constraint.ensures),
    )

pub returns-clause-ok : goal.returns-clause-ok
returns-clause-ok c =
    let n = c.args.n.0 in
    let k = c.args.kind in
    let xs = plain_nodes c.self.inside.table in
    rw (← c.self.view_is) (on_ok_weaker c.relabel-outcome.result (λ is. nodes c ∙ ap (λ l. with_label n k l xs) (is ∙ ap (relabel c.args.p.now) (own c))) c.relabel-outcome.ensures.ok)

pub returns-clause-err : goal.returns-clause-err
returns-clause-err c =
    let n = c.args.n.0 in
    let k = c.args.kind in
    let xs = plain_nodes c.self.inside.table in
    rw (← c.self.view_is) (on_err_weaker c.relabel-outcome.result (λ is. nodes c ∙ ap (λ l. with_label n k l xs) (is ∙ own c) ∙ put_itself xs n k) c.relabel-outcome.ensures.err)

pub returns-clause-back : goal.returns-clause-back
returns-clause-back c = rw (← c.self.view_is) (subst {A = List Name} (IsTakenBack c.args.p.now) (own c) c.relabel-outcome.ensures.back)
