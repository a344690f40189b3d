use Rattle.std.proofs.Common.{◌≡◌, ◌∙◌, ◌+◌, ℕ, Option, Some, None, ap, subst}
use Rattle.std.specs.Prelude.{IfSome}
use Rattle.mkb_model.specs.Plain.{Plain, cost}
use Rattle.mkb_rules.specs.Sizes.{counted_sizes, AreSizesOf}
use Rattle.mkb_rules.proofs.Costs.{cost_kept}
use Rattle.mkb_rules.proofs.state.State.kept_cost.Goals as goal

same_if : (o : Option ℕ) (m n : ℕ) → IfSome o (λ c. c ≡ m) → m ≡ n → IfSome o (λ c. c ≡ n)
same_if None m n h e = tt
same_if (Some x) m n h e = h ∙ e

pub returns : goal.returns
returns c =
    let b = c.args.self.now in
    let s = c.in_ok-sizes.field-0.now in
    same_if c.cost.result (s.open_sizes + counted_sizes c.self.inside.settings.selection s.rule_sizes) (cost b c.args.p.now) c.cost.ensures
    (ap (λ (v : Plain). s.open_sizes + counted_sizes v.settings.selection s.rule_sizes) c.self.view_is ∙ cost_kept b s (subst {A = Plain} (λ v. AreSizesOf v.nodes s) c.self.view_is c.in_ok-sizes.ensures.right) ∙ ap (cost b) c.in_ok-sizes.ensures.process)
