use Rattle.std.proofs.Common.{◌≡◌, ◌∙◌, ℕ, List, Option, Some, None, ap, sym, subst}
use Rattle.std.specs.Prelude.{IfSome}
use Rattle.mkb_rules.specs.Ranks.{rank_at, AreRanks}
use Rattle.mkb_rules.proofs.ranks.Ranks.rank_of.Goals as goal

-- no other rule has the rank of the rule
only_one : (ranks : List (Option ℕ)) (count rule : ℕ) → AreRanks ranks count → (o : Option ℕ) → o ≡ rank_at ranks rule → IfSome o (λ r. (j : ℕ) → rank_at ranks j ≡ Some r → j ≡ rule)
only_one ranks count rule are None e = tt
only_one ranks count rule are (Some r) e = λ j f. are.apart j rule r f (sym e)

pub returns-clause-only : goal.returns-clause-only
returns-clause-only c =
    let Only = λ (rs : List (Option ℕ)). IfSome c.rank_in.result (λ r. (j : ℕ) → rank_at rs j ≡ Some r → j ≡ c.args.rule) in
    subst Only c.self.view_is (only_one c.self.inside.ranks.items c.self.inside.count c.args.rule c.self.invariant c.rank_in.result (c.rank_in.ensures ∙ ap (λ (rs : List (Option ℕ)). rank_at rs c.args.rule) c.as_slice.ensures.value))
