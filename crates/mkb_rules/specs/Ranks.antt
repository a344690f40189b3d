-- Ranks of rules, by the numbers of the rules.
use Rattle.std.specs.Prelude.{◌≡◌, ◌≢◌, ◌<◌, ◌⊎◌, ℕ, List, get_or, Option, Some, None}

-- the rank of the rule with this number, where it has one
abbrev pub rank_at : List (Option ℕ) → ℕ → Option ℕ
rank_at ranks j = get_or ranks j None

-- no rule has this rank
abbrev pub IsFree : List (Option ℕ) → ℕ → Type 0
IsFree ranks r = (j : ℕ) → rank_at ranks j ≢ Some r

-- different rules have different ranks, all below the count
pub record AreRanks (ranks : List (Option ℕ)) (count : ℕ) : Type 0 where
  pub below : (j r : ℕ) → rank_at ranks j ≡ Some r → r < count
  pub apart : (j k r : ℕ) → rank_at ranks j ≡ Some r → rank_at ranks k ≡ Some r → j ≡ k

-- each rule keeps its rank, and the new ranks had been free
pub record HaveMore (old new : List (Option ℕ)) : Type 0 where
  pub kept : (j r : ℕ) → rank_at old j ≡ Some r → rank_at new j ≡ Some r
  pub fresh : (j r : ℕ) → rank_at new j ≡ Some r → (rank_at old j ≡ Some r) ⊎ IsFree old r
