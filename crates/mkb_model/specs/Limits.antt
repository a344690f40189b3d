-- Nodes within the limits.
use Rattle.std.specs.Prelude.{ℕ, List, Some, ◌≡◌}
use Rattle.kb_term.specs.Pair.{Pair, ArePairWithin}
use Rattle.kb_term.specs.Signature.{Signature, IsWellFormed}
use Rattle.mkb_model.specs.Plain.{PlainNode, pair_in}

-- both sides are terms over the signature of at most size 512 and depth 64, with at most 64 variables together
pub record IsLimitedPair (signature : Signature) (q : Pair) : Type 0 where
  pub first : IsWellFormed signature q.first
  pub second : IsWellFormed signature q.second
  pub within : ArePairWithin q.first q.second

-- the pair of each node is
abbrev pub AreLimited : Signature → List PlainNode → Type 0
AreLimited signature xs = (n : ℕ) (q : Pair) → pair_in xs n ≡ Some q → IsLimitedPair signature q
