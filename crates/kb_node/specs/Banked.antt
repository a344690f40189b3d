-- The pairs of a table beside the bank of their terms.
use Rattle.std.specs.Prelude.{◌≡◌, ℕ, Bool, ◌&&◌, ◌==◌, ◌+◌, ◌<◌, ◌≤◌, ◌⊎◌, List, [], ◌∷◌, length, take, slice_get, Some}
use Rattle.kb_term.specs.Tree.{Tree}
use Rattle.kb_term.specs.Pair.{Pair, IsWithin}
use Rattle.term_bank.specs.Terms.{HasTerm, LacksTerm, subterms, with_missing}
use Rattle.kb_node.specs.declared.sides.Sides.{Sides}
use Rattle.kb_term.specs.declared.limits.TheConstants.{MAX_NODES}

-- whether the cells of both sides are the same
abbrev pub sides_eq : Sides → Sides → Bool
sides_eq s t = (s.first.0 == t.first.0) && (s.second.0 == t.second.0)

-- the cells have the sides of the pair
pub record AreSides (terms : List Tree) (s : Sides) (e : Pair) : Type 0 where
  pub first : HasTerm terms s.first.0 e.first
  pub second : HasTerm terms s.second.0 e.second

-- a side of the pair has no cell
abbrev pub LacksSide : List Tree → Pair → Type 0
LacksSide terms e = LacksTerm terms e.first ⊎ LacksTerm terms e.second

-- both sides are within the limits of terms
abbrev pub IsPairWithin : Pair → Type 0
IsPairWithin e = IsWithin e.first × IsWithin e.second

-- the terms of a bank after both sides of a pair come in, the first before the second
abbrev pub with_sides : List Tree → Pair → List Tree
with_sides terms e = with_missing (with_missing terms (subterms e.first)) (subterms e.second)

-- the terms of a bank after pairs come in
abbrev pub with_pairs : List Tree → List Pair → List Tree
with_pairs terms [] = terms
with_pairs terms (e ∷ es) = with_pairs (with_sides terms e) es

-- the terms of a bank after the first pairs come in
abbrev pub first_cells : List Pair → ℕ → List Tree
first_cells pairs n = with_pairs [] (take n pairs)

-- the bank has the terms of the pairs alone; sides tell their cells, and starts how many cells there were before each pair
pub record IsBanked (terms : List Tree) (sides : List Sides) (starts : List ℕ) (pairs : List Pair) : Type 0 where
  pub few : length pairs ≤ MAX_NODES
  pub within : (i : ℕ) (e : Pair) → slice_get pairs i ≡ Some e → IsPairWithin e
  pub cells : terms ≡ with_pairs [] pairs
  pub side_count : length sides ≡ length pairs
  pub side : (i : ℕ) (s : Sides) (e : Pair) → slice_get sides i ≡ Some s → slice_get pairs i ≡ Some e → AreSides (first_cells pairs (i + 1)) s e
  pub start_count : length starts ≡ length pairs
  pub start : (i n : ℕ) → slice_get starts i ≡ Some n → n ≡ length (first_cells pairs i)
  pub one_pair : (i j : ℕ) (e : Pair) → i < j → slice_get pairs i ≡ Some e → slice_get pairs j ≡ Some e → ⊥
