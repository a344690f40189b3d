-- Terms found by their hashes.
use Rattle.std.proofs.Common.{ℕ, ◌≡◌, ◌+◌, ◌<◌, ◌≤◌, List, length, Some, None, Option, sym, ap, ◌∙◌, arith, ⊎_elim}
use Rattle.std.specs.Prelude.{map, slice_get, MatchOption, IfSome}
use Rattle.std.proofs.lemmas.List.{length-map}
use Rattle.std.proofs.lemmas.Option.{slice_get_within, get_or_from_slice_get}
use Rattle.kb_lemmas.proofs.Lists.{get_map}
use Rattle.kb_term.specs.Tree.{Tree, variable}
use Rattle.term_bank.specs.Chains.{HasNone, IsLast}
use Rattle.term_bank.specs.Hashing.{tree_hash}
use Rattle.term_bank.specs.Terms.{HasTerm, LacksTerm, term_at}
use Rattle.term_bank.proofs.Places.{less_or_not, same_or_not}

-- the end of what is still to be looked at
abbrev pub after : Option ℕ → ℕ
after None = 0
after (Some place) = place + 1

-- from the end on no cell has the term, and the place before it has its hash
pub record IsSought (terms : List Tree) (hashes : List ℕ) (t : Tree) (hash : ℕ) (at : Option ℕ) : Type 0 where
  pub none : (i : ℕ) → after at ≤ i → HasTerm terms i t → ⊥
  pub here : IfSome at (λ place. slice_get hashes place ≡ Some hash)

module _ (terms : List Tree) (hashes : List ℕ) (t : Tree) (hash : ℕ) (hashed : hashes ≡ map tree_hash terms) (is : hash ≡ tree_hash t) where
  has_hash : (i : ℕ) → HasTerm terms i t → slice_get hashes i ≡ Some hash
  has_hash i g = ap (λ hs. slice_get hs i) hashed ∙ get_map tree_hash terms i t g ∙ ap Some (sym is)

  pub sought : (at : Option ℕ) (end : ℕ) → ((i : ℕ) → end ≤ i → HasTerm terms i t → ⊥) → MatchOption at (HasNone hashes hash end) (λ place. IsLast hashes hash end place) → IsSought terms hashes t hash at
  sought None end past m = record {
    none = λ i h g. ⊎_elim (λ (l : i < end). m i l (has_hash i g)) (λ (l : i < end → ⊥). past i (omega (arith, l)) g) (less_or_not i end);
    here = tt;
  }
  sought (Some place) end past m = record {
    none = λ i h g. ⊎_elim (λ (l : i < end). m.last i (omega arith) l (has_hash i g)) (λ (l : i < end → ⊥). past i (omega (arith, l)) g) (less_or_not i end);
    here = m.has;
  }

  pub sought-first : (at : Option ℕ) → MatchOption at (HasNone hashes hash (length hashes)) (λ place. IsLast hashes hash (length hashes) place) → IsSought terms hashes t hash at
  sought-first at = sought at (length hashes) (λ i h g. omega (arith, slice_get_within terms i t g, ap length hashed, length-map terms tree_hash))

  pub sought-next : (place : ℕ) (at : Option ℕ) → IsSought terms hashes t hash (Some place) → (term_at terms place ≡ t → ⊥) → MatchOption at (HasNone hashes hash place) (λ p. IsLast hashes hash place p) → IsSought terms hashes t hash at
  sought-next place at old other =
      sought at place
      (λ i h g. ⊎_elim
      (λ (e : place ≡ i). other (get_or_from_slice_get terms place t (variable 0) (ap (slice_get terms) e ∙ g)))
      (λ (d : place ≡ i → ⊥). old.none i (omega (arith, d)) g)
      (same_or_not place i))

pub sought_there : (terms : List Tree) (hashes : List ℕ) (t : Tree) (hash place : ℕ) → hashes ≡ map tree_hash terms → IsSought terms hashes t hash (Some place) → place < length terms
sought_there terms hashes t hash place hashed s = omega (arith, slice_get_within hashes place hash s.here, ap length hashed, length-map terms tree_hash)

pub after_less : (hashes : List ℕ) (hash end : ℕ) (at : Option ℕ) → MatchOption at (HasNone hashes hash end) (λ place. IsLast hashes hash end place) → after at ≤ end
after_less hashes hash end None m = omega arith
after_less hashes hash end (Some place) m = omega (arith, m.below)

pub lacks_none : (terms : List Tree) (hashes : List ℕ) (t : Tree) (hash : ℕ) → IsSought terms hashes t hash None → LacksTerm terms t
lacks_none terms hashes t hash s = λ i g. s.none i (omega arith) g
