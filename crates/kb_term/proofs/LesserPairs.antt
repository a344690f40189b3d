-- The lesser of the two numbered pairs, by an order that is known before one of them is made.
use Rattle.std.proofs.Common.{ℕ, ◌≡◌, ◌≤◌, sym, ap, ap₂, ◌∙◌, arith, List, length, take, cond, true, false}
use Rattle.std.proofs.lemmas.List.{take_all}
use Rattle.std.specs.declared.cmp.Ordering.{Ordering}
use Rattle.std.specs.Ordering.{is_gt}
use Rattle.kb_term.specs.Tree.{Tree}
use Rattle.kb_term.specs.Substitution.{rename}
use Rattle.kb_term.specs.Pair.{Pair, place_in, variables_of_pair, numbered, pair_cmp, canonical}

-- the names of a pair of few variables
pub few_names : (s t : Tree) (names : List ℕ) → names ≡ take 65 (variables_of_pair s t) → length (variables_of_pair s t) ≤ 64 → names ≡ variables_of_pair s t
few_names s t names e h = e ∙ take_all 65 (variables_of_pair s t) (omega (arith, h))

-- the terms renamed by the names
abbrev renamed : List ℕ → Tree → Tree → Pair
renamed names s t = record { first = rename (place_in names) s; second = rename (place_in names) t }

module _ (s t : Tree) (forth back : List ℕ) (forth_is : forth ≡ variables_of_pair s t) (back_is : back ≡ variables_of_pair t s) (o : Ordering) (order : o ≡ pair_cmp (renamed forth s t) (renamed back t s)) where
  greater_is : is_gt o ≡ is_gt (pair_cmp (numbered s t) (numbered t s))
  greater_is = ap is_gt (order ∙ ap₂ (λ xs ys. pair_cmp (renamed xs s t) (renamed ys t s)) forth_is back_is)

  pub lesser_back : is_gt o ≡ true → renamed back t s ≡ canonical s t
  lesser_back g = ap (λ xs. renamed xs t s) back_is ∙ sym (ap (λ c. cond c (numbered t s) (numbered s t)) (sym greater_is ∙ g))

  pub lesser_forth : is_gt o ≡ false → renamed forth s t ≡ canonical s t
  lesser_forth g = ap (λ xs. renamed xs s t) forth_is ∙ sym (ap (λ c. cond c (numbered t s) (numbered s t)) (sym greater_is ∙ g))
