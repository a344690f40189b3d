-- The direction in which a canonical pair leads from one term to the other, told by what fits its sides.
use Rattle.std.proofs.Common.{◌≡◌, Bool, true, false, cond, if◌then◌else◌, is_gt, Some, None, refl, ap, sym, ◌∙◌}
use mathlib.Core.Bool.{true≢false}
use Rattle.kb_lemmas.proofs.Options.{some_is}
use Rattle.kb_term.specs.Tree.{Tree, variable, tree_eq}
use Rattle.kb_term.specs.Pair.{Pair, canonical_pair, numbered, pair_cmp, place_in, variables_of_pair}
use Rattle.kb_match.specs.Fitting.{Fits}
use Rattle.kb_match.proofs.FittingLaws.{fits_from_match}
use Rattle.mkb_model.specs.Effects.{direction, pair_eq}
use Rattle.mkb_model.proofs.nodes.Pairs.{pair_eq-eq, pair_eq-refl}

-- terms fit the sides of the pair that they make with their variables numbered
pub first_fits : (s t : Tree) (q : Pair) → pair_eq (numbered s t) q ≡ true → Fits s q.first
first_fits s t q e = fits_from_match s q.first (λ n. variable (place_in (variables_of_pair s t) n), ap (λ (z : Pair). z.first) (pair_eq-eq (numbered s t) q e))

pub second_fits : (s t : Tree) (q : Pair) → pair_eq (numbered s t) q ≡ true → Fits t q.second
second_fits s t q e = fits_from_match t q.second (λ n. variable (place_in (variables_of_pair s t) n), ap (λ (z : Pair). z.second) (pair_eq-eq (numbered s t) q e))

-- what would follow is false, so it is false too
pub not_so : (a b : Bool) → (a ≡ true → b ≡ true) → b ≡ false → a ≡ false
not_so true b h e = absurd (true≢false (sym (h refl) ∙ e))
not_so false b h e = refl

-- a pair that isn't the one that the terms make in this order leads back
pub leads_back : (s t : Tree) (q : Pair) → pair_eq (numbered s t) q ≡ false → 1 ≡ direction s t q
leads_back s t q e = ap (λ (b : Bool). if b then 0 else 1) (sym e)

-- a canonical pair that isn't the one that the terms make in the other order leads forth
pub leads_forth : (s t : Tree) (q : Pair) → canonical_pair t s ≡ Some q → pair_eq (numbered t s) q ≡ false → 0 ≡ direction s t q
leads_forth s t q e other = go (tree_eq t s) (is_gt (pair_cmp (numbered t s) (numbered s t))) e
  where
    go : (a g : Bool) → cond a None (Some (cond g (numbered s t) (numbered t s))) ≡ Some q → 0 ≡ direction s t q
    go true g h = absurd (cc)
    go false true h = sym (ap (λ (b : Bool). if b then 0 else 1) (ap (pair_eq (numbered s t)) (sym (some_is h)) ∙ pair_eq-refl (numbered s t)))
    go false false h = absurd (true≢false (sym (ap (pair_eq (numbered t s)) (sym (some_is h)) ∙ pair_eq-refl (numbered t s)) ∙ other))
