-- Thinning, rule by rule.
use Rattle.std.proofs.Common.{ℕ, ◌+◌, ◌<◌, ◌≤◌, ◌≡◌, inl, inr, refl, sym, ap, ◌∙◌, subst, subst₂, arith, List, [], ◌∷◌, ◌++◌, length, get_or, take, drop, Some}
use Rattle.std.specs.Prelude.{slice_get}
use Rattle.std.proofs.lemmas.List.{take_more, take_all, length-take-le, drop_more, drop_all}
use Rattle.std.proofs.lemmas.Option.{slice_get-get_or, same_Some}
use Rattle.kb_term.specs.Rule.{Rule}
use Rattle.kb_reduce.specs.Reducing.{IsCovered, IsThinned}

abbrev Cited : Type 0
Cited = Rule × ℕ

take_append : {X : Type 0} (k : ℕ) (xs ys : List X) → length xs ≡ k → take k (xs ++ ys) ≡ xs
take_append k [] ys e = subst (λ n. take n ys ≡ []) e refl
take_append k (x ∷ xs) ys e = subst (λ n. take n (x ∷ (xs ++ ys)) ≡ x ∷ xs) e (ap (x ∷◌) (take_append (length xs) xs ys refl))

drop_append : {X : Type 0} (k : ℕ) (xs ys : List X) → length xs ≡ k → drop k (xs ++ ys) ≡ ys
drop_append k [] ys e = subst (λ n. drop n ys ≡ ys) e refl
drop_append k (x ∷ xs) ys e = subst (λ n. drop n (x ∷ (xs ++ ys)) ≡ ys) e (drop_append (length xs) xs ys refl)

-- a rule that the others cover goes
pub left_out : (rules : List Cited) (k : ℕ) (r : Cited) (left : List Cited) → k < length rules → slice_get rules k ≡ Some r → IsCovered (take k rules ++ drop (k + 1) rules) r → IsThinned (take k (take k rules ++ drop (k + 1) rules)) (drop k (take k rules ++ drop (k + 1) rules)) left → IsThinned (take k rules) (drop k rules) left
left_out rules k r left room at covered h =
    let is : r ≡ get_or rules k r = same_Some _ _ (sym at ∙ slice_get-get_or rules k r room) in
    let count : length (take k rules) ≡ k = length-take-le k rules (omega (arith, room)) in
    let front : take k (take k rules ++ drop (k + 1) rules) ≡ take k rules = take_append k (take k rules) (drop (k + 1) rules) count in
    let back : drop k (take k rules ++ drop (k + 1) rules) ≡ drop (k + 1) rules = drop_append k (take k rules) (drop (k + 1) rules) count in
    let here : r ∷ drop (k + 1) rules ≡ drop k rules = ap (λ y. y ∷ drop (k + 1) rules) is ∙ sym (drop_more rules k r room) in
    subst (λ xs. IsThinned (take k rules) xs left) here (inl (covered, subst₂ (λ xs ys. IsThinned xs ys left) front back h))

-- one that they don't stays
pub stays : (rules : List Cited) (k : ℕ) (r : Cited) (left : List Cited) → k < length rules → slice_get rules k ≡ Some r → ¬ IsCovered (take k rules ++ drop (k + 1) rules) r → IsThinned (take (k + 1) rules) (drop (k + 1) rules) left → IsThinned (take k rules) (drop k rules) left
stays rules k r left room at not h =
    let is : r ≡ get_or rules k r = same_Some _ _ (sym at ∙ slice_get-get_or rules k r room) in
    let front : take (k + 1) rules ≡ take k rules ++ r ∷ [] = take_more rules k r room ∙ ap (λ y. take k rules ++ y ∷ []) (sym is) in
    let here : r ∷ drop (k + 1) rules ≡ drop k rules = ap (λ y. y ∷ drop (k + 1) rules) is ∙ sym (drop_more rules k r room) in
    subst (λ xs. IsThinned (take k rules) xs left) here (inr (not, subst (λ xs. IsThinned xs (drop (k + 1) rules) left) front h))

-- past the last rule they are what is left
pub all_left : (rules : List Cited) (k : ℕ) → length rules ≤ k → IsThinned (take k rules) (drop k rules) rules
all_left rules k past = subst₂ (λ xs ys. IsThinned xs ys rules) (sym (take_all k rules past)) (sym (drop_all k rules past)) refl
