-- What the tests of variants decide.
use Rattle.std.proofs.Common.{◌≡◌, refl, sym, ap, ap₂, ◌∙◌, subst, arith, ℕ, ◌+◌, List, [], ◌∷◌, ◌++◌, get_or, Bool, true, false, cond, Contains, append_assoc, append-nil}
use Rattle.std.specs.Prelude.{◌==◌, not}
use Rattle.std.proofs.lemmas.Bool.{false≢true, eqb-true, eq-eqb, and_from}
use Rattle.std.proofs.lemmas.List.Elements.{Contains-append_left, Contains-append_right}
use Rattle.kb_lemmas.proofs.Booleans.{and_gives_left, and_gives_right}
use Rattle.kb_term.specs.Tree.{Tree, Trees, variable, apply, no_trees, more_trees, variables_of, variables_in, tree_eq}
use Rattle.kb_term.specs.Substitution.{rename, instances, IsVariant}
use Rattle.kb_term.specs.Pair.{distinct, place_in}
use Rattle.kb_term.specs.Paired.{stands_alike, stand_alike, is_paired, are_paired}
use Rattle.kb_term.proofs.Variants.{IsApart, rename-rename, rename_same, at_place, same_test, turned_back, numbered_from_variants, in_distinct}
use Rattle.kb_term.proofs.OwnPair.{tree_eq-true, tree_eq-same}

-- terms that are the same with each variable as its place in a list are variants
pub variant_from_places : (s t : Tree) (xs ys : List ℕ) → ((x : ℕ) → Contains (variables_of s) x → Contains xs x) → ((x : ℕ) → Contains (variables_of t) x → Contains ys x) → rename (place_in xs) s ≡ rename (place_in ys) t → IsVariant s t
variant_from_places s t xs ys h k e = (
  (λ x. get_or ys (place_in xs x) 0),
  (λ x. get_or xs (place_in ys x) 0),
  record { there = one s t xs ys k e; back_again = one t s ys xs h (sym e) },
)
  where
    one : (s t : Tree) (xs ys : List ℕ) → ((x : ℕ) → Contains (variables_of t) x → Contains ys x) → rename (place_in xs) s ≡ rename (place_in ys) t → rename (λ x. get_or ys (place_in xs x) 0) s ≡ t
    one s t xs ys k e =
        sym (rename-rename (λ n. get_or ys n 0) (place_in xs) s)
        ∙ ap (rename (λ n. get_or ys n 0)) e
        ∙ rename-rename (λ n. get_or ys n 0) (place_in ys) t
        ∙ rename_same (λ x. get_or ys (place_in ys x) 0) t (λ x c. at_place ys x 0 (k x c))

-- variants are the same with each variable as its place among the distinct ones
pub places_from_variant : (s t : Tree) → IsVariant s t → rename (place_in (distinct (variables_of s))) s ≡ rename (place_in (distinct (variables_of t))) t
places_from_variant s t (r, back, h) =
    let c = apply 0 no_trees in
    let e = numbered_from_variants s (apply 0 no_trees) t (apply 0 no_trees) (r, back, h, record { there = refl; back_again = refl }) in
    ap (λ vs. rename (place_in (distinct vs)) s) (sym (append-nil (variables_of s))) ∙ ap (λ p. p.first) e ∙ ap (λ vs. rename (place_in (distinct vs)) t) (append-nil (variables_of t))

pub named_decides : (s t : Tree) (xs ys : List ℕ) → xs ≡ distinct (variables_of s) → ys ≡ distinct (variables_of t) → (b : Bool) → b ≡ tree_eq (rename (place_in xs) s) (rename (place_in ys) t) → (b ≡ true → IsVariant s t) × (IsVariant s t → b ≡ true)
named_decides s t xs ys d e b f = (
  (λ h. variant_from_places s t xs ys (λ x c. subst (λ zs. Contains zs x) (sym d) (in_distinct (variables_of s) x c)) (λ x c. subst (λ zs. Contains zs x) (sym e) (in_distinct (variables_of t) x c)) (tree_eq-true (rename (place_in xs) s) (rename (place_in ys) t) (sym f ∙ h))),
  (λ v. f ∙ tree_eq-same (rename (place_in xs) s) (rename (place_in ys) t) (ap (λ zs. rename (place_in zs) s) d ∙ places_from_variant s t v ∙ ap (λ zs. rename (place_in zs) t) (sym e))),
)

-- where x stands in s exactly where y stands in t, both are first met at one place
mutual
  place_alike : (x y : ℕ) (s t : Tree) (xs ys : List ℕ) → stands_alike x y s t ≡ true → place_in xs x ≡ place_in ys y → place_in (variables_of s ++ xs) x ≡ place_in (variables_of t ++ ys) y
  place_alike x y (variable m) (variable n) xs ys h e = go (m == x) (n == y) h
    where
      go : (a b : Bool) → cond a b (not b) ≡ true → cond (not a) (1 + place_in xs x) 0 ≡ cond (not b) (1 + place_in ys y) 0
      go true true h = refl
      go true false h = absurd (false≢true h)
      go false true h = absurd (false≢true h)
      go false false h = ap (λ k. 1 + k) e
  place_alike x y (variable m) (apply g us) xs ys h e = absurd (false≢true h)
  place_alike x y (apply f ts) (variable n) xs ys h e = absurd (false≢true h)
  place_alike x y (apply f ts) (apply g us) xs ys h e = places_alike x y ts us xs ys (and_gives_right (f == g) (stand_alike x y ts us) h) e

  places_alike : (x y : ℕ) (ts us : Trees) (xs ys : List ℕ) → stand_alike x y ts us ≡ true → place_in xs x ≡ place_in ys y → place_in (variables_in ts ++ xs) x ≡ place_in (variables_in us ++ ys) y
  places_alike x y no_trees no_trees xs ys h e = e
  places_alike x y no_trees (more_trees u us) xs ys h e = absurd (false≢true h)
  places_alike x y (more_trees t ts) no_trees xs ys h e = absurd (false≢true h)
  places_alike x y (more_trees t ts) (more_trees u us) xs ys h e =
      ap (λ vs. place_in vs x) (append_assoc (variables_of t) (variables_in ts) xs)
      ∙ place_alike x y t u (variables_in ts ++ xs) (variables_in us ++ ys) (and_gives_left (stands_alike x y t u) (stand_alike x y ts us) h) (places_alike x y ts us xs ys (and_gives_right (stands_alike x y t u) (stand_alike x y ts us) h) e)
      ∙ ap (λ vs. place_in vs y) (sym (append_assoc (variables_of u) (variables_in us) ys))

first_place : (x y : ℕ) (s t : Tree) → stands_alike x y s t ≡ true → place_in (variables_of s) x ≡ place_in (variables_of t) y
first_place x y s t h = ap (λ vs. place_in vs x) (sym (append-nil (variables_of s))) ∙ place_alike x y s t [] [] h refl ∙ ap (λ vs. place_in vs y) (append-nil (variables_of t))

mutual
  places_from_paired : (a b s t : Tree) → is_paired a b s t ≡ true → rename (place_in (variables_of a)) s ≡ rename (place_in (variables_of b)) t
  places_from_paired a b (variable m) (variable n) h = ap variable (first_place m n a b h)
  places_from_paired a b (variable m) (apply g us) h = absurd (false≢true h)
  places_from_paired a b (apply f ts) (variable n) h = absurd (false≢true h)
  places_from_paired a b (apply f ts) (apply g us) h = ap₂ apply (eqb-true f g (and_gives_left (f == g) (are_paired a b ts us) h)) (places_from_are_paired a b ts us (and_gives_right (f == g) (are_paired a b ts us) h))

  places_from_are_paired : (a b : Tree) (ts us : Trees) → are_paired a b ts us ≡ true → instances (λ x. variable (place_in (variables_of a) x)) ts ≡ instances (λ x. variable (place_in (variables_of b) x)) us
  places_from_are_paired a b no_trees no_trees h = refl
  places_from_are_paired a b no_trees (more_trees u us) h = absurd (false≢true h)
  places_from_are_paired a b (more_trees t ts) no_trees h = absurd (false≢true h)
  places_from_are_paired a b (more_trees t ts) (more_trees u us) h = ap₂ more_trees (places_from_paired a b t u (and_gives_left (is_paired a b t u) (are_paired a b ts us) h)) (places_from_are_paired a b ts us (and_gives_right (is_paired a b t u) (are_paired a b ts us) h))

-- a renaming that tells variables apart keeps where each stands
mutual
  alike_renamed : (r : ℕ → ℕ) (vs : List ℕ) → IsApart r vs → (x : ℕ) → Contains vs x → (s : Tree) → ((y : ℕ) → Contains (variables_of s) y → Contains vs y) → stands_alike x (r x) s (rename r s) ≡ true
  alike_renamed r vs h x c (variable m) k =
      let e : (r m == r x) ≡ (m == x) = same_test r vs h x m c (k m (one m)) in
      ap (λ b. cond (m == x) b (not b)) e ∙ both (m == x)
    where
      one : (m : ℕ) → Contains (m ∷ []) m
      one m = (0, omega arith, refl)

      both : (b : Bool) → cond b b (not b) ≡ true
      both true = refl
      both false = refl
  alike_renamed r vs h x c (apply f ts) k = and_from (f == f) (stand_alike x (r x) ts (instances (λ n. variable (r n)) ts)) (eq-eqb f f refl) (alikes_renamed r vs h x c ts k)

  alikes_renamed : (r : ℕ → ℕ) (vs : List ℕ) → IsApart r vs → (x : ℕ) → Contains vs x → (ts : Trees) → ((y : ℕ) → Contains (variables_in ts) y → Contains vs y) → stand_alike x (r x) ts (instances (λ n. variable (r n)) ts) ≡ true
  alikes_renamed r vs h x c no_trees k = refl
  alikes_renamed r vs h x c (more_trees t ts) k = and_from (stands_alike x (r x) t (rename r t)) (stand_alike x (r x) ts (instances (λ n. variable (r n)) ts)) (alike_renamed r vs h x c t (λ y d. k y (Contains-append_left (variables_of t) (variables_in ts) y d))) (alikes_renamed r vs h x c ts (λ y d. k y (Contains-append_right (variables_of t) (variables_in ts) y d)))

mutual
  paired_renamed : (r : ℕ → ℕ) (a : Tree) → IsApart r (variables_of a) → (s : Tree) → ((y : ℕ) → Contains (variables_of s) y → Contains (variables_of a) y) → is_paired a (rename r a) s (rename r s) ≡ true
  paired_renamed r a h (variable m) k = alike_renamed r (variables_of a) h m (k m (0, omega arith, refl)) a (λ y c. c)
  paired_renamed r a h (apply f ts) k = and_from (f == f) (are_paired a (rename r a) ts (instances (λ n. variable (r n)) ts)) (eq-eqb f f refl) (are_paired_renamed r a h ts k)

  are_paired_renamed : (r : ℕ → ℕ) (a : Tree) → IsApart r (variables_of a) → (ts : Trees) → ((y : ℕ) → Contains (variables_in ts) y → Contains (variables_of a) y) → are_paired a (rename r a) ts (instances (λ n. variable (r n)) ts) ≡ true
  are_paired_renamed r a h no_trees k = refl
  are_paired_renamed r a h (more_trees t ts) k = and_from (is_paired a (rename r a) t (rename r t)) (are_paired a (rename r a) ts (instances (λ n. variable (r n)) ts)) (paired_renamed r a h t (λ y d. k y (Contains-append_left (variables_of t) (variables_in ts) y d))) (are_paired_renamed r a h ts (λ y d. k y (Contains-append_right (variables_of t) (variables_in ts) y d)))

pub paired_decides : (s t : Tree) (b : Bool) → b ≡ is_paired s t s t → (b ≡ true → IsVariant s t) × (IsVariant s t → b ≡ true)
paired_decides s t b f = (
  (λ h. variant_from_places s t (variables_of s) (variables_of t) (λ x c. c) (λ x c. c) (places_from_paired s t s t (sym f ∙ h))),
  (λ v. f ∙ forth v),
)
  where
    forth : IsVariant s t → is_paired s t s t ≡ true
    forth (r, back, h) =
        let apart : IsApart r (variables_of s) = λ x y c d e. sym (turned_back r back s (ap (rename back) h.there ∙ h.back_again) x c) ∙ ap back e ∙ turned_back r back s (ap (rename back) h.there ∙ h.back_again) y d in
        subst (λ u. is_paired s u s u ≡ true) h.there (paired_renamed r s apart s (λ y c. c))
