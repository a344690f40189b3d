-- Pairs are variants exactly where they are numbered alike.
use Rattle.std.proofs.Common.{ℕ, suc, ◌+◌, ◌≡◌, ◌⊎◌, inl, inr, refl, sym, ap, ap₂, ◌∙◌, subst, arith, List, [], ◌∷◌, ◌++◌, map, filter, get_or, Contains, Bool, true, false, not, cond, ◌==◌, ⊎_elim}
use Rattle.std.proofs.lemmas.List.Elements.{Contains-append_cases, Contains-append_left, Contains-append_right}
use Rattle.std.proofs.lemmas.Bool.{cases_eq, cond-true, cond-false, eq-eqb, ne_eqb, cond_both}
use Rattle.kb_lemmas.proofs.Membership.{contains_cases, contains_behind, contains_first}
use Rattle.kb_term.specs.Tree.{Tree, variable, apply, Trees, no_trees, more_trees, variables_of, variables_in}
use Rattle.kb_term.specs.Substitution.{instances, rename}
use Rattle.kb_term.specs.Pair.{distinct, place_in, variables_of_pair, numbered, IsVariantEquation}
use Rattle.kb_term.proofs.Steps.{occurs_from, occurs_to}
use Rattle.kb_term.proofs.Instances.{instance-agree, agree_at, instance-instance, instance-variable}

pub rename-rename : (f g : ℕ → ℕ) (t : Tree) → rename f (rename g t) ≡ rename (λ x. f (g x)) t
rename-rename f g t = instance-instance (λ x. variable (f x)) (λ x. variable (g x)) t

pub rename_agree : (f g : ℕ → ℕ) (t : Tree) → ((x : ℕ) → Contains (variables_of t) x → f x ≡ g x) → rename f t ≡ rename g t
rename_agree f g t h = instance-agree (λ x. variable (f x)) (λ x. variable (g x)) t (λ x o. ap variable (h x (occurs_to x t o)))

pub rename_same : (f : ℕ → ℕ) (t : Tree) → ((x : ℕ) → Contains (variables_of t) x → f x ≡ x) → rename f t ≡ t
rename_same f t h = rename_agree f (λ x. x) t h ∙ instance-variable t

pub same_variable : (x y : ℕ) → variable x ≡ variable y → x ≡ y
same_variable x y e = cc

-- a renaming that is turned back gives each variable back
pub turned_back : (f g : ℕ → ℕ) (t : Tree) → rename g (rename f t) ≡ t → (x : ℕ) → Contains (variables_of t) x → g (f x) ≡ x
turned_back f g t e x c = same_variable (g (f x)) x (agree_at (λ y. variable (g (f y))) variable t (sym (rename-rename g f t) ∙ e ∙ sym (instance-variable t)) x (occurs_from x t c))

-- members of a filtered list, and of the distinct members
pub filter_in : (p : ℕ → Bool) (xs : List ℕ) (x : ℕ) → Contains (filter p xs) x → Contains xs x
filter_in p [] x c = c
filter_in p (y ∷ ys) x c = (cond_both (p y) (y ∷ filter p ys) (filter p ys) (λ zs. Contains zs x → Contains (y ∷ ys) x)
    (λ e d. ⊎_elim (λ q. subst (Contains (y ∷ ys)) q (contains_first y ys)) (λ k. contains_behind y ys x (filter_in p ys x k)) (contains_cases y (filter p ys) x d))
    (λ e d. contains_behind y ys x (filter_in p ys x d))) c

pub filter_kept : (p : ℕ → Bool) (xs : List ℕ) (x : ℕ) → p x ≡ true → Contains xs x → Contains (filter p xs) x
filter_kept p [] x h c = c
filter_kept p (y ∷ ys) x h c = cond_both (p y) (y ∷ filter p ys) (filter p ys) (λ zs. Contains zs x)
    (λ e. ⊎_elim (λ q. subst (Contains (y ∷ filter p ys)) q (contains_first y (filter p ys))) (λ k. contains_behind y (filter p ys) x (filter_kept p ys x h k)) (contains_cases y ys x c))
    (λ e. ⊎_elim (λ q. absurd (let r : true ≡ false = sym h ∙ ap p (sym q) ∙ e in cc)) (λ k. filter_kept p ys x h k) (contains_cases y ys x c))

pub distinct_in : (xs : List ℕ) (x : ℕ) → Contains (distinct xs) x → Contains xs x
distinct_in [] x c = c
distinct_in (y ∷ ys) x c = ⊎_elim (λ q. subst (Contains (y ∷ ys)) q (contains_first y ys)) (λ k. contains_behind y ys x (distinct_in ys x (filter_in (λ z. not (z == y)) (distinct ys) x k))) (contains_cases y (filter (λ z. not (z == y)) (distinct ys)) x c)

pub in_distinct : (xs : List ℕ) (x : ℕ) → Contains xs x → Contains (distinct xs) x
in_distinct [] x c = c
in_distinct (y ∷ ys) x c = go (cases_eq y x) (λ k. in_distinct ys x k)
  where
    rest : List ℕ
    rest = filter (λ z. not (z == y)) (distinct ys)

    go : (y ≡ x) ⊎ (y ≡ x → ⊥) → (Contains ys x → Contains (distinct ys) x) → Contains (y ∷ rest) x
    go (inl e) h = subst (Contains (y ∷ rest)) e (contains_first y rest)
    go (inr n) h = contains_behind y rest x (filter_kept (λ z. not (z == y)) (distinct ys) x (ap not (ne_eqb x y (λ e. n (sym e)))) (⊎_elim (λ e. absurd (n e)) (λ k. h k) (contains_cases y ys x c)))

-- the member at its place
pub at_place : (xs : List ℕ) (x d : ℕ) → Contains xs x → get_or xs (place_in xs x) d ≡ x
at_place [] x d c = absurd (omega arith)
at_place (y ∷ ys) x d c = go (cases_eq y x) (λ k. at_place ys x d k)
  where
    go : (y ≡ x) ⊎ (y ≡ x → ⊥) → (Contains ys x → get_or ys (place_in ys x) d ≡ x) → get_or (y ∷ ys) (place_in (y ∷ ys) x) d ≡ x
    go (inl e) h = ap (λ b. get_or (y ∷ ys) (cond (not b) (1 + place_in ys x) 0) d) (eq-eqb y x e) ∙ e
    go (inr n) h =
        let one : 1 + place_in ys x ≡ suc (place_in ys x) = omega arith in
        ap (λ b. get_or (y ∷ ys) (cond (not b) (1 + place_in ys x) 0) d) (ne_eqb y x n) ∙ ap (λ k. get_or (y ∷ ys) k d) one ∙ h (⊎_elim (λ e. absurd (n e)) (λ k. k) (contains_cases y ys x c))

-- numbering and back
pub unnumbered : (s t : Tree) (u : Tree) → ((x : ℕ) → Contains (variables_of u) x → Contains (variables_of s ++ variables_of t) x) → rename (λ n. get_or (variables_of_pair s t) n 0) (rename (place_in (variables_of_pair s t)) u) ≡ u
unnumbered s t u h = rename-rename (λ n. get_or (variables_of_pair s t) n 0) (place_in (variables_of_pair s t)) u ∙ rename_same (λ x. get_or (variables_of_pair s t) (place_in (variables_of_pair s t) x) 0) u (λ x c. at_place (variables_of_pair s t) x 0 (in_distinct (variables_of s ++ variables_of t) x (h x c)))

-- pairs that are numbered alike are variants
pub variants_from_numbered : (s t u v : Tree) → numbered s t ≡ numbered u v → IsVariantEquation (s, t) (u, v)
variants_from_numbered s t u v e = (over s t u v, over u v s t, record { there = one s t u v e s u (left s t) (left u v) (ap (λ p. p.first) e); back_again = one u v s t (sym e) u s (left u v) (left s t) (ap (λ p. p.first) (sym e)) }, record { there = one s t u v e t v (right s t) (right u v) (ap (λ p. p.second) e); back_again = one u v s t (sym e) v t (right u v) (right s t) (ap (λ p. p.second) (sym e)) })
  where
    over : Tree → Tree → Tree → Tree → ℕ → ℕ
    over s t u v x = get_or (variables_of_pair u v) (place_in (variables_of_pair s t) x) 0

    left : (a b : Tree) (x : ℕ) → Contains (variables_of a) x → Contains (variables_of a ++ variables_of b) x
    left a b x c = Contains-append_left (variables_of a) (variables_of b) x c

    right : (a b : Tree) (x : ℕ) → Contains (variables_of b) x → Contains (variables_of a ++ variables_of b) x
    right a b x c = Contains-append_right (variables_of a) (variables_of b) x c

    one : (s t u v : Tree) → numbered s t ≡ numbered u v → (a b : Tree) → ((x : ℕ) → Contains (variables_of a) x → Contains (variables_of s ++ variables_of t) x) → ((x : ℕ) → Contains (variables_of b) x → Contains (variables_of u ++ variables_of v) x)
        → rename (place_in (variables_of_pair s t)) a ≡ rename (place_in (variables_of_pair u v)) b → rename (over s t u v) a ≡ b
    one s t u v e a b h k d = sym (rename-rename (λ n. get_or (variables_of_pair u v) n 0) (place_in (variables_of_pair s t)) a) ∙ ap (rename (λ n. get_or (variables_of_pair u v) n 0)) d ∙ unnumbered u v b k

-- the renaming tells the variables of a list apart
abbrev pub IsApart : (ℕ → ℕ) → List ℕ → Type 0
IsApart r vs = (x y : ℕ) → Contains vs x → Contains vs y → r x ≡ r y → x ≡ y

pub same_test : (r : ℕ → ℕ) (vs : List ℕ) → IsApart r vs → (x y : ℕ) → Contains vs x → Contains vs y → (r y == r x) ≡ (y == x)
same_test r vs h x y c d = go (cases_eq y x)
  where
    go : (y ≡ x) ⊎ (y ≡ x → ⊥) → (r y == r x) ≡ (y == x)
    go (inl e) = eq-eqb (r y) (r x) (ap r e) ∙ sym (eq-eqb y x e)
    go (inr n) = ne_eqb (r y) (r x) (λ e. n (h y x d c e)) ∙ sym (ne_eqb y x n)

pub filter_renamed : (r : ℕ → ℕ) (vs : List ℕ) → IsApart r vs → (x : ℕ) → Contains vs x → (ds : List ℕ) → ((y : ℕ) → Contains ds y → Contains vs y) → filter (λ z. not (z == r x)) (map r ds) ≡ map r (filter (λ z. not (z == x)) ds)
filter_renamed r vs h x c [] k = refl
filter_renamed r vs h x c (y ∷ ds) k =
    let e = filter_renamed r vs h x c ds (λ z i. k z (contains_behind y ds z i)) in
    ap₂ (λ b zs. cond (not b) (r y ∷ zs) zs) (same_test r vs h x y c (k y (contains_first y ds))) e
    ∙ cond_both (not (y == x)) (y ∷ filter (λ z. not (z == x)) ds) (filter (λ z. not (z == x)) ds)
    (λ zs. cond (not (y == x)) (r y ∷ map r (filter (λ z. not (z == x)) ds)) (map r (filter (λ z. not (z == x)) ds)) ≡ map r zs)
    (λ q. cond-true (not (y == x)) (r y ∷ map r (filter (λ z. not (z == x)) ds)) (map r (filter (λ z. not (z == x)) ds)) q)
    (λ q. cond-false (not (y == x)) (r y ∷ map r (filter (λ z. not (z == x)) ds)) (map r (filter (λ z. not (z == x)) ds)) q)

pub distinct_renamed : (r : ℕ → ℕ) (vs : List ℕ) → IsApart r vs → (xs : List ℕ) → ((y : ℕ) → Contains xs y → Contains vs y) → distinct (map r xs) ≡ map r (distinct xs)
distinct_renamed r vs h [] k = refl
distinct_renamed r vs h (x ∷ xs) k =
    ap (λ zs. r x ∷ filter (λ z. not (z == r x)) zs) (distinct_renamed r vs h xs (λ y c. k y (contains_behind x xs y c)))
    ∙ ap (λ zs. r x ∷ zs) (filter_renamed r vs h x (k x (contains_first x xs)) (distinct xs) (λ y c. k y (contains_behind x xs y (distinct_in xs y c))))

pub place_renamed : (r : ℕ → ℕ) (vs : List ℕ) → IsApart r vs → (x : ℕ) → Contains vs x → (ds : List ℕ) → ((y : ℕ) → Contains ds y → Contains vs y) → place_in (map r ds) (r x) ≡ place_in ds x
place_renamed r vs h x c [] k = refl
place_renamed r vs h x c (y ∷ ds) k = ap₂ (λ b n. cond (not b) (1 + n) 0) (same_test r vs h x y c (k y (contains_first y ds))) (place_renamed r vs h x c ds (λ z i. k z (contains_behind y ds z i)))

pub map_append : (r : ℕ → ℕ) (xs ys : List ℕ) → map r (xs ++ ys) ≡ map r xs ++ map r ys
map_append r [] ys = refl
map_append r (x ∷ xs) ys = ap (λ zs. r x ∷ zs) (map_append r xs ys)

mutual
  pub variables_renamed : (r : ℕ → ℕ) (t : Tree) → variables_of (rename r t) ≡ map r (variables_of t)
  variables_renamed r (variable n) = refl
  variables_renamed r (apply f ts) = variables_in_renamed r ts

  pub variables_in_renamed : (r : ℕ → ℕ) (ts : Trees) → variables_in (instances (λ x. variable (r x)) ts) ≡ map r (variables_in ts)
  variables_in_renamed r no_trees = refl
  variables_in_renamed r (more_trees t ts) = ap₂ (λ xs ys. xs ++ ys) (variables_renamed r t) (variables_in_renamed r ts) ∙ sym (map_append r (variables_of t) (variables_in ts))

pub numbered_renamed : (r : ℕ → ℕ) (s t : Tree) → IsApart r (variables_of s ++ variables_of t) → numbered (rename r s) (rename r t) ≡ numbered s t
numbered_renamed r s t h = ap₂ (λ (a b : Tree). record { first = a; second = b }) (one s (λ x c. Contains-append_left (variables_of s) (variables_of t) x c)) (one t (λ x c. Contains-append_right (variables_of s) (variables_of t) x c))
  where
    vs : List ℕ
    vs = variables_of s ++ variables_of t

    all : variables_of_pair (rename r s) (rename r t) ≡ map r (distinct vs)
    all = ap distinct (ap₂ (λ xs ys. xs ++ ys) (variables_renamed r s) (variables_renamed r t) ∙ sym (map_append r (variables_of s) (variables_of t))) ∙ distinct_renamed r vs h vs (λ y c. c)

    one : (u : Tree) → ((x : ℕ) → Contains (variables_of u) x → Contains vs x) → rename (place_in (variables_of_pair (rename r s) (rename r t))) (rename r u) ≡ rename (place_in (distinct vs)) u
    one u k = ap (λ ds. rename (place_in ds) (rename r u)) all ∙ rename-rename (place_in (map r (distinct vs))) r u
        ∙ rename_agree (λ x. place_in (map r (distinct vs)) (r x)) (place_in (distinct vs)) u (λ x c. place_renamed r vs h x (k x c) (distinct vs) (λ y d. distinct_in vs y d))

-- variants are numbered alike
pub numbered_from_variants : (s t u v : Tree) → IsVariantEquation (s, t) (u, v) → numbered s t ≡ numbered u v
numbered_from_variants s t u v (r, back, n, k) =
    let apart : IsApart r (variables_of s ++ variables_of t) = λ x y c d e. sym (given x c) ∙ ap back e ∙ given y d in
    sym (numbered_renamed r s t apart) ∙ ap₂ numbered n.there k.there
  where
    given : (x : ℕ) → Contains (variables_of s ++ variables_of t) x → back (r x) ≡ x
    given x c = ⊎_elim (λ d. turned_back r back s (ap (rename back) n.there ∙ n.back_again) x d) (λ d. turned_back r back t (ap (rename back) k.there ∙ k.back_again) x d) (Contains-append_cases (variables_of s) (variables_of t) x c)
