-- The first names of a list of variables, as one more variable comes; and how many there are in either order.
use Rattle.std.proofs.Common.{◌≡◌, refl, ap, sym, ◌∙◌, arith, ℕ, suc, ◌+◌, ◌≤◌, ◌<◌, List, [], ◌∷◌, ◌++◌, length, take, Bool, true, false, cond, append_assoc, append-nil}
use Rattle.std.specs.Prelude.{not, ◌==◌, ◌||◌, filter}
use Rattle.std.proofs.lemmas.List.{take_all, take-append-le, length-take, length-append}
use Rattle.std.proofs.lemmas.Bool.{false≢true, eqb-true}
use Rattle.kb_term.specs.Tree.{Tree, variables_of}
use Rattle.kb_term.specs.Pair.{distinct, place_in, variables_of_pair}
use Rattle.kb_term.proofs.Distinct.{has, distinct-push}

-- a name at a place is among them, and one at none isn't
pub has-place : (xs : List ℕ) (x : ℕ) → place_in xs x < length xs → has x xs ≡ true
has-place [] x h = absurd (omega (arith, h))
has-place (y ∷ ys) x h = go (has-place ys x) (y == x) refl
  where
    go : (place_in ys x < length ys → has x ys ≡ true) → (b : Bool) → (y == x) ≡ b → ((y == x) || has x ys) ≡ true
    go ih true e = rw e refl
    go ih false e =
        let k : cond (not (y == x)) (1 + place_in ys x) 0 < suc (length ys) = h in
        let l : 1 + place_in ys x < suc (length ys) = rw e at k in
        rw e (ih (omega (arith, l)))

pub has-no_place : (xs : List ℕ) (x : ℕ) → place_in xs x ≡ length xs → has x xs ≡ false
has-no_place [] x h = refl
has-no_place (y ∷ ys) x h = go (has-no_place ys x) (y == x) refl
  where
    go : (place_in ys x ≡ length ys → has x ys ≡ false) → (b : Bool) → (y == x) ≡ b → ((y == x) || has x ys) ≡ false
    go ih true e =
        let k : cond (not (y == x)) (1 + place_in ys x) 0 ≡ suc (length ys) = h in
        let l : 0 ≡ suc (length ys) = rw e at k in
        absurd (omega (arith, l))
    go ih false e =
        let k : cond (not (y == x)) (1 + place_in ys x) 0 ≡ suc (length ys) = h in
        let l : 1 + place_in ys x ≡ suc (length ys) = rw e at k in
        rw e (ih (omega (arith, l)))

pub names-new : (n : ℕ) (vs names : List ℕ) (x : ℕ) → names ≡ take n (distinct vs) → length names < n → has x names ≡ false → names ++ x ∷ [] ≡ take n (distinct (vs ++ x ∷ []))
names-new n vs names x e h k =
    let short : length (distinct vs) < n = omega (arith, h, ap (length {A = ℕ}) e, length-take n (distinct vs)) in
    let same : names ≡ distinct vs = e ∙ take_all n (distinct vs) (omega (arith, short)) in
    let absent : has x (distinct vs) ≡ false = ap (has x) (sym same) ∙ k in
    let more : length (distinct vs ++ x ∷ []) ≤ n = omega (arith, short, length-append (distinct vs) (x ∷ [])) in
    ap (λ ns. ns ++ x ∷ []) same ∙ sym (take_all n (distinct vs ++ x ∷ []) more) ∙ sym (rw (distinct-push vs x, absent) refl)

pub names-old : (n : ℕ) (vs names : List ℕ) (x : ℕ) → names ≡ take n (distinct vs) → length names < n → has x names ≡ true → names ≡ take n (distinct (vs ++ x ∷ []))
names-old n vs names x e h k =
    let short : length (distinct vs) < n = omega (arith, h, ap (length {A = ℕ}) e, length-take n (distinct vs)) in
    let same : names ≡ distinct vs = e ∙ take_all n (distinct vs) (omega (arith, short)) in
    let present : has x (distinct vs) ≡ true = ap (has x) (sym same) ∙ k in
    e ∙ sym (rw (distinct-push vs x, present) refl)

pub names-full : (n : ℕ) (vs names : List ℕ) (x : ℕ) → names ≡ take n (distinct vs) → n ≤ length names → names ≡ take n (distinct (vs ++ x ∷ []))
names-full n vs names x e h = go (has x (distinct vs)) refl
  where
    long : n ≤ length (distinct vs)
    long = omega (arith, h, ap (length {A = ℕ}) e, length-take n (distinct vs))

    go : (b : Bool) → has x (distinct vs) ≡ b → names ≡ take n (distinct (vs ++ x ∷ []))
    go true f = e ∙ sym (rw (distinct-push vs x, f) refl)
    go false f = e ∙ sym (rw (distinct-push vs x, f) (take-append-le n (distinct vs) (x ∷ []) long))

-- each member stands once in the list
abbrev pub IsUnique : List ℕ → Type 0
IsUnique [] = Unit {0}
IsUnique (x ∷ xs) = (has x xs ≡ false) × IsUnique xs

has-left_out : (x y : ℕ) (xs : List ℕ) → has x xs ≡ false → has x (filter (λ z. not (z == y)) xs) ≡ false
has-left_out x y [] h = refl
has-left_out x y (z ∷ zs) h = go (has-left_out x y zs) (z == y) refl (z == x) refl
  where
    go : (has x zs ≡ false → has x (filter (λ z. not (z == y)) zs) ≡ false) → (b : Bool) → (z == y) ≡ b → (c : Bool) → (z == x) ≡ c → has x (cond (not (z == y)) (z ∷ filter (λ z. not (z == y)) zs) (filter (λ z. not (z == y)) zs)) ≡ false
    go ih b e true f =
        let k : ((z == x) || has x zs) ≡ false = h in
        let l : true ≡ false = rw f at k in
        absurd (false≢true (sym l))
    go ih true e false f =
        let k : ((z == x) || has x zs) ≡ false = h in
        let l : has x zs ≡ false = rw f at k in
        rw e (ih l)
    go ih false e false f =
        let k : ((z == x) || has x zs) ≡ false = h in
        let l : has x zs ≡ false = rw f at k in
        rw (e, f) (ih l)

has-gone : (x : ℕ) (xs : List ℕ) → has x (filter (λ z. not (z == x)) xs) ≡ false
has-gone x [] = refl
has-gone x (z ∷ zs) = go (has-gone x zs) (z == x) refl
  where
    go : has x (filter (λ z. not (z == x)) zs) ≡ false → (b : Bool) → (z == x) ≡ b → has x (cond (not (z == x)) (z ∷ filter (λ z. not (z == x)) zs) (filter (λ z. not (z == x)) zs)) ≡ false
    go ih true e = rw e ih
    go ih false e = rw (e, e) ih

unique-left_out : (y : ℕ) (xs : List ℕ) → IsUnique xs → IsUnique (filter (λ z. not (z == y)) xs)
unique-left_out y [] u = u
unique-left_out y (z ∷ zs) u = go (unique-left_out y zs u.1) (z == y) refl
  where
    go : IsUnique (filter (λ z. not (z == y)) zs) → (b : Bool) → (z == y) ≡ b → IsUnique (cond (not (z == y)) (z ∷ filter (λ z. not (z == y)) zs) (filter (λ z. not (z == y)) zs))
    go ih true e = rw e ih
    go ih false e = rw e (has-left_out z y zs u.0, ih)

pub unique-distinct : (xs : List ℕ) → IsUnique (distinct xs)
unique-distinct [] = tt
unique-distinct (x ∷ xs) = (has-gone x (distinct xs), unique-left_out x (distinct xs) (unique-distinct xs))

-- nothing is left out that isn't there
left_out-none : (x : ℕ) (xs : List ℕ) → has x xs ≡ false → filter (λ z. not (z == x)) xs ≡ xs
left_out-none x [] h = refl
left_out-none x (z ∷ zs) h = go (left_out-none x zs) (z == x) refl
  where
    go : (has x zs ≡ false → filter (λ z. not (z == x)) zs ≡ zs) → (b : Bool) → (z == x) ≡ b → cond (not (z == x)) (z ∷ filter (λ z. not (z == x)) zs) (filter (λ z. not (z == x)) zs) ≡ z ∷ zs
    go ih true e =
        let k : ((z == x) || has x zs) ≡ false = h in
        let l : true ≡ false = rw e at k in
        absurd (false≢true (sym l))
    go ih false e =
        let k : ((z == x) || has x zs) ≡ false = h in
        let l : has x zs ≡ false = rw e at k in
        rw e (ap (λ ys. z ∷ ys) (ih l))

-- x moved to the front of a list in which each stands once
moved : (x : ℕ) (xs : List ℕ) → IsUnique xs → 1 + length (filter (λ z. not (z == x)) xs) ≡ length (cond (has x xs) xs (xs ++ x ∷ []))
moved x [] u = refl
moved x (z ∷ zs) u = go (moved x zs u.1) (z == x) refl (has x zs) refl
  where
    go : 1 + length (filter (λ z. not (z == x)) zs) ≡ length (cond (has x zs) zs (zs ++ x ∷ [])) → (b : Bool) → (z == x) ≡ b → (c : Bool) → has x zs ≡ c → 1 + length (cond (not (z == x)) (z ∷ filter (λ z. not (z == x)) zs) (filter (λ z. not (z == x)) zs)) ≡ length (cond ((z == x) || has x zs) (z ∷ zs) (z ∷ zs ++ x ∷ []))
    go ih true e c f =
        let absent : has x zs ≡ false = ap (λ y. has y zs) (sym (eqb-true z x e)) ∙ u.0 in
        rw (e, left_out-none x zs absent) (omega arith)
    go ih false e true f =
        let k : 1 + length (filter (λ z. not (z == x)) zs) ≡ length zs = rw f at ih in
        rw (e, f) (omega (arith, k))
    go ih false e false f =
        let k : 1 + length (filter (λ z. not (z == x)) zs) ≡ length (zs ++ x ∷ []) = rw f at ih in
        rw (e, f) (omega (arith, k))

distinct-moved : (x : ℕ) (xs : List ℕ) → length (distinct (x ∷ xs)) ≡ length (distinct (xs ++ x ∷ []))
distinct-moved x xs =
    let a = moved x (distinct xs) (unique-distinct xs) in
    rw (distinct-push xs x) (omega (arith, a))

-- how many different members two lists have together doesn't hang on their order
pub distinct-swapped : (xs ys : List ℕ) → length (distinct (xs ++ ys)) ≡ length (distinct (ys ++ xs))
distinct-swapped [] ys = ap (λ zs. length (distinct zs)) (sym (append-nil ys))
distinct-swapped (x ∷ xs) ys =
    distinct-moved x (xs ++ ys)
    ∙ ap (λ zs. length (distinct zs)) (append_assoc xs ys (x ∷ []))
    ∙ distinct-swapped xs (ys ++ x ∷ [])
    ∙ ap (λ zs. length (distinct zs)) (append_assoc ys (x ∷ []) xs)

pub variables_of_pair-swapped : (s t : Tree) → length (variables_of_pair s t) ≡ length (variables_of_pair t s)
variables_of_pair-swapped s t = distinct-swapped (variables_of s) (variables_of t)
