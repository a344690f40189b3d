-- Names numbered by first occurrence: their numbers are the places of these numbers.
use Rattle.std.proofs.Common.{◌≡◌, ◌⊎◌, inl, inr, refl, ap, sym, ◌∙◌, arith, ℕ, ◌+◌, List, [], ◌∷◌, map, filter, Bool, true, false, not, cond, ◌&&◌, ◌||◌, ◌==◌}
use Rattle.std.specs.Prelude.{bytes_eq}
use Rattle.std.proofs.lemmas.Bool.{cases_eq, eq-eqb, ne_eqb, or_left, or_right, or_parts, or_from}
use Rattle.kb_text.proofs.RewrittenLists.{same_name}
use Rattle.kb_term.specs.Pair.{distinct, place_in}
use Rattle.kb_text.specs.Names.{Name, is_among, firsts, number_of, are_distinct}
use Rattle.kb_text.proofs.Firsts.{same_bytes, bytes_eq-other, bytes_eq-comm, is_among-firsts}
use Rattle.kb_syntax.proofs.FitsLists.{not_either}

-- a name among those that pass a test of names
pub among-filter : (vars xs : List Name) (x : Name) → is_among (filter (is_among vars) xs) x ≡ (is_among xs x && is_among vars x)
among-filter vars [] x = refl
among-filter vars (y ∷ ys) x = go (is_among vars y) refl (bytes_eq x y) refl (among-filter vars ys x)
  where
    kept : List Name
    kept = filter (is_among vars) ys

    and_false : (b : Bool) → (b && false) ≡ false
    and_false true = refl
    and_false false = refl

    go : (a : Bool) → is_among vars y ≡ a → (b : Bool) → bytes_eq x y ≡ b → is_among (filter (is_among vars) ys) x ≡ (is_among ys x && is_among vars x) → is_among (cond a (y ∷ filter (is_among vars) ys) (filter (is_among vars) ys)) x ≡ ((b || is_among ys x) && is_among vars x)
    go true p true q ih = ap (λ (b : Bool). b || is_among (filter (is_among vars) ys) x) q ∙ sym (ap (is_among vars) (same_bytes x y q) ∙ p)
    go true p false q ih = ap (λ (b : Bool). b || is_among (filter (is_among vars) ys) x) q ∙ ih
    go false p true q ih = let v : is_among vars x ≡ false = ap (is_among vars) (same_bytes x y q) ∙ p in ih ∙ ap (is_among ys x &&◌) v ∙ and_false (is_among ys x) ∙ sym v
    go false p false q ih = ih

-- ---- the first occurrences differ

not_among_others : (fs : List Name) (x : Name) → is_among (filter (λ y. not (bytes_eq y x)) fs) x ≡ false
not_among_others [] x = refl
not_among_others (z ∷ zs) x = go (bytes_eq z x) refl (not_among_others zs x)
  where
    go : (b : Bool) → bytes_eq z x ≡ b → is_among (filter (λ y. not (bytes_eq y x)) zs) x ≡ false → is_among (cond (not b) (z ∷ filter (λ y. not (bytes_eq y x)) zs) (filter (λ y. not (bytes_eq y x)) zs)) x ≡ false
    go true e ih = ih
    go false e ih = or_from (bytes_eq x z) _ (bytes_eq-comm z x false e) ih

not_among_kept : (p : Name → Bool) (fs : List Name) (x : Name) → is_among fs x ≡ false → is_among (filter p fs) x ≡ false
not_among_kept p [] x h = refl
not_among_kept p (z ∷ zs) x h = let r = or_parts (bytes_eq x z) (is_among zs x) h in go (p z) r.0 (not_among_kept p zs x r.1)
  where
    go : (b : Bool) → bytes_eq x z ≡ false → is_among (filter p zs) x ≡ false → is_among (cond b (z ∷ filter p zs) (filter p zs)) x ≡ false
    go true e ih = or_from (bytes_eq x z) _ e ih
    go false e ih = ih

distinct_kept : (p : Name → Bool) (fs : List Name) → are_distinct fs ≡ true → are_distinct (filter p fs) ≡ true
distinct_kept p [] h = refl
distinct_kept p (z ∷ zs) h = let r = not_either (is_among zs z) (are_distinct zs) h in go (p z) r.0 (distinct_kept p zs r.1)
  where
    go : (b : Bool) → is_among zs z ≡ false → are_distinct (filter p zs) ≡ true → are_distinct (cond b (z ∷ filter p zs) (filter p zs)) ≡ true
    go true e ih = (λ i. cond (not_among_kept p zs z e i) false (ih i))
    go false e ih = ih

pub distinct_firsts : (xs : List Name) → are_distinct (firsts xs) ≡ true
distinct_firsts [] = refl
distinct_firsts (x ∷ xs) = (λ i. cond (not_among_others (firsts xs) x i) false (distinct_kept (λ y. not (bytes_eq y x)) (firsts xs) (distinct_firsts xs) i))

-- ---- numbers

number_apart : (fs : List Name) (x y : Name) → is_among fs x ≡ true → is_among fs y ≡ true → number_of fs x ≡ number_of fs y → x ≡ y
number_apart [] x y a b e = absurd (cc)
number_apart (z ∷ zs) x y a b e = go (bytes_eq x z) refl (bytes_eq y z) refl a b e (number_apart zs x y)
  where
    go : (p : Bool) → bytes_eq x z ≡ p → (q : Bool) → bytes_eq y z ≡ q → (p || is_among zs x) ≡ true → (q || is_among zs y) ≡ true → cond p 0 (number_of zs x + 1) ≡ cond q 0 (number_of zs y + 1)
        → (is_among zs x ≡ true → is_among zs y ≡ true → number_of zs x ≡ number_of zs y → x ≡ y) → x ≡ y
    go true p true q a b e ih = same_bytes x z p ∙ sym (same_bytes y z q)
    go true p false q a b e ih = absurd (omega (arith, e))
    go false p true q a b e ih = absurd (omega (arith, e))
    go false p false q a b e ih = ih a b (omega (arith, e))

pub same_number : (fs : List Name) (x y : Name) → is_among fs x ≡ true → is_among fs y ≡ true → (number_of fs y == number_of fs x) ≡ bytes_eq y x
same_number fs x y a b = go (bytes_eq y x) refl
  where
    go : (p : Bool) → bytes_eq y x ≡ p → (number_of fs y == number_of fs x) ≡ bytes_eq y x
    go true p = eq-eqb (number_of fs y) (number_of fs x) (ap (number_of fs) (same_bytes y x p)) ∙ sym p
    go false p = ne_eqb (number_of fs y) (number_of fs x) (λ e. bytes_eq-other y x p (number_apart fs y x b a e)) ∙ sym p

filter_numbers : (fs : List Name) (x : Name) → is_among fs x ≡ true → (ds : List Name) → ((y : Name) → is_among ds y ≡ true → is_among fs y ≡ true) → filter (λ z. not (z == number_of fs x)) (map (number_of fs) ds) ≡ map (number_of fs) (filter (λ y. not (bytes_eq y x)) ds)
filter_numbers fs x a [] h = refl
filter_numbers fs x a (y ∷ ds) h = go (bytes_eq y x) refl (filter_numbers fs x a ds (λ z c. h z (or_right (bytes_eq z y) (is_among ds z) c)))
  where
    s : (number_of fs y == number_of fs x) ≡ bytes_eq y x
    s = same_number fs x y a (h y (or_left (bytes_eq y y) (is_among ds y) (same_name y)))

    go : (b : Bool) → bytes_eq y x ≡ b → filter (λ z. not (z == number_of fs x)) (map (number_of fs) ds) ≡ map (number_of fs) (filter (λ y. not (bytes_eq y x)) ds)
        → filter (λ z. not (z == number_of fs x)) (number_of fs y ∷ map (number_of fs) ds) ≡ map (number_of fs) (cond (not b) (y ∷ filter (λ y. not (bytes_eq y x)) ds) (filter (λ y. not (bytes_eq y x)) ds))
    go true e ih = ap (λ (b : Bool). cond (not b) (number_of fs y ∷ filter (λ z. not (z == number_of fs x)) (map (number_of fs) ds)) (filter (λ z. not (z == number_of fs x)) (map (number_of fs) ds))) (s ∙ e) ∙ ih
    go false e ih = ap (λ (b : Bool). cond (not b) (number_of fs y ∷ filter (λ z. not (z == number_of fs x)) (map (number_of fs) ds)) (filter (λ z. not (z == number_of fs x)) (map (number_of fs) ds))) (s ∙ e) ∙ ap (number_of fs y ∷◌) ih

-- the different numbers are those of the different names
pub distinct_numbers : (fs xs : List Name) → ((y : Name) → is_among xs y ≡ true → is_among fs y ≡ true) → distinct (map (number_of fs) xs) ≡ map (number_of fs) (firsts xs)
distinct_numbers fs [] h = refl
distinct_numbers fs (x ∷ xs) h =
    ap (λ (ns : List ℕ). number_of fs x ∷ filter (λ z. not (z == number_of fs x)) ns) (distinct_numbers fs xs (λ y c. h y (or_right (bytes_eq y x) (is_among xs y) c)))
    ∙ ap (number_of fs x ∷◌) (filter_numbers fs x (h x (or_left (bytes_eq x x) (is_among xs x) (same_name x))) (firsts xs) (λ y c. h y (or_right (bytes_eq y x) (is_among xs y) (sym (is_among-firsts xs y) ∙ c))))

same_shifted : (k m : ℕ) → (k + 1 == m + 1) ≡ (k == m)
same_shifted k m = go (cases_eq k m)
  where
    go : (k ≡ m) ⊎ (k ≡ m → ⊥) → (k + 1 == m + 1) ≡ (k == m)
    go (inl e) = eq-eqb (k + 1) (m + 1) (ap (λ (n : ℕ). n + 1) e) ∙ sym (eq-eqb k m e)
    go (inr n) = ne_eqb (k + 1) (m + 1) (λ e. n (omega (arith, e))) ∙ sym (ne_eqb k m n)

place_shifted : (ks : List ℕ) (m : ℕ) → place_in (map (λ k. k + 1) ks) (m + 1) ≡ place_in ks m
place_shifted [] m = refl
place_shifted (k ∷ ks) m = (λ i. cond (not (same_shifted k m i)) (1 + place_shifted ks m i) 0)

shifted : (y : Name) (ys zs : List Name) → is_among zs y ≡ false → map (number_of (y ∷ ys)) zs ≡ map (λ k. k + 1) (map (number_of ys) zs)
shifted y ys [] h = refl
shifted y ys (z ∷ zs) h =
    let r = or_parts (bytes_eq y z) (is_among zs y) h in
    (λ i. cond (bytes_eq-comm y z false r.0 i) 0 (number_of ys z + 1) ∷ shifted y ys zs r.1 i)

-- each number is its own place among the numbers of different names
pub place_number : (fs : List Name) (x : Name) → are_distinct fs ≡ true → is_among fs x ≡ true → place_in (map (number_of fs) fs) (number_of fs x) ≡ number_of fs x
place_number [] x d a = absurd (cc)
place_number (y ∷ ys) x d a =
    let r = not_either (is_among ys y) (are_distinct ys) d in
    go (bytes_eq x y) refl a (shifted y ys ys r.0) (place_number ys x r.1)
  where
    first : number_of (y ∷ ys) y ≡ 0
    first = ap (λ (b : Bool). cond b 0 (number_of ys y + 1)) (same_name y)

    go : (b : Bool) → bytes_eq x y ≡ b → (b || is_among ys x) ≡ true → map (number_of (y ∷ ys)) ys ≡ map (λ k. k + 1) (map (number_of ys) ys) → (is_among ys x ≡ true → place_in (map (number_of ys) ys) (number_of ys x) ≡ number_of ys x)
        → place_in (number_of (y ∷ ys) y ∷ map (number_of (y ∷ ys)) ys) (number_of (y ∷ ys) x) ≡ number_of (y ∷ ys) x
    go true e a s ih =
        let none : number_of (y ∷ ys) x ≡ 0 = ap (λ (b : Bool). cond b 0 (number_of ys x + 1)) e in
        (λ i. place_in (first i ∷ map (number_of (y ∷ ys)) ys) (none i)) ∙ sym none
    go false e a s ih =
        let more : number_of (y ∷ ys) x ≡ number_of ys x + 1 = ap (λ (b : Bool). cond b 0 (number_of ys x + 1)) e in
        let other : (0 == number_of ys x + 1) ≡ false = ne_eqb 0 (number_of ys x + 1) (λ q. omega (arith, q)) in
        let sum : 1 + number_of ys x ≡ number_of ys x + 1 = omega arith in
        (λ i. place_in (first i ∷ s i) (more i)) ∙ (λ i. cond (not (other i)) (1 + (place_shifted (map (number_of ys) ys) (number_of ys x) ∙ ih a) i) 0) ∙ sum ∙ sym more
