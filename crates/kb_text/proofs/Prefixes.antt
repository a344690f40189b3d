-- No name of a list looks like a variable with the prefix of the list.
use Rattle.std.proofs.Common.{◌≡◌, refl, ap, sym, ◌∙◌, arith, ℕ, zero, suc, ◌+◌, ◌<◌, ◌≤◌, List, [], ◌∷◌, Bool, true, false, ◌&&◌, Some, length, get_or, take, drop, cond}
use Rattle.std.specs.Prelude.{◌||◌, filter, find, nat_eq, nat_lt, not, unwrap_or, replicate}
use Rattle.std.specs.List.{list_all, list_any, range_with_len, starts_with}
use Rattle.std.proofs.lemmas.Bool.{false≢true, ltb-true, eqb-true, and_parts}
use Rattle.kb_text.specs.Names.{Name}
use Rattle.kb_text.specs.Terms.{is_digit, is_x_number, prefix_length}
use Rattle.kb_text.proofs.TextLaws.{begins_with_letters}

letter_at : (n m : ℕ) (name : List ℕ) → list_all (λ b. nat_eq 120 b) (take n name) ≡ true → m < n → m < length name → get_or name m 0 ≡ 120
letter_at zero m name h l k = absurd (omega arith)
letter_at (suc n) m [] h l k = absurd (omega arith)
letter_at (suc n) zero (b ∷ name) h l k = sym (eqb-true 120 b (and_parts (nat_eq 120 b) _ h).0)
letter_at (suc n) (suc m) (b ∷ name) h l k = letter_at n m name (and_parts (nat_eq 120 b) _ h).1 (omega arith) (omega arith)

digit_at : (m : ℕ) (name : List ℕ) → list_all is_digit (drop m name) ≡ true → m < length name → is_digit (get_or name m 0) ≡ true
digit_at m [] h k = absurd (omega arith)
digit_at zero (b ∷ name) h k = (and_parts (is_digit b) _ h).0
digit_at (suc m) (b ∷ name) h k = digit_at m name h (omega arith)

-- a name is letters x and a number for one number of letters at most
pub one_number : (m n : ℕ) (name : Name) → m < n → is_x_number m name ≡ true → is_x_number n name ≡ true → ⊥
one_number m n name l a b =
    let p = and_parts (starts_with nat_eq name (replicate m 120) && nat_lt m (length name)) (list_all is_digit (drop m name)) a in
    let q = and_parts (starts_with nat_eq name (replicate n 120) && nat_lt n (length name)) (list_all is_digit (drop n name)) b in
    let r = and_parts (starts_with nat_eq name (replicate n 120)) (nat_lt n (length name)) q.0 in
    let long : n < length name = ltb-true n (length name) r.1 in
    let letter = letter_at n m name (sym (begins_with_letters n name (omega arith)) ∙ r.0) l (omega arith) in
    false≢true (sym (ap is_digit letter) ∙ digit_at m name p.1 (omega arith))

-- the names that aren't so many letters x and a number
abbrev without : ℕ → List Name → List Name
without s names = filter (λ x. not (is_x_number s x)) names

any_without : (s n : ℕ) → s < n → (names : List Name) → list_any (is_x_number n) (without s names) ≡ list_any (is_x_number n) names
any_without s n l [] = refl
any_without s n l (x ∷ xs) = go (any_without s n l xs) (is_x_number s x) refl
  where
    none : (v : Bool) → is_x_number s x ≡ true → is_x_number n x ≡ v → v ≡ false
    none true e f = absurd (one_number s n x l e f)
    none false e f = refl

    go : list_any (is_x_number n) (without s xs) ≡ list_any (is_x_number n) xs → (v : Bool) → is_x_number s x ≡ v → list_any (is_x_number n) (cond (not (is_x_number s x)) (x ∷ without s xs) (without s xs)) ≡ (is_x_number n x || list_any (is_x_number n) xs)
    go rest true e =
        ap (λ v. list_any (is_x_number n) (cond (not v) (x ∷ without s xs) (without s xs))) e
        ∙ rest ∙ ap (λ v. v || list_any (is_x_number n) xs) (sym (none (is_x_number n x) e refl))
    go rest false e =
        ap (λ v. list_any (is_x_number n) (cond (not v) (x ∷ without s xs) (without s xs))) e
        ∙ ap (λ v. is_x_number n x || v) rest

no_more : (s : ℕ) (names : List Name) → length (without s names) ≤ length names
no_more s [] = omega arith
no_more s (x ∷ xs) = go (no_more s xs) (not (is_x_number s x)) refl
  where
    go : length (without s xs) ≤ length xs → (v : Bool) → not (is_x_number s x) ≡ v → length (cond v (x ∷ without s xs) (without s xs)) ≤ length (x ∷ xs)
    go less true e = omega arith
    go less false e = omega arith

fewer : (s : ℕ) (names : List Name) → list_any (is_x_number s) names ≡ true → length (without s names) < length names
fewer s [] h = absurd (false≢true h)
fewer s (x ∷ xs) h = go (fewer s xs) (is_x_number s x) refl
  where
    go : (list_any (is_x_number s) xs ≡ true → length (without s xs) < length xs) → (v : Bool) → is_x_number s x ≡ v → length (cond (not v) (x ∷ without s xs) (without s xs)) < length (x ∷ xs)
    go less true e = omega (arith, no_more s xs)
    go less false e = omega (arith, less (sym (ap (λ v. v || list_any (is_x_number s) xs) e) ∙ h))

find_agree : (p q : ℕ → Bool) (k s : ℕ) → ((n : ℕ) → s ≤ n → p n ≡ q n) → find p (range_with_len s k) ≡ find q (range_with_len s k)
find_agree p q zero s h = refl
find_agree p q (suc k) s h =
    ap (λ v. cond v (Some s) (find p (range_with_len (s + 1) k))) (h s (omega arith))
    ∙ ap (cond (q s) (Some s)) (find_agree p q k (s + 1) (λ n l. h n (omega arith)))

-- no name is so many letters x and a number
abbrev is_free : List Name → ℕ → Bool
is_free names n = not (list_any (is_x_number n) names)

abbrev FreeNumber : ℕ → ℕ → List Name → Type 0
FreeNumber k s names = (n : ℕ) × (s ≤ n) × (n < s + k) × (find (is_free names) (range_with_len s k) ≡ Some n) × (list_any (is_x_number n) names ≡ false)

first_free_number : (k s : ℕ) (names : List Name) → length names < k → FreeNumber k s names
first_free_number zero s names l = absurd (omega arith)
first_free_number (suc k) s names l = go (first_free_number k (s + 1) (without s names)) (list_any (is_x_number s) names) refl
  where
    go : (length (without s names) < k → FreeNumber k (s + 1) (without s names)) → (v : Bool) → list_any (is_x_number s) names ≡ v → FreeNumber (suc k) s names
    go next false e = (s, omega arith, omega arith, ap (λ v. cond (not v) (Some s) (find (is_free names) (range_with_len (s + 1) k))) e, e)
    go next true e =
        let r = next (omega (arith, fewer s names e)) in
        let above : s + 1 ≤ r.0 = r.1 in
        let below : r.0 < s + 1 + k = r.2 in
        let agree = find_agree (is_free names) (is_free (without s names)) k (s + 1) (λ n l. ap not (sym (any_without s n (omega arith) names))) in (
          r.0,
          omega arith,
          omega arith,
          ap (λ v. cond (not v) (Some s) (find (is_free names) (range_with_len (s + 1) k))) e ∙ agree ∙ r.3,
          sym (any_without s r.0 (omega arith) names) ∙ r.4,
        )

pub no_name_is_variable : (names : List Name) → list_any (is_x_number (prefix_length names)) names ≡ false
no_name_is_variable names =
    let r = first_free_number (length names + 1) 1 names (omega arith) in
    ap (λ o. list_any (is_x_number (unwrap_or o 1)) names) r.3 ∙ r.4

-- the prefix has at most one letter more than there are names
pub prefix_small : (names : List Name) → prefix_length names ≤ length names + 1
prefix_small names =
    let r = first_free_number (length names + 1) 1 names (omega arith) in
    let below : r.0 < 1 + (length names + 1) = r.2 in
    let is : prefix_length names ≡ r.0 = ap (λ o. unwrap_or o 1) r.3 in omega arith

none_at : (p : Name → Bool) (names : List Name) (f : ℕ) → f < length names → list_any p names ≡ false → p (get_or names f []) ≡ false
none_at p [] f l h = absurd (omega arith)
none_at p (x ∷ xs) f l h = go (none_at p xs) (p x) refl f l
  where
    go : ((f : ℕ) → f < length xs → list_any p xs ≡ false → p (get_or xs f []) ≡ false) → (v : Bool) → p x ≡ v → (f : ℕ) → f < length (x ∷ xs) → p (get_or (x ∷ xs) f []) ≡ false
    go next true e f l = absurd (false≢true (sym h ∙ ap (λ v. v || list_any p xs) e))
    go next false e zero l = e
    go next false e (suc f) l = next f (omega arith) (sym (ap (λ v. v || list_any p xs) e) ∙ h)

pub name_is_no_variable : (names : List Name) (f : ℕ) → f < length names → is_x_number (prefix_length names) (get_or names f []) ≡ false
name_is_no_variable names f l = none_at (is_x_number (prefix_length names)) names f l (no_name_is_variable names)
