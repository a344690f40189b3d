-- Names that are written again, as lists.
use Rattle.std.proofs.Common.{◌≡◌, refl, ap, ap₂, sym, ◌∙◌, arith, ℕ, zero, suc, ◌+◌, ◌<◌, ◌≤◌, ◌==◌, List, [], ◌∷◌, ◌++◌, Bool, true, false, not, ◌&&◌, ◌||◌, cond, length, get_or}
use Rattle.std.specs.Prelude.{bytes_eq, filter, map}
use Rattle.std.specs.List.{list_all, range_with_len}
use Rattle.std.proofs.lemmas.Bool.{false≢true, eqb-true, eq-eqb, and_parts}
use Rattle.std.proofs.lemmas.Slice.Eq.{bytes_eq-Decides}
use Rattle.kb_term.specs.Pair.{distinct}
use Rattle.kb_text.specs.Names.{Name, is_among, number_of, firsts, are_distinct}
use Rattle.kb_text.specs.Terms.{is_x_number, prefix_length, variable_text}
use Rattle.kb_text.proofs.Firsts.{same_bytes}
use Rattle.kb_text.proofs.Prefixes.{name_is_no_variable}
use Rattle.kb_text.proofs.RewrittenTerms.{at_number, number_within, renamed, is_good, good_other, good_symbol, good_variable, AreApart, KeepsNumbers}
use Rattle.kb_text.proofs.VariableTexts.{one_variable, variable_is_x_number}

-- ---- members

pub same_name : (x : Name) → bytes_eq x x ≡ true
same_name x = (bytes_eq-Decides x x).1 refl

pub among-append : (xs ys : List Name) (x : Name) → is_among (xs ++ ys) x ≡ (is_among xs x || is_among ys x)
among-append [] ys x = refl
among-append (z ∷ zs) ys x = go (among-append zs ys x) (bytes_eq x z)
  where
    go : is_among (zs ++ ys) x ≡ (is_among zs x || is_among ys x) → (v : Bool) → (v || is_among (zs ++ ys) x) ≡ ((v || is_among zs x) || is_among ys x)
    go next true = refl
    go next false = next

pub all_among : (p : Name → Bool) (xs : List Name) → ((x : Name) → is_among xs x ≡ true → p x ≡ true) → list_all p xs ≡ true
all_among p [] h = refl
all_among p (x ∷ xs) h = ap₂ ◌&&◌ (h x (ap (λ v. v || is_among xs x) (same_name x))) (all_among p xs (λ y m. h y (ap (bytes_eq y x ||◌) m ∙ or_true (bytes_eq y x))))
  where
    or_true : (v : Bool) → (v || true) ≡ true
    or_true true = refl
    or_true false = refl

pub among-filter : (p : Name → Bool) (xs : List Name) (x : Name) → is_among (filter p xs) x ≡ (p x && is_among xs x)
among-filter p [] x = none (p x)
  where
    none : (v : Bool) → false ≡ (v && false)
    none true = refl
    none false = refl
among-filter p (y ∷ ys) x = go (among-filter p ys x) (bytes_eq x y) refl (p y) refl
  where
    here : (v : Bool) → v ≡ false → false ≡ (v && true)
    here true e = absurd (false≢true (sym e))
    here false e = refl

    gone : (v w : Bool) → v ≡ false → (v && w) ≡ (v && true)
    gone true w e = absurd (false≢true (sym e))
    gone false w e = refl

    go : is_among (filter p ys) x ≡ (p x && is_among ys x) → (v : Bool) → bytes_eq x y ≡ v → (w : Bool) → p y ≡ w → is_among (cond (p y) (y ∷ filter p ys) (filter p ys)) x ≡ (p x && (bytes_eq x y || is_among ys x))
    go next true e true f = rw (f, e) (sym (ap (λ v. v && true) (ap p (same_bytes x y e) ∙ f)))
    go next true e false f = rw (f, e) (next ∙ gone (p x) (is_among ys x) (ap p (same_bytes x y e) ∙ f))
    go next false e true f = rw (f, e) next
    go next false e false f = rw (f, e) next

-- ---- variables among names

pub no_symbol_is_variable : (symbols : List Name) (c : Name) (k : ℕ) → is_among symbols c ≡ true → k < 64 → bytes_eq c (variable_text symbols k) ≡ false
no_symbol_is_variable symbols c k h l = go (bytes_eq c (variable_text symbols k)) refl
  where
    go : (v : Bool) → bytes_eq c (variable_text symbols k) ≡ v → v ≡ false
    go true e =
        let p = prefix_length symbols in
        absurd (false≢true (sym (name_is_no_variable symbols (number_of symbols c) (number_within symbols c h)) ∙ ap (is_x_number p) (at_number symbols c h ∙ same_bytes c (variable_text symbols k) e) ∙ variable_is_x_number p (k + 1) (omega arith)))
    go false e = refl

pub variables_apart : (symbols : List Name) (n s : ℕ) → s + n ≤ 64 → AreApart symbols (map (variable_text symbols) (range_with_len s n))
variables_apart symbols zero s l = λ c h. refl
variables_apart symbols (suc n) s l = λ c h. ap₂ ◌||◌ (no_symbol_is_variable symbols c s h (omega arith)) (variables_apart symbols n (s + 1) (omega arith) c h)

other_variable : (symbols : List Name) (j k : ℕ) → j < 64 → k < 64 → (j ≡ k → ⊥) → bytes_eq (variable_text symbols j) (variable_text symbols k) ≡ false
other_variable symbols j k a b h = go (bytes_eq (variable_text symbols j) (variable_text symbols k)) refl
  where
    go : (v : Bool) → bytes_eq (variable_text symbols j) (variable_text symbols k) ≡ v → v ≡ false
    go true e = absurd (h (one_variable (prefix_length symbols) j k a b (same_bytes (variable_text symbols j) (variable_text symbols k) e)))
    go false e = refl

later_variables : (symbols : List Name) (n s j : ℕ) → j < s → s + n ≤ 64 → is_among (map (variable_text symbols) (range_with_len s n)) (variable_text symbols j) ≡ false
later_variables symbols zero s j h l = refl
later_variables symbols (suc n) s j h l = ap₂ ◌||◌ (other_variable symbols j s (omega arith) (omega arith) (λ e. omega arith)) (later_variables symbols n (s + 1) j (omega arith) (omega arith))

pub variables_distinct : (symbols : List Name) (n s : ℕ) → s + n ≤ 64 → are_distinct (map (variable_text symbols) (range_with_len s n)) ≡ true
variables_distinct symbols zero s l = refl
variables_distinct symbols (suc n) s l =
    ap (λ v. cond v false (are_distinct (map (variable_text symbols) (range_with_len (s + 1) n)))) (later_variables symbols n (s + 1) s (omega arith) (omega arith)) ∙ variables_distinct symbols n (s + 1) (omega arith)

pub variables_cover : (symbols : List Name) (n s k : ℕ) → s ≤ k → k < s + n → is_among (map (variable_text symbols) (range_with_len s n)) (variable_text symbols k) ≡ true
variables_cover symbols zero s k a b = absurd (omega arith)
variables_cover symbols (suc n) s k a b = go (variables_cover symbols n (s + 1) k) (k == s) refl
  where
    or_true : (v : Bool) → (v || true) ≡ true
    or_true true = refl
    or_true false = refl

    go : (s + 1 ≤ k → k < s + 1 + n → is_among (map (variable_text symbols) (range_with_len (s + 1) n)) (variable_text symbols k) ≡ true) → (v : Bool) → (k == s) ≡ v → (bytes_eq (variable_text symbols k) (variable_text symbols s) || is_among (map (variable_text symbols) (range_with_len (s + 1) n)) (variable_text symbols k)) ≡ true
    go next true e =
        let f : k ≡ s = eqb-true k s e in
        ap (λ v. v || is_among (map (variable_text symbols) (range_with_len (s + 1) n)) (variable_text symbols k)) (ap (λ j. bytes_eq (variable_text symbols k) (variable_text symbols j)) (sym f) ∙ same_name (variable_text symbols k))
    go next false e =
        let f : k ≡ s → ⊥ = λ q. false≢true (sym e ∙ eq-eqb k s q) in
        ap (bytes_eq (variable_text symbols k) (variable_text symbols s) ||◌) (next (omega arith) (omega arith)) ∙ or_true (bytes_eq (variable_text symbols k) (variable_text symbols s))

-- ---- names of an equation

-- variables stand for those that were found
pub record Covers (symbols found xs : List Name) : Type 0 where
  pub apart : AreApart symbols xs
  pub covers : (k : ℕ) → k < length found → is_among xs (variable_text symbols k) ≡ true

pub among_again : (vars found symbols xs : List Name) (c : Name) → Covers symbols found xs → is_good vars found symbols c ≡ true → is_among xs (renamed symbols found c) ≡ is_among vars c
among_again vars found symbols xs c v g = go (is_among found c) refl
  where
    go : (b : Bool) → is_among found c ≡ b → is_among xs (cond (is_among found c) (variable_text symbols (number_of found c)) c) ≡ is_among vars c
    go true e = ap (λ b. is_among xs (cond b (variable_text symbols (number_of found c)) c)) e ∙ v.covers (number_of found c) (number_within found c e) ∙ sym (good_variable vars found symbols c g e)
    go false e = let s = good_symbol vars found symbols c g e in ap (λ b. is_among xs (cond b (variable_text symbols (number_of found c)) c)) e ∙ v.apart c s.symbol ∙ sym s.no_variable

pub variables_again : (vars found symbols xs ns : List Name) → Covers symbols found xs → list_all (is_good vars found symbols) ns ≡ true → filter (is_among xs) (map (renamed symbols found) ns) ≡ map (renamed symbols found) (filter (is_among vars) ns)
variables_again vars found symbols xs [] v g = refl
variables_again vars found symbols xs (c ∷ ns) v g =
    let r = and_parts (is_good vars found symbols c) (list_all (is_good vars found symbols) ns) g in
    ap₂ (λ b zs. cond b (renamed symbols found c ∷ zs) zs) (among_again vars found symbols xs c v r.0) (variables_again vars found symbols xs ns v r.1) ∙ go (is_among vars c)
  where
    go : (b : Bool) → cond b (renamed symbols found c ∷ map (renamed symbols found) (filter (is_among vars) ns)) (map (renamed symbols found) (filter (is_among vars) ns)) ≡ map (renamed symbols found) (cond b (c ∷ filter (is_among vars) ns) (filter (is_among vars) ns))
    go true = refl
    go false = refl

pub symbols_again : (vars found symbols xs ns : List Name) → Covers symbols found xs → list_all (is_good vars found symbols) ns ≡ true → filter (λ x. not (is_among xs x)) (map (renamed symbols found) ns) ≡ filter (λ x. not (is_among vars x)) ns
symbols_again vars found symbols xs [] v g = refl
symbols_again vars found symbols xs (c ∷ ns) v g =
    let r = and_parts (is_good vars found symbols c) (list_all (is_good vars found symbols) ns) g in
    ap₂ (λ b zs. cond (not b) (renamed symbols found c ∷ zs) zs) (among_again vars found symbols xs c v r.0) (symbols_again vars found symbols xs ns v r.1) ∙ go r.0 (is_among vars c) refl
  where
    go : is_good vars found symbols c ≡ true → (b : Bool) → is_among vars c ≡ b → cond (not (is_among vars c)) (renamed symbols found c ∷ filter (λ x. not (is_among vars x)) ns) (filter (λ x. not (is_among vars x)) ns) ≡ cond (not (is_among vars c)) (c ∷ filter (λ x. not (is_among vars x)) ns) (filter (λ x. not (is_among vars x)) ns)
    go g true e = rw e refl
    go g false e = ap (λ x. cond (not (is_among vars c)) (x ∷ filter (λ x. not (is_among vars x)) ns) (filter (λ x. not (is_among vars x)) ns)) (ap (λ b. cond b (variable_text symbols (number_of found c)) c) (good_other vars found symbols c g e).not_found)

-- ---- first occurrences

same_test : (symbols found : List Name) (c d : Name) → length found ≤ 64 → is_among found c ≡ true → is_among found d ≡ true → bytes_eq (renamed symbols found c) (renamed symbols found d) ≡ bytes_eq c d
same_test symbols found c d few h k = go (bytes_eq c d) refl
  where
    first : renamed symbols found c ≡ variable_text symbols (number_of found c)
    first = ap (λ b. cond b (variable_text symbols (number_of found c)) c) h

    second : renamed symbols found d ≡ variable_text symbols (number_of found d)
    second = ap (λ b. cond b (variable_text symbols (number_of found d)) d) k

    differ : bytes_eq c d ≡ false → (v : Bool) → bytes_eq (renamed symbols found c) (renamed symbols found d) ≡ v → v ≡ false
    differ e true f =
        let l = number_within found c h in
        let m = number_within found d k in
        let same : number_of found c ≡ number_of found d = one_variable (prefix_length symbols) (number_of found c) (number_of found d) (omega arith) (omega arith) (sym first ∙ same_bytes (renamed symbols found c) (renamed symbols found d) f ∙ second) in
        let one : c ≡ d = sym (at_number found c h) ∙ ap (λ j. get_or found j []) same ∙ at_number found d k in
        absurd (false≢true (sym e ∙ ap (bytes_eq c) (sym one) ∙ same_name c))
    differ e false f = refl

    go : (v : Bool) → bytes_eq c d ≡ v → bytes_eq (renamed symbols found c) (renamed symbols found d) ≡ v
    go true e = ap (λ x. bytes_eq (renamed symbols found c) (renamed symbols found x)) (sym (same_bytes c d e)) ∙ same_name (renamed symbols found c)
    go false e = differ e (bytes_eq (renamed symbols found c) (renamed symbols found d)) refl

all_filter : (p q : Name → Bool) (xs : List Name) → list_all p xs ≡ true → list_all p (filter q xs) ≡ true
all_filter p q [] h = refl
all_filter p q (x ∷ xs) h = go (all_filter p q xs (and_parts (p x) (list_all p xs) h).1) (q x)
  where
    go : list_all p (filter q xs) ≡ true → (v : Bool) → list_all p (cond v (x ∷ filter q xs) (filter q xs)) ≡ true
    go next true = ap₂ ◌&&◌ (and_parts (p x) (list_all p xs) h).0 next
    go next false = next

all_firsts : (p : Name → Bool) (xs : List Name) → list_all p xs ≡ true → list_all p (firsts xs) ≡ true
all_firsts p [] h = refl
all_firsts p (x ∷ xs) h = let r = and_parts (p x) (list_all p xs) h in ap₂ ◌&&◌ r.0 (all_filter p (λ y. not (bytes_eq y x)) (firsts xs) (all_firsts p xs r.1))

others_again : (symbols found : List Name) (x : Name) (zs : List Name) → length found ≤ 64 → is_among found x ≡ true → list_all (is_among found) zs ≡ true → filter (λ y. not (bytes_eq y (renamed symbols found x))) (map (renamed symbols found) zs) ≡ map (renamed symbols found) (filter (λ y. not (bytes_eq y x)) zs)
others_again symbols found x [] few h g = refl
others_again symbols found x (z ∷ zs) few h g =
    let r = and_parts (is_among found z) (list_all (is_among found) zs) g in
    ap₂ (λ b ws. cond (not b) (renamed symbols found z ∷ ws) ws) (same_test symbols found z x few r.0 h) (others_again symbols found x zs few h r.1) ∙ go (not (bytes_eq z x))
  where
    go : (b : Bool) → cond b (renamed symbols found z ∷ map (renamed symbols found) (filter (λ y. not (bytes_eq y x)) zs)) (map (renamed symbols found) (filter (λ y. not (bytes_eq y x)) zs)) ≡ map (renamed symbols found) (cond b (z ∷ filter (λ y. not (bytes_eq y x)) zs) (filter (λ y. not (bytes_eq y x)) zs))
    go true = refl
    go false = refl

pub firsts_again : (symbols found ys : List Name) → length found ≤ 64 → list_all (is_among found) ys ≡ true → firsts (map (renamed symbols found) ys) ≡ map (renamed symbols found) (firsts ys)
firsts_again symbols found [] few g = refl
firsts_again symbols found (y ∷ ys) few g =
    let r = and_parts (is_among found y) (list_all (is_among found) ys) g in
    ap (λ zs. renamed symbols found y ∷ filter (λ z. not (bytes_eq z (renamed symbols found y))) zs) (firsts_again symbols found ys few r.1)
    ∙ ap (renamed symbols found y ∷◌) (others_again symbols found y (firsts ys) few r.0 (all_firsts (is_among found) ys r.1))

-- the same by numbers
numbers_apart : (found : List Name) (c d : Name) → is_among found c ≡ true → is_among found d ≡ true → (number_of found c == number_of found d) ≡ bytes_eq c d
numbers_apart found c d h k = go (bytes_eq c d) refl
  where
    differ : bytes_eq c d ≡ false → (v : Bool) → (number_of found c == number_of found d) ≡ v → v ≡ false
    differ e true f =
        let one : c ≡ d = sym (at_number found c h) ∙ ap (λ j. get_or found j []) (eqb-true (number_of found c) (number_of found d) f) ∙ at_number found d k in
        absurd (false≢true (sym e ∙ ap (bytes_eq c) (sym one) ∙ same_name c))
    differ e false f = refl

    go : (v : Bool) → bytes_eq c d ≡ v → (number_of found c == number_of found d) ≡ v
    go true e = eq-eqb (number_of found c) (number_of found d) (ap (number_of found) (same_bytes c d e))
    go false e = differ e (number_of found c == number_of found d) refl

other_numbers : (found : List Name) (x : Name) (zs : List Name) → is_among found x ≡ true → list_all (is_among found) zs ≡ true → filter (λ y. not (y == number_of found x)) (map (number_of found) zs) ≡ map (number_of found) (filter (λ y. not (bytes_eq y x)) zs)
other_numbers found x [] h g = refl
other_numbers found x (z ∷ zs) h g =
    let r = and_parts (is_among found z) (list_all (is_among found) zs) g in
    ap₂ (λ b ws. cond (not b) (number_of found z ∷ ws) ws) (numbers_apart found z x r.0 h) (other_numbers found x zs h r.1) ∙ go (not (bytes_eq z x))
  where
    go : (b : Bool) → cond b (number_of found z ∷ map (number_of found) (filter (λ y. not (bytes_eq y x)) zs)) (map (number_of found) (filter (λ y. not (bytes_eq y x)) zs)) ≡ map (number_of found) (cond b (z ∷ filter (λ y. not (bytes_eq y x)) zs) (filter (λ y. not (bytes_eq y x)) zs))
    go true = refl
    go false = refl

pub distinct_numbers : (found ys : List Name) → list_all (is_among found) ys ≡ true → distinct (map (number_of found) ys) ≡ map (number_of found) (firsts ys)
distinct_numbers found [] g = refl
distinct_numbers found (y ∷ ys) g =
    let r = and_parts (is_among found y) (list_all (is_among found) ys) g in
    ap (λ zs. number_of found y ∷ filter (λ z. not (z == number_of found y)) zs) (distinct_numbers found ys r.1) ∙ ap (number_of found y ∷◌) (other_numbers found y (firsts ys) r.0 (all_firsts (is_among found) ys r.1))

-- ---- numbers are kept

among_part : (symbols found zs : List Name) (c : Name) → length found ≤ 64 → is_among found c ≡ true → list_all (is_among found) zs ≡ true → is_among (map (renamed symbols found) zs) (renamed symbols found c) ≡ is_among zs c
among_part symbols found [] c few h g = refl
among_part symbols found (z ∷ zs) c few h g =
    let r = and_parts (is_among found z) (list_all (is_among found) zs) g in
    ap₂ ◌||◌ (same_test symbols found c z few h r.0) (among_part symbols found zs c few h r.1)

number_part : (symbols found zs : List Name) (c : Name) → length found ≤ 64 → is_among found c ≡ true → list_all (is_among found) zs ≡ true → number_of (map (renamed symbols found) zs) (renamed symbols found c) ≡ number_of zs c
number_part symbols found [] c few h g = refl
number_part symbols found (z ∷ zs) c few h g =
    let r = and_parts (is_among found z) (list_all (is_among found) zs) g in
    ap₂ (λ b n. cond b 0 (n + 1)) (same_test symbols found c z few h r.0) (number_part symbols found zs c few h r.1)

pub keeps_numbers : (symbols found : List Name) → length found ≤ 64 → KeepsNumbers symbols found (map (renamed symbols found) found)
keeps_numbers symbols found few =
    let all = all_among (is_among found) found (λ x m. m) in record {
      found_again = λ c h. among_part symbols found found c few h all ∙ h;
      number = λ c h. number_part symbols found found c few h all;
    }

apart_part : (symbols found zs : List Name) → length found ≤ 64 → list_all (is_among found) zs ≡ true → AreApart symbols (map (renamed symbols found) zs)
apart_part symbols found [] few g = λ c h. refl
apart_part symbols found (z ∷ zs) few g = λ c h.
    let r = and_parts (is_among found z) (list_all (is_among found) zs) g in
    let l = number_within found z r.0 in
    ap₂ ◌||◌ (ap (λ b. bytes_eq c (cond b (variable_text symbols (number_of found z)) z)) r.0 ∙ no_symbol_is_variable symbols c (number_of found z) h (omega arith)) (apart_part symbols found zs few r.1 c h)

pub apart_again : (symbols found : List Name) → length found ≤ 64 → AreApart symbols (map (renamed symbols found) found)
apart_again symbols found few = apart_part symbols found found few (all_among (is_among found) found (λ x m. m))
