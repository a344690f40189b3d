-- Terms that are read and written again: their names, uses and depths.
use Rattle.std.proofs.Common.{◌≡◌, refl, ap, ap₂, sym, ◌∙◌, subst, arith, ℕ, suc, ◌+◌, ◌-◌, ◌<◌, ◌≤◌, List, [], ◌∷◌, ◌++◌, Bool, true, false, not, ◌&&◌, ◌||◌, cond, Some, length, get_or, max}
use Rattle.std.specs.Prelude.{bytes_eq, map, nat_eq, unwrap_or}
use Rattle.std.specs.List.{list_all}
use Rattle.std.proofs.lemmas.Bool.{eqb-true, false≢true, and_parts, not-true}
use Rattle.std.proofs.lemmas.List.{map-append}
use Rattle.kb_term.specs.Signature.{HasArity}
use Rattle.kb_term.specs.Tree.{Tree, variable, apply, Trees, no_trees, more_trees, list_of}
use Rattle.kb_text.specs.Names.{Name, is_among, number_of}
use Rattle.kb_text.specs.Grammar.{Written, alone, applied, Arguments, no_arguments, argument}
use Rattle.kb_text.specs.Problems.{names_in, names_in_all, uses_in, uses_in_all, count_of, arity_in, depth_in, depth_in_all, is_unapplied, are_unapplied, term_of, terms_of, entry_of}
use Rattle.kb_text.specs.Terms.{variable_text, symbol_text}
use Rattle.kb_text.specs.TermReading.{IsBounded, AreBounded}
use Rattle.kb_text.specs.Rewritten.{written_term, written_terms}
use Rattle.kb_text.proofs.Firsts.{same_bytes}

-- ---- places in lists of names

pub at_number : (xs : List Name) (x : Name) → is_among xs x ≡ true → get_or xs (number_of xs x) [] ≡ x
at_number [] x h = absurd (false≢true h)
at_number (y ∷ ys) x h = go (at_number ys x) (bytes_eq x y) refl
  where
    go : (is_among ys x ≡ true → get_or ys (number_of ys x) [] ≡ x) → (v : Bool) → bytes_eq x y ≡ v → get_or (y ∷ ys) (cond (bytes_eq x y) 0 (number_of ys x + 1)) [] ≡ x
    go next true e = ap (λ v. get_or (y ∷ ys) (cond v 0 (number_of ys x + 1)) []) e ∙ sym (same_bytes x y e)
    go next false e =
        let one : number_of ys x + 1 ≡ suc (number_of ys x) = omega arith in
        ap (λ v. get_or (y ∷ ys) (cond v 0 (number_of ys x + 1)) []) e ∙ ap (λ k. get_or (y ∷ ys) k []) one ∙ next (sym (ap (λ v. v || is_among ys x) e) ∙ h)

pub number_within : (xs : List Name) (x : Name) → is_among xs x ≡ true → number_of xs x < length xs
number_within [] x h = absurd (false≢true h)
number_within (y ∷ ys) x h = go (number_within ys x) (bytes_eq x y) refl
  where
    go : (is_among ys x ≡ true → number_of ys x < length ys) → (v : Bool) → bytes_eq x y ≡ v → cond (bytes_eq x y) 0 (number_of ys x + 1) < length (y ∷ ys)
    go next true e = rw e (omega arith)
    go next false e = let l = next (sym (ap (λ v. v || is_among ys x) e) ∙ h) in rw e (omega arith)

pub arity_at : (uses : List (Name × ℕ)) (symbols : List Name) (f : Name) → is_among symbols f ≡ true → HasArity (map (entry_of uses) symbols) (number_of symbols f) (unwrap_or (arity_in uses f) 0)
arity_at uses [] f h = absurd (false≢true h)
arity_at uses (y ∷ ys) f h = go (arity_at uses ys f) (bytes_eq f y) refl
  where
    go : (is_among ys f ≡ true → HasArity (map (entry_of uses) ys) (number_of ys f) (unwrap_or (arity_in uses f) 0)) → (v : Bool) → bytes_eq f y ≡ v → HasArity (map (entry_of uses) (y ∷ ys)) (cond (bytes_eq f y) 0 (number_of ys f + 1)) (unwrap_or (arity_in uses f) 0)
    go next true e = rw e (ap (λ x. Some (unwrap_or (arity_in uses x) 0)) (sym (same_bytes f y e)))
    go next false e =
        let one : number_of ys f + 1 ≡ suc (number_of ys f) = omega arith in
        rw (e, one) (next (sym (ap (λ v. v || is_among ys f) e) ∙ h))

-- ---- names that are written again

-- a variable is written by its number, a symbol by its name
abbrev pub renamed : List Name → List Name → Name → Name
renamed symbols found c = cond (is_among found c) (variable_text symbols (number_of found c)) c

abbrev pub renamed_use : List Name → List Name → Name × ℕ → Name × ℕ
renamed_use symbols found u = (renamed symbols found u.0, u.1)

-- a variable that was found, or a symbol
abbrev pub is_good : List Name → List Name → List Name → Name → Bool
is_good vars found symbols c = cond (is_among vars c) (is_among found c) (not (is_among found c) && is_among symbols c)

pub record IsSymbol (vars found symbols : List Name) (c : Name) : Type 0 where
  pub no_variable : is_among vars c ≡ false
  pub not_found : is_among found c ≡ false
  pub symbol : is_among symbols c ≡ true

pub good_symbol : (vars found symbols : List Name) (c : Name) → is_good vars found symbols c ≡ true → is_among found c ≡ false → IsSymbol vars found symbols c
good_symbol vars found symbols c h f = go (is_among vars c) refl
  where
    go : (v : Bool) → is_among vars c ≡ v → IsSymbol vars found symbols c
    go true e = absurd (false≢true (sym f ∙ sym (ap (λ v. cond v (is_among found c) (not (is_among found c) && is_among symbols c)) e) ∙ h))
    go false e =
        let r = and_parts (not (is_among found c)) (is_among symbols c) (sym (ap (λ v. cond v (is_among found c) (not (is_among found c) && is_among symbols c)) e) ∙ h) in
        record { no_variable = e; not_found = f; symbol = r.1 }

pub good_other : (vars found symbols : List Name) (c : Name) → is_good vars found symbols c ≡ true → is_among vars c ≡ false → IsSymbol vars found symbols c
good_other vars found symbols c h f =
    let r = and_parts (not (is_among found c)) (is_among symbols c) (sym (ap (λ v. cond v (is_among found c) (not (is_among found c) && is_among symbols c)) f) ∙ h) in
    record { no_variable = f; not_found = not-true (is_among found c) r.0; symbol = r.1 }

pub good_variable : (vars found symbols : List Name) (c : Name) → is_good vars found symbols c ≡ true → is_among found c ≡ true → is_among vars c ≡ true
good_variable vars found symbols c h f = go (is_among vars c) refl
  where
    go : (v : Bool) → is_among vars c ≡ v → v ≡ true
    go true e = refl
    go false e = absurd (false≢true (sym (good_other vars found symbols c h e).not_found ∙ f))

-- what is asked of a term that is read
pub record IsGood (vars found symbols : List Name) (uses : List (Name × ℕ)) (t : Written) : Type 0 where
  pub names : list_all (is_good vars found symbols) (names_in t) ≡ true
  pub unapplied : is_unapplied vars t ≡ true
  pub uses_agree : list_all (λ (u : Name × ℕ). nat_eq u.1 (unwrap_or (arity_in uses u.0) 0)) (uses_in t) ≡ true

pub record AreGood (vars found symbols : List Name) (uses : List (Name × ℕ)) (ts : Arguments) : Type 0 where
  pub names : list_all (is_good vars found symbols) (names_in_all ts) ≡ true
  pub unapplied : are_unapplied vars ts ≡ true
  pub uses_agree : list_all (λ (u : Name × ℕ). nat_eq u.1 (unwrap_or (arity_in uses u.0) 0)) (uses_in_all ts) ≡ true

pub all_split : {X : Type 0} (p : X → Bool) (xs ys : List X) → list_all p (xs ++ ys) ≡ true → (list_all p xs ≡ true) × (list_all p ys ≡ true)
all_split p [] ys h = (refl, h)
all_split p (x ∷ xs) ys h = let r = and_parts (p x) (list_all p (xs ++ ys)) h in let s = all_split p xs ys r.1 in (ap₂ ◌&&◌ r.0 s.0, s.1)

pub first_good : (vars found symbols : List Name) (uses : List (Name × ℕ)) (t : Written) (ts : Arguments) → AreGood vars found symbols uses (argument t ts) → IsGood vars found symbols uses t
first_good vars found symbols uses t ts h = record {
  names = (all_split (is_good vars found symbols) (names_in t) (names_in_all ts) h.names).0;
  unapplied = (and_parts (is_unapplied vars t) (are_unapplied vars ts) h.unapplied).0;
  uses_agree = (all_split (λ (u : Name × ℕ). nat_eq u.1 (unwrap_or (arity_in uses u.0) 0)) (uses_in t) (uses_in_all ts) h.uses_agree).0;
}

pub others_good : (vars found symbols : List Name) (uses : List (Name × ℕ)) (t : Written) (ts : Arguments) → AreGood vars found symbols uses (argument t ts) → AreGood vars found symbols uses ts
others_good vars found symbols uses t ts h = record {
  names = (all_split (is_good vars found symbols) (names_in t) (names_in_all ts) h.names).1;
  unapplied = (and_parts (is_unapplied vars t) (are_unapplied vars ts) h.unapplied).1;
  uses_agree = (all_split (λ (u : Name × ℕ). nat_eq u.1 (unwrap_or (arity_in uses u.0) 0)) (uses_in t) (uses_in_all ts) h.uses_agree).1;
}

pub arguments_good : (vars found symbols : List Name) (uses : List (Name × ℕ)) (f : Name) (ts : Arguments) → IsGood vars found symbols uses (applied f ts) → AreGood vars found symbols uses ts
arguments_good vars found symbols uses f ts h = record {
  names = (and_parts (is_good vars found symbols f) (list_all (is_good vars found symbols) (names_in_all ts)) h.names).1;
  unapplied = (and_parts (not (is_among vars f)) (are_unapplied vars ts) h.unapplied).1;
  uses_agree = (all_split (λ (u : Name × ℕ). nat_eq u.1 (unwrap_or (arity_in uses u.0) 0)) (uses_in_all ts) ((f, count_of ts) ∷ []) h.uses_agree).0;
}

pub head_symbol : (vars found symbols : List Name) (uses : List (Name × ℕ)) (f : Name) (ts : Arguments) → IsGood vars found symbols uses (applied f ts) → IsSymbol vars found symbols f
head_symbol vars found symbols uses f ts h =
    good_other vars found symbols f (and_parts (is_good vars found symbols f) (list_all (is_good vars found symbols) (names_in_all ts)) h.names).0 (not-true (is_among vars f) (and_parts (not (is_among vars f)) (are_unapplied vars ts) h.unapplied).0)

head_arity : (vars found symbols : List Name) (uses : List (Name × ℕ)) (f : Name) (ts : Arguments) → IsGood vars found symbols uses (applied f ts) → count_of ts ≡ unwrap_or (arity_in uses f) 0
head_arity vars found symbols uses f ts h =
    eqb-true (count_of ts) (unwrap_or (arity_in uses f) 0)
    (and_parts (nat_eq (count_of ts) (unwrap_or (arity_in uses f) 0)) true (all_split (λ (u : Name × ℕ). nat_eq u.1 (unwrap_or (arity_in uses u.0) 0)) (uses_in_all ts) ((f, count_of ts) ∷ []) h.uses_agree).1).0

-- a name alone: a variable or a constant
alone_cases : (vars found symbols : List Name) (uses : List (Name × ℕ)) (c : Name) → IsGood vars found symbols uses (alone c) → (P : Tree → Name → Type 0) → (is_among found c ≡ true → P (variable (number_of found c)) (variable_text symbols (number_of found c))) → (IsSymbol vars found symbols c → P (apply (number_of symbols c) no_trees) c)
    → P (term_of found symbols (alone c)) (renamed symbols found c)
alone_cases vars found symbols uses c h P a b = go (is_among found c) refl
  where
    go : (v : Bool) → is_among found c ≡ v → P (cond (is_among found c) (variable (number_of found c)) (apply (number_of symbols c) no_trees)) (cond (is_among found c) (variable_text symbols (number_of found c)) c)
    go true e = rw e (a e)
    go false e = rw e (b (good_symbol vars found symbols c (and_parts (is_good vars found symbols c) true h.names).0 e))

-- a symbol is written again by its name
symbol_again : (vars found symbols : List Name) (c : Name) → IsSymbol vars found symbols c → renamed symbols found c ≡ c
symbol_again vars found symbols c s = ap (λ v. cond v (variable_text symbols (number_of found c)) c) s.not_found

apply_names : (symbols : List Name) (f : ℕ) (us : Trees) → names_in (written_term symbols (apply f us)) ≡ symbol_text symbols f ∷ names_in_all (written_terms symbols us)
apply_names symbols f no_trees = refl
apply_names symbols f (more_trees u us) = refl

mutual
  pub names_again : (vars found symbols : List Name) (uses : List (Name × ℕ)) (t : Written) → IsGood vars found symbols uses t → names_in (written_term symbols (term_of found symbols t)) ≡ map (renamed symbols found) (names_in t)
  names_again vars found symbols uses (alone c) h =
      alone_cases vars found symbols uses c h (λ u x. names_in (written_term symbols u) ≡ x ∷ []) (λ e. refl) (λ s. ap (λ x. x ∷ []) (at_number symbols c s.symbol))
  names_again vars found symbols uses (applied f ts) h =
      let s = head_symbol vars found symbols uses f ts h in
      apply_names symbols (number_of symbols f) (terms_of found symbols ts) ∙ ap₂ (λ x xs. x ∷ xs) (at_number symbols f s.symbol ∙ sym (symbol_again vars found symbols f s)) (names_all_again vars found symbols uses ts (arguments_good vars found symbols uses f ts h))

  pub names_all_again : (vars found symbols : List Name) (uses : List (Name × ℕ)) (ts : Arguments) → AreGood vars found symbols uses ts → names_in_all (written_terms symbols (terms_of found symbols ts)) ≡ map (renamed symbols found) (names_in_all ts)
  names_all_again vars found symbols uses no_arguments h = refl
  names_all_again vars found symbols uses (argument t ts) h =
      ap₂ ◌++◌ (names_again vars found symbols uses t (first_good vars found symbols uses t ts h)) (names_all_again vars found symbols uses ts (others_good vars found symbols uses t ts h))
      ∙ sym (map-append (renamed symbols found) (names_in t) (names_in_all ts))

pub count_again : (found symbols : List Name) (ts : Arguments) → count_of (written_terms symbols (terms_of found symbols ts)) ≡ count_of ts
count_again found symbols no_arguments = refl
count_again found symbols (argument t ts) = omega (arith, count_again found symbols ts)

apply_uses : (symbols : List Name) (f : ℕ) (us : Trees) → uses_in (written_term symbols (apply f us)) ≡ uses_in_all (written_terms symbols us) ++ (symbol_text symbols f, count_of (written_terms symbols us)) ∷ []
apply_uses symbols f no_trees = refl
apply_uses symbols f (more_trees u us) = refl

mutual
  pub uses_again : (vars found symbols : List Name) (uses : List (Name × ℕ)) (t : Written) → IsGood vars found symbols uses t → uses_in (written_term symbols (term_of found symbols t)) ≡ map (renamed_use symbols found) (uses_in t)
  uses_again vars found symbols uses (alone c) h =
      alone_cases vars found symbols uses c h (λ u x. uses_in (written_term symbols u) ≡ (x, 0) ∷ []) (λ e. refl) (λ s. ap (λ x. (x, 0) ∷ []) (at_number symbols c s.symbol))
  uses_again vars found symbols uses (applied f ts) h =
      let s = head_symbol vars found symbols uses f ts h in
      apply_uses symbols (number_of symbols f) (terms_of found symbols ts)
      ∙ (λ i. uses_all_again vars found symbols uses ts (arguments_good vars found symbols uses f ts h) i ++ (let e = at_number symbols f s.symbol ∙ sym (symbol_again vars found symbols f s) in e i, count_again found symbols ts i) ∷ [])
      ∙ sym (map-append (renamed_use symbols found) (uses_in_all ts) ((f, count_of ts) ∷ []))

  pub uses_all_again : (vars found symbols : List Name) (uses : List (Name × ℕ)) (ts : Arguments) → AreGood vars found symbols uses ts → uses_in_all (written_terms symbols (terms_of found symbols ts)) ≡ map (renamed_use symbols found) (uses_in_all ts)
  uses_all_again vars found symbols uses no_arguments h = refl
  uses_all_again vars found symbols uses (argument t ts) h =
      ap₂ ◌++◌ (uses_again vars found symbols uses t (first_good vars found symbols uses t ts h)) (uses_all_again vars found symbols uses ts (others_good vars found symbols uses t ts h))
      ∙ sym (map-append (renamed_use symbols found) (uses_in t) (uses_in_all ts))

apply_depth : (symbols : List Name) (f : ℕ) (us : Trees) → depth_in (written_term symbols (apply f us)) ≡ depth_in_all (written_terms symbols us) + 1
apply_depth symbols f no_trees = refl
apply_depth symbols f (more_trees u us) = refl

mutual
  pub depth_again : (vars found symbols : List Name) (uses : List (Name × ℕ)) (t : Written) → IsGood vars found symbols uses t → depth_in (written_term symbols (term_of found symbols t)) ≡ depth_in t
  depth_again vars found symbols uses (alone c) h = alone_cases vars found symbols uses c h (λ u x. depth_in (written_term symbols u) ≡ 1) (λ e. refl) (λ s. refl)
  depth_again vars found symbols uses (applied f ts) h =
      apply_depth symbols (number_of symbols f) (terms_of found symbols ts) ∙ ap (λ n. n + 1) (depth_all_again vars found symbols uses ts (arguments_good vars found symbols uses f ts h))

  pub depth_all_again : (vars found symbols : List Name) (uses : List (Name × ℕ)) (ts : Arguments) → AreGood vars found symbols uses ts → depth_in_all (written_terms symbols (terms_of found symbols ts)) ≡ depth_in_all ts
  depth_all_again vars found symbols uses no_arguments h = refl
  depth_all_again vars found symbols uses (argument t ts) h =
      ap₂ max (depth_again vars found symbols uses t (first_good vars found symbols uses t ts h)) (depth_all_again vars found symbols uses ts (others_good vars found symbols uses t ts h))

-- no symbol stands among these
abbrev pub AreApart : List Name → List Name → Type 0
AreApart symbols xs = (c : Name) → is_among symbols c ≡ true → is_among xs c ≡ false

apply_unapplied : (symbols xs : List Name) (f : ℕ) (us : Trees) → is_among xs (symbol_text symbols f) ≡ false → are_unapplied xs (written_terms symbols us) ≡ true → is_unapplied xs (written_term symbols (apply f us)) ≡ true
apply_unapplied symbols xs f no_trees h k = refl
apply_unapplied symbols xs f (more_trees u us) h k = λ i. not (h i) && k i

mutual
  pub unapplied_again : (vars found symbols xs : List Name) (uses : List (Name × ℕ)) (t : Written) → IsGood vars found symbols uses t → AreApart symbols xs → is_unapplied xs (written_term symbols (term_of found symbols t)) ≡ true
  unapplied_again vars found symbols xs uses (alone c) h a = alone_cases vars found symbols uses c h (λ u x. is_unapplied xs (written_term symbols u) ≡ true) (λ e. refl) (λ s. refl)
  unapplied_again vars found symbols xs uses (applied f ts) h a =
      let s = head_symbol vars found symbols uses f ts h in
      apply_unapplied symbols xs (number_of symbols f) (terms_of found symbols ts) (ap (is_among xs) (at_number symbols f s.symbol) ∙ a f s.symbol) (unapplied_all_again vars found symbols xs uses ts (arguments_good vars found symbols uses f ts h) a)

  pub unapplied_all_again : (vars found symbols xs : List Name) (uses : List (Name × ℕ)) (ts : Arguments) → AreGood vars found symbols uses ts → AreApart symbols xs → are_unapplied xs (written_terms symbols (terms_of found symbols ts)) ≡ true
  unapplied_all_again vars found symbols xs uses no_arguments h a = refl
  unapplied_all_again vars found symbols xs uses (argument t ts) h a =
      ap₂ ◌&&◌ (unapplied_again vars found symbols xs uses t (first_good vars found symbols uses t ts h) a) (unapplied_all_again vars found symbols xs uses ts (others_good vars found symbols uses t ts h) a)

-- variables keep their numbers
pub record KeepsNumbers (symbols found again : List Name) : Type 0 where
  pub found_again : (c : Name) → is_among found c ≡ true → is_among again (renamed symbols found c) ≡ true
  pub number : (c : Name) → is_among found c ≡ true → number_of again (renamed symbols found c) ≡ number_of found c

apply_term : (symbols again : List Name) (f : ℕ) (us : Trees) → is_among again (symbol_text symbols f) ≡ false → term_of again symbols (written_term symbols (apply f us)) ≡ apply (number_of symbols (symbol_text symbols f)) (terms_of again symbols (written_terms symbols us))
apply_term symbols again f no_trees h = ap (λ v. cond v (variable (number_of again (symbol_text symbols f))) (apply (number_of symbols (symbol_text symbols f)) no_trees)) h
apply_term symbols again f (more_trees u us) h = refl

mutual
  pub term_again : (vars found symbols again : List Name) (uses : List (Name × ℕ)) (t : Written) → IsGood vars found symbols uses t → AreApart symbols again → KeepsNumbers symbols found again → term_of again symbols (written_term symbols (term_of found symbols t)) ≡ term_of found symbols t
  term_again vars found symbols again uses (alone c) h a k =
      alone_cases vars found symbols uses c h (λ u x. term_of again symbols (written_term symbols u) ≡ u)
      (λ e.
      let named : renamed symbols found c ≡ variable_text symbols (number_of found c) = ap (λ v. cond v (variable_text symbols (number_of found c)) c) e in
      ap (λ v. cond v (variable (number_of again (variable_text symbols (number_of found c)))) (apply (number_of symbols (variable_text symbols (number_of found c))) no_trees)) (ap (is_among again) (sym named) ∙ k.found_again c e)
      ∙ ap variable (ap (number_of again) (sym named) ∙ k.number c e))
      (λ s.
      apply_term symbols again (number_of symbols c) no_trees (ap (is_among again) (at_number symbols c s.symbol) ∙ a c s.symbol) ∙ ap (λ n. apply n no_trees) (ap (number_of symbols) (at_number symbols c s.symbol)))
  term_again vars found symbols again uses (applied f ts) h a k =
      let s = head_symbol vars found symbols uses f ts h in
      apply_term symbols again (number_of symbols f) (terms_of found symbols ts) (ap (is_among again) (at_number symbols f s.symbol) ∙ a f s.symbol)
      ∙ ap₂ apply (ap (number_of symbols) (at_number symbols f s.symbol)) (terms_again vars found symbols again uses ts (arguments_good vars found symbols uses f ts h) a k)

  pub terms_again : (vars found symbols again : List Name) (uses : List (Name × ℕ)) (ts : Arguments) → AreGood vars found symbols uses ts → AreApart symbols again → KeepsNumbers symbols found again → terms_of again symbols (written_terms symbols (terms_of found symbols ts)) ≡ terms_of found symbols ts
  terms_again vars found symbols again uses no_arguments h a k = refl
  terms_again vars found symbols again uses (argument t ts) h a k =
      ap₂ more_trees (term_again vars found symbols again uses t (first_good vars found symbols uses t ts h) a k) (terms_again vars found symbols again uses ts (others_good vars found symbols uses t ts h) a k)

-- ---- the terms themselves

length-terms_of : (found symbols : List Name) (ts : Arguments) → length (list_of (terms_of found symbols ts)) ≡ count_of ts
length-terms_of found symbols no_arguments = refl
length-terms_of found symbols (argument t ts) = omega (arith, length-terms_of found symbols ts)

mutual
  pub term_bounded : (vars found symbols : List Name) (uses : List (Name × ℕ)) (t : Written) (d : ℕ) → IsGood vars found symbols uses t → length found ≤ 64 → depth_in t ≤ d → IsBounded (map (entry_of uses) symbols) d (term_of found symbols t)
  term_bounded vars found symbols uses (alone c) d h few deep =
      alone_cases vars found symbols uses c h (λ u x. IsBounded (map (entry_of uses) symbols) d u)
      (λ e. (deep, let l = number_within found c e in omega arith))
      (λ s. (deep, subst (HasArity (map (entry_of uses) symbols) (number_of symbols c)) (sym (eqb-true 0 (unwrap_or (arity_in uses c) 0) (and_parts (nat_eq 0 (unwrap_or (arity_in uses c) 0)) true h.uses_agree).0)) (arity_at uses symbols c s.symbol), tt))
  term_bounded vars found symbols uses (applied f ts) d h few deep =
      let s = head_symbol vars found symbols uses f ts h in (
        omega arith,
        subst (HasArity (map (entry_of uses) symbols) (number_of symbols f)) (sym (length-terms_of found symbols ts ∙ head_arity vars found symbols uses f ts h)) (arity_at uses symbols f s.symbol),
        terms_bounded vars found symbols uses ts (d - 1) (arguments_good vars found symbols uses f ts h) few (omega arith),
      )

  pub terms_bounded : (vars found symbols : List Name) (uses : List (Name × ℕ)) (ts : Arguments) (d : ℕ) → AreGood vars found symbols uses ts → length found ≤ 64 → depth_in_all ts ≤ d → AreBounded (map (entry_of uses) symbols) d (terms_of found symbols ts)
  terms_bounded vars found symbols uses no_arguments d h few deep = tt
  terms_bounded vars found symbols uses (argument t ts) d h few deep =
      (term_bounded vars found symbols uses t d (first_good vars found symbols uses t ts h) few (omega arith), terms_bounded vars found symbols uses ts d (others_good vars found symbols uses t ts h) few (omega arith))
