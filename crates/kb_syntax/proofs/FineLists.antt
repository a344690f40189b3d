-- Tests of lists with one more member.
use Rattle.std.proofs.Common.{append-nil, append_assoc, ◌≡◌, refl, ap, sym, ◌∙◌, subst, arith, ℕ, ◌<◌, ◌≤◌, List, [], ◌∷◌, ◌++◌, Option, Some, None, Bool, true, false, cond, ◌&&◌, ◌||◌, length, length-append}
use Rattle.std.specs.Prelude.{not, nat_eq, bytes_eq, is_some, unwrap_or, filter}
use Rattle.std.specs.List.{list_all, list_any}
use Rattle.std.proofs.lemmas.List.Folds.{list_any-append}
use Rattle.std.proofs.lemmas.List.Elements.{filter-append}
use Rattle.kb_text.specs.Names.{Name, is_among, firsts, are_distinct}
use Rattle.kb_text.specs.Grammar.{Section, variables, rules, skipped}
use Rattle.kb_text.specs.Problems.{arity_in, agree, are_ordered, is_variables, is_rules, equations_of}
use Rattle.kb_text.specs.Refusals.{has_other_arity, is_new, is_some_and}
use Rattle.kb_text.proofs.Firsts.{same_bytes, is_among-firsts, firsts-push}
use Rattle.kb_syntax.proofs.Known.{arity-append}
use Rattle.std.proofs.lemmas.Bool.{and_from, and_parts}
use Rattle.kb_text.proofs.RewrittenLists.{same_name, among-append}
use Rattle.kb_lemmas.proofs.Lists.{all_join}

pub all_one : {X : Type 0} (p : X → Bool) (x : X) → p x ≡ true → list_all p (x ∷ []) ≡ true
all_one p x h = ap (λ (b : Bool). b && true) h

-- ---- names

pub distinct-push : (xs : List Name) (x : Name) → are_distinct xs ≡ true → is_among xs x ≡ false → are_distinct (xs ++ x ∷ []) ≡ true
distinct-push [] x h k = refl
distinct-push (y ∷ ys) x h k = go (is_among ys y) (bytes_eq x y) refl refl (distinct-push ys x) h k
  where
    go : (a b : Bool) → is_among ys y ≡ a → bytes_eq x y ≡ b → (are_distinct ys ≡ true → is_among ys x ≡ false → are_distinct (ys ++ x ∷ []) ≡ true)
        → cond a false (are_distinct ys) ≡ true → (b || is_among ys x) ≡ false → cond (is_among (ys ++ x ∷ []) y) false (are_distinct (ys ++ x ∷ [])) ≡ true
    go true b p q ih h k = absurd (cc)
    go false true p q ih h k = absurd (cc)
    go false false p q ih h k =
        let other : bytes_eq y x ≡ false = turned in
        ap (λ (c : Bool). cond c false (are_distinct (ys ++ x ∷ []))) (among-append ys (x ∷ []) y ∙ (λ i. p i || (other i || false))) ∙ ih h k
      where
        turned : bytes_eq y x ≡ false
        turned = by (bytes_eq y x) refl
          where
            by : (c : Bool) → bytes_eq y x ≡ c → c ≡ false
            by true e = let s = same_bytes y x e in absurd (true_false (sym (ap (λ (z : Name). bytes_eq x z) s ∙ same_name x) ∙ q))
              where
                true_false : true ≡ false → ⊥
                true_false e = cc
            by false e = refl

filter_one : (p : Name → Bool) (xs : List Name) (x : Name) → filter p (xs ++ x ∷ []) ≡ filter p xs ++ cond (p x) (x ∷ []) []
filter_one p xs x = filter-append p xs (x ∷ [])

-- one more name makes at most one more different name, and none where there are enough
pub few_more : (p : Name → Bool) (names : List Name) (x : Name) (n : ℕ) → length (firsts (filter p names)) ≤ n → (is_new x (filter p names) n && p x) ≡ false → length (firsts (filter p (names ++ x ∷ []))) ≤ n
few_more p names x n h k = subst (λ (xs : List Name). length (firsts xs) ≤ n) (sym (filter_one p names x)) (go (p x) refl)
  where
    go : (b : Bool) → p x ≡ b → length (firsts (filter p names ++ cond b (x ∷ []) [])) ≤ n
    go false e = subst (λ (xs : List Name). length (firsts xs) ≤ n) (sym (append-nil (filter p names))) h
    go true e = subst (λ (xs : List Name). length xs ≤ n) (sym (firsts-push (filter p names) x)) (by (is_among (firsts (filter p names)) x) refl)
      where
        by : (b : Bool) → is_among (firsts (filter p names)) x ≡ b → length (cond b (firsts (filter p names)) (firsts (filter p names) ++ x ∷ [])) ≤ n
        by true q = h
        by false q =
            let here : is_among (filter p names) x ≡ false = sym (is_among-firsts (filter p names) x) ∙ q in
            let full : nat_eq (length (firsts (filter p names))) n ≡ false = enough (nat_eq (length (firsts (filter p names))) n) ((λ i. (not (sym here i) && nat_eq (length (firsts (filter p names))) n) && sym e i) ∙ k) in
            let ne : length (firsts (filter p names)) < n = grind arith in
            omega (arith, ne, length-append (firsts (filter p names)) (x ∷ []))
          where
            enough : (c : Bool) → ((true && c) && true) ≡ false → c ≡ false
            enough true e = absurd (cc)
            enough false e = refl

-- ---- uses

abbrev fits_first : List (Name × ℕ) → Name × ℕ → Bool
fits_first all u = nat_eq u.1 (unwrap_or (arity_in all u.0) 0)

pub arity-more : (us vs : List (Name × ℕ)) (x : Name) → is_some (arity_in us x) ≡ true → arity_in (us ++ vs) x ≡ arity_in us x
arity-more us vs x h = arity-append us vs x ∙ ap (λ (b : Bool). cond b (arity_in us x) (arity_in vs x)) h

pub some-within : (before us : List (Name × ℕ)) (u : Name × ℕ) → is_some (arity_in (before ++ u ∷ us) u.0) ≡ true
some-within before us u = ap is_some (arity-append before (u ∷ us) u.0) ∙ go (arity_in before u.0) (bytes_eq u.0 u.0) (same_name u.0)
  where
    go : (o : Option ℕ) (b : Bool) → b ≡ true → is_some (cond (is_some o) o (cond b (Some u.1) (arity_in us u.0))) ≡ true
    go None true h = refl
    go None false h = absurd (cc)
    go (Some n) b h = refl

all_same_first : (before us vs : List (Name × ℕ)) → list_all (fits_first (before ++ us)) us ≡ true → list_all (fits_first ((before ++ us) ++ vs)) us ≡ true
all_same_first before [] vs h = refl
all_same_first before (u ∷ us) vs h =
    let parts = and_parts (fits_first (before ++ u ∷ us) u) (list_all (fits_first (before ++ u ∷ us)) us) h in
    let moved : before ++ u ∷ us ≡ (before ++ u ∷ []) ++ us = sym (append_assoc before (u ∷ []) us) in
    let rest = all_same_first (before ++ u ∷ []) us vs (ap (λ (all : List (Name × ℕ)). list_all (fits_first all) us) (sym moved) ∙ parts.1) in
    and_from _ _
    (ap (λ (o : Option ℕ). nat_eq u.1 (unwrap_or o 0)) (arity-more (before ++ u ∷ us) vs u.0 (some-within before us u)) ∙ parts.0)
    (ap (λ (all : List (Name × ℕ)). list_all (fits_first (all ++ vs)) us) moved ∙ rest)

pub agree-push : (us : List (Name × ℕ)) (x : Name) (n : ℕ) → agree us ≡ true → has_other_arity us x n ≡ false → agree (us ++ (x, n) ∷ []) ≡ true
agree-push us x n h k = all_join (fits_first (us ++ (x, n) ∷ [])) us ((x, n) ∷ []) (all_same_first [] us ((x, n) ∷ []) h) (all_one (fits_first (us ++ (x, n) ∷ [])) (x, n) own)
  where
    own : nat_eq n (unwrap_or (arity_in (us ++ (x, n) ∷ []) x) 0) ≡ true
    own = ap (λ (o : Option ℕ). nat_eq n (unwrap_or o 0)) (arity-append us ((x, n) ∷ []) x) ∙ go (arity_in us x) refl (bytes_eq x x) (same_name x)
      where
        go : (o : Option ℕ) → arity_in us x ≡ o → (b : Bool) → b ≡ true → nat_eq n (unwrap_or (cond (is_some o) o (cond b (Some n) None)) 0) ≡ true
        go None e true q = equal n
          where
            equal : (n : ℕ) → nat_eq n n ≡ true
            equal n = grind arith
        go None e false q = absurd (cc)
        go (Some m) e b q = same m (ap (λ (o : Option ℕ). is_some_and o (λ m. not (nat_eq m n))) (sym e) ∙ k)
          where
            same : (m : ℕ) → not (nat_eq m n) ≡ false → nat_eq n m ≡ true
            same m q = by (nat_eq m n) refl q
              where
                by : (b : Bool) → nat_eq m n ≡ b → not b ≡ false → nat_eq n m ≡ true
                by true e q = grind arith
                by false e q = absurd (cc)

-- ---- sections

pub no-equations : (ss : List Section) → list_any is_rules ss ≡ false → equations_of ss ≡ []
no-equations [] h = refl
no-equations (variables xs ∷ ss) h = no-equations ss h
no-equations (rules es ∷ ss) h = absurd (cc)
no-equations (skipped x ts ∷ ss) h = no-equations ss h

pub ordered-variables : (ss : List Section) (xs : List Name) → list_any is_rules ss ≡ false → are_ordered (ss ++ variables xs ∷ []) ≡ true
ordered-variables [] xs h = refl
ordered-variables (variables ys ∷ ss) xs h = ordered-variables ss xs h
ordered-variables (rules es ∷ ss) xs h = absurd (cc)
ordered-variables (skipped x ts ∷ ss) xs h = ordered-variables ss xs h

pub ordered-other : (ss : List Section) (s : Section) → is_variables s ≡ false → are_ordered ss ≡ true → are_ordered (ss ++ s ∷ []) ≡ true
ordered-other [] (variables xs) h k = absurd (cc)
ordered-other [] (rules es) h k = refl
ordered-other [] (skipped x ts) h k = refl
ordered-other (variables ys ∷ ss) s h k = ordered-other ss s h k
ordered-other (rules es ∷ ss) s h k = ap not (list_any-append is_variables ss (s ∷ []) ∙ (λ i. list_any is_variables ss || (h i || false)) ∙ or_false (list_any is_variables ss)) ∙ k
  where
    or_false : (b : Bool) → (b || false) ≡ b
    or_false true = refl
    or_false false = refl
ordered-other (skipped x ts ∷ ss) s h k = ordered-other ss s h k

-- the names of skipped sections
abbrev pub skipped_names : List Section → List Name
skipped_names [] = []
skipped_names (variables xs ∷ ss) = skipped_names ss
skipped_names (rules es ∷ ss) = skipped_names ss
skipped_names (skipped x ts ∷ ss) = x ∷ skipped_names ss

pub skipped-append : (ss us : List Section) → skipped_names (ss ++ us) ≡ skipped_names ss ++ skipped_names us
skipped-append [] us = refl
skipped-append (variables xs ∷ ss) us = skipped-append ss us
skipped-append (rules es ∷ ss) us = skipped-append ss us
skipped-append (skipped x ts ∷ ss) us = ap (x ∷◌) (skipped-append ss us)
