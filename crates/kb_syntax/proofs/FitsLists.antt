-- Tests of lists, of which those of a front of the list follow.
use Rattle.std.proofs.Common.{append-nil, append_assoc, ◌≡◌, refl, ap, sym, ◌∙◌, subst, arith, ℕ, ◌+◌, ◌≤◌, List, [], ◌∷◌, ◌++◌, Option, Some, None, Bool, true, false, cond, ◌&&◌, ◌||◌, length, length-append}
use Rattle.std.specs.Prelude.{not, nat_eq, is_some, unwrap_or, filter, bytes_eq}
use Rattle.std.specs.List.{list_all, list_any, AllByRecursion}
use Rattle.std.proofs.lemmas.List.Folds.{list_all-append, list_any-append}
use Rattle.std.proofs.lemmas.List.Elements.{filter-append}
use Rattle.std.proofs.lemmas.Bool.{or_from, or_parts, and_parts, and_from}
use Rattle.kb_text.proofs.RewrittenLists.{among-append}
use Rattle.kb_text.specs.Names.{Name, is_among, firsts, are_distinct}
use Rattle.kb_text.specs.Tokens.{Token, identifier}
use Rattle.kb_text.specs.Grammar.{Section, variables, rules, skipped}
use Rattle.kb_text.specs.Problems.{arity_in, agree, are_ordered, is_variables, is_rules}
use Rattle.kb_text.specs.Refusals.{has_other_arity, is_new, is_some_and}
use Rattle.kb_syntax.specs.Moves.{names_of_token}
use Rattle.kb_text.proofs.Firsts.{is_among-firsts, firsts-push, bytes_eq-comm}
use Rattle.kb_syntax.proofs.FineLists.{arity-more, some-within}

-- a test of a list holds for its front
pub all_front : {X : Type 0} (p : X → Bool) (xs ys : List X) → list_all p (xs ++ ys) ≡ true → list_all p xs ≡ true
all_front p xs ys h = (and_parts _ _ (sym (list_all-append p xs ys) ∙ h)).0

pub all_behind : {X : Type 0} (p : X → Bool) (xs ys : List X) → list_all p (xs ++ ys) ≡ true → list_all p ys ≡ true
all_behind p xs ys h = (and_parts _ _ (sym (list_all-append p xs ys) ∙ h)).1

pub each_front : {X : Type 0} (P : X → Type 0) (xs ys : List X) → AllByRecursion P (xs ++ ys) → AllByRecursion P xs × AllByRecursion P ys
each_front P [] ys h = (tt, h)
each_front P (x ∷ xs) ys h = let r = each_front P xs ys h.1 in ((h.0, r.0), r.1)

-- ---- names

one_more : (xs : List Name) (x : Name) → is_among xs x ≡ false → length (firsts (xs ++ x ∷ [])) ≡ length (firsts xs) + 1
one_more xs x h = ap length (firsts-push xs x) ∙ (λ i. length (cond ((is_among-firsts xs x ∙ h) i) (firsts xs) (firsts xs ++ x ∷ []))) ∙ length-append (firsts xs) (x ∷ [])

-- where there aren't more different names with x than n, x isn't a new one behind n
pub few_less : (p : Name → Bool) (names : List Name) (x : Name) (n : ℕ) → length (firsts (filter p (names ++ x ∷ []))) ≤ n → (is_new x (filter p names) n && p x) ≡ false
few_less p names x n h = go (p x) refl (is_among (filter p names) x) refl
  where
    others : List Name
    others = filter p names

    and_false : (b : Bool) → (b && false) ≡ false
    and_false true = refl
    and_false false = refl

    apart : (m n : ℕ) → m + 1 ≤ n → nat_eq m n ≡ false
    apart m n h = grind arith

    go : (a : Bool) → p x ≡ a → (b : Bool) → is_among (filter p names) x ≡ b → ((not (is_among (filter p names) x) && nat_eq (length (firsts (filter p names))) n) && p x) ≡ false
    go false e b q = ap ((not (is_among (filter p names) x) && nat_eq (length (firsts (filter p names))) n) &&◌) e ∙ and_false _
    go true e true q = (λ i. (not (q i) && nat_eq (length (firsts (filter p names))) n) && e i)
    go true e false q =
        let grown : length (firsts (filter p (names ++ x ∷ []))) ≡ length (firsts (filter p names)) + 1 = ap (λ (ns : List Name). length (firsts ns)) (filter-append p names (x ∷ [])) ∙ (λ i. length (firsts (filter p names ++ cond (e i) (x ∷ []) []))) ∙ one_more (filter p names) x q in
        let less : nat_eq (length (firsts (filter p names))) n ≡ false = apart (length (firsts (filter p names))) n (omega (arith, grown, h)) in
        (λ i. (not (q i) && less i) && e i)

firsts_less : (xs : List Name) (x : Name) → length (firsts xs) ≤ length (firsts (xs ++ x ∷ []))
firsts_less xs x = subst (λ (ns : List Name). length (firsts xs) ≤ length ns) (sym (firsts-push xs x)) (go (is_among (firsts xs) x))
  where
    go : (b : Bool) → length (firsts xs) ≤ length (cond b (firsts xs) (firsts xs ++ x ∷ []))
    go true = omega arith
    go false = omega (arith, length-append (firsts xs) (x ∷ []))

-- the different names, without that of a token
pub fewer_names : (p : Name → Bool) (names : List Name) (t : Token) (n : ℕ) → length (firsts (filter p (names ++ names_of_token t))) ≤ n → length (firsts (filter p names)) ≤ n
fewer_names p names (identifier x) n h = go (p x) (subst (λ (ns : List Name). length (firsts ns) ≤ n) (filter-append p names (x ∷ [])) h)
  where
    go : (b : Bool) → length (firsts (filter p names ++ cond b (x ∷ []) [])) ≤ n → length (firsts (filter p names)) ≤ n
    go true k = let less = firsts_less (filter p names) x in omega (arith, less, k)
    go false k = subst (λ (ns : List Name). length (firsts ns) ≤ n) (append-nil (filter p names)) k
fewer_names p names t n h = subst (λ (ns : List Name). length (firsts (filter p ns)) ≤ n) (append-nil names) h

pub not_either : (a b : Bool) → cond a false b ≡ true → (a ≡ false) × (b ≡ true)
not_either true b h = absurd (cc)
not_either false b h = (refl, h)

pub distinct_front : (xs ys : List Name) → are_distinct (xs ++ ys) ≡ true → are_distinct xs ≡ true
distinct_front [] ys h = refl
distinct_front (x ∷ xs) ys h =
    let r = not_either (is_among (xs ++ ys) x) (are_distinct (xs ++ ys)) h in
    let q = or_parts (is_among xs x) (is_among ys x) (sym (among-append xs ys x) ∙ r.0) in
    (λ i. cond (q.0 i) false (distinct_front xs ys r.1 i))

pub distinct_last : (xs : List Name) (x : Name) → are_distinct (xs ++ x ∷ []) ≡ true → is_among xs x ≡ false
distinct_last [] x h = refl
distinct_last (y ∷ ys) x h =
    let r = not_either (is_among (ys ++ x ∷ []) y) (are_distinct (ys ++ x ∷ [])) h in
    let q = or_parts (is_among ys y) (bytes_eq y x || false) (sym (among-append ys (x ∷ []) y) ∙ r.0) in
    or_from (bytes_eq x y) (is_among ys x) (bytes_eq-comm y x false (or_parts (bytes_eq y x) false q.1).0) (distinct_last ys x r.1)

-- ---- uses

abbrev fits_first : List (Name × ℕ) → Name × ℕ → Bool
fits_first all u = nat_eq u.1 (unwrap_or (arity_in all u.0) 0)

same_first : (before us vs : List (Name × ℕ)) → list_all (fits_first ((before ++ us) ++ vs)) us ≡ true → list_all (fits_first (before ++ us)) us ≡ true
same_first before [] vs h = refl
same_first before (u ∷ us) vs h =
    let parts = and_parts (fits_first ((before ++ u ∷ us) ++ vs) u) (list_all (fits_first ((before ++ u ∷ us) ++ vs)) us) h in
    let moved : before ++ u ∷ us ≡ (before ++ u ∷ []) ++ us = sym (append_assoc before (u ∷ []) us) in
    let rest = same_first (before ++ u ∷ []) us vs (ap (λ (all : List (Name × ℕ)). list_all (fits_first (all ++ vs)) us) (sym moved) ∙ parts.1) in
    and_from _ _
    (ap (λ (o : Option ℕ). nat_eq u.1 (unwrap_or o 0)) (sym (arity-more (before ++ u ∷ us) vs u.0 (some-within before us u))) ∙ parts.0)
    (ap (λ (all : List (Name × ℕ)). list_all (fits_first all) us) moved ∙ rest)

pub agree_front : (us vs : List (Name × ℕ)) → agree (us ++ vs) ≡ true → agree us ≡ true
agree_front us vs h = same_first [] us vs (all_front (fits_first (us ++ vs)) us vs h)

pub agree_last : (us : List (Name × ℕ)) (x : Name) (n : ℕ) (vs : List (Name × ℕ)) → agree (us ++ (x, n) ∷ vs) ≡ true → has_other_arity us x n ≡ false
agree_last us x n vs h = go (arity_in us x) refl
  where
    all : List (Name × ℕ)
    all = us ++ (x, n) ∷ vs

    own : nat_eq n (unwrap_or (arity_in (us ++ (x, n) ∷ vs) x) 0) ≡ true
    own = (and_parts _ _ (all_behind (fits_first (us ++ (x, n) ∷ vs)) us ((x, n) ∷ vs) h)).0

    other : (m : ℕ) → nat_eq n m ≡ true → not (nat_eq m n) ≡ false
    other m e = let same : nat_eq m n ≡ true = grind arith in ap not same

    go : (o : Option ℕ) → arity_in us x ≡ o → has_other_arity us x n ≡ false
    go None e = ap (λ (o : Option ℕ). is_some_and o (λ m. not (nat_eq m n))) e
    go (Some m) e =
        let first : arity_in (us ++ (x, n) ∷ vs) x ≡ Some m = arity-more us ((x, n) ∷ vs) x (ap is_some e) ∙ e in
        ap (λ (o : Option ℕ). is_some_and o (λ m. not (nat_eq m n))) e ∙ other m (ap (λ (o : Option ℕ). nat_eq n (unwrap_or o 0)) (sym first) ∙ own)

-- ---- sections

not_or : (a b : Bool) → not (a || b) ≡ true → (a ≡ false) × (b ≡ false)
not_or true b h = absurd (cc)
not_or false true h = absurd (cc)
not_or false false h = (refl, refl)

pub ordered_front : (ss : List Section) (s : Section) → are_ordered (ss ++ s ∷ []) ≡ true → are_ordered ss ≡ true
ordered_front [] s h = refl
ordered_front (variables xs ∷ ss) s h = ordered_front ss s h
ordered_front (rules es ∷ ss) s h = ap not (not_or (list_any is_variables ss) (list_any is_variables (s ∷ [])) (ap not (sym (list_any-append is_variables ss (s ∷ []))) ∙ h)).0
ordered_front (skipped x ts ∷ ss) s h = ordered_front ss s h

pub none_before_variables : (ss : List Section) (xs : List Name) → are_ordered (ss ++ variables xs ∷ []) ≡ true → list_any is_rules ss ≡ false
none_before_variables [] xs h = refl
none_before_variables (variables ys ∷ ss) xs h = none_before_variables ss xs h
none_before_variables (rules es ∷ ss) xs h = let r = not_or (list_any is_variables ss) true (ap not (sym (list_any-append is_variables ss (variables xs ∷ []))) ∙ h) in absurd (no r.1)
  where
    no : true ≡ false → ⊥
    no e = cc
none_before_variables (skipped x ts ∷ ss) xs h = none_before_variables ss xs h
