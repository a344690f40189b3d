-- Terms over a signature as they are written.
use Rattle.std.proofs.Common.{◌≡◌, refl, ap, ap₂, sym, ◌∙◌, subst, arith, ℕ, zero, suc, ◌+◌, ◌-◌, ◌<◌, ◌≤◌, max, List, [], ◌∷◌, ◌++◌, Bool, true, false, not, ◌&&◌, ◌||◌, cond, length, get_or, length-append}
use Rattle.std.specs.Prelude.{bytes_eq, filter, map, ⊤}
use Rattle.std.specs.List.{list_all}
use Rattle.std.proofs.lemmas.List.{map-append}
use Rattle.std.proofs.lemmas.List.Elements.{filter-append}
use Rattle.std.proofs.lemmas.Bool.{and_parts}
use Rattle.kb_lemmas.proofs.Lists.{all_join}
use Rattle.kb_term.specs.Signature.{Signature, HasArity}
use Rattle.kb_term.specs.Substitution.{rename, instances}
use Rattle.kb_term.specs.Tree.{Tree, variable, apply, Trees, no_trees, more_trees, list_of, variables_of, variables_in, tree_size, trees_size, tree_depth, trees_depth}
use Rattle.kb_text.specs.Names.{Name, is_among, number_of}
use Rattle.kb_text.specs.Problems.{names_in, names_in_all, uses_in, uses_in_all, count_of, depth_in, depth_in_all, is_unapplied, are_unapplied, term_of, terms_of}
use Rattle.kb_text.specs.Rewritten.{written_term, written_terms}
use Rattle.kb_text.specs.TermReading.{IsBounded, AreBounded}
use Rattle.kb_text.specs.Terms.{names_of, variable_text, symbol_text}
use Rattle.kb_text.proofs.RewrittenLists.{same_name}
use Rattle.kb_text.proofs.RewrittenTerms.{AreApart, IsSymbol, all_split, at_number, good_other, is_good}
use Rattle.kb_text.proofs.TermTexts.{arity_within}
use Rattle.kb_export.specs.ReadBack.{IsSameTerm, AreSameTerms}
use Rattle.kb_export.specs.RuleTexts.{bound_of}

-- ---- shapes

-- each variable is below m
abbrev mutual
  pub IsBelow : ℕ → Tree → Type 0
  IsBelow m (variable n) = n < m
  IsBelow m (apply f ts) = AreBelow m ts

  pub AreBelow : ℕ → Trees → Type 0
  AreBelow m no_trees = ⊤
  AreBelow m (more_trees t ts) = IsBelow m t × AreBelow m ts

pub bound-append : (xs ys : List ℕ) → bound_of (xs ++ ys) ≡ max (bound_of xs) (bound_of ys)
bound-append [] ys = omega arith
bound-append (x ∷ xs) ys = omega (arith, bound-append xs ys)

mutual
  pub term_below : (m : ℕ) (t : Tree) → bound_of (variables_of t) ≤ m → IsBelow m t
  term_below m (variable n) h = omega (arith, h)
  term_below m (apply f ts) h = terms_below m ts h

  terms_below : (m : ℕ) (ts : Trees) → bound_of (variables_in ts) ≤ m → AreBelow m ts
  terms_below m no_trees h = tt
  terms_below m (more_trees t ts) h =
      let e = bound-append (variables_of t) (variables_in ts) in
      (term_below m t (omega (arith, h, e)), terms_below m ts (omega (arith, h, e)))

pub name_among : (xs : List Name) (k : ℕ) → k < length xs → is_among xs (get_or xs k []) ≡ true
name_among [] k h = absurd (omega arith)
name_among (x ∷ xs) zero h = ap (λ v. v || is_among xs x) (same_name x)
name_among (x ∷ xs) (suc k) h = ap (bytes_eq (get_or xs k []) x ||◌) (name_among xs k (omega arith)) ∙ or_true (bytes_eq (get_or xs k []) x)
  where
    or_true : (v : Bool) → (v || true) ≡ true
    or_true true = refl
    or_true false = refl

pub names_length : (signature : Signature) → length (names_of signature) ≡ length signature
names_length [] = refl
names_length (e ∷ signature) = omega (arith, names_length signature)

pub symbol_among : (signature : Signature) (f : ℕ) → f < length signature → is_among (names_of signature) (symbol_text (names_of signature) f) ≡ true
symbol_among signature f h = name_among (names_of signature) f (omega (arith, h, names_length signature))

apply_names : (names : List Name) (f : ℕ) (ts : Trees) → names_in (written_term names (apply f ts)) ≡ symbol_text names f ∷ names_in_all (written_terms names ts)
apply_names names f no_trees = refl
apply_names names f (more_trees t ts) = refl

apply_uses : (names : List Name) (f : ℕ) (ts : Trees) → uses_in (written_term names (apply f ts)) ≡ uses_in_all (written_terms names ts) ++ (symbol_text names f, count_of (written_terms names ts)) ∷ []
apply_uses names f no_trees = refl
apply_uses names f (more_trees t ts) = refl

count_written : (names : List Name) (ts : Trees) → count_of (written_terms names ts) ≡ length (list_of ts)
count_written names no_trees = refl
count_written names (more_trees t ts) = omega (arith, count_written names ts)

-- ---- what holds of each name and each use

module _ (signature : Signature) (m : ℕ) where
  abbrev ours : List Name
  ours = names_of signature

  mutual
    pub all_names_pass : (p : Name → Bool) → ((k : ℕ) → k < m → p (variable_text ours k) ≡ true) → ((f : ℕ) → f < length signature → p (symbol_text ours f) ≡ true) → (d : ℕ) (t : Tree) → IsBounded signature d t → IsBelow m t → list_all p (names_in (written_term ours t)) ≡ true
    all_names_pass p v s d (variable k) b l = ap (λ w. w && true) (v k l)
    all_names_pass p v s d (apply f ts) b l =
        ap (list_all p) (apply_names ours f ts) ∙ ap₂ ◌&&◌ (s f (arity_within signature f (length (list_of ts)) b.1)) (all_names_pass_in p v s (d - 1) ts b.2 l)

    all_names_pass_in : (p : Name → Bool) → ((k : ℕ) → k < m → p (variable_text ours k) ≡ true) → ((f : ℕ) → f < length signature → p (symbol_text ours f) ≡ true) → (d : ℕ) (ts : Trees) → AreBounded signature d ts → AreBelow m ts → list_all p (names_in_all (written_terms ours ts)) ≡ true
    all_names_pass_in p v s d no_trees b l = refl
    all_names_pass_in p v s d (more_trees t ts) b l =
        all_join p (names_in (written_term ours t)) (names_in_all (written_terms ours ts)) (all_names_pass p v s d t b.0 l.0) (all_names_pass_in p v s d ts b.1 l.1)

  mutual
    pub all_uses_pass : (p : Name × ℕ → Bool) → ((k : ℕ) → k < m → p (variable_text ours k, 0) ≡ true) → ((f n : ℕ) → HasArity signature f n → p (symbol_text ours f, n) ≡ true) → (d : ℕ) (t : Tree) → IsBounded signature d t → IsBelow m t → list_all p (uses_in (written_term ours t)) ≡ true
    all_uses_pass p v s d (variable k) b l = ap (λ w. w && true) (v k l)
    all_uses_pass p v s d (apply f ts) b l =
        ap (list_all p) (apply_uses ours f ts)
        ∙ all_join p (uses_in_all (written_terms ours ts)) ((symbol_text ours f, count_of (written_terms ours ts)) ∷ []) (all_uses_pass_in p v s (d - 1) ts b.2 l)
        (ap (λ n. p (symbol_text ours f, n) && true) (count_written ours ts) ∙ ap (λ w. w && true) (s f (length (list_of ts)) b.1))

    all_uses_pass_in : (p : Name × ℕ → Bool) → ((k : ℕ) → k < m → p (variable_text ours k, 0) ≡ true) → ((f n : ℕ) → HasArity signature f n → p (symbol_text ours f, n) ≡ true) → (d : ℕ) (ts : Trees) → AreBounded signature d ts → AreBelow m ts → list_all p (uses_in_all (written_terms ours ts)) ≡ true
    all_uses_pass_in p v s d no_trees b l = refl
    all_uses_pass_in p v s d (more_trees t ts) b l =
        all_join p (uses_in (written_term ours t)) (uses_in_all (written_terms ours ts)) (all_uses_pass p v s d t b.0 l.0) (all_uses_pass_in p v s d ts b.1 l.1)

  -- ---- variables stand before no parentheses

  mutual
    pub unapplied : (xs : List Name) → AreApart ours xs → (d : ℕ) (t : Tree) → IsBounded signature d t → is_unapplied xs (written_term ours t) ≡ true
    unapplied xs a d (variable k) b = refl
    unapplied xs a d (apply f no_trees) b = refl
    unapplied xs a d (apply f (more_trees t ts)) b =
        ap₂ (λ v w. not v && w) (a (symbol_text ours f) (symbol_among signature f (arity_within signature f (length (list_of (more_trees t ts))) b.1))) (unapplied_in xs a (d - 1) (more_trees t ts) b.2)

    unapplied_in : (xs : List Name) → AreApart ours xs → (d : ℕ) (ts : Trees) → AreBounded signature d ts → are_unapplied xs (written_terms ours ts) ≡ true
    unapplied_in xs a d no_trees b = refl
    unapplied_in xs a d (more_trees t ts) b = ap₂ ◌&&◌ (unapplied xs a d t b.0) (unapplied_in xs a d ts b.1)

  -- ---- the variables among the names

  mutual
    pub variables_written : (xs : List Name) → AreApart ours xs → ((k : ℕ) → k < m → is_among xs (variable_text ours k) ≡ true) → (d : ℕ) (t : Tree) → IsBounded signature d t → IsBelow m t → filter (is_among xs) (names_in (written_term ours t)) ≡ map (variable_text ours) (variables_of t)
    variables_written xs a c d (variable k) b l = ap (λ v. cond v (variable_text ours k ∷ []) []) (c k l)
    variables_written xs a c d (apply f ts) b l =
        ap (filter (is_among xs)) (apply_names ours f ts)
        ∙ ap (λ v. cond v (symbol_text ours f ∷ filter (is_among xs) (names_in_all (written_terms ours ts))) (filter (is_among xs) (names_in_all (written_terms ours ts)))) (a (symbol_text ours f) (symbol_among signature f (arity_within signature f (length (list_of ts)) b.1)))
        ∙ variables_written_in xs a c (d - 1) ts b.2 l

    variables_written_in : (xs : List Name) → AreApart ours xs → ((k : ℕ) → k < m → is_among xs (variable_text ours k) ≡ true) → (d : ℕ) (ts : Trees) → AreBounded signature d ts → AreBelow m ts → filter (is_among xs) (names_in_all (written_terms ours ts)) ≡ map (variable_text ours) (variables_in ts)
    variables_written_in xs a c d no_trees b l = refl
    variables_written_in xs a c d (more_trees t ts) b l =
        filter-append (is_among xs) (names_in (written_term ours t)) (names_in_all (written_terms ours ts))
        ∙ ap₂ ◌++◌ (variables_written xs a c d t b.0 l.0) (variables_written_in xs a c d ts b.1 l.1)
        ∙ sym (map-append (variable_text ours) (variables_of t) (variables_in ts))

-- ---- sizes

mutual
  pub depth_written : (names : List Name) (t : Tree) → depth_in (written_term names t) ≡ tree_depth t
  depth_written names (variable k) = refl
  depth_written names (apply f no_trees) = refl
  depth_written names (apply f (more_trees t ts)) = ap (λ n. n + 1) (depths_written names (more_trees t ts))

  depths_written : (names : List Name) (ts : Trees) → depth_in_all (written_terms names ts) ≡ trees_depth ts
  depths_written names no_trees = refl
  depths_written names (more_trees t ts) = ap₂ max (depth_written names t) (depths_written names ts)

mutual
  pub size_written : (names : List Name) (t : Tree) → length (names_in (written_term names t)) ≡ tree_size t
  size_written names (variable k) = refl
  size_written names (apply f ts) = ap length (apply_names names f ts) ∙ omega (arith, sizes_written names ts)

  sizes_written : (names : List Name) (ts : Trees) → length (names_in_all (written_terms names ts)) ≡ trees_size ts
  sizes_written names no_trees = refl
  sizes_written names (more_trees t ts) = omega (arith, length-append (names_in (written_term names t)) (names_in_all (written_terms names ts)), size_written names t, sizes_written names ts)

-- ---- they are read as they were

abbrev variable_in : Tree → ℕ → ℕ
variable_in (variable n) d = n
variable_in (apply f ts) d = d

abbrev arguments_in : Tree → Trees
arguments_in (variable n) = no_trees
arguments_in (apply f ts) = ts

abbrev first_of : Trees → Tree → Tree
first_of no_trees d = d
first_of (more_trees t ts) d = t

abbrev others_of : Trees → Trees
others_of no_trees = no_trees
others_of (more_trees t ts) = ts

apply_read : (names found symbols : List Name) (f : ℕ) (ts : Trees) → is_among found (symbol_text names f) ≡ false → term_of found symbols (written_term names (apply f ts)) ≡ apply (number_of symbols (symbol_text names f)) (terms_of found symbols (written_terms names ts))
apply_read names found symbols f no_trees h = ap (λ v. cond v (variable (number_of found (symbol_text names f))) (apply (number_of symbols (symbol_text names f)) no_trees)) h
apply_read names found symbols f (more_trees t ts) h = refl

module _ (signature : Signature) (m : ℕ) (xs found symbols : List Name) (place : ℕ → ℕ)
    (apart : AreApart (names_of signature) xs) (covers : (k : ℕ) → k < m → is_among xs (variable_text (names_of signature) k) ≡ true) (numbers : (k : ℕ) → k < m → number_of found (variable_text (names_of signature) k) ≡ place k) where
  mutual
    pub term_read : (d : ℕ) (t : Tree) → IsBounded signature d t → IsBelow m t → list_all (is_good xs found symbols) (names_in (written_term (names_of signature) t)) ≡ true → rename place t ≡ t → IsSameTerm (names_of signature) t symbols (term_of found symbols (written_term (names_of signature) t))
    term_read d (variable k) b l g e =
        let name = variable_text (names_of signature) k in
        let good = (and_parts (is_good xs found symbols name) true g).0 in
        let there : is_among found name ≡ true = sym (ap (λ v. cond v (is_among found name) (not (is_among found name) && is_among symbols name)) (covers k l)) ∙ good in
        let is : term_of found symbols (written_term (names_of signature) (variable k)) ≡ variable (number_of found name) = ap (λ v. cond v (variable (number_of found name)) (apply (number_of symbols name) no_trees)) there in
        subst (IsSameTerm (names_of signature) (variable k) symbols) (sym is) (sym (numbers k l ∙ ap (λ t. variable_in t k) e))
    term_read d (apply f ts) b l g e =
        let name = symbol_text (names_of signature) f in
        let inside = arity_within signature f (length (list_of ts)) b.1 in
        let h = and_parts (is_good xs found symbols name) (list_all (is_good xs found symbols) (names_in_all (written_terms (names_of signature) ts))) (ap (list_all (is_good xs found symbols)) (sym (apply_names (names_of signature) f ts)) ∙ g) in
        let s : IsSymbol xs found symbols name = good_other xs found symbols name h.0 (apart name (symbol_among signature f inside)) in
        subst (IsSameTerm (names_of signature) (apply f ts) symbols) (sym (apply_read (names_of signature) found symbols f ts s.not_found))
        (sym (at_number symbols name s.symbol), terms_read (d - 1) ts b.2 l h.1 (ap arguments_in e))

    terms_read : (d : ℕ) (ts : Trees) → AreBounded signature d ts → AreBelow m ts → list_all (is_good xs found symbols) (names_in_all (written_terms (names_of signature) ts)) ≡ true → instances (λ n. variable (place n)) ts ≡ ts → AreSameTerms (names_of signature) ts symbols (terms_of found symbols (written_terms (names_of signature) ts))
    terms_read d no_trees b l g e = tt
    terms_read d (more_trees t ts) b l g e =
        let h = all_split (is_good xs found symbols) (names_in (written_term (names_of signature) t)) (names_in_all (written_terms (names_of signature) ts)) g in
        (term_read d t b.0 l.0 h.0 (ap (λ us. first_of us t) e), terms_read d ts b.1 l.1 h.1 (ap others_of e))
