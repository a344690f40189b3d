-- The text of rules spells a problem with the same equations.
use Rattle.std.proofs.Common.{◌≡◌, refl, ap, ap₂, sym, ◌∙◌, subst, arith, append-nil, append_assoc, ℕ, zero, suc, ◌+◌, ◌<◌, ◌≤◌, max, List, [], ◌∷◌, ◌++◌, Bool, true, false, not, ◌&&◌, ◌||◌, cond, Some, length, get_or, All, length-append}
use Rattle.std.specs.Prelude.{bytes_eq, decimal, filter, map, nat_eq, nat_le, replicate, unwrap_or, ⊤}
use Rattle.std.specs.List.{list_all, range_with_len}
use Rattle.std.proofs.lemmas.Bool.{eq-eqb, eqb-true, le-leb, and_parts}
use Rattle.std.proofs.lemmas.Fmt.{length-decimal-le}
use Rattle.std.proofs.lemmas.List.{get_or-map, length-map, map-append, length-replicate}
use Rattle.std.proofs.lemmas.List.Elements.{Contains-get_or, filter-append}
use Rattle.std.proofs.Math.Bool.{or-true}
use Rattle.kb_lemmas.proofs.Lists.{all_join}
use Rattle.kb_term.specs.Pair.{Pair, place_in, variables_of_pair}
use Rattle.kb_term.specs.Signature.{Signature, SymbolEntry, Problem, IsSignature, HasArity, IsTermWithinLimits, IsEquationWithinLimits, IsWithinLimits}
use Rattle.kb_term.specs.Tree.{Tree, variables_of}
use Rattle.kb_term.proofs.Bounded.{AreBelow}
use Rattle.kb_text.specs.Names.{Name, is_among, number_of, firsts, are_distinct}
use Rattle.kb_text.specs.Grammar.{Written, WrittenEquation, Section}
use Rattle.kb_text.specs.Problems.{MeetsConditions, MeetsLimits, variables_of as variables_in, equations_of, sides_of, all_names, all_uses, agree, arity_in, names_in, uses_in, depth_in, is_unapplied, symbols_among, symbol_names, equation_variables, equation_of, entry_of, problem_of}
use Rattle.kb_text.specs.Rewritten.{written_term}
use Rattle.kb_text.specs.TermReading.{IsBounded}
use Rattle.kb_text.specs.Terms.{names_of, prefix_length, symbol_text, term_text, variable_text}
use Rattle.kb_text.proofs.Firsts.{same_bytes, is_among-firsts}
use Rattle.kb_text.proofs.Prefixes.{prefix_small}
use Rattle.kb_text.proofs.ProblemTokens.{IsBoundedEquation}
use Rattle.kb_text.proofs.RewrittenTerms.{AreApart, at_number, number_within}
use Rattle.kb_text.proofs.RewrittenLists.{among-filter, no_symbol_is_variable, same_name, variables_apart, variables_cover, variables_distinct}
use Rattle.kb_text.proofs.RewrittenEquations.{AreGoodEquations, agrees, good_equations}
use Rattle.kb_text.proofs.TermParts.{spelled_bounded}
use Rattle.kb_text.proofs.TermTexts.{arity_within, one_symbol}
use Rattle.kb_export.specs.ReadBack.{AreSameEquations, SpellsSame}
use Rattle.kb_export.specs.RuleTexts.{bound_of, rules_text, variable_bound_of}
use Rattle.kb_export.proofs.Bounds.{bound_least, equation_below, equations_small}
use Rattle.kb_export.proofs.NameCounts.{bound_distinct, few_firsts, firsts_variables, number_variable}
use Rattle.kb_export.proofs.RuleTokens.{rule_sections, rule_tokens, written_rule}
use Rattle.kb_export.proofs.RuleUtf8.{rules_utf8}
use Rattle.kb_export.proofs.WrittenTerms.{IsBelow, all_names_pass, all_uses_pass, bound-append, depth_written, names_length, size_written, symbol_among, term_below, term_read, unapplied, variables_written}

-- ---- equations within the limits

all_below : (ns : List ℕ) → AreBelow 64 ns → All (λ n. n < 64) ns
all_below ns h k d l = h _ (Contains-get_or ns k d l)

bounded_term : (signature : Signature) (t : Tree) → IsTermWithinLimits signature t → AreBelow 64 (variables_of t) → IsBounded signature 64 t
bounded_term signature t w b = spelled_bounded signature (term_text (names_of signature) t) t (record { within = w; variables = all_below (variables_of t) b; spelling = refl })

pub bounded_equation : (signature : Signature) (e : Tree × Tree) → IsEquationWithinLimits signature e → IsBoundedEquation signature e
bounded_equation signature e w = let b = equation_below signature e w in (bounded_term signature e.0 w.left b.left, bounded_term signature e.1 w.right b.right)

-- a side, and an equation, whose variables are below m
record IsFineTerm (signature : Signature) (m : ℕ) (t : Tree) : Type 0 where
  within : IsTermWithinLimits signature t
  bounded : IsBounded signature 64 t
  below : IsBelow m t

record IsFine (signature : Signature) (m : ℕ) (e : Tree × Tree) : Type 0 where
  limits : IsEquationWithinLimits signature e
  left : IsFineTerm signature m e.0
  right : IsFineTerm signature m e.1
  small : bound_of (variables_of e.0 ++ variables_of e.1) ≤ 64

abbrev AreFine : Signature → ℕ → List (Tree × Tree) → Type 0
AreFine signature m [] = ⊤
AreFine signature m (e ∷ es) = IsFine signature m e × AreFine signature m es

fine_equation : (signature : Signature) (m : ℕ) (e : Tree × Tree) → IsEquationWithinLimits signature e → max (bound_of (variables_of e.0)) (bound_of (variables_of e.1)) ≤ m → IsFine signature m e
fine_equation signature m e w l =
    let b = equation_below signature e w in
    let c = bounded_equation signature e w in record {
      limits = w;
      left = record { within = w.left; bounded = c.0; below = term_below m e.0 (omega (arith, l)) };
      right = record { within = w.right; bounded = c.1; below = term_below m e.1 (omega (arith, l)) };
      small = omega (arith, bound-append (variables_of e.0) (variables_of e.1), bound_least (variables_of e.0) 64 b.left, bound_least (variables_of e.1) 64 b.right);
    }

all_fine : (signature : Signature) (m : ℕ) (es : List (Tree × Tree)) → All (IsEquationWithinLimits signature) es → variable_bound_of es ≤ m → AreFine signature m es
all_fine signature m [] w l = tt
all_fine signature m (e ∷ es) w l = (fine_equation signature m e (w 0 e (omega arith)) (omega (arith, l)), all_fine signature m es (λ k d h. w (suc k) d (omega (arith, h))) (omega (arith, l)))

-- ---- all sides, names and uses

sides_pass : (signature : Signature) (m : ℕ) (p : Written → Bool) → ((t : Tree) → IsFineTerm signature m t → p (written_term (names_of signature) t) ≡ true) → (es : List (Tree × Tree)) → AreFine signature m es → list_all p (sides_of (map (written_rule (names_of signature)) es)) ≡ true
sides_pass signature m p h [] f = refl
sides_pass signature m p h (e ∷ es) f = ap₂ ◌&&◌ (h e.0 f.0.left) (ap₂ ◌&&◌ (h e.1 f.0.right) (sides_pass signature m p h es f.1))

names_pass : (signature : Signature) (m : ℕ) (p : Name → Bool) → ((k : ℕ) → k < m → p (variable_text (names_of signature) k) ≡ true) → ((f : ℕ) → f < length signature → p (symbol_text (names_of signature) f) ≡ true)
    → (es : List (Tree × Tree)) → AreFine signature m es → list_all p (all_names (map (written_rule (names_of signature)) es)) ≡ true
names_pass signature m p v s [] f = refl
names_pass signature m p v s (e ∷ es) f =
    let rest = all_names (map (written_rule (names_of signature)) es) in
    let r = names_in (written_term (names_of signature) e.1) in
    all_join p (names_in (written_term (names_of signature) e.0)) (r ++ rest) (all_names_pass signature m p v s 64 e.0 f.0.left.bounded f.0.left.below)
    (all_join p r rest (all_names_pass signature m p v s 64 e.1 f.0.right.bounded f.0.right.below) (names_pass signature m p v s es f.1))

uses_pass : (signature : Signature) (m : ℕ) (p : Name × ℕ → Bool) → ((k : ℕ) → k < m → p (variable_text (names_of signature) k, 0) ≡ true) → ((f n : ℕ) → HasArity signature f n → p (symbol_text (names_of signature) f, n) ≡ true)
    → (es : List (Tree × Tree)) → AreFine signature m es → list_all p (all_uses (map (written_rule (names_of signature)) es)) ≡ true
uses_pass signature m p v s [] f = refl
uses_pass signature m p v s (e ∷ es) f =
    let rest = all_uses (map (written_rule (names_of signature)) es) in
    let r = uses_in (written_term (names_of signature) e.1) in
    all_join p (uses_in (written_term (names_of signature) e.0)) (r ++ rest) (all_uses_pass signature m p v s 64 e.0 f.0.left.bounded f.0.left.below)
    (all_join p r rest (all_uses_pass signature m p v s 64 e.1 f.0.right.bounded f.0.right.below) (uses_pass signature m p v s es f.1))

-- ---- each name has one number of arguments

some_entry : SymbolEntry
some_entry = record { name = []; arity = 0 }

arity_is : (signature : Signature) (f n : ℕ) → HasArity signature f n → (get_or signature f some_entry).arity ≡ n
arity_is [] f n h = absurd (cc)
arity_is (e ∷ signature) zero n h = cc
arity_is (e ∷ signature) (suc f) n h = arity_is signature f n h

-- the arity of a symbol's name; 0 of any other name
abbrev arity_named : Signature → Name → ℕ
arity_named signature c = cond (is_among (names_of signature) c) (get_or signature (number_of (names_of signature) c) some_entry).arity 0

no_name : (names : List Name) (k : ℕ) → k < 64 → is_among names (variable_text names k) ≡ false
no_name names k l = go (is_among names (variable_text names k)) refl
  where
    go : (v : Bool) → is_among names (variable_text names k) ≡ v → v ≡ false
    go true e = sym (same_name (variable_text names k)) ∙ no_symbol_is_variable names (variable_text names k) k e l
    go false e = refl

symbol_arity : (signature : Signature) → IsSignature signature → (f n : ℕ) → HasArity signature f n → n ≡ arity_named signature (symbol_text (names_of signature) f)
symbol_arity signature s f n h =
    let names = names_of signature in
    let c = symbol_text names f in
    let inside = arity_within signature f n h in
    let there = symbol_among signature f inside in
    let within = number_within names c there in
    let same : number_of names c ≡ f = one_symbol signature s (number_of names c) f (omega (arith, within, names_length signature)) inside (at_number names c there) in
    sym (ap₂ (λ v k. cond v (get_or signature k some_entry).arity 0) there same ∙ arity_is signature f n h)

-- uses that agree with one function agree with each other
first_arity : (g : Name → ℕ) (before : List (Name × ℕ)) (u : Name × ℕ) (behind : List (Name × ℕ)) → list_all (λ (u : Name × ℕ). nat_eq u.1 (g u.0)) (before ++ u ∷ behind) ≡ true → arity_in (before ++ u ∷ behind) u.0 ≡ Some (g u.0)
first_arity g [] u behind h =
    ap (λ v. cond v (Some u.1) (arity_in behind u.0)) (same_name u.0) ∙ ap Some (eqb-true u.1 (g u.0) (and_parts (nat_eq u.1 (g u.0)) (list_all (λ (u : Name × ℕ). nat_eq u.1 (g u.0)) behind) h).0)
first_arity g (b ∷ before) u behind h =
    let r = and_parts (nat_eq b.1 (g b.0)) (list_all (λ (u : Name × ℕ). nat_eq u.1 (g u.0)) (before ++ u ∷ behind)) h in
    go r.0 (bytes_eq u.0 b.0) refl (first_arity g before u behind r.1)
  where
    go : nat_eq b.1 (g b.0) ≡ true → (v : Bool) → bytes_eq u.0 b.0 ≡ v → arity_in (before ++ u ∷ behind) u.0 ≡ Some (g u.0) → cond (bytes_eq u.0 b.0) (Some b.1) (arity_in (before ++ u ∷ behind) u.0) ≡ Some (g u.0)
    go q true e next = ap (λ v. cond v (Some b.1) (arity_in (before ++ u ∷ behind) u.0)) e ∙ ap Some (eqb-true b.1 (g b.0) q ∙ ap g (sym (same_bytes u.0 b.0 e)))
    go q false e next = ap (λ v. cond v (Some b.1) (arity_in (before ++ u ∷ behind) u.0)) e ∙ next

all_agree : (g : Name → ℕ) (before us : List (Name × ℕ)) → list_all (λ (u : Name × ℕ). nat_eq u.1 (g u.0)) (before ++ us) ≡ true → list_all (λ (u : Name × ℕ). nat_eq u.1 (g u.0)) us ≡ true → list_all (agrees (before ++ us)) us ≡ true
all_agree g before [] h k = refl
all_agree g before (u ∷ us) h k =
    let r = and_parts (nat_eq u.1 (g u.0)) (list_all (λ (u : Name × ℕ). nat_eq u.1 (g u.0)) us) k in
    let more = append_assoc before (u ∷ []) us in
    ap₂ ◌&&◌ (ap (λ o. nat_eq u.1 (unwrap_or o 0)) (first_arity g before u us h) ∙ r.0)
    (subst (λ (all : List (Name × ℕ)). list_all (agrees all) us ≡ true) more (all_agree g (before ++ u ∷ []) us (ap (list_all (λ (u : Name × ℕ). nat_eq u.1 (g u.0))) more ∙ h) r.1))

-- ---- lengths

short_variable : (names : List Name) (k : ℕ) → length names ≤ 24 → k < 64 → nat_le (length (variable_text names k)) 64 ≡ true
short_variable names k few l =
    let digits : length (decimal (k + 1)) ≤ 2 = length-decimal-le 2 (k + 1) (omega arith) (omega arith) (omega arith) in
    le-leb (length (variable_text names k)) 64 (omega (arith, digits, prefix_small names, length-append (replicate (prefix_length names) 120) (decimal (k + 1)), length-replicate {A = ℕ} (prefix_length names) 120))

short_variables : (names : List Name) (n k : ℕ) → length names ≤ 24 → k + n ≤ 64 → list_all (λ (x : Name). nat_le (length x) 64) (map (variable_text names) (range_with_len k n)) ≡ true
short_variables names zero k few l = refl
short_variables names (suc n) k few l = ap₂ ◌&&◌ (short_variable names k few (omega arith)) (short_variables names n (k + 1) few (omega arith))

short_symbol : (signature : Signature) → IsSignature signature → (f : ℕ) → f < length signature → nat_le (length (symbol_text (names_of signature) f)) 64 ≡ true
short_symbol signature s f h =
    let is = get_or-map (λ (e : SymbolEntry). e.name) signature f some_entry [] h in
    le-leb (length (symbol_text (names_of signature) f)) 64 (omega (arith, ap length is, (s.names f some_entry h).1))

others_pass : (a b : Name → Bool) (ns : List Name) → list_all (λ c. a c || b c) ns ≡ true → list_all b (filter (λ c. not (a c)) ns) ≡ true
others_pass a b [] h = refl
others_pass a b (n ∷ ns) h =
    let r = and_parts (a n || b n) (list_all (λ c. a c || b c) ns) h in
    go (a n) r.0 (others_pass a b ns r.1)
  where
    go : (v : Bool) → (v || b n) ≡ true → list_all b (filter (λ c. not (a c)) ns) ≡ true → list_all b (cond (not v) (n ∷ filter (λ c. not (a c)) ns) (filter (λ c. not (a c)) ns)) ≡ true
    go true e next = next
    go false e next = ap₂ ◌&&◌ e next

names_of-entries : (uses : List (Name × ℕ)) (symbols : List Name) → names_of (map (entry_of uses) symbols) ≡ symbols
names_of-entries uses [] = refl
names_of-entries uses (x ∷ xs) = ap (x ∷◌) (names_of-entries uses xs)

-- ---- the whole

module _ (p : Problem) (s : IsSignature p.signature) (w : IsWithinLimits p) where
  abbrev signature : Signature
  signature = p.signature

  abbrev names : List Name
  names = names_of p.signature

  abbrev most : ℕ
  most = variable_bound_of p.equations

  few : most ≤ 64
  few = equations_small signature p.equations w.each

  fine : AreFine signature most p.equations
  fine = all_fine signature most p.equations w.each (omega arith)

  abbrev xs : List Name
  xs = map (variable_text names) (range_with_len 0 most)

  abbrev es : List WrittenEquation
  es = map (written_rule names) p.equations

  abbrev uses : List (Name × ℕ)
  uses = all_uses es

  abbrev symbols : List Name
  symbols = firsts (symbols_among xs (all_names es))

  abbrev sections : List Section
  sections = rule_sections p

  apart : AreApart names xs
  apart = variables_apart names most 0 (omega (arith, few))

  covers : (k : ℕ) → k < most → is_among xs (variable_text names k) ≡ true
  covers k l = variables_cover names most 0 k (omega arith) (omega arith)

  same_variables : variables_in sections ≡ xs
  same_variables = append-nil xs

  same_equations : equations_of sections ≡ es
  same_equations = append-nil es

  same_symbols : symbol_names sections ≡ symbols
  same_symbols = λ i. firsts (symbols_among (same_variables i) (all_names (same_equations i)))

  few_names : length names ≤ 24
  few_names = let l = w.symbols in omega (arith, names_length signature, l)

  all_unapplied : list_all (is_unapplied xs) (sides_of es) ≡ true
  all_unapplied = sides_pass signature most (is_unapplied xs) (λ t f. unapplied signature most xs apart 64 t f.bounded) p.equations fine

  one_arity : agree uses ≡ true
  one_arity =
      let passes = uses_pass signature most (λ (u : Name × ℕ). nat_eq u.1 (arity_named signature u.0))
      (λ k l. eq-eqb 0 (arity_named signature (variable_text names k)) (sym (ap (λ v. cond v (get_or signature (number_of names (variable_text names k)) some_entry).arity 0) (no_name names k (omega (arith, l, few))))))
      (λ f n h. eq-eqb n (arity_named signature (symbol_text names f)) (symbol_arity signature s f n h)) p.equations fine in
      all_agree (arity_named signature) [] uses passes passes

  all_deep : list_all (λ t. nat_le (depth_in t) 64) (sides_of es) ≡ true
  all_deep = sides_pass signature most (λ t. nat_le (depth_in t) 64) (λ t f. le-leb (depth_in (written_term names t)) 64 (let d = f.within.depth in omega (arith, depth_written names t, d))) p.equations fine

  all_sized : list_all (λ t. nat_le (length (names_in t)) 512) (sides_of es) ≡ true
  all_sized = sides_pass signature most (λ t. nat_le (length (names_in t)) 512) (λ t f. le-leb (length (names_in (written_term names t))) 512 (let d = f.within.size in omega (arith, size_written names t, d))) p.equations fine

  all_short : list_all (λ (x : Name). nat_le (length x) 64) (all_names es) ≡ true
  all_short = names_pass signature most (λ (x : Name). nat_le (length x) 64) (λ k l. short_variable names k few_names (omega (arith, l, few))) (short_symbol signature s) p.equations fine

  few_arguments : list_all (λ (u : Name × ℕ). nat_le u.1 8) uses ≡ true
  few_arguments = uses_pass signature most (λ (u : Name × ℕ). nat_le u.1 8) (λ k l. refl)
      (λ f n h. le-leb n 8 (omega (arith, arity_is signature f n h, w.arities f some_entry (arity_within signature f n h)))) p.equations fine

  few_symbols : length symbols ≤ 24
  few_symbols =
      let known = names_pass signature most (λ c. is_among xs c || is_among names c) (λ k l. ap (λ v. v || is_among names (variable_text names k)) (covers k l)) (λ f h. ap (is_among xs (symbol_text names f) ||◌) (symbol_among signature f h) ∙ or-true (is_among xs (symbol_text names f))) p.equations fine in
      let few = few_firsts (symbols_among xs (all_names es)) names (others_pass (is_among xs) (is_among names) (all_names es) known) in
      omega (arith, few, few_names)

  found_is : (e : Tree × Tree) → IsFine signature most e → equation_variables xs (written_rule names e) ≡ map (variable_text names) (variables_of_pair e.0 e.1)
  found_is e f =
      ap firsts (filter-append (is_among xs) (names_in (written_term names e.0)) (names_in (written_term names e.1))
      ∙ ap₂ ◌++◌ (variables_written signature most xs apart covers 64 e.0 f.left.bounded f.left.below) (variables_written signature most xs apart covers 64 e.1 f.right.bounded f.right.below)
      ∙ sym (map-append (variable_text names) (variables_of e.0) (variables_of e.1)))
      ∙ firsts_variables names (variables_of e.0 ++ variables_of e.1) f.small

  few_variables : (ds : List (Tree × Tree)) → AreFine signature most ds → list_all (λ e. nat_le (length (equation_variables xs e)) 64) (map (written_rule names) ds) ≡ true
  few_variables [] f = refl
  few_variables (e ∷ ds) f =
      ap₂ ◌&&◌ (le-leb (length (equation_variables xs (written_rule names e))) 64 (let n = f.0.limits.variables in omega (arith, ap length (found_is e f.0) ∙ length-map (variables_of_pair e.0 e.1) (variable_text names), n))) (few_variables ds f.1)

  in_symbols : (c : Name) → is_among (all_names es) c ≡ true → is_among xs c ≡ false → is_among symbols c ≡ true
  in_symbols c m v = is_among-firsts (filter (λ x. not (is_among xs x)) (all_names es)) c ∙ among-filter (λ x. not (is_among xs x)) (all_names es) c ∙ ap₂ (λ a b. not a && b) v m

  good : AreGoodEquations xs symbols uses es
  good = good_equations xs symbols uses es in_symbols all_unapplied one_arity all_deep (few_variables p.equations fine)

  equations_read : (ds : List (Tree × Tree)) → AreFine signature most ds → AreGoodEquations xs symbols uses (map (written_rule names) ds) → AreSameEquations names ds symbols (map (equation_of xs symbols) (map (written_rule names) ds))
  equations_read [] f g = tt
  equations_read (e ∷ ds) f g =
      let found = equation_variables xs (written_rule names e) in
      let vs = variables_of_pair e.0 e.1 in
      let numbers : (k : ℕ) → k < most → number_of found (variable_text names k) ≡ place_in vs k = λ k l.
      ap (λ (ns : List Name). number_of ns (variable_text names k)) (found_is e f.0) ∙ number_variable names vs k (let n = f.0.small in omega (arith, n, bound_distinct (variables_of e.0 ++ variables_of e.1))) (omega (arith, l, few)) in
      let by = f.0.limits.by_occurrence in (
        term_read signature most xs found symbols (place_in vs) apart covers numbers 64 e.0 f.0.left.bounded f.0.left.below g.0.left.names (ap (λ (d : Pair). d.first) by),
        term_read signature most xs found symbols (place_in vs) apart covers numbers 64 e.1 f.0.right.bounded f.0.right.below g.0.right.names (ap (λ (d : Pair). d.second) by),
        equations_read ds f.1 g.1,
      )

  conditions : MeetsConditions sections
  conditions = record {
    ordered = refl;
    has_rules = refl;
    distinct = ap are_distinct same_variables ∙ variables_distinct names most 0 (omega (arith, few));
    unapplied = (λ i. list_all (is_unapplied (same_variables i)) (sides_of (same_equations i))) ∙ all_unapplied;
    one_arity = ap (λ (qs : List WrittenEquation). agree (all_uses qs)) same_equations ∙ one_arity;
  }

  limits : MeetsLimits sections
  limits = record {
    names = all_join (λ (x : Name). nat_le (length x) 64) xs (all_names es ++ []) (short_variables names most 0 few_names (omega (arith, few)))
        (ap (list_all (λ (x : Name). nat_le (length x) 64)) (append-nil (all_names es)) ∙ all_short);
    equations = ap (λ (qs : List WrittenEquation). nat_le (length qs) 256) same_equations ∙ le-leb (length es) 256 (let c = w.count in omega (arith, length-map p.equations (written_rule names), c));
    size = ap (λ (qs : List WrittenEquation). list_all (λ t. nat_le (length (names_in t)) 512) (sides_of qs)) same_equations ∙ all_sized;
    depth = ap (λ (qs : List WrittenEquation). list_all (λ t. nat_le (depth_in t) 64) (sides_of qs)) same_equations ∙ all_deep;
    symbols = ap (λ (ns : List Name). nat_le (length ns) 24) same_symbols ∙ le-leb (length symbols) 24 few_symbols;
    arity = ap (λ (qs : List WrittenEquation). list_all (λ (u : Name × ℕ). nat_le u.1 8) (all_uses qs)) same_equations ∙ few_arguments;
    variables_each = (λ i. list_all (λ e. nat_le (length (equation_variables (same_variables i) e)) 64) (same_equations i)) ∙ few_variables p.equations fine;
  }

  bounded : (k : ℕ) (d : Tree × Tree) → k < length p.equations → IsBoundedEquation signature (get_or p.equations k d)
  bounded k d l = bounded_equation signature (get_or p.equations k d) (w.each k d l)

  same : AreSameEquations names p.equations (names_of (problem_of sections).signature) (problem_of sections).equations
  same =
      let read : (problem_of sections).equations ≡ map (equation_of xs symbols) es = λ i. map (equation_of (same_variables i) (same_symbols i)) (same_equations i) in
      let called : names_of (problem_of sections).signature ≡ symbols = names_of-entries (all_uses (equations_of sections)) (symbol_names sections) ∙ same_symbols in
      subst (λ (ns : List Name). AreSameEquations names p.equations ns (problem_of sections).equations) (sym called)
      (subst (λ (ds : List (Tree × Tree)). AreSameEquations names p.equations symbols ds) (sym read) (equations_read p.equations fine good))

  pub rules_spelled : length (rules_text p) ≤ 1048576 → SpellsSame (rules_text p) p
  rules_spelled short = record {
    problem = problem_of sections;
    spelled = record {
      short = short;
      utf8 = rules_utf8 p s bounded few;
      sections = sections;
      are_sections = (tt, (tt, tt));
      tokens_are = rule_tokens p s bounded few;
      conditions = conditions;
      limits = limits;
      stands_for = refl;
    };
    same = same;
  }
