-- A problem that is spelled is spelled by its text.
use Rattle.std.proofs.Common.{◌≡◌, refl, ap, ap₂, sym, ◌∙◌, subst, arith, append-nil, ℕ, zero, suc, ◌+◌, ◌<◌, ◌≤◌, List, [], ◌∷◌, ◌++◌, true, false, not, ◌&&◌, length, get_or, length-append}
use Rattle.std.specs.Prelude.{decimal, filter, map, nat_le, replicate}
use Rattle.std.specs.List.{list_all, range_with_len}
use Rattle.std.proofs.lemmas.Bool.{le-leb, leb-true, and_parts, not-true}
use Rattle.std.proofs.lemmas.Fmt.{length-decimal-le}
use Rattle.std.proofs.lemmas.List.{get_or-map, length-map, length-replicate}
use Rattle.kb_lemmas.proofs.Lists.{all_join}
use Rattle.kb_term.specs.Signature.{IsSignature, Problem, SymbolEntry}
use Rattle.kb_text.specs.Names.{Name, is_among, number_of, firsts, are_distinct}
use Rattle.kb_text.specs.Grammar.{WrittenEquation, Section, variables, rules, text_tokens}
use Rattle.kb_text.specs.Problems.{Spells, MeetsConditions, MeetsLimits, variables_of, equations_of, sides_of, all_names, all_uses, agree, names_in, depth_in, is_unapplied, symbol_names, equation_variables, equation_of, entry_of, problem_of}
use Rattle.kb_text.specs.Terms.{names_of, prefix_length, variable_text, most_variables, problem_text}
use Rattle.kb_text.specs.Rewritten.{written_equation}
use Rattle.kb_text.proofs.Firsts.{is_among-firsts}
use Rattle.kb_text.proofs.Prefixes.{prefix_small}
use Rattle.kb_text.proofs.ProblemTokens.{problem_tokens}
use Rattle.kb_text.proofs.RewrittenTerms.{at_number, number_within}
use Rattle.kb_text.proofs.RewrittenLists.{all_among, among-filter, variables_apart, variables_cover, variables_distinct}
use Rattle.kb_text.proofs.RewrittenEquations.{AreGoodEquations, HaveAtMost, at_most_most, good_equations}
use Rattle.kb_text.proofs.RoundTrip.{IsDeclared, SameArities, rewritten, all_symbols_again, equations_again, unapplied_sides, depths_again, sizes_again, variables_each_again, arities_again, no_arities, agree_again, few_again, short_again, bounded_equations, entries_again}
use Rattle.kb_text.proofs.WrittenText.{text_utf8}

names_of-entries : (uses : List (Name × ℕ)) (symbols : List Name) → names_of (map (entry_of uses) symbols) ≡ symbols
names_of-entries uses [] = refl
names_of-entries uses (x ∷ xs) = ap (x ∷◌) (names_of-entries uses xs)

short_variable : (symbols : List Name) (k : ℕ) → length symbols ≤ 24 → k < 64 → nat_le (length (variable_text symbols k)) 64 ≡ true
short_variable symbols k few l =
    let digits : length (decimal (k + 1)) ≤ 2 = length-decimal-le 2 (k + 1) (omega arith) (omega arith) (omega arith) in
    le-leb (length (variable_text symbols k)) 64 (omega (arith, digits, prefix_small symbols, length-append (replicate (prefix_length symbols) 120) (decimal (k + 1)), length-replicate {A = ℕ} (prefix_length symbols) 120))

short_variables : (symbols : List Name) (n s : ℕ) → length symbols ≤ 24 → s + n ≤ 64 → list_all (λ (x : Name). nat_le (length x) 64) (map (variable_text symbols) (range_with_len s n)) ≡ true
short_variables symbols zero s few l = refl
short_variables symbols (suc n) s few l = ap₂ ◌&&◌ (short_variable symbols s few (omega arith)) (short_variables symbols n (s + 1) few (omega arith))

some_entry : SymbolEntry
some_entry = record { name = []; arity = 0 }

short_symbol : (uses : List (Name × ℕ)) (symbols : List Name) → IsSignature (map (entry_of uses) symbols) → (x : Name) → is_among symbols x ≡ true → nat_le (length x) 64 ≡ true
short_symbol uses symbols s x h =
    let f = number_of symbols x in
    let inside = number_within symbols x h in
    let name : (get_or (map (entry_of uses) symbols) f some_entry).name ≡ x = ap (λ (e : SymbolEntry). e.name) (get_or-map (entry_of uses) symbols f [] some_entry inside) ∙ at_number symbols x h in
    let l = (s.names f some_entry (let n = length-map symbols (entry_of uses) in omega arith)).1 in
    le-leb (length x) 64 (omega (arith, l, ap length name))

module _ (bytes : List ℕ) (p : Problem) (h : Spells bytes p) (s : IsSignature (problem_of h.sections).signature) where
  abbrev vars : List Name
  vars = variables_of h.sections

  abbrev es : List WrittenEquation
  es = equations_of h.sections

  abbrev uses : List (Name × ℕ)
  uses = all_uses es

  abbrev symbols : List Name
  symbols = symbol_names h.sections

  in_symbols : (c : Name) → is_among (all_names es) c ≡ true → is_among vars c ≡ false → is_among symbols c ≡ true
  in_symbols c m v = is_among-firsts (filter (λ x. not (is_among vars x)) (all_names es)) c ∙ among-filter (λ x. not (is_among vars x)) (all_names es) c ∙ ap₂ (λ a b. not a && b) v m

  no_variable : (c : Name) → is_among symbols c ≡ true → is_among vars c ≡ false
  no_variable c m = not-true (is_among vars c) (and_parts (not (is_among vars c)) (is_among (all_names es) c) (sym (is_among-firsts (filter (λ x. not (is_among vars x)) (all_names es)) c ∙ among-filter (λ x. not (is_among vars x)) (all_names es) c) ∙ m)).0

  good : AreGoodEquations vars symbols uses es
  good = good_equations vars symbols uses es in_symbols h.conditions.unapplied h.conditions.one_arity h.limits.depth h.limits.variables_each

  abbrev most : ℕ
  most = most_variables (map (equation_of vars symbols) es)

  few : (most ≤ 64) × HaveAtMost vars most es
  few = at_most_most vars symbols uses es good

  abbrev xs : List Name
  xs = map (variable_text symbols) (range_with_len 0 most)

  abbrev again : List WrittenEquation
  again = rewritten vars symbols es

  abbrev sections : List Section
  sections = variables xs ∷ rules again ∷ []

  abbrev spelled : Problem
  spelled = problem_of h.sections

  declared : IsDeclared symbols xs most
  declared = record { apart = variables_apart symbols most 0 (omega (arith, few.0)); covers = λ k l. variables_cover symbols most 0 k (omega arith) (omega arith) }

  same : SameArities symbols uses (all_uses again)
  same = record { symbol = λ x m. arities_again vars symbols uses x es good m (no_variable x m); variable = λ k l. no_arities vars symbols uses k es l good }

  same_variables : variables_of sections ≡ xs
  same_variables = append-nil xs

  same_equations : equations_of sections ≡ again
  same_equations = append-nil again

  same_symbols : symbol_names sections ≡ symbols
  same_symbols =
      (λ i. firsts (filter (λ x. not (is_among (same_variables i) x)) (all_names (same_equations i)))) ∙ ap firsts (all_symbols_again vars symbols xs uses most es good declared few.1)

  stands_for : spelled ≡ problem_of sections
  stands_for = sym (λ i. record {
    signature = signature i;
    equations = equations i;
  })
    where
      signature : map (entry_of (all_uses (equations_of sections))) (symbol_names sections) ≡ map (entry_of uses) symbols
      signature = (λ i. map (entry_of (all_uses (same_equations i))) (same_symbols i)) ∙ entries_again symbols uses (all_uses again) symbols same (all_among (is_among symbols) symbols (λ x m. m))

      equations : map (equation_of (variables_of sections) (symbol_names sections)) (equations_of sections) ≡ map (equation_of vars symbols) es
      equations = (λ i. map (equation_of (same_variables i) (same_symbols i)) (same_equations i)) ∙ equations_again vars symbols xs uses most es good declared few.1

  conditions : MeetsConditions sections
  conditions = record {
    ordered = refl;
    has_rules = refl;
    distinct = ap are_distinct same_variables ∙ variables_distinct symbols most 0 (omega (arith, few.0));
    unapplied = (λ i. list_all (is_unapplied (same_variables i)) (sides_of (same_equations i))) ∙ unapplied_sides vars symbols xs uses es good declared.apart;
    one_arity = ap (λ (qs : List WrittenEquation). agree (all_uses qs)) same_equations ∙ agree_again vars symbols uses (all_uses again) es same good;
  }

  few_symbols : length symbols ≤ 24
  few_symbols = leb-true (length symbols) 24 h.limits.symbols

  counted : length again ≡ length es
  counted = length-map (map (equation_of vars symbols) es) (written_equation symbols) ∙ length-map es (equation_of vars symbols)

  limits : MeetsLimits sections
  limits = record {
    names = all_join (λ (x : Name). nat_le (length x) 64) xs (all_names again ++ []) (short_variables symbols most 0 few_symbols (omega (arith, few.0)))
        (ap (list_all (λ (x : Name). nat_le (length x) 64)) (append-nil (all_names again)) ∙ short_again vars symbols uses es (λ k l. short_variable symbols k few_symbols l) (short_symbol uses symbols s) good);
    equations = ap (λ (qs : List WrittenEquation). nat_le (length qs) 256) same_equations ∙ ap (λ (n : ℕ). nat_le n 256) counted ∙ h.limits.equations;
    size = ap (λ (qs : List WrittenEquation). list_all (λ t. nat_le (length (names_in t)) 512) (sides_of qs)) same_equations ∙ sizes_again vars symbols uses es good ∙ h.limits.size;
    depth = ap (λ (qs : List WrittenEquation). list_all (λ t. nat_le (depth_in t) 64) (sides_of qs)) same_equations ∙ depths_again vars symbols uses es good ∙ h.limits.depth;
    symbols = ap (λ (ns : List Name). nat_le (length ns) 24) same_symbols ∙ h.limits.symbols;
    arity = ap (λ (qs : List WrittenEquation). list_all (λ (u : Name × ℕ). nat_le u.1 8) (all_uses qs)) same_equations ∙ few_again vars symbols uses es good h.limits.arity;
    variables_each = (λ i. list_all (λ e. nat_le (length (equation_variables (same_variables i) e)) 64) (same_equations i)) ∙ variables_each_again vars symbols xs uses most es good declared few.1 ∙ h.limits.variables_each;
  }

  spelled_again : length (problem_text spelled) ≤ 1048576 → Spells (problem_text spelled) spelled
  spelled_again short = record {
    short = short;
    utf8 = text_utf8 spelled s (bounded_equations vars symbols uses es good) few.0;
    sections = sections;
    are_sections = (tt, (tt, tt));
    tokens_are = problem_tokens spelled s (bounded_equations vars symbols uses es good) few.0 ∙ ap (λ (ns : List Name). text_tokens (variables (map (variable_text ns) (range_with_len 0 most)) ∷ rules (map (written_equation ns) (map (equation_of vars symbols) es)) ∷ [])) (names_of-entries uses symbols);
    conditions = conditions;
    limits = limits;
    stands_for = stands_for;
  }

pub round_trip : (bytes : List ℕ) (p : Problem) → IsSignature p.signature → Spells bytes p → length (problem_text p) ≤ 1048576 → Spells (problem_text p) p
round_trip bytes p s h =
    let P : Problem → Type 0 = λ q. length (problem_text q) ≤ 1048576 → Spells (problem_text q) q in
    subst P (sym h.stands_for) (spelled_again bytes p h (subst (λ (q : Problem). IsSignature q.signature) h.stands_for s))
