-- Spelled bytes show no refusal.
use Rattle.std.proofs.Common.{append-nil, ◌≡◌, inl, inr, ⊎_elim, refl, ap, sym, ◌∙◌, subst, arith, ℕ, List, [], ◌∷◌, ◌++◌, Option, Some, None, Bool, true, false, cond, ◌&&◌, ◌||◌, length, flat_map, take_all}
use Rattle.std.specs.Prelude.{not, nat_eq, nat_le, nat_lt, is_some, bytes_eq, codes, option_map, option_and_then, IsUtf8}
use Rattle.std.specs.List.{list_all, list_any, AllByRecursion}
use Rattle.std.proofs.lemmas.Bool.{leb-true, and_parts, and_from}
use Rattle.kb_lemmas.proofs.Lists.{all_join}
use Rattle.kb_lemmas.proofs.Options.{none_some}
use Rattle.kb_term.specs.Signature.{Problem}
use Rattle.kb_text.specs.Names.{Name, is_among, firsts, are_distinct}
use Rattle.kb_text.specs.Tokens.{Token, arrow_equals, bar, left_paren, right_paren, comma, identifier, end_of_input}
use Rattle.kb_text.specs.Grammar.{Written, Sign, Section, variables, rules, skipped, IsSection, WrittenEquation, section_tokens, text_tokens, HasNext}
use Rattle.kb_text.specs.Fronts.{TermFront, EquationFront, in_left, behind_sign, in_right, SectionFront, begun, in_variables, in_rules, in_equation, in_skipped, Front, IsFrontOf}
use Rattle.kb_text.specs.Problems.{names_in, depth_in, is_unapplied, uses_in, variables_of, equations_of, all_names, all_uses, sides_of, agree, variables_among, symbols_among, equation_variables, is_rules, names_of_section, MeetsConditions, MeetsLimits, Spells}
use Rattle.kb_text.specs.Refusals.{shown, Shows, IsRefused, too_long, not_utf8, by_tokens, back, here, or_else, Spot, spot_of, equation_spot, side_of, last_alone, closing_clash, alone_clash, front_variables, front_names, front_count, is_token, is_some_and, is_new, name_in, arguments_so_far}
use Rattle.kb_text.specs.Machine.{next_equation, whole_equation, is_whole, sign_of, begin_term, or_try, next_rules, next_section, next_front, start}
use Rattle.kb_text.specs.declared.kind.Kind.{Kind}
use Rattle.kb_text.specs.declared.kind.Kind.TheVariants.{NotUtf8, Unclosed, BadSection, Theory, Strategy, DoubleVariable, Relative, Conditional, VariableApplied, ArityClash, BadToken, Limit}
use Rattle.kb_text.specs.declared.kind.Bound.TheVariants.{Name as NameLimit, Equations, Size, Depth, Symbols, Variables, Arity, Input}
use Rattle.kb_text.proofs.Leads.{Leads, leads_split, leads_once}
use Rattle.kb_text.proofs.RunTexts.{closed_at, one_front, last_split, reaches_front, run_sections}
use Rattle.kb_text.proofs.Firsts.{same_bytes}
use Rattle.kb_syntax.proofs.SideLaws.{IsNoTermToken, no_term_token}
use Rattle.kb_syntax.proofs.MoveSections.{names-append, left_next, awaits_if_name}
use Rattle.kb_syntax.proofs.FineLists.{skipped_names}
use Rattle.kb_syntax.proofs.Fine.{Unshown, is_short, left_spot}
use Rattle.kb_syntax.proofs.FitsTerms.{few_arguments}
use Rattle.kb_syntax.proofs.FitsLists.{all_front, all_behind}
use Rattle.kb_syntax.proofs.Fits.{Fits, FitsEquation, fits_before}

-- ---- whole texts

section_parts : (ss : List Section) → list_all is_short (flat_map names_of_section ss) ≡ true → (list_all is_short (variables_of ss) ≡ true) × ((list_all is_short (all_names (equations_of ss)) ≡ true) × (list_all is_short (skipped_names ss) ≡ true))
section_parts [] h = (refl, (refl, refl))
section_parts (variables xs ∷ ss) h =
    let r = section_parts ss (all_behind is_short xs (flat_map names_of_section ss) h) in
    (all_join is_short xs (variables_of ss) (all_front is_short xs (flat_map names_of_section ss) h) r.0, r.1)
section_parts (rules es ∷ ss) h =
    let r = section_parts ss (all_behind is_short (all_names es) (flat_map names_of_section ss) h) in
    (r.0, (ap (list_all is_short) (names-append es (equations_of ss)) ∙ all_join is_short (all_names es) (all_names (equations_of ss)) (all_front is_short (all_names es) (flat_map names_of_section ss) h) r.1.0, r.1.1))
section_parts (skipped x ts ∷ ss) h =
    let a = and_parts _ _ h in
    let r = section_parts ss a.1 in
    (r.0, (r.1.0, and_from _ _ a.0 r.1.1))

each_fits : (vars : List Name) (es : List WrittenEquation) → list_all (λ t. nat_le (length (names_in t)) 512) (sides_of es) ≡ true → list_all (λ t. nat_le (depth_in t) 64) (sides_of es) ≡ true → list_all (is_unapplied vars) (sides_of es) ≡ true
    → list_all few_arguments (all_uses es) ≡ true → list_all (λ e. nat_le (length (equation_variables vars e)) 64) es ≡ true → AllByRecursion (FitsEquation vars) es
each_fits vars [] size depth unapplied arity few = tt
each_fits vars (e ∷ es) size depth unapplied arity few =
    let a = and_parts _ _ size in
    let b = and_parts _ _ a.1 in
    let c = and_parts _ _ depth in
    let d = and_parts _ _ c.1 in
    let f = and_parts _ _ unapplied in
    let g = and_parts _ _ f.1 in
    let behind = all_behind few_arguments (uses_in e.left) (uses_in e.right ++ all_uses es) arity in
    let v = and_parts _ _ few in (
      record {
        left = record { size = leb-true (length (names_in e.left)) 512 a.0; term = record { depth = let m = leb-true (depth_in e.left) 64 c.0 in omega (arith, m); unapplied = f.0; arities = all_front few_arguments (uses_in e.left) (uses_in e.right ++ all_uses es) arity } };
        right = record { size = leb-true (length (names_in e.right)) 512 b.0; term = record { depth = let m = leb-true (depth_in e.right) 64 d.0 in omega (arith, m); unapplied = g.0; arities = all_front few_arguments (uses_in e.right) (all_uses es) behind } };
        variables = leb-true (length (equation_variables vars e)) 64 v.0;
      },
      each_fits vars es b.1 d.1 g.1 (all_behind few_arguments (uses_in e.right) (all_uses es) behind) v.1,
    )

fits_text : (ss : List Section) → MeetsConditions ss → MeetsLimits ss → Fits (closed_at ss)
fits_text ss c l =
    let r = section_parts ss l.names in
    let vars : variables_of ss ++ [] ≡ variables_of ss = append-nil (variables_of ss) in
    let names : all_names (equations_of ss) ++ [] ≡ all_names (equations_of ss) = append-nil (all_names (equations_of ss)) in record {
      short_variables = ap (list_all is_short) vars ∙ r.0;
      short_names = ap (list_all is_short) names ∙ r.1.0;
      short_skipped = ap (list_all is_short) (append-nil (skipped_names ss)) ∙ r.1.1;
      distinct = ap are_distinct vars ∙ c.distinct;
      agrees = ap agree (append-nil (all_uses (equations_of ss))) ∙ c.one_arity;
      count = let m = leb-true (length (equations_of ss)) 256 l.equations in omega (arith, m);
      symbols = leb-true _ 24 ((λ i. nat_le (length (firsts (symbols_among (vars i) (names i)))) 24) ∙ l.symbols);
      equations = subst (AllByRecursion (FitsEquation (variables_of ss ++ []))) (sym (append-nil (equations_of ss))) (subst (λ (vs : List Name). AllByRecursion (FitsEquation vs) (equations_of ss)) (sym vars) (each_fits (variables_of ss) (equations_of ss) l.size l.depth c.unapplied l.arity l.variables_each));
      open_equation = tt;
      ordered = c.ordered;
      none_before = λ e. absurd (cc);
    }

-- each front on the way to a text fits
fits_all : (ts : List Token) (f g : Front) → Leads next_front f ts g → Fits g → Fits f
fits_all [] f g a h = subst Fits (sym a) h
fits_all (t ∷ ts) f g a h = (fits_before f a.0 t a.1 (fits_all ts a.0 g a.2 h)).0

-- ---- tokens that lead on show nothing

no_equation_token : (e : EquationFront) (t : Token) → IsNoTermToken t → sign_of t ≡ None → begin_term t ≡ None → next_equation e t ≡ None
no_equation_token (in_left u) t h s b = (λ i. or_try (option_map in_left (sym (no_term_token u t h) i)) (option_and_then (λ w. option_map (behind_sign w) (s i)) (is_whole u))) ∙ none (is_whole u)
  where
    none : (o : Option Written) → option_and_then (λ w. option_map (behind_sign w) None) o ≡ None
    none None = refl
    none (Some w) = refl
no_equation_token (behind_sign l z) t h s b = ap (option_map (in_right l z)) b
no_equation_token (in_right l z u) t h s b = ap (option_map (in_right l z)) (sym (no_term_token u t h))

stopped : (ss : List Section) (es : List WrittenEquation) (e : EquationFront) (t : Token) (g : Front) → next_equation e t ≡ None → ((w : Option WrittenEquation) → next_rules ss es e t w None ≡ None) → next_section ss (Some (in_equation es e)) t ≡ Some g → ⊥
stopped ss es e t g h n k = none_some (sym (ap (next_rules ss es e t (whole_equation e)) h ∙ n (whole_equation e)) ∙ k)
  where
    none_some : None ≡ Some g → ⊥
    none_some e = cc

no_end : (ss : List Section) (s : SectionFront) (g : Front) → next_section ss (Some s) end_of_input ≡ Some g → ⊥
no_end ss begun g k = cc
no_end ss (in_variables xs) g k = cc
no_end ss in_rules g k = cc
no_end ss (in_equation es e) g k = stopped ss es e end_of_input g (no_equation_token e end_of_input tt refl refl) none k
  where
    none : (w : Option WrittenEquation) → next_rules ss es e end_of_input w None ≡ None
    none None = refl
    none (Some w) = refl
no_end ss (in_skipped x ts) g k = cc

no_relative : (ss : List Section) (es : List WrittenEquation) (e : EquationFront) (g : Front) → next_section ss (Some (in_equation es e)) arrow_equals ≡ Some g → ⊥
no_relative ss es e g k = stopped ss es e arrow_equals g (no_equation_token e arrow_equals tt refl refl) none k
  where
    none : (w : Option WrittenEquation) → next_rules ss es e arrow_equals w None ≡ None
    none None = refl
    none (Some w) = refl

no_bar : (ss : List Section) (es : List WrittenEquation) (e : EquationFront) (g : Front) → next_section ss (Some (in_equation es e)) bar ≡ Some g → ⊥
no_bar ss es e g k = stopped ss es e bar g (no_equation_token e bar tt refl refl) none k
  where
    none : (w : Option WrittenEquation) → next_rules ss es e bar w None ≡ None
    none None = refl
    none (Some w) = refl

-- a name that goes on in equations is one of a term
named_spot : (ss : List Section) (es : List WrittenEquation) (e : EquationFront) (x : Name) (g : Front) → next_section ss (Some (in_equation es e)) (identifier x) ≡ Some g → is_some (equation_spot e) ≡ true
named_spot ss es (in_left u) x g k = go (next_equation (in_left u) (identifier x)) refl k
  where
    go : (m : Option EquationFront) → next_equation (in_left u) (identifier x) ≡ m → next_rules ss es (in_left u) (identifier x) None m ≡ Some g → is_some (equation_spot (in_left u)) ≡ true
    go None q k = absurd (cc)
    go (Some after) q k = ⊎_elim (λ a. ap is_some (left_spot u (awaits_if_name u a.0 x a.1)).is) (λ a. absurd (no a.3)) (left_next u (identifier x) after q)
      where
        no : {s : Sign} → sign_of (identifier x) ≡ Some s → ⊥
        no e = cc
named_spot ss es (behind_sign l s) x g k = refl
named_spot ss es (in_right l s u) x g k = refl

not_long : (x : Name) → is_short x ≡ true → nat_lt 64 (length x) ≡ false
not_long x h = few (length x) h
  where
    few : (n : ℕ) → nat_le n 64 ≡ true → nat_lt 64 n ≡ false
    few n h = grind arith

here_not : (a b : Bool) → a ≡ false → here (a && b) ≡ None
here_not a b h = ap (λ (c : Bool). here (c && b)) h

name_hidden : (ss : List Section) (o : Option SectionFront) (t : Token) (g : Front) → next_section ss o t ≡ Some g → Unshown (record { sections = ss; open_section = o }) t → shown (Limit NameLimit) (record { sections = ss; open_section = o }) t ≡ None
name_hidden ss None (identifier x) g k n = absurd (cc)
name_hidden ss (Some begun) (identifier x) g k n = here_not (nat_lt 64 (length x)) true (not_long x (n.name x refl (inl refl)))
name_hidden ss (Some (in_variables xs)) (identifier x) g k n = here_not (nat_lt 64 (length x)) true (not_long x (n.name x refl (inr (inr refl))))
name_hidden ss (Some in_rules) (identifier x) g k n = here_not (nat_lt 64 (length x)) true (not_long x (n.name x refl (inr (inl refl))))
name_hidden ss (Some (in_equation es e)) (identifier x) g k n = here_not (nat_lt 64 (length x)) true (not_long x (n.name x refl (inr (inl (named_spot ss es e x g k)))))
name_hidden ss (Some (in_skipped y ts)) (identifier x) g k n = go (nat_lt 64 (length x))
  where
    go : (b : Bool) → here (b && false) ≡ None
    go true = refl
    go false = refl
name_hidden ss o t g k n = refl

unclosed_hidden : (ss : List Section) (o : Option SectionFront) (t : Token) (g : Front) → next_section ss o t ≡ Some g → shown Unclosed (record { sections = ss; open_section = o }) t ≡ None
unclosed_hidden ss None end_of_input g k = refl
unclosed_hidden ss (Some s) end_of_input g k = absurd (no_end ss s g k)
unclosed_hidden ss o t g k = refl

section_hidden : (ss : List Section) (o : Option SectionFront) (t : Token) (g : Front) → next_section ss o t ≡ Some g → Unshown (record { sections = ss; open_section = o }) t → shown BadSection (record { sections = ss; open_section = o }) t ≡ None
section_hidden ss (Some begun) (identifier x) g k n = go (bytes_eq x (codes "VAR")) refl (list_any is_rules ss) refl
  where
    go : (a : Bool) → bytes_eq x (codes "VAR") ≡ a → (r : Bool) → list_any is_rules ss ≡ r → shown BadSection (record { sections = ss; open_section = Some begun }) (identifier x) ≡ None
    go true e r q = (λ i. here ((false || ((true && bytes_eq x (codes "VAR")) && n.word refl (ap identifier (same_bytes x (codes "VAR") e)) i)) || false)) ∙ (λ i. here ((false || ((true && e i) && false)) || false))
    go false e r q = (λ i. here ((false || ((true && e i) && list_any is_rules ss)) || false))
section_hidden ss (Some begun) t g k n = absurd (cc)
section_hidden ss None end_of_input g k n = absurd (cc)
section_hidden ss None t g k n = refl
section_hidden ss (Some s) end_of_input g k n = absurd (no_end ss s g k)
section_hidden ss (Some (in_variables xs)) t g k n = refl
section_hidden ss (Some in_rules) t g k n = refl
section_hidden ss (Some (in_equation es e)) t g k n = refl
section_hidden ss (Some (in_skipped x ts)) t g k n = refl

theory_hidden : (ss : List Section) (o : Option SectionFront) (t : Token) (g : Front) → next_section ss o t ≡ Some g → shown Theory (record { sections = ss; open_section = o }) t ≡ None
theory_hidden ss (Some begun) (identifier x) g k = go (bytes_eq x (codes "THEORY")) refl
  where
    go : (b : Bool) → bytes_eq x (codes "THEORY") ≡ b → here (bytes_eq x (codes "THEORY")) ≡ None
    go true e = absurd (none (ap (λ (y : Name). next_section ss (Some begun) (identifier y)) (sym (same_bytes x (codes "THEORY") e)) ∙ k))
      where
        none : next_section ss (Some begun) (identifier (codes "THEORY")) ≡ Some g → ⊥
        none q = cc
    go false e = ap here e
theory_hidden ss (Some begun) t g k = absurd (cc)
theory_hidden ss None t g k = refl
theory_hidden ss (Some (in_variables xs)) t g k = refl
theory_hidden ss (Some in_rules) t g k = refl
theory_hidden ss (Some (in_equation es e)) t g k = refl
theory_hidden ss (Some (in_skipped x ts)) t g k = refl

strategy_hidden : (ss : List Section) (o : Option SectionFront) (t : Token) (g : Front) → next_section ss o t ≡ Some g → shown Strategy (record { sections = ss; open_section = o }) t ≡ None
strategy_hidden ss (Some begun) (identifier x) g k = go (bytes_eq x (codes "STRATEGY")) refl
  where
    go : (b : Bool) → bytes_eq x (codes "STRATEGY") ≡ b → here (bytes_eq x (codes "STRATEGY")) ≡ None
    go true e = absurd (none (ap (λ (y : Name). next_section ss (Some begun) (identifier y)) (sym (same_bytes x (codes "STRATEGY") e)) ∙ k))
      where
        none : next_section ss (Some begun) (identifier (codes "STRATEGY")) ≡ Some g → ⊥
        none q = cc
    go false e = ap here e
strategy_hidden ss (Some begun) t g k = absurd (cc)
strategy_hidden ss None t g k = refl
strategy_hidden ss (Some (in_variables xs)) t g k = refl
strategy_hidden ss (Some in_rules) t g k = refl
strategy_hidden ss (Some (in_equation es e)) t g k = refl
strategy_hidden ss (Some (in_skipped x ts)) t g k = refl

double_hidden : (ss : List Section) (o : Option SectionFront) (t : Token) → Unshown (record { sections = ss; open_section = o }) t → shown DoubleVariable (record { sections = ss; open_section = o }) t ≡ None
double_hidden ss (Some (in_variables xs)) (identifier x) n = ap here (n.double x refl refl)
double_hidden ss (Some (in_variables xs)) t n = refl
double_hidden ss None t n = refl
double_hidden ss (Some begun) t n = refl
double_hidden ss (Some in_rules) t n = refl
double_hidden ss (Some (in_equation es e)) t n = refl
double_hidden ss (Some (in_skipped x ts)) t n = refl

relative_hidden : (ss : List Section) (o : Option SectionFront) (t : Token) (g : Front) → next_section ss o t ≡ Some g → shown Relative (record { sections = ss; open_section = o }) t ≡ None
relative_hidden ss (Some in_rules) arrow_equals g k = absurd (cc)
relative_hidden ss (Some (in_equation es e)) arrow_equals g k = absurd (no_relative ss es e g k)
relative_hidden ss (Some in_rules) t g k = refl
relative_hidden ss (Some (in_equation es e)) t g k = refl
relative_hidden ss None t g k = refl
relative_hidden ss (Some begun) t g k = refl
relative_hidden ss (Some (in_variables xs)) t g k = refl
relative_hidden ss (Some (in_skipped x ts)) t g k = refl

conditional_hidden : (ss : List Section) (o : Option SectionFront) (t : Token) (g : Front) → next_section ss o t ≡ Some g → shown Conditional (record { sections = ss; open_section = o }) t ≡ None
conditional_hidden ss (Some in_rules) bar g k = absurd (cc)
conditional_hidden ss (Some (in_equation es e)) bar g k = absurd (no_bar ss es e g k)
conditional_hidden ss (Some in_rules) t g k = refl
conditional_hidden ss (Some (in_equation es e)) t g k = refl
conditional_hidden ss None t g k = refl
conditional_hidden ss (Some begun) t g k = refl
conditional_hidden ss (Some (in_variables xs)) t g k = refl
conditional_hidden ss (Some (in_skipped x ts)) t g k = refl

applied_hidden : (f : Front) (t : Token) → Unshown f t → shown VariableApplied f t ≡ None
applied_hidden f left_paren n = go (side_of f.open_section) refl
  where
    by : (u : TermFront) → side_of f.open_section ≡ Some u → (o : Option Name) → last_alone u ≡ o → back (is_some_and o (is_among (front_variables f))) 1 ≡ None
    by u e None a = refl
    by u e (Some c) a = ap (λ (b : Bool). back b 1) (n.applied c u refl e a)

    go : (o : Option TermFront) → side_of f.open_section ≡ o → back (is_some_and (option_and_then last_alone o) (is_among (front_variables f))) 1 ≡ None
    go None e = refl
    go (Some u) e = by u e (last_alone u) refl
applied_hidden f t n = refl

clash_hidden : (f : Front) (t : Token) → Unshown f t → shown ArityClash f t ≡ None
clash_hidden f t n = go (side_of f.open_section) refl (is_token t right_paren) refl (is_token t left_paren) refl
  where
    at_paren : (t : Token) → is_token t right_paren ≡ true → t ≡ right_paren
    at_paren right_paren e = refl
    at_paren t e = absurd (cc)

    go : (o : Option TermFront) → side_of f.open_section ≡ o → (a : Bool) → is_token t right_paren ≡ a → (b : Bool) → is_token t left_paren ≡ b → or_else (cond (is_token t right_paren) (closing_clash f (side_of f.open_section)) None) (cond (is_token t left_paren) None (alone_clash f (side_of f.open_section))) ≡ None
    go None e a p b q = (λ i. or_else (cond (p i) (closing_clash f (e i)) None) (cond (q i) None (alone_clash f (e i)))) ∙ none a b
      where
        none : (a b : Bool) → or_else (cond a None None) (cond b None None) ≡ None
        none true true = refl
        none true false = refl
        none false true = refl
        none false false = refl
    go (Some u) e a p b q = (λ i. or_else (cond (p i) (closing_clash f (e i)) None) (cond (q i) None (alone_clash f (e i)))) ∙ both a p b q
      where
        lone : is_token t left_paren ≡ false → alone_clash f (Some u) ≡ None
        lone q = ap (λ (x : Bool). back x 1) (n.lone u q e)

        both : (a : Bool) → is_token t right_paren ≡ a → (b : Bool) → is_token t left_paren ≡ b → or_else (cond a (closing_clash f (Some u)) None) (cond b None (alone_clash f (Some u))) ≡ None
        both true p true q = ap (λ (x : Option ℕ). or_else x None) (n.closing u (at_paren t p) e)
        both true p false q = (λ i. or_else (n.closing u (at_paren t p) e i) (lone q i))
        both false p true q = refl
        both false p false q = lone q

spot_hidden : (f : Front) (test : Option Spot → Name → Bool) (t : Token) → ((c : Name) → test None c ≡ false) → ((c : Name) (s : Spot) → t ≡ identifier c → spot_of f.open_section ≡ Some s → test (Some s) c ≡ false) → here (is_some_and (name_in t) (test (spot_of f.open_section))) ≡ None
spot_hidden f test (identifier c) n h = ap here (go (spot_of f.open_section) refl)
  where
    go : (o : Option Spot) → spot_of f.open_section ≡ o → test (spot_of f.open_section) c ≡ false
    go None e = ap (λ (o : Option Spot). test o c) e ∙ n c
    go (Some s) e = ap (λ (o : Option Spot). test o c) e ∙ h c s refl e
spot_hidden f test t n h = refl

arity_hidden : (f : Front) (t : Token) → Unshown f t → shown (Limit Arity) f t ≡ None
arity_hidden f comma n = go (side_of f.open_section) refl
  where
    not_eight : (n : ℕ) → (n ≡ 8 → ⊥) → nat_eq n 8 ≡ false
    not_eight n h = by (nat_eq n 8) refl
      where
        by : (b : Bool) → nat_eq n 8 ≡ b → b ≡ false
        by true e = absurd (h (grind arith))
        by false e = refl

    go : (o : Option TermFront) → side_of f.open_section ≡ o → here (is_some_and (side_of f.open_section) (λ u. nat_eq (arguments_so_far u) 8)) ≡ None
    go None e = ap (λ (o : Option TermFront). here (is_some_and o (λ u. nat_eq (arguments_so_far u) 8))) e
    go (Some u) e = ap (λ (o : Option TermFront). here (is_some_and o (λ u. nat_eq (arguments_so_far u) 8))) e ∙ ap here (not_eight (arguments_so_far u) (n.arity u refl e))
arity_hidden f t n = refl

hidden : (f g : Front) (t : Token) → next_front f t ≡ Some g → Unshown f t → (kind : Kind) → shown kind f t ≡ None
hidden f g t k n NotUtf8 = refl
hidden f g t k n Unclosed = unclosed_hidden f.sections f.open_section t g k
hidden f g t k n BadSection = section_hidden f.sections f.open_section t g k n
hidden f g t k n Theory = theory_hidden f.sections f.open_section t g k
hidden f g t k n Strategy = strategy_hidden f.sections f.open_section t g k
hidden f g t k n DoubleVariable = double_hidden f.sections f.open_section t n
hidden f g t k n Relative = relative_hidden f.sections f.open_section t g k
hidden f g t k n Conditional = conditional_hidden f.sections f.open_section t g k
hidden f g t k n VariableApplied = applied_hidden f t n
hidden f g t k n ArityClash = clash_hidden f t n
hidden f g t k n BadToken = refl
hidden f g t k n (Limit NameLimit) = name_hidden f.sections f.open_section t g k n
hidden f g t k n (Limit Equations) = spot_hidden f (λ o x. is_some_and o (λ s. s.begins && nat_eq (front_count f) 256)) t (λ c. refl) n.count
hidden f g t k n (Limit Size) = spot_hidden f (λ o x. is_some_and o (λ s. nat_eq (length s.side) 512)) t (λ c. refl) n.size
hidden f g t k n (Limit Depth) = spot_hidden f (λ o x. is_some_and o (λ s. nat_eq s.parens 64)) t (λ c. refl) n.depth
hidden f g t k n (Limit Symbols) = spot_hidden f (λ o x. is_some o && is_new x (symbols_among (front_variables f) (front_names f)) 24 && not (is_among (front_variables f) x)) t (λ c. refl) n.symbols
hidden f g t k n (Limit Variables) = spot_hidden f (λ o x. is_some_and o (λ s. is_new x (variables_among (front_variables f) s.equation) 64 && is_among (front_variables f) x)) t (λ c. refl) n.variables
hidden f g t k n (Limit Arity) = arity_hidden f t n
hidden f g t k n (Limit Input) = refl

-- behind whole sections the end of the input shows nothing, where one of them has rules
end_hidden : (ss : List Section) → list_any is_rules ss ≡ true → (kind : Kind) → shown kind (closed_at ss) end_of_input ≡ None
end_hidden ss h BadSection = ap (λ (b : Bool). here (not b)) h
end_hidden ss h (Limit NameLimit) = refl
end_hidden ss h (Limit Equations) = refl
end_hidden ss h (Limit Size) = refl
end_hidden ss h (Limit Depth) = refl
end_hidden ss h (Limit Symbols) = refl
end_hidden ss h (Limit Variables) = refl
end_hidden ss h (Limit Arity) = refl
end_hidden ss h (Limit Input) = refl
end_hidden ss h kind = refl

-- ---- spelled bytes

unshown_kind : (before : List Token) (f : Front) (t : Token) → HasNext before t → ((kind : Kind) → shown kind f t ≡ None) → (kind : Kind) (k : ℕ) → Shows before f t kind k → ⊥
unshown_kind before f t has h BadToken k s = s.0 has
unshown_kind before f t has h NotUtf8 k s = none_some (sym (h NotUtf8) ∙ s)
unshown_kind before f t has h Unclosed k s = none_some (sym (h Unclosed) ∙ s)
unshown_kind before f t has h BadSection k s = none_some (sym (h BadSection) ∙ s)
unshown_kind before f t has h Theory k s = none_some (sym (h Theory) ∙ s)
unshown_kind before f t has h Strategy k s = none_some (sym (h Strategy) ∙ s)
unshown_kind before f t has h DoubleVariable k s = none_some (sym (h DoubleVariable) ∙ s)
unshown_kind before f t has h Relative k s = none_some (sym (h Relative) ∙ s)
unshown_kind before f t has h Conditional k s = none_some (sym (h Conditional) ∙ s)
unshown_kind before f t has h VariableApplied k s = none_some (sym (h VariableApplied) ∙ s)
unshown_kind before f t has h ArityClash k s = none_some (sym (h ArityClash) ∙ s)
unshown_kind before f t has h (Limit b) k s = none_some (sym (h (Limit b)) ∙ s)

text_shows_nothing : (ss : List Section) → AllByRecursion IsSection ss → MeetsConditions ss → MeetsLimits ss → (before : List Token) (t : Token) (more : List Token) → text_tokens ss ≡ before ++ t ∷ more → (f : Front) → IsFrontOf before f → (kind : Kind) (k : ℕ) → Shows before f t kind k → ⊥
text_shows_nothing ss a c l before t more e f h = ⊎_elim at_end within (last_split before more xs t end_of_input (sym e))
  where
    xs : List Token
    xs = flat_map section_tokens ss

    has : HasNext before t
    has = (more, (ss, a, sym e))

    at_end : (before ≡ xs) × (t ≡ end_of_input) → (kind : Kind) (k : ℕ) → Shows before f t kind k → ⊥
    at_end r = unshown_kind before f t has (λ kind. (λ i. shown kind (same i) (r.1 i)) ∙ end_hidden ss c.has_rules kind)
      where
        same : f ≡ closed_at ss
        same = one_front before f (closed_at ss) h (record { sections = a; open_section = tt; tokens_are = r.0 ∙ sym (append-nil xs) })

    within : (m : List Token) × (before ++ t ∷ m ≡ xs) → (kind : Kind) (k : ℕ) → Shows before f t kind k → ⊥
    within m = unshown_kind before f t has (hidden f r.2.0 t step (fits_before f r.2.0 t step (fits_all m.0 r.2.0 (closed_at ss) r.2.2 (fits_text ss c l))).1)
      where
        r : (v : Front) × Leads next_front start before v × Leads next_front v (t ∷ m.0) (closed_at ss)
        r = leads_split next_front before (t ∷ m.0) start (closed_at ss) (subst (λ (ts : List Token). Leads next_front start ts (closed_at ss)) (sym m.1) (run_sections ss [] a))

        same : r.0 ≡ f
        same = leads_once next_front before start r.0 f r.1 (reaches_front before f h)

        step : next_front f t ≡ Some r.2.0
        step = ap (λ (g : Front). next_front g t) (sym same) ∙ r.2.1

pub refused_not_spelled : (bytes : List ℕ) (kind : Kind) (at : ℕ) (p : Problem) → IsRefused bytes kind at → Spells bytes p → ⊥
refused_not_spelled bytes kind at p (too_long h) k = let short = k.short in omega (arith, h, short)
refused_not_spelled bytes kind at p (not_utf8 a b) k = b.longest (length bytes) b.short (subst IsUtf8 (sym (take_all (length bytes) bytes (omega arith))) k.utf8)
refused_not_spelled bytes kind at p (by_tokens a b number s) k = text_shows_nothing k.sections k.are_sections k.conditions k.limits s.before s.token s.more (sym k.tokens_are ∙ s.tokens_are) s.front s.is_front kind s.back_by s.shows
