-- A token that shows nothing leads from a fine front to a fine front, and a fine text meets the conditions and the limits.
use Rattle.std.proofs.Common.{append-nil, ◌≡◌, inl, inr, ⊎_elim, refl, ap, sym, ◌∙◌, subst, arith, ℕ, ◌≤◌, List, [], ◌∷◌, ◌++◌, Option, Some, None, Bool, true, false, cond, ◌&&◌, ◌||◌, length, flat_map}
use Rattle.std.specs.Prelude.{not, nat_eq, nat_le, nat_lt, is_some, option_and_then}
use Rattle.std.specs.List.{list_all, list_any}
use Rattle.std.proofs.lemmas.Option.{same_Some}
use Rattle.kb_text.specs.Names.{Name, is_among, firsts, are_distinct}
use Rattle.kb_text.specs.Tokens.{Token, right_paren, identifier}
use Rattle.kb_text.specs.Grammar.{Written, Section, variables, rules, skipped, WrittenEquation}
use Rattle.kb_text.specs.Fronts.{SectionFront, begun, in_variables, in_rules, in_equation, in_skipped, Front}
use Rattle.kb_text.specs.Problems.{equation_variables, names_in, depth_in, is_unapplied, variables_of, equations_of, all_names, all_uses, sides_of, variables_among, symbols_among, agree, is_rules, names_of_section, MeetsConditions, MeetsLimits}
use Rattle.kb_text.specs.Refusals.{shown, here, back, or_else, spot_of, side_of, last_alone, arguments_so_far, front_variables, front_names, front_uses, front_count, is_some_and, is_new, closing_clash, alone_clash, is_in_variables, is_in_skipped}
use Rattle.kb_text.specs.Machine.{next_front, next_section, best, kinds}
use Rattle.kb_syntax.specs.Moves.{names_of_token, new_variables, new_names, open_equations, new_equations}
use Rattle.kb_text.specs.declared.kind.Kind.{Kind}
use Rattle.kb_text.specs.declared.kind.Kind.TheVariants.{NotUtf8, BadSection, DoubleVariable, VariableApplied, ArityClash, Limit}
use Rattle.kb_text.specs.declared.kind.Bound.TheVariants.{Name as NameLimit, Equations, Size, Depth, Symbols, Variables, Arity}
use Rattle.kb_text.proofs.Exact.{in_best, rises, IsIn, NotBefore}
use Rattle.kb_syntax.proofs.MoveSections.{Move, section_moves, names-append}
use Rattle.kb_syntax.proofs.FineLists.{distinct-push, no-equations, skipped_names}
use Rattle.kb_syntax.proofs.Fine.{Fine, Unshown, NextParts, FineEquation, is_short, fine_use, fine_side, fine_equation, skipped_open, skipped_moves, uses_fine, few_names, ended_equations, new_short, only_name, next_parts, is_equation}
use Rattle.kb_text.proofs.RunTexts.{closed_at}
use Rattle.std.proofs.lemmas.List.Folds.{list_all-append}
use Rattle.std.proofs.lemmas.Bool.{and_parts, and_from}
use Rattle.kb_lemmas.proofs.Lists.{all_join}

-- ---- what isn't shown

pub row_none : (f : Front) (t : Token) (kind : Kind) → IsIn kind kinds → best None kinds f t ≡ None → shown kind f t ≡ None
row_none f t kind i e = go (shown kind f t) refl
  where
    go : (o : Option ℕ) → shown kind f t ≡ o → o ≡ None
    go None p = refl
    go (Some k) p = absurd (subst (λ (o : Option (Kind × ℕ)). NotBefore o kind k) e (in_best kinds None NotUtf8 f t kind k tt rises i p))

pub here_none : (b : Bool) → here b ≡ None → b ≡ false
here_none true e = absurd (cc)
here_none false e = refl

back_none : (b : Bool) (k : ℕ) → back b k ≡ None → b ≡ false
back_none true k e = absurd (cc)
back_none false k e = refl

or_none : (a b : Option ℕ) → or_else a b ≡ None → (a ≡ None) × (b ≡ None)
or_none None b e = (refl, e)
or_none (Some a) b e = absurd (cc)

with_true : (a b : Bool) → a ≡ true → (a && b) ≡ false → b ≡ false
with_true true b h e = e
with_true false b h e = absurd (cc)

short_name : (n : ℕ) → nat_lt 64 n ≡ false → nat_le n 64 ≡ true
short_name n e = grind arith

spot_outside : (o : Option SectionFront) → is_some (spot_of o) ≡ true → is_in_skipped o ≡ false
spot_outside None e = refl
spot_outside (Some begun) e = refl
spot_outside (Some (in_variables xs)) e = refl
spot_outside (Some in_rules) e = refl
spot_outside (Some (in_equation es d)) e = refl
spot_outside (Some (in_skipped x ts)) e = absurd (cc)

variables_outside : (o : Option SectionFront) → is_in_variables o ≡ true → is_in_skipped o ≡ false
variables_outside None e = refl
variables_outside (Some begun) e = refl
variables_outside (Some (in_variables xs)) e = refl
variables_outside (Some in_rules) e = refl
variables_outside (Some (in_equation es d)) e = refl
variables_outside (Some (in_skipped x ts)) e = absurd (cc)

pub unshown : (f : Front) (t : Token) → best None kinds f t ≡ None → Unshown f t
unshown f t e = record {
  name = λ c k where_it_stands.
      let outside : is_in_skipped f.open_section ≡ false = ⊎_elim (λ a. ap is_in_skipped a) (λ b. ⊎_elim (spot_outside f.open_section) (variables_outside f.open_section) b) where_it_stands in
      let long : (nat_lt 64 (length c) && not (is_in_skipped f.open_section)) ≡ false = here_none _ (ap (λ (u : Token). shown (Limit NameLimit) f u) (sym k) ∙ row (Limit NameLimit) (inl refl)) in
      short_name (length c) (and_true (nat_lt 64 (length c)) ((λ i. nat_lt 64 (length c) && not (sym outside i)) ∙ long));
  word = λ p k. word_none (list_any is_rules f.sections) (here_none _ ((λ i. shown BadSection (record { sections = f.sections; open_section = sym p i }) (sym k i)) ∙ row BadSection (inr (inr (inl refl)))));
  double = λ c k p. with_true (is_in_variables f.open_section) _ p (here_none _ (ap (λ (u : Token). shown DoubleVariable f u) (sym k) ∙ row DoubleVariable (inr (inr (inr (inr (inr (inl refl))))))));
  applied = λ c u k p a. ap (λ (o : Option Name). is_some_and o (is_among (front_variables f))) (sym (ap (option_and_then last_alone) p ∙ a)) ∙ back_none _ 1 (ap (λ (v : Token). shown VariableApplied f v) (sym k) ∙ row VariableApplied (inr (inr (inr (inr (inr (inr (inr (inr (inl refl))))))))));
  closing = λ u k p. ap (closing_clash f) (sym p) ∙ (or_none (closing_clash f (side_of f.open_section)) (alone_clash f (side_of f.open_section)) (ap (λ (v : Token). shown ArityClash f v) (sym k) ∙ clash)).0;
  lone = λ u k p. back_none _ 1 (ap (alone_clash f) (sym p) ∙ ap (λ (b : Bool). cond b None (alone_clash f (side_of f.open_section))) (sym k) ∙ (or_none _ _ clash).1);
  count = λ c s k p. here_none _ ((λ i. here (is_some_and (sym p i) (λ s. s.begins && nat_eq (front_count f) 256))) ∙ ap (λ (u : Token). shown (Limit Equations) f u) (sym k) ∙ row (Limit Equations) (inr (inr (inr (inr (inr (inr (inr (inr (inr (inr (inl refl))))))))))));
  size = λ c s k p. here_none _ ((λ i. here (is_some_and (sym p i) (λ s. nat_eq (length s.side) 512))) ∙ ap (λ (u : Token). shown (Limit Size) f u) (sym k) ∙ row (Limit Size) (inr (inr (inr (inr (inr (inr (inr (inr (inr (inr (inr (inl refl)))))))))))));
  depth = λ c s k p. here_none _ ((λ i. here (is_some_and (sym p i) (λ s. nat_eq s.parens 64))) ∙ ap (λ (u : Token). shown (Limit Depth) f u) (sym k) ∙ row (Limit Depth) (inr (inr (inr (inr (inr (inr (inr (inr (inr (inr (inr (inr (inl refl))))))))))))));
  symbols = λ c s k p. here_none _ ((λ i. here (is_some (sym p i) && is_new c (symbols_among (front_variables f) (front_names f)) 24 && not (is_among (front_variables f) c))) ∙ ap (λ (u : Token). shown (Limit Symbols) f u) (sym k) ∙ row (Limit Symbols) (inr (inr (inr (inr (inr (inr (inr (inr (inr (inr (inr (inr (inr (inl refl)))))))))))))));
  variables = λ c s k p. here_none _ ((λ i. here (is_some_and (sym p i) (λ s. is_new c (variables_among (front_variables f) s.equation) 64 && is_among (front_variables f) c))) ∙ ap (λ (u : Token). shown (Limit Variables) f u) (sym k) ∙ row (Limit Variables) (inr (inr (inr (inr (inr (inr (inr (inr (inr (inr (inr (inr (inr (inr (inl refl))))))))))))))));
  arity = λ u k p q. true_false (nat_true (arguments_so_far u) q) (here_none _ ((λ i. here (is_some_and (sym p i) (λ u. nat_eq (arguments_so_far u) 8))) ∙ ap (λ (v : Token). shown (Limit Arity) f v) (sym k) ∙ row (Limit Arity) (inr (inr (inr (inr (inr (inr (inr (inr (inr (inr (inr (inr (inr (inr (inr (inl refl))))))))))))))))));
}
  where
    row : (kind : Kind) → IsIn kind kinds → shown kind f t ≡ None
    row kind i = row_none f t kind i e

    clash : shown ArityClash f t ≡ None
    clash = row ArityClash (inr (inr (inr (inr (inr (inr (inr (inr (inr (inl refl))))))))))

    and_true : (b : Bool) → (b && true) ≡ false → b ≡ false
    and_true true e = absurd (cc)
    and_true false e = refl

    word_none : (r : Bool) → ((false || r) || false) ≡ false → r ≡ false
    word_none true e = absurd (cc)
    word_none false e = refl

    nat_true : (n : ℕ) → n ≡ 8 → nat_eq n 8 ≡ true
    nat_true n e = grind arith

    true_false : {b : Bool} → b ≡ true → b ≡ false → ⊥
    true_false p q = cc

-- ---- the next front

-- the variables stay
same_variables : (f g : Front) (t : Token) → new_variables f.open_section t ≡ [] → Fine f → Unshown f t → Move f.sections f.open_section t g → NextParts f g
    → list_all is_short (skipped_names g.sections ++ skipped_open g.open_section) ≡ true → Fine g
same_variables f g t stay h n m p s =
    let same : front_variables f ≡ front_variables g = sym (m.variables ∙ ap (front_variables f ++◌) stay ∙ append-nil (front_variables f)) in
    let uses = uses_fine f t h n in record {
      short_variables = ap (list_all is_short) (sym same) ∙ h.short_variables;
      short_names = ap (list_all is_short) m.names ∙ all_join is_short (front_names f) (new_names f.open_section t) h.short_names (new_short f.open_section t (λ c k q. n.name c k (inr (inl q))));
      short_skipped = s;
      distinct = ap are_distinct (sym same) ∙ h.distinct;
      agrees = ap agree m.uses ∙ uses.0;
      uses = (λ i. list_all (fine_use (sym same i)) (m.uses i)) ∙ uses.1;
      count = p.count;
      symbols = subst (λ (ns : List Name). length (firsts (symbols_among (front_variables g) ns)) ≤ 24) (sym m.names) (subst (λ (vs : List Name). length (firsts (symbols_among vs (front_names f ++ new_names f.open_section t))) ≤ 24) same (few_names f t h n));
      equations = (λ i. list_all (fine_equation (sym same i)) (m.equations i)) ∙ all_join (fine_equation (front_variables f)) (equations_of f.sections ++ open_equations f.open_section) (new_equations f.open_section t) h.equations (ended_equations (front_variables f) f.open_section t h.open_equation);
      open_equation = subst (λ (vs : List Name). FineEquation vs g.open_section) same p.open_equation;
      ordered = p.ordered;
      none_before = p.none_before;
    }

-- in a section of variables there are no equations yet
variables_come : (ss : List Section) (xs : List Name) (g : Front) (t : Token) → Fine (record { sections = ss; open_section = Some (in_variables xs) }) → Unshown (record { sections = ss; open_section = Some (in_variables xs) }) t
    → Move ss (Some (in_variables xs)) t g → NextParts (record { sections = ss; open_section = Some (in_variables xs) }) g
    → list_all is_short (skipped_names g.sections ++ skipped_open g.open_section) ≡ true → is_equation g.open_section ≡ false → Fine g
variables_come ss xs g t h n m p s q =
    let none : equations_of ss ≡ [] = no-equations ss (h.none_before refl) in
    let names : front_names g ≡ [] = m.names ∙ ap (λ (es : List WrittenEquation). (all_names es ++ []) ++ []) none in
    let uses : front_uses g ≡ [] = m.uses ∙ ap (λ (es : List WrittenEquation). (all_uses es ++ []) ++ []) none in
    let equations : equations_of g.sections ++ open_equations g.open_section ≡ [] = m.equations ∙ ap (λ (es : List WrittenEquation). (es ++ []) ++ []) none in record {
      short_variables = ap (list_all is_short) m.variables ∙ all_join is_short (variables_of ss ++ xs) (names_of_token t) h.short_variables (only_name t is_short (λ c k. n.name c k (inr (inr refl))));
      short_names = ap (list_all is_short) names;
      short_skipped = s;
      distinct = ap are_distinct m.variables ∙ come t n;
      agrees = ap agree uses;
      uses = ap (list_all (fine_use (front_variables g))) uses;
      count = p.count;
      symbols = subst (λ (ns : List Name). length (firsts (symbols_among (front_variables g) ns)) ≤ 24) (sym names) (omega arith);
      equations = ap (list_all (fine_equation (front_variables g))) equations;
      open_equation = no_equation g.open_section q;
      ordered = p.ordered;
      none_before = p.none_before;
    }
  where
    come : (t : Token) → Unshown (record { sections = ss; open_section = Some (in_variables xs) }) t → are_distinct ((variables_of ss ++ xs) ++ names_of_token t) ≡ true
    come (identifier c) n = distinct-push (variables_of ss ++ xs) c h.distinct (n.double c refl refl)
    come t n = ap are_distinct (append-nil (variables_of ss ++ xs)) ∙ h.distinct

    no_equation : (o : Option SectionFront) → is_equation o ≡ false → FineEquation (front_variables g) o
    no_equation None q = tt
    no_equation (Some begun) q = tt
    no_equation (Some (in_variables xs)) q = tt
    no_equation (Some in_rules) q = tt
    no_equation (Some (in_equation es e)) q = absurd (cc)
    no_equation (Some (in_skipped x ts)) q = tt

behind_variables : (ss : List Section) (xs : List Name) (t : Token) (g : Front) → next_section ss (Some (in_variables xs)) t ≡ Some g → is_equation g.open_section ≡ false
behind_variables ss xs (identifier x) g k = ap (λ (f : Front). is_equation f.open_section) (sym (same_Some (record { sections = ss; open_section = Some (in_variables (xs ++ x ∷ [])) }) g k))
behind_variables ss xs right_paren g k = ap (λ (f : Front). is_equation f.open_section) (sym (same_Some (record { sections = ss ++ variables xs ∷ []; open_section = None }) g k))
behind_variables ss xs t g k = absurd (cc)

pub fine_next : (f g : Front) (t : Token) → Fine f → Unshown f t → next_front f t ≡ Some g → Fine g
fine_next f g t h n k = go f.sections f.open_section h n k
  where
    go : (ss : List Section) (o : Option SectionFront) → Fine (record { sections = ss; open_section = o }) → Unshown (record { sections = ss; open_section = o }) t → next_section ss o t ≡ Some g → Fine g
    go ss (Some (in_variables xs)) h n k = variables_come ss xs g t h n (section_moves ss (Some (in_variables xs)) t g k) (next_parts ss (Some (in_variables xs)) t g h n k) (skipped_moves ss (Some (in_variables xs)) t g k (λ c q r. n.name c q (inl r)) h.short_skipped) (behind_variables ss xs t g k)
    go ss None h n k = same_variables (record { sections = ss; open_section = None }) g t refl h n (section_moves ss None t g k) (next_parts ss None t g h n k) (skipped_moves ss None t g k (λ c q r. n.name c q (inl r)) h.short_skipped)
    go ss (Some begun) h n k = same_variables (record { sections = ss; open_section = Some begun }) g t refl h n (section_moves ss (Some begun) t g k) (next_parts ss (Some begun) t g h n k) (skipped_moves ss (Some begun) t g k (λ c q r. n.name c q (inl r)) h.short_skipped)
    go ss (Some in_rules) h n k = same_variables (record { sections = ss; open_section = Some in_rules }) g t refl h n (section_moves ss (Some in_rules) t g k) (next_parts ss (Some in_rules) t g h n k) (skipped_moves ss (Some in_rules) t g k (λ c q r. n.name c q (inl r)) h.short_skipped)
    go ss (Some (in_equation es e)) h n k = same_variables (record { sections = ss; open_section = Some (in_equation es e) }) g t refl h n (section_moves ss (Some (in_equation es e)) t g k) (next_parts ss (Some (in_equation es e)) t g h n k) (skipped_moves ss (Some (in_equation es e)) t g k (λ c q r. n.name c q (inl r)) h.short_skipped)
    go ss (Some (in_skipped x ts)) h n k = same_variables (record { sections = ss; open_section = Some (in_skipped x ts) }) g t refl h n (section_moves ss (Some (in_skipped x ts)) t g k) (next_parts ss (Some (in_skipped x ts)) t g h n k) (skipped_moves ss (Some (in_skipped x ts)) t g k (λ c q r. n.name c q (inl r)) h.short_skipped)

-- the empty text's front
pub fine_start : Fine (record { sections = []; open_section = None })
fine_start = record { short_variables = refl; short_names = refl; short_skipped = refl; distinct = refl; agrees = refl; uses = refl; count = omega arith; symbols = omega arith; equations = refl; open_equation = tt; ordered = refl; none_before = λ e. absurd (cc) }

-- ---- whole texts

-- a test of all names of sections, by the three kinds of names
section_names : (ss : List Section) → list_all is_short (variables_of ss) ≡ true → list_all is_short (all_names (equations_of ss)) ≡ true → list_all is_short (skipped_names ss) ≡ true → list_all is_short (flat_map names_of_section ss) ≡ true
section_names [] a b c = refl
section_names (variables xs ∷ ss) a b c = let r = and_parts _ _ (sym (list_all-append is_short xs (variables_of ss)) ∙ a) in all_join is_short xs _ r.0 (section_names ss r.1 b c)
section_names (rules es ∷ ss) a b c = let r = and_parts _ _ (sym (list_all-append is_short (all_names es) (all_names (equations_of ss))) ∙ ap (list_all is_short) (sym (names-append es (equations_of ss))) ∙ b) in all_join is_short (all_names es) _ r.0 (section_names ss a r.1 c)
section_names (skipped x ts ∷ ss) a b c = let r = and_parts _ _ c in and_from _ _ r.0 (section_names ss a b r.1)

-- a test of all sides
side_tests : (vars : List Name) (p : Written → Bool) (es : List WrittenEquation) → ((t : Written) → fine_side vars t ≡ true → p t ≡ true) → list_all (fine_equation vars) es ≡ true → list_all p (sides_of es) ≡ true
side_tests vars p [] q h = refl
side_tests vars p (e ∷ es) q h =
    let r = and_parts _ _ h in
    let a = and_parts _ _ r.0 in
    let b = and_parts _ _ a.1 in
    and_from _ _ (q e.left a.0) (and_from _ _ (q e.right b.0) (side_tests vars p es q r.1))

each_test : (vars : List Name) (es : List WrittenEquation) → list_all (fine_equation vars) es ≡ true → list_all (λ e. nat_le (length (equation_variables vars e)) 64) es ≡ true
each_test vars [] h = refl
each_test vars (e ∷ es) h =
    let r = and_parts _ _ h in
    let a = and_parts _ _ r.0 in
    let b = and_parts _ _ a.1 in
    and_from _ _ b.1 (each_test vars es r.1)

use_tests : (vars : List Name) (us : List (Name × ℕ)) → list_all (fine_use vars) us ≡ true → list_all (λ (u : Name × ℕ). nat_le u.1 8) us ≡ true
use_tests vars [] h = refl
use_tests vars (u ∷ us) h = let r = and_parts _ _ h in let a = and_parts _ _ r.0 in and_from _ _ a.0 (use_tests vars us r.1)

-- the variables, names, uses and equations of whole sections
whole_lists : (ss : List Section) → (front_variables (closed_at ss) ≡ variables_of ss) × (front_names (closed_at ss) ≡ all_names (equations_of ss)) × (front_uses (closed_at ss) ≡ all_uses (equations_of ss)) × (equations_of ss ++ [] ≡ equations_of ss) × (skipped_names ss ++ [] ≡ skipped_names ss)
whole_lists ss = (append-nil _, append-nil _, append-nil _, append-nil _, append-nil _)

pub meets_conditions : (ss : List Section) → Fine (closed_at ss) → list_any is_rules ss ≡ true → MeetsConditions ss
meets_conditions ss h r =
    let l = whole_lists ss in
    let equations : list_all (fine_equation (variables_of ss)) (equations_of ss) ≡ true = (λ i. list_all (fine_equation (sym l.0 i)) (sym l.3 i)) ∙ h.equations in record {
      ordered = h.ordered;
      has_rules = r;
      distinct = ap are_distinct (sym l.0) ∙ h.distinct;
      unapplied = side_tests (variables_of ss) (is_unapplied (variables_of ss)) (equations_of ss) (λ t k. (and_parts _ _ (and_parts _ _ k).1).1) equations;
      one_arity = ap agree (sym l.2) ∙ h.agrees;
    }

pub meets_limits : (ss : List Section) → Fine (closed_at ss) → MeetsLimits ss
meets_limits ss h =
    let l = whole_lists ss in
    let equations : list_all (fine_equation (variables_of ss)) (equations_of ss) ≡ true = (λ i. list_all (fine_equation (sym l.0 i)) (sym l.3 i)) ∙ h.equations in record {
      names = section_names ss (ap (list_all is_short) (sym l.0) ∙ h.short_variables) (ap (list_all is_short) (sym l.1) ∙ h.short_names) (ap (list_all is_short) (sym l.4) ∙ h.short_skipped);
      equations = below (length (equations_of ss)) 256 (omega (arith, h.count));
      size = side_tests (variables_of ss) (λ t. nat_le (length (names_in t)) 512) (equations_of ss) (λ t k. (and_parts _ _ k).0) equations;
      depth = side_tests (variables_of ss) (λ t. nat_le (depth_in t) 64) (equations_of ss) (λ t k. (and_parts _ _ (and_parts _ _ k).1).0) equations;
      symbols = below _ 24 (subst (λ (ns : List Name). length (firsts (symbols_among (variables_of ss) ns)) ≤ 24) l.1 (subst (λ (vs : List Name). length (firsts (symbols_among vs (front_names (closed_at ss)))) ≤ 24) l.0 h.symbols));
      arity = use_tests (variables_of ss) (all_uses (equations_of ss)) ((λ i. list_all (fine_use (sym l.0 i)) (sym l.2 i)) ∙ h.uses);
      variables_each = each_test (variables_of ss) (equations_of ss) equations;
    }
  where
    below : (m n : ℕ) → m ≤ n → nat_le m n ≡ true
    below m n h = grind arith
