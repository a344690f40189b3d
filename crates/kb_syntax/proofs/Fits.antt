-- Fronts of texts that meet the conditions and the limits: a front does where the next one does, and the token between them shows nothing.
use Rattle.std.proofs.Common.{append-nil, append_assoc, ◌≡◌, ◌⊎◌, inl, inr, ⊎_elim, refl, ap, sym, ◌∙◌, subst, arith, ℕ, zero, ◌+◌, ◌<◌, ◌≤◌, List, [], ◌∷◌, ◌++◌, Option, Some, None, Bool, true, false, cond, ◌&&◌, length, length-append}
use Rattle.std.specs.Prelude.{not, nat_eq, is_some, bytes_eq, codes, filter}
use Rattle.std.specs.List.{list_all, list_any, AllByRecursion}
use Rattle.std.proofs.lemmas.Option.{same_Some}
use Rattle.std.proofs.Math.Bool.{and-false}
use Rattle.std.proofs.lemmas.Bool.{and_parts}
use Rattle.kb_lemmas.proofs.Options.{none_some, some_of_map}
use Rattle.kb_text.specs.Names.{Name, is_among, firsts, are_distinct}
use Rattle.kb_text.specs.Tokens.{Token, left_paren, right_paren, comma, identifier, end_of_input}
use Rattle.kb_text.specs.Grammar.{Written, alone, Section, variables, rules, skipped, WrittenEquation, open_after, reserved_names}
use Rattle.kb_text.specs.Fronts.{TermFront, whole, EquationFront, in_left, behind_sign, in_right, SectionFront, begun, in_variables, in_rules, in_equation, in_skipped, Front}
use Rattle.kb_text.specs.Problems.{names_in, variables_of, equations_of, all_names, all_uses, variables_among, symbols_among, agree, are_ordered, is_rules}
use Rattle.kb_text.specs.Refusals.{back, Spot, spot_of, equation_spot, new_equation, side_of, awaits_term, open_parens, last_alone, ends_next, arguments_so_far, ended_alone, names_in_front, equation_names, front_variables, front_names, front_uses, front_count, is_token, is_some_and, is_new, has_other_arity, closing_clash_of, is_in_variables}
use Rattle.kb_text.specs.Machine.{next_term, next_equation, whole_equation, sign_of, next_rules, next_skipped, next_section, next_front, open_at}
use Rattle.kb_syntax.specs.Moves.{names_of_token, new_variables, names_at, new_names, ended_use, ended_in, ended_at, new_uses, open_equations, equation_ended, new_equations, side_names}
use Rattle.kb_syntax.proofs.MoveTerms.{term_names}
use Rattle.kb_syntax.proofs.MoveSections.{Move, section_moves, whole_is, is_whole_is, awaits_if_name, left_next}
use Rattle.kb_text.proofs.Firsts.{same_bytes}
use Rattle.kb_syntax.proofs.FineLists.{no-equations, skipped_names, skipped-append}
use Rattle.kb_syntax.proofs.Fine.{Unshown, is_short, skipped_open, HasSpot, left_spot, right_spot, closed_count}
use Rattle.kb_syntax.proofs.FitsTerms.{FitsTerm, FitsSide, fits_term}
use Rattle.kb_syntax.proofs.FitsLists.{all_front, all_behind, each_front, few_less, fewer_names, distinct_front, distinct_last, agree_front, agree_last, ordered_front, none_before_variables}

-- a whole side
pub record FitsWhole (vars : List Name) (t : Written) : Type 0 where
  pub size : length (names_in t) ≤ 512
  pub term : FitsTerm vars 0 t

pub record FitsEquation (vars : List Name) (e : WrittenEquation) : Type 0 where
  pub left : FitsWhole vars e.left
  pub right : FitsWhole vars e.right
  pub variables : length (firsts (variables_among vars (names_in e.left ++ names_in e.right))) ≤ 64

abbrev pub FitsSides : List Name → EquationFront → Type 0
FitsSides vars (in_left u) = FitsSide vars 0 u
FitsSides vars (behind_sign l s) = FitsWhole vars l
FitsSides vars (in_right l s u) = FitsWhole vars l × FitsSide vars 0 u

pub record FitsFront (vars : List Name) (e : EquationFront) : Type 0 where
  pub variables : length (firsts (variables_among vars (equation_names e))) ≤ 64
  pub size : length (side_names e) ≤ 512
  pub sides : FitsSides vars e

abbrev pub FitsOpenEquation : List Name → Option SectionFront → Type 0
FitsOpenEquation vars (Some (in_equation es e)) = FitsFront vars e
FitsOpenEquation vars o = Unit {0}

pub record Fits (f : Front) : Type 0 where
  pub short_variables : list_all is_short (front_variables f) ≡ true
  pub short_names : list_all is_short (front_names f) ≡ true
  pub short_skipped : list_all is_short (skipped_names f.sections ++ skipped_open f.open_section) ≡ true
  pub distinct : are_distinct (front_variables f) ≡ true
  pub agrees : agree (front_uses f) ≡ true
  pub count : front_count f ≤ 256
  pub symbols : length (firsts (symbols_among (front_variables f) (front_names f))) ≤ 24
  pub equations : AllByRecursion (FitsEquation (front_variables f)) (equations_of f.sections ++ open_equations f.open_section)
  pub open_equation : FitsOpenEquation (front_variables f) f.open_section
  pub ordered : are_ordered f.sections ≡ true
  pub none_before : is_in_variables f.open_section ≡ true → list_any is_rules f.sections ≡ false

-- the tests of a token within an equation pass
pub record PassesTests (vars : List Name) (o : Option SectionFront) (t : Token) : Type 0 where
  pub applied : (c : Name) (u : TermFront) → t ≡ left_paren → side_of o ≡ Some u → last_alone u ≡ Some c → is_among vars c ≡ false
  pub size : (c : Name) (s : Spot) → t ≡ identifier c → spot_of o ≡ Some s → nat_eq (length s.side) 512 ≡ false
  pub depth : (c : Name) (s : Spot) → t ≡ identifier c → spot_of o ≡ Some s → nat_eq s.parens 64 ≡ false
  pub variables : (c : Name) (s : Spot) → t ≡ identifier c → spot_of o ≡ Some s → (is_new c (variables_among vars s.equation) 64 && is_among vars c) ≡ false
  pub arity : (u : TermFront) → t ≡ comma → side_of o ≡ Some u → arguments_so_far u ≡ 8 → ⊥

same_token : (c d : Name) → identifier c ≡ identifier d → c ≡ d
same_token c d e = cc

-- where a name would begin an equation
new_tests : (vars : List Name) (o : Option SectionFront) (t : Token) → spot_of o ≡ Some new_equation → (t ≡ left_paren → ⊥) → (t ≡ comma → ⊥) → PassesTests vars o t
new_tests vars o t e p q = record {
  applied = λ c u k. absurd (p k);
  size = λ c s k r. ap (λ (x : Spot). nat_eq (length x.side) 512) (sym (same_Some new_equation s (sym e ∙ r)));
  depth = λ c s k r. ap (λ (x : Spot). nat_eq x.parens 64) (sym (same_Some new_equation s (sym e ∙ r)));
  variables = λ c s k r. ap (λ (x : Spot). is_new c (variables_among vars x.equation) 64 && is_among vars c) (sym (same_Some new_equation s (sym e ∙ r)));
  arity = λ u k. absurd (q k);
}

-- where no term is open
no_tests : (vars : List Name) (o : Option SectionFront) (t : Token) → side_of o ≡ None → spot_of o ≡ None → PassesTests vars o t
no_tests vars o t a b = record {
  applied = λ c u k e. absurd (none_some (sym a ∙ e));
  size = λ c s k e. absurd (none_some (sym b ∙ e));
  depth = λ c s k e. absurd (none_some (sym b ∙ e));
  variables = λ c s k e. absurd (none_some (sym b ∙ e));
  arity = λ u k e. absurd (none_some (sym a ∙ e));
}

-- tokens that no test is of
other_tests : (vars : List Name) (o : Option SectionFront) (t : Token) → (t ≡ left_paren → ⊥) → (t ≡ comma → ⊥) → ((c : Name) → t ≡ identifier c → ⊥) → PassesTests vars o t
other_tests vars o t p q r = record {
  applied = λ c u k. absurd (p k);
  size = λ c s k. absurd (r c k);
  depth = λ c s k. absurd (r c k);
  variables = λ c s k. absurd (r c k);
  arity = λ u k. absurd (q k);
}

-- one token more within a side
side_before : (vars : List Name) (es : List WrittenEquation) (e : EquationFront) (u v : TermFront) (t : Token) → side_of (Some (in_equation es e)) ≡ Some u → next_term u t ≡ Some v → FitsSide vars 0 v → length (names_in_front v) ≤ 512
    → length (firsts (variables_among vars (equation_names e ++ names_of_token t))) ≤ 64 → (awaits_term u ≡ true → HasSpot (equation_spot e) (names_in_front u) (equation_names e) (open_parens u))
    → (FitsSide vars 0 u × (length (names_in_front u) ≤ 512)) × PassesTests vars (Some (in_equation es e)) t
side_before vars es e u v t side next fits size few spot =
    let r = fits_term vars u v 0 t next fits in (
      (r.0, omega (arith, grown, length-append (names_in_front u) (names_of_token t), size)),
      record {
        applied = λ c w k q a. r.1.paren c k (ap last_alone (same_Some u w (sym side ∙ q)) ∙ a);
        size = λ c s k q. apart (length s.side) 512 (let l = ap length (at_spot c s k q).0 in let n = named c k in omega (arith, l, n, size));
        depth = λ c s k q. apart s.parens 64 (let l = (at_spot c s k q).1.1 in let n = r.1.name c k in omega (arith, l, n));
        variables = λ c s k q. ap (λ (ns : List Name). is_new c (variables_among vars ns) 64 && is_among vars c) (at_spot c s k q).1.0 ∙ few_less (is_among vars) (equation_names e) c 64 (subst (λ (x : Token). length (firsts (variables_among vars (equation_names e ++ names_of_token x))) ≤ 64) k few);
        arity = λ w k q a. r.1.comma k (ap arguments_so_far (same_Some u w (sym side ∙ q)) ∙ a);
      },
    )
  where
    apart : (m n : ℕ) → m < n → nat_eq m n ≡ false
    apart m n h = grind arith

    grown : length (names_in_front v) ≡ length (names_in_front u ++ names_of_token t)
    grown = ap length (term_names u v t next)

    named : (c : Name) → t ≡ identifier c → length (names_in_front v) ≡ length (names_in_front u) + 1
    named c k = grown ∙ ap (λ (x : Token). length (names_in_front u ++ names_of_token x)) k ∙ length-append (names_in_front u) (c ∷ [])

    at_spot : (c : Name) (s : Spot) → t ≡ identifier c → equation_spot e ≡ Some s → (s.side ≡ names_in_front u) × ((s.equation ≡ equation_names e) × (s.parens ≡ open_parens u))
    at_spot c s k q =
        let h = spot (awaits_if_name u v c (ap (next_term u) (sym k) ∙ next)) in
        let same : s ≡ h.spot = sym (same_Some h.spot s (sym h.is ∙ q)) in
        (ap (λ (x : Spot). x.side) same ∙ h.side_is, (ap (λ (x : Spot). x.equation) same ∙ h.equation_is, ap (λ (x : Spot). x.parens) same ∙ h.parens_is))

equation_before : (vars : List Name) (es : List WrittenEquation) (e after : EquationFront) (t : Token) → next_equation e t ≡ Some after → FitsFront vars after → FitsFront vars e × PassesTests vars (Some (in_equation es e)) t
equation_before vars es (in_left u) after t h k = ⊎_elim
    (λ a. let fits : FitsFront vars (in_left a.0) = subst (FitsFront vars) (sym a.2) k in
    let few : length (firsts (variables_among vars (names_in_front u ++ names_of_token t))) ≤ 64 = subst (λ (ns : List Name). length (firsts (variables_among vars ns)) ≤ 64) (term_names u a.0 t a.1) fits.variables in
    let r = side_before vars es (in_left u) u a.0 t refl a.1 fits.sides fits.size few (left_spot u) in
    (record { variables = fewer_names (is_among vars) (names_in_front u) t 64 few; size = r.0.1; sides = r.0.0 }, r.1))
    (λ a. let fits : FitsFront vars (behind_sign a.0 a.1) = subst (FitsFront vars) (sym a.4) k in
    let is : whole a.0 ≡ u = sym (is_whole_is u a.0 a.2) in (
      subst (λ (v : TermFront). FitsFront vars (in_left v)) is (record { variables = fits.variables; size = fits.sides.size; sides = fits.sides.term }),
      other_tests vars (Some (in_equation es (in_left u))) t (λ q. none_some (ap sign_of (sym q) ∙ a.3)) (λ q. none_some (ap sign_of (sym q) ∙ a.3)) (λ c q. none_some (ap sign_of (sym q) ∙ a.3)),
    ))
    (left_next u t after h)
equation_before vars es (behind_sign l s) after (identifier c) h k =
    let fits : FitsFront vars (in_right l s (whole (alone c))) = subst (FitsFront vars) (sym (same_Some (in_right l s (whole (alone c))) after h)) k in (
      record { variables = fewer_names (is_among vars) (names_in l) (identifier c) 64 fits.variables; size = omega arith; sides = fits.sides.0 },
      record {
        applied = λ d u q. absurd (cc);
        size = λ d x q r. ap (λ (y : Spot). nat_eq (length y.side) 512) (sym (same_Some here x r));
        depth = λ d x q r. ap (λ (y : Spot). nat_eq y.parens 64) (sym (same_Some here x r));
        variables = λ d x q r. ap (λ (y : Spot). is_new d (variables_among vars y.equation) 64 && is_among vars d) (sym (same_Some here x r)) ∙ few_less (is_among vars) (names_in l) d 64 (subst (λ (y : Name). length (firsts (variables_among vars (names_in l ++ y ∷ []))) ≤ 64) (same_token c d q) fits.variables);
        arity = λ u q. absurd (cc);
      },
    )
  where
    here : Spot
    here = record { begins = false; side = []; equation = names_in l; parens = 0 }
equation_before vars es (behind_sign l s) after t h k = absurd (cc)
equation_before vars es (in_right l s u) after t h k =
    let a = some_of_map (in_right l s) (next_term u t) after h in
    let fits : FitsFront vars (in_right l s a.0) = subst (FitsFront vars) (sym a.2) k in
    let names : names_in l ++ names_in_front a.0 ≡ (names_in l ++ names_in_front u) ++ names_of_token t = ap (names_in l ++◌) (term_names u a.0 t a.1) ∙ sym (append_assoc (names_in l) (names_in_front u) (names_of_token t)) in
    let few : length (firsts (variables_among vars ((names_in l ++ names_in_front u) ++ names_of_token t))) ≤ 64 = subst (λ (ns : List Name). length (firsts (variables_among vars ns)) ≤ 64) names fits.variables in
    let r = side_before vars es (in_right l s u) u a.0 t refl a.1 fits.sides.1 fits.size few (right_spot l s u) in
    (record { variables = fewer_names (is_among vars) (names_in l ++ names_in_front u) t 64 few; size = r.0.1; sides = (fits.sides.0, r.0.0) }, r.1)

-- a whole equation
whole_before : (vars : List Name) (e : EquationFront) (w : WrittenEquation) → whole_equation e ≡ Some w → FitsEquation vars w → FitsFront vars e × (equation_spot e ≡ Some new_equation)
whole_before vars e w h k =
    let r = whole_is e w h in (
      subst (FitsFront vars) (sym r.is) (record {
        variables = subst (λ (t : Written). length (firsts (variables_among vars (names_in w.left ++ names_in t))) ≤ 64) (sym r.right) k.variables;
        size = subst (λ (t : Written). length (names_in t) ≤ 512) (sym r.right) k.right.size;
        sides = (k.left, subst (FitsTerm vars 0) (sym r.right) k.right.term);
      }),
      ap equation_spot r.is,
    )

-- ---- parts of the front before

record Parts (f : Front) (g : Front) (t : Token) : Type 0 where
  open_equation : FitsOpenEquation (front_variables g) f.open_section
  ordered : are_ordered f.sections ≡ true
  count : front_count f ≤ 256
  skipped : list_all is_short (skipped_names f.sections ++ skipped_open f.open_section) ≡ true
  tests : PassesTests (front_variables g) f.open_section t
  begins : (c : Name) (s : Spot) → t ≡ identifier c → spot_of f.open_section ≡ Some s → (s.begins && nat_eq (front_count f) 256) ≡ false
  short_word : (c : Name) → t ≡ identifier c → f.open_section ≡ Some begun → is_short c ≡ true
  word : f.open_section ≡ Some begun → t ≡ identifier (codes "VAR") → list_any is_rules f.sections ≡ false

less : (n : ℕ) → n + 1 ≤ 256 → nat_eq n 256 ≡ false
less n h = grind arith

-- no word of a section and no new equation
plain_parts : (ss : List Section) (o : Option SectionFront) (g : Front) (t : Token) → FitsOpenEquation (front_variables g) o → are_ordered ss ≡ true → front_count (record { sections = ss; open_section = o }) ≤ 256 → list_all is_short (skipped_names ss ++ skipped_open o) ≡ true
    → PassesTests (front_variables g) o t → (o ≡ Some begun → ⊥) → ((c : Name) (s : Spot) → t ≡ identifier c → spot_of o ≡ Some s → (s.begins && nat_eq (front_count (record { sections = ss; open_section = o })) 256) ≡ false) → Parts (record { sections = ss; open_section = o }) g t
plain_parts ss o g t a b c d e f h = record { open_equation = a; ordered = b; count = c; skipped = d; tests = e; begins = h; short_word = λ x k q. absurd (f q); word = λ q. absurd (f q) }

closed_skipped : (ss : List Section) (s : Section) (xs : List Name) → skipped_names (s ∷ []) ≡ xs → list_all is_short (skipped_names (ss ++ s ∷ []) ++ []) ≡ true → list_all is_short (skipped_names ss ++ xs) ≡ true
closed_skipped ss s xs e h = ap (list_all is_short) (sym (append-nil (skipped_names (ss ++ s ∷ [])) ∙ skipped-append ss (s ∷ []) ∙ ap (skipped_names ss ++◌) e)) ∙ h

-- a name by which an equation goes on begins none
not_begun : (e after : EquationFront) (c : Name) (s : Spot) → next_equation e (identifier c) ≡ Some after → equation_spot e ≡ Some s → s.begins ≡ false
not_begun (in_left u) after c s q v = by (awaits_term u) v
  where
    by : (b : Bool) → cond b (Some (record { begins = false; side = names_in_front u; equation = names_in_front u; parens = open_parens u })) None ≡ Some s → s.begins ≡ false
    by true v = ap (λ (y : Spot). y.begins) (sym (same_Some _ s v))
    by false v = absurd (none_some v)
not_begun (behind_sign l z) after c s q v = ap (λ (y : Spot). y.begins) (sym (same_Some _ s v))
not_begun (in_right l z u) after c s q v =
    let r = some_of_map (in_right l z) (next_term u (identifier c)) after q in
    by (awaits_term u) (awaits_if_name u r.0 c r.1) v
  where
    by : (b : Bool) → b ≡ true → Some (cond b (record { begins = false; side = names_in_front u; equation = names_in l ++ names_in_front u; parens = open_parens u }) new_equation) ≡ Some s → s.begins ≡ false
    by true e v = ap (λ (y : Spot). y.begins) (sym (same_Some _ s v))
    by false e v = absurd (cc)

parts : (ss : List Section) (o : Option SectionFront) (t : Token) (g : Front) → next_section ss o t ≡ Some g → Fits g → Parts (record { sections = ss; open_section = o }) g t
parts ss None left_paren g k h =
    let q : Fits (record { sections = ss; open_section = Some begun }) = subst Fits (sym (same_Some _ g k)) h in
    plain_parts ss None g left_paren tt q.ordered (omega (arith, q.count)) q.short_skipped (no_tests (front_variables g) None left_paren refl refl) (λ e. cc) (λ c s e. absurd (cc))
parts ss None t g k h = absurd (cc)
parts ss (Some begun) (identifier x) g k h = go (bytes_eq x (codes "VAR")) refl (bytes_eq x (codes "RULES")) refl (is_among reserved_names x) k
  where
    f : Front
    f = record { sections = ss; open_section = Some begun }

    tests : PassesTests (front_variables g) (Some begun) (identifier x)
    tests = no_tests (front_variables g) (Some begun) (identifier x) refl refl

    go : (a : Bool) → bytes_eq x (codes "VAR") ≡ a → (b : Bool) → bytes_eq x (codes "RULES") ≡ b → (d : Bool) → open_at ss (cond a (Some (in_variables [])) (cond b (Some in_rules) (cond d None (Some (in_skipped x []))))) ≡ Some g → Parts f g (identifier x)
    go true e b r d k =
        let q : Fits (record { sections = ss; open_section = Some (in_variables []) }) = subst Fits (sym (same_Some _ g k)) h in
        record { open_equation = tt; ordered = q.ordered; count = omega (arith, q.count); skipped = q.short_skipped; tests = tests; begins = λ c s u v. absurd (none_some v); short_word = λ c u v. ap is_short (sym (same_token x c u) ∙ same_bytes x (codes "VAR") e); word = λ u v. q.none_before refl }
    go false e true r d k =
        let q : Fits (record { sections = ss; open_section = Some in_rules }) = subst Fits (sym (same_Some _ g k)) h in
        record { open_equation = tt; ordered = q.ordered; count = omega (arith, q.count); skipped = q.short_skipped; tests = tests; begins = λ c s u v. absurd (none_some v); short_word = λ c u v. ap is_short (sym (same_token x c u) ∙ same_bytes x (codes "RULES") r); word = λ u v. absurd (not_word v) }
      where
        not_word : identifier x ≡ identifier (codes "VAR") → ⊥
        not_word v = let w : bytes_eq x (codes "VAR") ≡ true = ap (λ (y : Name). bytes_eq y (codes "VAR")) (same_token x (codes "VAR") v) in cc
    go false e false r true k = absurd (cc)
    go false e false r false k =
        let q : Fits (record { sections = ss; open_section = Some (in_skipped x []) }) = subst Fits (sym (same_Some _ g k)) h in
        record { open_equation = tt; ordered = q.ordered; count = omega (arith, q.count); skipped = ap (list_all is_short) (append-nil (skipped_names ss)) ∙ all_front is_short (skipped_names ss) (x ∷ []) q.short_skipped; tests = tests; begins = λ c s u v. absurd (none_some v); short_word = λ c u v. ap is_short (sym (same_token x c u)) ∙ (and_parts _ _ (all_behind is_short (skipped_names ss) (x ∷ []) q.short_skipped)).0; word = λ u v. absurd (not_word v) }
      where
        not_word : identifier x ≡ identifier (codes "VAR") → ⊥
        not_word v = let w : bytes_eq x (codes "VAR") ≡ true = ap (λ (y : Name). bytes_eq y (codes "VAR")) (same_token x (codes "VAR") v) in cc
parts ss (Some begun) t g k h = absurd (cc)
parts ss (Some (in_variables xs)) (identifier x) g k h =
    let q : Fits (record { sections = ss; open_section = Some (in_variables (xs ++ x ∷ [])) }) = subst Fits (sym (same_Some _ g k)) h in
    plain_parts ss (Some (in_variables xs)) g (identifier x) tt q.ordered (omega (arith, q.count)) q.short_skipped (no_tests (front_variables g) (Some (in_variables xs)) (identifier x) refl refl) (λ e. cc) (λ c s e u. absurd (none_some u))
parts ss (Some (in_variables xs)) right_paren g k h =
    let q : Fits (record { sections = ss ++ variables xs ∷ []; open_section = None }) = subst Fits (sym (same_Some _ g k)) h in
    let count = q.count in
    plain_parts ss (Some (in_variables xs)) g right_paren tt (ordered_front ss (variables xs) q.ordered) (let n = closed_count ss (variables xs) in omega (arith, count, n)) (closed_skipped ss (variables xs) [] refl q.short_skipped) (no_tests (front_variables g) (Some (in_variables xs)) right_paren refl refl) (λ e. cc) (λ c s e u. absurd (none_some u))
parts ss (Some (in_variables xs)) t g k h = absurd (cc)
parts ss (Some in_rules) (identifier x) g k h =
    let q : Fits (record { sections = ss; open_section = Some (in_equation [] (in_left (whole (alone x)))) }) = subst Fits (sym (same_Some _ g k)) h in
    let count = q.count in
    plain_parts ss (Some in_rules) g (identifier x) tt q.ordered (omega (arith, count)) q.short_skipped (new_tests (front_variables g) (Some in_rules) (identifier x) refl (λ e. cc) (λ e. cc)) (λ e. cc)
    (λ c s e u. ap (s.begins &&◌) (less (front_count (record { sections = ss; open_section = Some in_rules })) (omega (arith, count))) ∙ and-false s.begins)
parts ss (Some in_rules) right_paren g k h =
    let q : Fits (record { sections = ss ++ rules [] ∷ []; open_section = None }) = subst Fits (sym (same_Some _ g k)) h in
    let count = q.count in
    plain_parts ss (Some in_rules) g right_paren tt (ordered_front ss (rules []) q.ordered) (let n = closed_count ss (rules []) in omega (arith, count, n)) (closed_skipped ss (rules []) [] refl q.short_skipped) (new_tests (front_variables g) (Some in_rules) right_paren refl (λ e. cc) (λ e. cc)) (λ e. cc) (λ c s e. absurd (cc))
parts ss (Some in_rules) t g k h = absurd (cc)
parts ss (Some (in_equation es e)) t g k h = go t (whole_equation e) refl (next_equation e t) refl k
  where
    f : Front
    f = record { sections = ss; open_section = Some (in_equation es e) }

    ended : (w : WrittenEquation) → whole_equation e ≡ Some w → FitsEquation (front_variables g) w → FitsFront (front_variables g) e × (equation_spot e ≡ Some new_equation)
    ended w p a = whole_before (front_variables g) e w p a

    go : (t : Token) (w : Option WrittenEquation) → whole_equation e ≡ w → (m : Option EquationFront) → next_equation e t ≡ m → next_rules ss es e t w m ≡ Some g → Parts f g t
    go t w p (Some after) q k =
        let same = same_Some (record { sections = ss; open_section = Some (in_equation es after) }) g k in
        let x : Fits (record { sections = ss; open_section = Some (in_equation es after) }) = subst Fits (sym same) h in
        let r = equation_before (front_variables g) es e after t q (subst (λ (o : Option SectionFront). FitsOpenEquation (front_variables g) o) (sym (ap (λ (y : Front). y.open_section) same)) h.open_equation) in
        plain_parts ss (Some (in_equation es e)) g t r.0 x.ordered (omega (arith, x.count)) x.short_skipped r.1 (λ u. cc) (λ c s u v. ap (λ (b : Bool). b && nat_eq (front_count f) 256) (not_begun e after c s (ap (next_equation e) (sym u) ∙ q) v))
    go (identifier c) (Some w) p None q k =
        let same = same_Some (record { sections = ss; open_section = Some (in_equation (es ++ w ∷ []) (in_left (whole (alone c)))) }) g k in
        let x : Fits (record { sections = ss; open_section = Some (in_equation (es ++ w ∷ []) (in_left (whole (alone c)))) }) = subst Fits (sym same) h in
        let each : AllByRecursion (FitsEquation (front_variables g)) (equations_of ss ++ (es ++ w ∷ [])) = subst (λ (y : Front). AllByRecursion (FitsEquation (front_variables g)) (equations_of y.sections ++ open_equations y.open_section)) (sym same) h.equations in
        let own = (each_front (FitsEquation (front_variables g)) es (w ∷ []) (each_front (FitsEquation (front_variables g)) (equations_of ss) (es ++ w ∷ []) each).1).1.0 in
        let r = ended w p own in
        let count = x.count in
        let fewer : front_count f + 1 ≤ 256 = omega (arith, count, length-append es (w ∷ [])) in
        plain_parts ss (Some (in_equation es e)) g (identifier c) r.0 x.ordered (omega (arith, fewer)) x.short_skipped (new_tests (front_variables g) (Some (in_equation es e)) (identifier c) r.1 (λ u. cc) (λ u. cc)) (λ u. cc) (λ d s u v. ap (s.begins &&◌) (less (front_count f) fewer) ∙ and-false s.begins)
    go right_paren (Some w) p None q k =
        let same = same_Some (record { sections = ss ++ rules (es ++ w ∷ []) ∷ []; open_section = None }) g k in
        let x : Fits (record { sections = ss ++ rules (es ++ w ∷ []) ∷ []; open_section = None }) = subst Fits (sym same) h in
        let m = section_moves ss (Some (in_equation es e)) right_paren g (ap (λ (o : Option EquationFront). next_rules ss es e right_paren (whole_equation e) o) q ∙ ap (λ (o : Option WrittenEquation). next_rules ss es e right_paren o None) p ∙ k) in
        let each : AllByRecursion (FitsEquation (front_variables g)) ((equations_of ss ++ es) ++ equation_ended (whole_equation e) right_paren) = subst (AllByRecursion (FitsEquation (front_variables g))) m.equations h.equations in
        let own = (each_front (FitsEquation (front_variables g)) (equations_of ss ++ es) (w ∷ []) (subst (λ (o : Option WrittenEquation). AllByRecursion (FitsEquation (front_variables g)) ((equations_of ss ++ es) ++ equation_ended o right_paren)) p each)).1.0 in
        let r = ended w p own in
        let count = x.count in
        plain_parts ss (Some (in_equation es e)) g right_paren r.0 (ordered_front ss (rules (es ++ w ∷ [])) x.ordered) (let n = closed_count ss (rules (es ++ w ∷ [])) in omega (arith, count, n, length-append es (w ∷ []), length-append (es ++ w ∷ []) [])) (closed_skipped ss (rules (es ++ w ∷ [])) [] refl x.short_skipped)
        (other_tests (front_variables g) (Some (in_equation es e)) right_paren (λ u. cc) (λ u. cc) (λ c u. cc)) (λ u. cc) (λ c s u. absurd (cc))
    go t w p None q k = absurd (cc)
parts ss (Some (in_skipped x ts)) t g k h = go t (open_after 0 ts) k
  where
    f : Front
    f = record { sections = ss; open_section = Some (in_skipped x ts) }

    go : (t : Token) (m : Option ℕ) → next_skipped ss x ts t m ≡ Some g → Parts f g t
    go right_paren (Some zero) k =
        let q : Fits (record { sections = ss ++ skipped x ts ∷ []; open_section = None }) = subst Fits (sym (same_Some _ g k)) h in
        let count = q.count in
        plain_parts ss (Some (in_skipped x ts)) g right_paren tt (ordered_front ss (skipped x ts) q.ordered) (let n = closed_count ss (skipped x ts) in omega (arith, count, n)) (closed_skipped ss (skipped x ts) (x ∷ []) refl q.short_skipped) (no_tests (front_variables g) (Some (in_skipped x ts)) right_paren refl refl) (λ e. cc) (λ c s e. absurd (cc))
    go end_of_input m k = absurd (cc)
    go t m k =
        let q : Fits (record { sections = ss; open_section = Some (in_skipped x (ts ++ t ∷ [])) }) = subst Fits (sym (same_Some _ g k)) h in
        plain_parts ss (Some (in_skipped x ts)) g t tt q.ordered (omega (arith, q.count)) q.short_skipped (no_tests (front_variables g) (Some (in_skipped x ts)) t refl refl) (λ e. cc) (λ c s e u. absurd (none_some u))

-- ---- the front before

-- a token that may be a name adds no more than it
fewer_at : (p : Name → Bool) (names : List Name) (s : Option Spot) (t : Token) (n : ℕ) → length (firsts (filter p (names ++ names_at s t))) ≤ n → length (firsts (filter p names)) ≤ n
fewer_at p names None t n h = subst (λ (ns : List Name). length (firsts (filter p ns)) ≤ n) (append-nil names) h
fewer_at p names (Some s) t n h = fewer_names p names t n h

closing_quiet : (uses : List (Name × ℕ)) (u : TermFront) → agree (uses ++ ended_in u right_paren) ≡ true → closing_clash_of (uses ++ ended_alone (last_alone u)) (ends_next u) ≡ None
closing_quiet uses u h = go (ends_next u) (ap agree (append_assoc uses (ended_alone (last_alone u)) (ended_use (ends_next u) right_paren)) ∙ h)
  where
    go : (a : Option (Name × ℕ × ℕ)) → agree ((uses ++ ended_alone (last_alone u)) ++ ended_use a right_paren) ≡ true → closing_clash_of (uses ++ ended_alone (last_alone u)) a ≡ None
    go None h = refl
    go (Some a) h = ap (λ (b : Bool). back b a.2) (agree_last (uses ++ ended_alone (last_alone u)) a.0 a.1 [] h)

alone_quiet : (uses : List (Name × ℕ)) (u : TermFront) (t : Token) → is_token t left_paren ≡ false → agree (uses ++ ended_in u t) ≡ true → is_some_and (last_alone u) (λ c. has_other_arity uses c 0) ≡ false
alone_quiet uses u t e h = go (last_alone u) (ap (λ (b : Bool). agree (uses ++ (cond b [] (ended_alone (last_alone u)) ++ ended_use (ends_next u) t))) (sym e) ∙ h)
  where
    go : (o : Option Name) → agree (uses ++ (ended_alone o ++ ended_use (ends_next u) t)) ≡ true → is_some_and o (λ c. has_other_arity uses c 0) ≡ false
    go None h = refl
    go (Some c) h = agree_last uses c 0 (ended_use (ends_next u) t) h

uses_at : (uses : List (Name × ℕ)) (o : Option SectionFront) (t : Token) (u : TermFront) → side_of o ≡ Some u → agree (uses ++ new_uses o t) ≡ true → agree (uses ++ ended_in u t) ≡ true
uses_at uses o t u e h = ap (λ (x : Option TermFront). agree (uses ++ ended_at x t)) (sym e) ∙ h

-- what holds in each case
quiet : (f g : Front) (t : Token) → Move f.sections f.open_section t g → Fits g → Parts f g t → front_variables g ≡ front_variables f ⊎ ((spot_of f.open_section ≡ None) × (side_of f.open_section ≡ None)) → Unshown f t
quiet f g t m h p same = record {
  name = λ c k w. ⊎_elim (λ b. p.short_word c k b) (λ x. ⊎_elim (at_spot c k) (declared c k) x) w;
  word = λ a b. p.word a b;
  double = λ c k v. doubled c k v;
  applied = λ c u k e a. ⊎_elim (λ s. ap (λ (vs : List Name). is_among vs c) (sym s) ∙ p.tests.applied c u k e a) (λ n. absurd (none_some (sym n.1 ∙ e))) same;
  closing = λ u k e. closing_quiet (front_uses f) u (uses_at (front_uses f) f.open_section right_paren u e (subst (λ (x : Token). agree (front_uses f ++ new_uses f.open_section x) ≡ true) k agrees));
  lone = λ u k e. alone_quiet (front_uses f) u t k (uses_at (front_uses f) f.open_section t u e agrees);
  count = p.begins;
  size = p.tests.size;
  depth = p.tests.depth;
  symbols = λ c s k e. ⊎_elim (λ v. few_less (λ x. not (is_among (front_variables f) x)) (front_names f) c 24 (symbols c s k e v)) (λ n. absurd (none_some (sym n.0 ∙ e))) same;
  variables = λ c s k e. ⊎_elim (λ v. subst (λ (vs : List Name). (is_new c (variables_among vs s.equation) 64 && is_among vs c) ≡ false) v (p.tests.variables c s k e)) (λ n. absurd (none_some (sym n.0 ∙ e))) same;
  arity = p.tests.arity;
}
  where
    agrees : agree (front_uses f ++ new_uses f.open_section t) ≡ true
    agrees = ap agree (sym m.uses) ∙ h.agrees

    names_short : list_all is_short (front_names f ++ new_names f.open_section t) ≡ true
    names_short = ap (list_all is_short) (sym m.names) ∙ h.short_names

    variables_short : list_all is_short (front_variables f ++ new_variables f.open_section t) ≡ true
    variables_short = ap (list_all is_short) (sym m.variables) ∙ h.short_variables

    at_spot : (c : Name) → t ≡ identifier c → is_some (spot_of f.open_section) ≡ true → is_short c ≡ true
    at_spot c k e = go (spot_of f.open_section) e (subst (λ (x : Token). list_all is_short (new_names f.open_section x) ≡ true) k (all_behind is_short (front_names f) (new_names f.open_section t) names_short))
      where
        go : (s : Option Spot) → is_some s ≡ true → list_all is_short (names_at s (identifier c)) ≡ true → is_short c ≡ true
        go None e q = absurd (cc)
        go (Some s) e q = (and_parts _ _ q).0

    declared : (c : Name) → t ≡ identifier c → is_in_variables f.open_section ≡ true → is_short c ≡ true
    declared c k e = go f.open_section e (subst (λ (x : Token). list_all is_short (new_variables f.open_section x) ≡ true) k (all_behind is_short (front_variables f) (new_variables f.open_section t) variables_short))
      where
        go : (o : Option SectionFront) → is_in_variables o ≡ true → list_all is_short (new_variables o (identifier c)) ≡ true → is_short c ≡ true
        go (Some (in_variables xs)) e q = (and_parts _ _ q).0
        go o e q = absurd (cc)

    doubled : (c : Name) → t ≡ identifier c → is_in_variables f.open_section ≡ true → is_among (front_variables f) c ≡ false
    doubled c k e = go f.open_section e (subst (λ (x : Token). are_distinct (front_variables f ++ new_variables f.open_section x) ≡ true) k (ap are_distinct (sym m.variables) ∙ h.distinct))
      where
        go : (o : Option SectionFront) → is_in_variables o ≡ true → are_distinct (front_variables f ++ new_variables o (identifier c)) ≡ true → is_among (front_variables f) c ≡ false
        go (Some (in_variables xs)) e q = distinct_last (front_variables f) c q
        go o e q = absurd (cc)

    symbols : (c : Name) (s : Spot) → t ≡ identifier c → spot_of f.open_section ≡ Some s → front_variables g ≡ front_variables f → length (firsts (symbols_among (front_variables f) (front_names f ++ c ∷ []))) ≤ 24
    symbols c s k e v = subst (λ (vs : List Name). length (firsts (symbols_among vs (front_names f ++ c ∷ []))) ≤ 24) v (subst (λ (ns : List Name). length (firsts (symbols_among (front_variables g) ns)) ≤ 24) (m.names ∙ ap (front_names f ++◌) ((λ i. names_at (e i) (k i)))) h.symbols)

-- the variables stay
same_variables : (f g : Front) (t : Token) → new_variables f.open_section t ≡ [] → is_in_variables f.open_section ≡ false → Move f.sections f.open_section t g → Fits g → Parts f g t → Fits f × Unshown f t
same_variables f g t stay out m h p = (
  record {
    short_variables = ap (list_all is_short) (sym same) ∙ h.short_variables;
    short_names = all_front is_short (front_names f) (new_names f.open_section t) (ap (list_all is_short) (sym m.names) ∙ h.short_names);
    short_skipped = p.skipped;
    distinct = ap are_distinct (sym same) ∙ h.distinct;
    agrees = agree_front (front_uses f) (new_uses f.open_section t) (ap agree (sym m.uses) ∙ h.agrees);
    count = p.count;
    symbols = subst (λ (vs : List Name). length (firsts (symbols_among vs (front_names f))) ≤ 24) same (fewer_at (λ x. not (is_among (front_variables g) x)) (front_names f) (spot_of f.open_section) t 24 (subst (λ (ns : List Name). length (firsts (symbols_among (front_variables g) ns)) ≤ 24) m.names h.symbols));
    equations = subst (λ (vs : List Name). AllByRecursion (FitsEquation vs) (equations_of f.sections ++ open_equations f.open_section)) same (each_front (FitsEquation (front_variables g)) (equations_of f.sections ++ open_equations f.open_section) (new_equations f.open_section t) (subst (AllByRecursion (FitsEquation (front_variables g))) m.equations h.equations)).0;
    open_equation = subst (λ (vs : List Name). FitsOpenEquation vs f.open_section) same p.open_equation;
    ordered = p.ordered;
    none_before = λ e. absurd (true_false e out);
  },
  quiet f g t m h p (inl same),
)
  where
    same : front_variables g ≡ front_variables f
    same = m.variables ∙ ap (front_variables f ++◌) stay ∙ append-nil (front_variables f)

    true_false : {b : Bool} → b ≡ true → b ≡ false → ⊥
    true_false p q = cc

-- in a section of variables, before which no rules stand
in_declarations : (ss : List Section) (xs : List Name) (t : Token) (g : Front) → list_any is_rules ss ≡ false → Move ss (Some (in_variables xs)) t g → Fits g → Parts (record { sections = ss; open_section = Some (in_variables xs) }) g t → Fits (record { sections = ss; open_section = Some (in_variables xs) }) × Unshown (record { sections = ss; open_section = Some (in_variables xs) }) t
in_declarations ss xs t g before m h p = (
  record {
    short_variables = all_front is_short (variables_of ss ++ xs) (new_variables (Some (in_variables xs)) t) (ap (list_all is_short) (sym m.variables) ∙ h.short_variables);
    short_names = ap (λ (es : List WrittenEquation). list_all is_short (all_names es ++ [])) none;
    short_skipped = p.skipped;
    distinct = distinct_front (variables_of ss ++ xs) (new_variables (Some (in_variables xs)) t) (ap are_distinct (sym m.variables) ∙ h.distinct);
    agrees = ap (λ (es : List WrittenEquation). agree (all_uses es ++ [])) none;
    count = p.count;
    symbols = subst (λ (es : List WrittenEquation). length (firsts (symbols_among (variables_of ss ++ xs) (all_names es ++ []))) ≤ 24) (sym none) (omega arith);
    equations = subst (λ (es : List WrittenEquation). AllByRecursion (FitsEquation (variables_of ss ++ xs)) (es ++ [])) (sym none) tt;
    open_equation = tt;
    ordered = p.ordered;
    none_before = λ e. before;
  },
  quiet (record { sections = ss; open_section = Some (in_variables xs) }) g t m h p (inr (refl, refl)),
)
  where
    none : equations_of ss ≡ []
    none = no-equations ss before

none_before_next : (ss : List Section) (xs : List Name) (t : Token) (g : Front) → next_section ss (Some (in_variables xs)) t ≡ Some g → Fits g → list_any is_rules ss ≡ false
none_before_next ss xs (identifier x) g k h = let q : Fits (record { sections = ss; open_section = Some (in_variables (xs ++ x ∷ [])) }) = subst Fits (sym (same_Some _ g k)) h in q.none_before refl
none_before_next ss xs right_paren g k h = let q : Fits (record { sections = ss ++ variables xs ∷ []; open_section = None }) = subst Fits (sym (same_Some _ g k)) h in none_before_variables ss xs q.ordered
none_before_next ss xs t g k h = absurd (cc)

-- the front before fits, and the token shows nothing behind it
pub fits_before : (f g : Front) (t : Token) → next_front f t ≡ Some g → Fits g → Fits f × Unshown f t
fits_before f g t k h = go f.sections f.open_section k
  where
    go : (ss : List Section) (o : Option SectionFront) → next_section ss o t ≡ Some g → Fits (record { sections = ss; open_section = o }) × Unshown (record { sections = ss; open_section = o }) t
    go ss (Some (in_variables xs)) k = in_declarations ss xs t g (none_before_next ss xs t g k h) (section_moves ss (Some (in_variables xs)) t g k) h (parts ss (Some (in_variables xs)) t g k h)
    go ss None k = same_variables (record { sections = ss; open_section = None }) g t refl refl (section_moves ss None t g k) h (parts ss None t g k h)
    go ss (Some begun) k = same_variables (record { sections = ss; open_section = Some begun }) g t refl refl (section_moves ss (Some begun) t g k) h (parts ss (Some begun) t g k h)
    go ss (Some in_rules) k = same_variables (record { sections = ss; open_section = Some in_rules }) g t refl refl (section_moves ss (Some in_rules) t g k) h (parts ss (Some in_rules) t g k h)
    go ss (Some (in_equation es e)) k = same_variables (record { sections = ss; open_section = Some (in_equation es e) }) g t refl refl (section_moves ss (Some (in_equation es e)) t g k) h (parts ss (Some (in_equation es e)) t g k h)
    go ss (Some (in_skipped x ts)) k = same_variables (record { sections = ss; open_section = Some (in_skipped x ts) }) g t refl refl (section_moves ss (Some (in_skipped x ts)) t g k) h (parts ss (Some (in_skipped x ts)) t g k h)
