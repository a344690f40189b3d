-- What one more token adds to a front.
use Rattle.std.proofs.Common.{append-nil, append_assoc, ◌≡◌, ◌⊎◌, inl, inr, ⊎_elim, refl, ap, sym, ◌∙◌, subst, ℕ, zero, List, [], ◌∷◌, ◌++◌, Option, Some, None, Bool, true, false, cond, ◌||◌}
use Rattle.std.specs.Prelude.{option_map, option_and_then, codes, bytes_eq, is_some}
use Rattle.std.specs.List.{list_any}
use Rattle.std.proofs.lemmas.Option.{same_Some}
use Rattle.std.proofs.lemmas.List.Folds.{list_any-append}
use Rattle.kb_lemmas.proofs.Booleans.{or_nothing}
use Rattle.kb_lemmas.proofs.Options.{some_of_map}
use Rattle.kb_text.specs.Names.{Name, is_among}
use Rattle.kb_text.specs.Tokens.{Token, arrow, equals, left_paren, right_paren, identifier, end_of_input}
use Rattle.kb_text.specs.Grammar.{Written, alone, applied, Sign, WrittenEquation, Section, variables, rules, skipped, open_after, reserved_names}
use Rattle.kb_text.specs.Fronts.{TermFront, whole, opened, within, EquationFront, in_left, behind_sign, in_right, SectionFront, begun, in_variables, in_rules, in_equation, in_skipped, Front}
use Rattle.kb_text.specs.Problems.{names_in, uses_in, variables_of, equations_of, all_names, all_uses, is_rules}
use Rattle.kb_text.specs.Refusals.{names_in_front, uses_in_front, Spot, awaits_term, last_alone, ended_alone, equation_names, equation_uses, equation_spot, open_variables, open_names, open_uses, front_variables, front_names, front_uses}
use Rattle.kb_text.specs.Machine.{next_term, next_equation, whole_equation, is_whole, sign_of, or_try, next_rules, next_skipped, next_section, section_named, open_at}
use Rattle.kb_syntax.specs.Moves.{names_of_token, new_variables, names_at, new_names, ended_in, new_uses, open_equations, equation_ended, new_equations, closes_rules}
use Rattle.kb_syntax.proofs.MoveTerms.{term_names, term_uses, uses-ended}

-- ---- lists of sections and of equations

pub variables-append : (ss us : List Section) → variables_of (ss ++ us) ≡ variables_of ss ++ variables_of us
variables-append [] us = refl
variables-append (variables xs ∷ ss) us = ap (xs ++◌) (variables-append ss us) ∙ sym (append_assoc xs (variables_of ss) (variables_of us))
variables-append (rules es ∷ ss) us = variables-append ss us
variables-append (skipped x ts ∷ ss) us = variables-append ss us

pub equations-append : (ss us : List Section) → equations_of (ss ++ us) ≡ equations_of ss ++ equations_of us
equations-append [] us = refl
equations-append (variables xs ∷ ss) us = equations-append ss us
equations-append (rules es ∷ ss) us = ap (es ++◌) (equations-append ss us) ∙ sym (append_assoc es (equations_of ss) (equations_of us))
equations-append (skipped x ts ∷ ss) us = equations-append ss us

pub names-append : (es fs : List WrittenEquation) → all_names (es ++ fs) ≡ all_names es ++ all_names fs
names-append [] fs = refl
names-append (e ∷ es) fs =
    ap (λ (ns : List Name). names_in e.left ++ (names_in e.right ++ ns)) (names-append es fs)
    ∙ ap (names_in e.left ++◌) (sym (append_assoc (names_in e.right) (all_names es) (all_names fs)))
    ∙ sym (append_assoc (names_in e.left) (names_in e.right ++ all_names es) (all_names fs))

pub uses-append : (es fs : List WrittenEquation) → all_uses (es ++ fs) ≡ all_uses es ++ all_uses fs
uses-append [] fs = refl
uses-append (e ∷ es) fs =
    ap (λ (ns : List (Name × ℕ)). uses_in e.left ++ (uses_in e.right ++ ns)) (uses-append es fs)
    ∙ ap (uses_in e.left ++◌) (sym (append_assoc (uses_in e.right) (all_uses es) (all_uses fs)))
    ∙ sym (append_assoc (uses_in e.left) (uses_in e.right ++ all_uses es) (all_uses fs))

-- ---- equations

pub awaits_if_name : (u v : TermFront) (c : Name) → next_term u (identifier c) ≡ Some v → awaits_term u ≡ true
awaits_if_name (whole (alone d)) v c h = absurd (cc)
awaits_if_name (whole (applied f ts)) v c h = absurd (cc)
awaits_if_name (opened f ts) v c h = refl
awaits_if_name (within f ts (whole (alone d))) v c h = absurd (cc)
awaits_if_name (within f ts (whole (applied g us))) v c h = absurd (cc)
awaits_if_name (within f ts (opened g us)) v c h = refl
awaits_if_name (within f ts (within g us u)) v c h = let r = some_of_map (within f ts) (next_term (within g us u) (identifier c)) v h in awaits_if_name (within g us u) r.0 c r.1

pub is_whole_is : (u : TermFront) (w : Written) → is_whole u ≡ Some w → u ≡ whole w
is_whole_is (whole t) w h = ap whole (same_Some t w h)
is_whole_is (opened f ts) w h = absurd (cc)
is_whole_is (within f ts u) w h = absurd (cc)

pub record EquationMove (e : EquationFront) (t : Token) (g : EquationFront) : Type 0 where
  pub names : equation_names g ≡ equation_names e ++ names_at (equation_spot e) t
  pub uses : equation_uses g ≡ equation_uses e ++ new_uses (Some (in_equation [] e)) t

abbrev IsNotName : Token → Type 0
IsNotName (identifier c) = ⊥
IsNotName t = Unit {0}

not_named : (t : Token) → IsNotName t → (s : Option Spot) → names_at s t ≡ names_of_token t
not_named (identifier c) h s = absurd h
not_named t h None = refl
not_named t h (Some s) = refl

cond_named : (b : Bool) (s : Spot) (c : Name) → b ≡ true → names_at (cond b (Some s) None) (identifier c) ≡ c ∷ []
cond_named true s c h = refl
cond_named false s c h = absurd (cc)

pub spot_left : (u : TermFront) (t : Token) (v : TermFront) → next_term u t ≡ Some v → names_at (equation_spot (in_left u)) t ≡ names_of_token t
spot_left u (identifier c) v h = cond_named (awaits_term u) _ c (awaits_if_name u v c h)
spot_left u t v h = not_named t tt (equation_spot (in_left u))

pub left_next : (u : TermFront) (t : Token) (g : EquationFront) → next_equation (in_left u) t ≡ Some g
    → ((v : TermFront) × (next_term u t ≡ Some v) × (in_left v ≡ g)) ⊎ ((w : Written) × (s : Sign) × (is_whole u ≡ Some w) × (sign_of t ≡ Some s) × (behind_sign w s ≡ g))
left_next u t g h = go (next_term u t) refl (is_whole u) refl (sign_of t) refl h
  where
    go : (a : Option TermFront) → next_term u t ≡ a → (b : Option Written) → is_whole u ≡ b → (d : Option Sign) → sign_of t ≡ d
        → or_try (option_map in_left a) (option_and_then (λ w. option_map (behind_sign w) d) b) ≡ Some g
        → ((v : TermFront) × (next_term u t ≡ Some v) × (in_left v ≡ g)) ⊎ ((w : Written) × (s : Sign) × (is_whole u ≡ Some w) × (sign_of t ≡ Some s) × (behind_sign w s ≡ g))
    go (Some v) p b q d r h = inl (v, p, same_Some (in_left v) g h)
    go None p None q d r h = absurd (cc)
    go None p (Some w) q None r h = absurd (cc)
    go None p (Some w) q (Some s) r h = inr (w, s, q, r, same_Some (behind_sign w s) g h)

-- a sign ends an identifier alone and nothing else
sign_ends : (t : Token) (s : Sign) (w : Written) → sign_of t ≡ Some s → ended_in (whole w) t ≡ ended_alone (last_alone (whole w))
sign_ends arrow s w h = append-nil _
sign_ends equals s w h = append-nil _
sign_ends t s w h = absurd (cc)

sign_named : (t : Token) (s : Sign) (o : Option Spot) → sign_of t ≡ Some s → names_at o t ≡ []
sign_named arrow s None h = refl
sign_named arrow s (Some o) h = refl
sign_named equals s None h = refl
sign_named equals s (Some o) h = refl
sign_named t s o h = absurd (cc)

pub equation_moves : (e g : EquationFront) (t : Token) → next_equation e t ≡ Some g → EquationMove e t g
equation_moves (in_left u) g t h = ⊎_elim
    (λ a. subst (EquationMove (in_left u) t) a.2 (record {
      names = term_names u a.0 t a.1 ∙ ap (names_in_front u ++◌) (sym (spot_left u t a.0 a.1));
      uses = term_uses u a.0 t a.1;
    }))
    (λ a. subst (EquationMove (in_left u) t) a.4 (record {
      names = sym (ap (names_in_front u ++◌) (sign_named t a.1 (equation_spot (in_left u)) a.3) ∙ append-nil _ ∙ ap names_in_front (is_whole_is u a.0 a.2));
      uses = uses-ended a.0 ∙ sym ((λ i. uses_in_front (is_whole_is u a.0 a.2 i) ++ ended_in (is_whole_is u a.0 a.2 i) t) ∙ ap (uses_in_front (whole a.0) ++◌) (sign_ends t a.1 a.0 a.3));
    }))
    (left_next u t g h)
equation_moves (behind_sign l s) g (identifier c) h = subst (EquationMove (behind_sign l s) (identifier c)) (same_Some (in_right l s (whole (alone c))) g h) (record { names = refl; uses = refl })
equation_moves (behind_sign l s) g t h = absurd (cc)
equation_moves (in_right l s u) g t h =
    let r = some_of_map (in_right l s) (next_term u t) g h in
    subst (EquationMove (in_right l s u) t) r.2 (record {
      names = ap (names_in l ++◌) (term_names u r.0 t r.1) ∙ sym (append_assoc (names_in l) (names_in_front u) (names_of_token t));
      uses = ap (uses_in l ++◌) (term_uses u r.0 t r.1) ∙ sym (append_assoc (uses_in l) (uses_in_front u) (ended_in u t));
    })

-- a whole equation, behind which a token stands that ends it
abbrev EndsEquation : Token → Type 0
EndsEquation (identifier c) = Unit {0}
EndsEquation right_paren = Unit {0}
EndsEquation t = ⊥

pub record WholeEquation (e : EquationFront) (w : WrittenEquation) : Type 0 where
  pub side : Written
  pub is : e ≡ in_right w.left w.sign (whole side)
  pub right : side ≡ w.right

pub whole_is : (e : EquationFront) (w : WrittenEquation) → whole_equation e ≡ Some w → WholeEquation e w
whole_is (in_left u) w h = absurd (cc)
whole_is (behind_sign l s) w h = absurd (cc)
whole_is (in_right l s u) w h =
    let r = some_of_map (λ (x : Written). record { left = l; sign = s; right = x }) (is_whole u) w h in
    record {
      side = r.0;
      is = ap (in_right l s) (is_whole_is u r.0 r.1) ∙ (λ i. in_right ((r.2 i).left) ((r.2 i).sign) (whole r.0));
      right = ap (λ (x : WrittenEquation). x.right) r.2;
    }

pub whole_names : (e : EquationFront) (w : WrittenEquation) → whole_equation e ≡ Some w → equation_names e ≡ all_names (w ∷ [])
whole_names e w h =
    let r = whole_is e w h in
    ap equation_names r.is ∙ (λ i. names_in w.left ++ names_in (r.right i)) ∙ ap (names_in w.left ++◌) (sym (append-nil (names_in w.right)))

whole_uses : (e : EquationFront) (w : WrittenEquation) (t : Token) → EndsEquation t → whole_equation e ≡ Some w → equation_uses e ++ new_uses (Some (in_equation [] e)) t ≡ all_uses (w ∷ [])
whole_uses e w t k h =
    let r = whole_is e w h in
    (λ i. equation_uses (r.is i) ++ new_uses (Some (in_equation [] (r.is i))) t)
    ∙ ap ((uses_in w.left ++ uses_in_front (whole r.side)) ++◌) (ends t k r.side)
    ∙ append_assoc (uses_in w.left) (uses_in_front (whole r.side)) (ended_alone (last_alone (whole r.side)))
    ∙ ap (uses_in w.left ++◌) (sym (uses-ended r.side) ∙ ap uses_in r.right ∙ sym (append-nil (uses_in w.right)))
  where
    ends : (t : Token) → EndsEquation t → (x : Written) → ended_in (whole x) t ≡ ended_alone (last_alone (whole x))
    ends (identifier c) k x = append-nil _
    ends right_paren k x = append-nil _
    ends t k x = absurd k

-- ---- sections

pub record Move (ss : List Section) (o : Option SectionFront) (t : Token) (g : Front) : Type 0 where
  pub variables : front_variables g ≡ (variables_of ss ++ open_variables o) ++ new_variables o t
  pub equations : equations_of g.sections ++ open_equations g.open_section ≡ (equations_of ss ++ open_equations o) ++ new_equations o t
  pub rules : list_any is_rules g.sections ≡ (list_any is_rules ss || closes_rules o t)
  pub names : front_names g ≡ (all_names (equations_of ss) ++ open_names o) ++ new_names o t
  pub uses : front_uses g ≡ (all_uses (equations_of ss) ++ open_uses o) ++ new_uses o t

-- nothing is added
still : {X : Type 0} (xs : List X) → xs ++ [] ≡ (xs ++ []) ++ []
still xs = sym (append-nil (xs ++ []))

or_true : (b : Bool) → true ≡ (b || true)
or_true true = refl
or_true false = refl

one_more : {X : Type 0} (xs ys zs : List X) → xs ++ (ys ++ zs) ≡ (xs ++ ys) ++ zs
one_more xs ys zs = sym (append_assoc xs ys zs)

-- a section closes that adds these
closed : {X : Type 0} {all parts : List X} → all ≡ parts → all ++ [] ≡ parts ++ []
closed {X} h = ap (λ (zs : List X). zs ++ []) h

begun_moves : (ss : List Section) (x : Name) (s : SectionFront) (g : Front) → section_named x ≡ Some s → open_at ss (Some s) ≡ Some g → Move ss (Some begun) (identifier x) g
begun_moves ss x s g h k = go (bytes_eq x (codes "VAR")) (bytes_eq x (codes "RULES")) (is_among reserved_names x) h
  where
    Fresh : SectionFront → Type 0
    Fresh s = Move ss (Some begun) (identifier x) (record { sections = ss; open_section = Some s })

    move : Fresh s → Move ss (Some begun) (identifier x) g
    move m = subst (Move ss (Some begun) (identifier x)) (same_Some (record { sections = ss; open_section = Some s }) g k) m

    go : (a b d : Bool) → cond a (Some (in_variables [])) (cond b (Some in_rules) (cond d None (Some (in_skipped x [])))) ≡ Some s → Move ss (Some begun) (identifier x) g
    go true b d h = move (subst Fresh (same_Some (in_variables []) s h) (record { variables = still _; equations = still _; rules = or_nothing _; names = still _; uses = still _ }))
    go false true d h = move (subst Fresh (same_Some in_rules s h) (record { variables = still _; equations = still _; rules = or_nothing _; names = still _; uses = still _ }))
    go false false true h = absurd (cc)
    go false false false h = move (subst Fresh (same_Some (in_skipped x []) s h) (record { variables = still _; equations = still _; rules = or_nothing _; names = still _; uses = still _ }))

skipped_moves : (ss : List Section) (x : Name) (ts : List Token) (t : Token) (n : Option ℕ) (g : Front) → next_skipped ss x ts t n ≡ Some g → Move ss (Some (in_skipped x ts)) t g
skipped_moves ss x ts right_paren (Some zero) g h = subst (Move ss (Some (in_skipped x ts)) right_paren) (same_Some (record { sections = ss ++ skipped x ts ∷ []; open_section = None }) g h) (record {
  variables = closed (variables-append ss _);
  equations = closed (equations-append ss _);
  rules = list_any-append is_rules ss _;
  names = closed (ap all_names (equations-append ss _) ∙ names-append (equations_of ss) []);
  uses = closed (ap all_uses (equations-append ss _) ∙ uses-append (equations_of ss) []);
})
skipped_moves ss x ts end_of_input n g h = absurd (cc)
skipped_moves ss x ts t n g h = subst (Move ss (Some (in_skipped x ts)) t) (same_Some (record { sections = ss; open_section = Some (in_skipped x (ts ++ t ∷ [])) }) g h) (record { variables = still _; equations = still _; rules = or_nothing _; names = still _; uses = still _ })

-- an equation that goes on
goes_on : (ss : List Section) (es : List WrittenEquation) (e after : EquationFront) (t : Token) → closes_rules (Some (in_equation es e)) t ≡ false → new_equations (Some (in_equation es e)) t ≡ [] → EquationMove e t after
    → Move ss (Some (in_equation es e)) t (record { sections = ss; open_section = Some (in_equation es after) })
goes_on ss es e after t h k m = record {
  variables = still _;
  equations = sym (ap ((equations_of ss ++ es) ++◌) k ∙ append-nil _);
  rules = or_nothing _ ∙ ap (list_any is_rules ss ||◌) (sym h);
  names = ap (λ (ns : List Name). all_names (equations_of ss) ++ (all_names es ++ ns)) m.names ∙ ap (all_names (equations_of ss) ++◌) (one_more (all_names es) (equation_names e) _) ∙ one_more (all_names (equations_of ss)) _ _;
  uses = ap (λ (us : List (Name × ℕ)). all_uses (equations_of ss) ++ (all_uses es ++ us)) m.uses ∙ ap (all_uses (equations_of ss) ++◌) (one_more (all_uses es) (equation_uses e) _) ∙ one_more (all_uses (equations_of ss)) _ _;
}

-- no whole side goes on with a name or a closing parenthesis
pub whole_stops : (e after : EquationFront) (t : Token) → next_equation e t ≡ Some after → (closes_rules (Some (in_equation [] e)) t ≡ false) × (equation_ended (whole_equation e) t ≡ [])
whole_stops (in_left u) after (identifier c) h = (refl, refl)
whole_stops (in_left u) after right_paren h = (refl, refl)
whole_stops (in_left u) after t h = (refl, refl)
whole_stops (behind_sign l s) after (identifier c) h = (refl, refl)
whole_stops (behind_sign l s) after right_paren h = (refl, refl)
whole_stops (behind_sign l s) after t h = (refl, refl)
whole_stops (in_right l s (whole (alone c))) after (identifier d) h = absurd (cc)
whole_stops (in_right l s (whole (alone c))) after right_paren h = absurd (cc)
whole_stops (in_right l s (whole (alone c))) after t h = (refl, refl)
whole_stops (in_right l s (whole (applied f ts))) after t h = absurd (cc)
whole_stops (in_right l s (opened f ts)) after right_paren h = (refl, refl)
whole_stops (in_right l s (opened f ts)) after t h = (refl, refl)
whole_stops (in_right l s (within f ts u)) after right_paren h = (refl, refl)
whole_stops (in_right l s (within f ts u)) after t h = (refl, refl)

-- a whole equation, and the first name of the next
next_moves : (ss : List Section) (es : List WrittenEquation) (e : EquationFront) (w : WrittenEquation) (c : Name) → whole_equation e ≡ Some w
    → Move ss (Some (in_equation es e)) (identifier c) (record { sections = ss; open_section = Some (in_equation (es ++ w ∷ []) (in_left (whole (alone c)))) })
next_moves ss es e w c h = record {
  variables = still _;
  equations = one_more (equations_of ss) es (w ∷ []) ∙ ap (λ (x : Option WrittenEquation). (equations_of ss ++ es) ++ equation_ended x (identifier c)) (sym h);
  rules = or_nothing _;
  names =
      ap (λ (ns : List Name). all_names (equations_of ss) ++ (ns ++ c ∷ [])) (names-append es (w ∷ []) ∙ ap (all_names es ++◌) (sym (whole_names e w h)))
      ∙ one_more (all_names (equations_of ss)) (all_names es ++ equation_names e) (c ∷ [])
      ∙ ap ((all_names (equations_of ss) ++ (all_names es ++ equation_names e)) ++◌) (sym (named e w h));
  uses =
      ap (λ (us : List (Name × ℕ)). all_uses (equations_of ss) ++ us) (append-nil _ ∙ uses-append es (w ∷ []) ∙ ap (all_uses es ++◌) (sym (whole_uses e w (identifier c) tt h)) ∙ one_more (all_uses es) (equation_uses e) _)
      ∙ one_more (all_uses (equations_of ss)) _ _;
}
  where
    named : (e : EquationFront) (w : WrittenEquation) → whole_equation e ≡ Some w → names_at (equation_spot e) (identifier c) ≡ c ∷ []
    named (in_left u) w h = absurd (cc)
    named (behind_sign l s) w h = absurd (cc)
    named (in_right l s u) w h = refl

-- a whole equation, and the parenthesis that closes its section
close_moves : (ss : List Section) (es : List WrittenEquation) (e : EquationFront) (w : WrittenEquation) → whole_equation e ≡ Some w
    → Move ss (Some (in_equation es e)) right_paren (record { sections = ss ++ rules (es ++ w ∷ []) ∷ []; open_section = None })
close_moves ss es e w h = record {
  variables = closed (variables-append ss _);
  equations = append-nil _ ∙ added ∙ one_more (equations_of ss) es (w ∷ []) ∙ ap (λ (x : Option WrittenEquation). (equations_of ss ++ es) ++ equation_ended x right_paren) (sym h);
  rules = list_any-append is_rules ss _ ∙ ap (λ (x : Option WrittenEquation). list_any is_rules ss || is_some x) (sym h);
  names =
      append-nil _ ∙ ap all_names added ∙ names-append (equations_of ss) (es ++ w ∷ []) ∙ ap (all_names (equations_of ss) ++◌) (names-append es (w ∷ []) ∙ ap (all_names es ++◌) (sym (whole_names e w h)))
      ∙ sym (append-nil _) ∙ ap ((all_names (equations_of ss) ++ (all_names es ++ equation_names e)) ++◌) (sym (unnamed (equation_spot e)));
  uses =
      append-nil _ ∙ ap all_uses added ∙ uses-append (equations_of ss) (es ++ w ∷ []) ∙ ap (all_uses (equations_of ss) ++◌) (uses-append es (w ∷ []) ∙ ap (all_uses es ++◌) (sym (whole_uses e w right_paren tt h)) ∙ one_more (all_uses es) (equation_uses e) _)
      ∙ one_more (all_uses (equations_of ss)) _ _;
}
  where
    added : equations_of (ss ++ rules (es ++ w ∷ []) ∷ []) ≡ equations_of ss ++ (es ++ w ∷ [])
    added = equations-append ss _ ∙ ap (equations_of ss ++◌) (append-nil _)

    unnamed : (s : Option Spot) → names_at s right_paren ≡ []
    unnamed None = refl
    unnamed (Some s) = refl

rules_moves : (ss : List Section) (es : List WrittenEquation) (e : EquationFront) (t : Token) (w : Option WrittenEquation) (n : Option EquationFront) (g : Front)
    → whole_equation e ≡ w → next_equation e t ≡ n → next_rules ss es e t w n ≡ Some g → Move ss (Some (in_equation es e)) t g
rules_moves ss es e t w (Some after) g p q h =
    let stops = whole_stops e after t q in
    subst (Move ss (Some (in_equation es e)) t) (same_Some (record { sections = ss; open_section = Some (in_equation es after) }) g h) (goes_on ss es e after t stops.0 stops.1 (equation_moves e after t q))
rules_moves ss es e (identifier c) (Some w) None g p q h = subst (Move ss (Some (in_equation es e)) (identifier c)) (same_Some (record { sections = ss; open_section = Some (in_equation (es ++ w ∷ []) (in_left (whole (alone c)))) }) g h) (next_moves ss es e w c p)
rules_moves ss es e right_paren (Some w) None g p q h = subst (Move ss (Some (in_equation es e)) right_paren) (same_Some (record { sections = ss ++ rules (es ++ w ∷ []) ∷ []; open_section = None }) g h) (close_moves ss es e w p)
rules_moves ss es e t w None g p q h = absurd (cc)

pub section_moves : (ss : List Section) (o : Option SectionFront) (t : Token) (g : Front) → next_section ss o t ≡ Some g → Move ss o t g
section_moves ss None left_paren g h = subst (Move ss None left_paren) (same_Some (record { sections = ss; open_section = Some begun }) g h) (record { variables = still _; equations = still _; rules = or_nothing _; names = still _; uses = still _ })
section_moves ss None t g h = absurd (cc)
section_moves ss (Some begun) (identifier x) g h = go (section_named x) refl h
  where
    go : (s : Option SectionFront) → section_named x ≡ s → open_at ss s ≡ Some g → Move ss (Some begun) (identifier x) g
    go None p h = absurd (cc)
    go (Some s) p h = begun_moves ss x s g p h
section_moves ss (Some begun) t g h = absurd (cc)
section_moves ss (Some (in_variables xs)) (identifier x) g h = subst (Move ss (Some (in_variables xs)) (identifier x)) (same_Some (record { sections = ss; open_section = Some (in_variables (xs ++ x ∷ [])) }) g h) (record { variables = one_more (variables_of ss) xs (x ∷ []); equations = still _; rules = or_nothing _; names = still _; uses = still _ })
section_moves ss (Some (in_variables xs)) right_paren g h = subst (Move ss (Some (in_variables xs)) right_paren) (same_Some (record { sections = ss ++ variables xs ∷ []; open_section = None }) g h) (record {
  variables = closed (variables-append ss _ ∙ ap (variables_of ss ++◌) (append-nil xs));
  equations = closed (equations-append ss _);
  rules = list_any-append is_rules ss _;
  names = closed (ap all_names (equations-append ss _) ∙ names-append (equations_of ss) []);
  uses = closed (ap all_uses (equations-append ss _) ∙ uses-append (equations_of ss) []);
})
section_moves ss (Some (in_variables xs)) t g h = absurd (cc)
section_moves ss (Some in_rules) (identifier x) g h = subst (Move ss (Some in_rules) (identifier x)) (same_Some (record { sections = ss; open_section = Some (in_equation [] (in_left (whole (alone x)))) }) g h) (record { variables = still _; equations = still _; rules = or_nothing _; names = ap (λ (ns : List Name). ns ++ x ∷ []) (sym (append-nil _)); uses = still _ })
section_moves ss (Some in_rules) right_paren g h = subst (Move ss (Some in_rules) right_paren) (same_Some (record { sections = ss ++ rules [] ∷ []; open_section = None }) g h) (record {
  variables = closed (variables-append ss _);
  equations = closed (equations-append ss _);
  rules = list_any-append is_rules ss _;
  names = closed (ap all_names (equations-append ss _) ∙ names-append (equations_of ss) []);
  uses = closed (ap all_uses (equations-append ss _) ∙ uses-append (equations_of ss) []);
})
section_moves ss (Some in_rules) t g h = absurd (cc)
section_moves ss (Some (in_equation es e)) t g h = rules_moves ss es e t (whole_equation e) (next_equation e t) g refl refl h
section_moves ss (Some (in_skipped x ts)) t g h = skipped_moves ss x ts t (open_after 0 ts) g h
