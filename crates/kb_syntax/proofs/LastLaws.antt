-- The name alone at the end of a side is the last token.
use Rattle.std.proofs.Common.{◌≡◌, refl, ap, sym, ◌∙◌, subst, ℕ, zero, suc, List, [], Option, Some, None, Bool, true, false, cond}
use Rattle.std.specs.Prelude.{is_some, option_and_then, option_map}
use Rattle.std.proofs.lemmas.Option.{same_Some}
use Rattle.kb_lemmas.proofs.Options.{some_of_map}
use Rattle.kb_text.specs.Names.{Name, is_among}
use Rattle.kb_text.specs.Tokens.{Token, left_paren, right_paren, comma, identifier, end_of_input}
use Rattle.kb_text.specs.Grammar.{Written, alone, applied, Arguments, no_arguments, argument, WrittenEquation}
use Rattle.kb_text.specs.Fronts.{TermFront, whole, opened, within, EquationFront, in_left, behind_sign, in_right}
use Rattle.kb_text.specs.Machine.{next_term, with_last, behind_argument, next_equation, whole_equation, or_try, begin_term, is_whole, sign_of}
use Rattle.kb_text.specs.Refusals.{last_alone}
use Rattle.kb_syntax.specs.Looks.{Look, outside, at_word, at_variables, at_rules, at_equation, at_skipped, look_side, next_look, next_in_rules, word_look, added_variables, with_names, spot_at, Spot}
use Rattle.kb_syntax.specs.Sides.{equation_side}
use Rattle.kb_syntax.specs.Reader.{IsNextReader, TellsLast, name_notes, use_notes, prepared, place_look}
use Rattle.kb_syntax.specs.Variables.{number_at}
use Rattle.kb_syntax.specs.declared.notes.Notes.{Notes}
use Rattle.kb_syntax.specs.declared.reader.Reader.{Reader}
use Rattle.kb_syntax.proofs.VariableLaws.{number-is_some}

-- a side with a name alone at its end ends with this token
abbrev Ends : Token → Option TermFront → Type 0
Ends t o = (c : Name) → option_and_then last_alone o ≡ Some c → t ≡ identifier c

none : (t : Token) → Ends t None
none t c e = absurd (cc)

behind_last : (f : Name) (ts : Arguments) (t : Token) (v : TermFront) → behind_argument f ts t ≡ Some v → Ends t (Some v)
behind_last f ts comma v h = subst (λ (v : TermFront). Ends comma (Some v)) (same_Some (opened f ts) v h) (λ c e. absurd (cc))
behind_last f ts right_paren v h = subst (λ (v : TermFront). Ends right_paren (Some v)) (same_Some (whole (applied f ts)) v h) (λ c e. absurd (cc))
behind_last f ts t v h = absurd (cc)

term_last : (u v : TermFront) (t : Token) → next_term u t ≡ Some v → Ends t (Some v)
term_last (whole (alone c)) v left_paren h = subst (λ (v : TermFront). Ends left_paren (Some v)) (same_Some (opened c no_arguments) v h) (λ d e. absurd (cc))
term_last (whole (alone c)) v t h = absurd (cc)
term_last (whole (applied f ts)) v t h = absurd (cc)
term_last (opened f ts) v (identifier c) h = subst (λ (v : TermFront). Ends (identifier c) (Some v)) (same_Some (within f ts (whole (alone c))) v h) (λ d e. ap (λ (x : Name). identifier x) (same_Some c d e))
term_last (opened f no_arguments) v right_paren h = subst (λ (v : TermFront). Ends right_paren (Some v)) (same_Some (whole (applied f no_arguments)) v h) (λ d e. absurd (cc))
term_last (opened f (argument a us)) v right_paren h = absurd (cc)
term_last (opened f ts) v t h = absurd (cc)
term_last (within f ts (whole (alone c))) v left_paren h = subst (λ (v : TermFront). Ends left_paren (Some v)) (same_Some (within f ts (opened c no_arguments)) v h) (λ d e. absurd (cc))
term_last (within f ts (whole (alone c))) v t h = behind_last f (with_last ts (alone c)) t v h
term_last (within f ts (whole (applied g us))) v t h = behind_last f (with_last ts (applied g us)) t v h
term_last (within f ts (opened g us)) v t h =
    let r = some_of_map (within f ts) (next_term (opened g us) t) v h in
    subst (λ (v : TermFront). Ends t (Some v)) r.2 (term_last (opened g us) r.0 t r.1)
term_last (within f ts (within g us u)) v t h =
    let r = some_of_map (within f ts) (next_term (within g us u) t) v h in
    subst (λ (v : TermFront). Ends t (Some v)) r.2 (term_last (within g us u) r.0 t r.1)

abbrev EndsEquation : Token → EquationFront → Type 0
EndsEquation t g = Ends t (equation_side g)

begin_last : (t : Token) (v : TermFront) → begin_term t ≡ Some v → Ends t (Some v)
begin_last (identifier c) v h = subst (λ (v : TermFront). Ends (identifier c) (Some v)) (same_Some (whole (alone c)) v h) (λ d e. ap (λ (x : Name). identifier x) (same_Some c d e))
begin_last t v h = absurd (cc)

equation_last : (e g : EquationFront) (t : Token) → next_equation e t ≡ Some g → EndsEquation t g
equation_last (in_left u) g t h = go (next_term u t) refl h
  where
    sign : (o : Option Written) → option_and_then (λ w. option_map (behind_sign w) (sign_of t)) o ≡ Some g → EndsEquation t g
    sign None h = absurd (cc)
    sign (Some w) h =
        let r = some_of_map (behind_sign w) (sign_of t) g h in
        subst (EndsEquation t) r.2 (none t)

    go : (o : Option TermFront) → next_term u t ≡ o → or_try (option_map in_left o) (option_and_then (λ w. option_map (behind_sign w) (sign_of t)) (is_whole u)) ≡ Some g → EndsEquation t g
    go (Some v) k h = subst (EndsEquation t) (same_Some (in_left v) g h) (term_last u v t k)
    go None k h = sign (is_whole u) h
equation_last (behind_sign l s) g t h =
    let r = some_of_map (in_right l s) (begin_term t) g h in
    subst (EndsEquation t) r.2 (begin_last t r.0 r.1)
equation_last (in_right l s u) g t h =
    let r = some_of_map (in_right l s) (next_term u t) g h in
    subst (EndsEquation t) r.2 (term_last u r.0 t r.1)

abbrev EndsLook : Token → Look → Type 0
EndsLook t l = Ends t (look_side l)

look_last : (l m : Look) (t : Token) → next_look l t ≡ Some m → EndsLook t m
look_last outside m left_paren h = subst (EndsLook left_paren) (same_Some at_word m h) (none left_paren)
look_last outside m t h = absurd (cc)
look_last at_word m (identifier x) h = go (next_look at_word (identifier x)) h (no_side x)
  where
    HasNone : Option Look → Type 0
    HasNone None = Unit {0}
    HasNone (Some l) = look_side l ≡ None

    no_side : (x : Name) → HasNone (word_look x)
    no_side x = by _ _ _
      where
        by : (a b c : Bool) → HasNone (cond a (Some at_variables) (cond b (Some at_rules) (cond c None (Some (at_skipped 0)))))
        by true b c = refl
        by false true c = refl
        by false false true = tt
        by false false false = refl

    go : (o : Option Look) → o ≡ Some m → HasNone o → EndsLook (identifier x) m
    go None h n = absurd (cc)
    go (Some l) h n = subst (EndsLook (identifier x)) (same_Some l m h) (subst (Ends (identifier x)) (sym n) (none (identifier x)))
look_last at_word m t h = absurd (cc)
look_last at_variables m (identifier x) h = subst (EndsLook (identifier x)) (same_Some at_variables m h) (none (identifier x))
look_last at_variables m right_paren h = subst (EndsLook right_paren) (same_Some outside m h) (none right_paren)
look_last at_variables m t h = absurd (cc)
look_last at_rules m (identifier x) h = subst (EndsLook (identifier x)) (same_Some (at_equation (in_left (whole (alone x)))) m h) (λ d e. ap (λ (y : Name). identifier y) (same_Some x d e))
look_last at_rules m right_paren h = subst (EndsLook right_paren) (same_Some outside m h) (none right_paren)
look_last at_rules m t h = absurd (cc)
look_last (at_equation e) m t h = go (next_equation e t) refl (whole_equation e) h
  where
    behind : (t : Token) (w : Option WrittenEquation) → next_in_rules w t None ≡ Some m → EndsLook t m
    behind (identifier c) (Some w) h = subst (EndsLook (identifier c)) (same_Some (at_equation (in_left (whole (alone c)))) m h) (λ d e. ap (λ (x : Name). identifier x) (same_Some c d e))
    behind right_paren (Some w) h = subst (EndsLook right_paren) (same_Some outside m h) (none right_paren)
    behind t (Some w) h = absurd (cc)
    behind t None h = absurd (cc)

    go : (o : Option EquationFront) → next_equation e t ≡ o → (w : Option WrittenEquation) → next_in_rules w t o ≡ Some m → EndsLook t m
    go (Some g) k w h = subst (EndsLook t) (same_Some (at_equation g) m h) (equation_last e g t k)
    go None k w h = behind t w h
look_last (at_skipped zero) m right_paren h = subst (EndsLook right_paren) (same_Some outside m h) (none right_paren)
look_last (at_skipped (suc n)) m right_paren h = subst (EndsLook right_paren) (same_Some (at_skipped n) m h) (none right_paren)
look_last (at_skipped zero) m left_paren h = subst (EndsLook left_paren) (same_Some (at_skipped 1) m h) (none left_paren)
look_last (at_skipped (suc n)) m left_paren h = subst (EndsLook left_paren) (same_Some (at_skipped (suc (suc n))) m h) (none left_paren)
look_last (at_skipped zero) m end_of_input h = absurd (cc)
look_last (at_skipped (suc n)) m end_of_input h = absurd (cc)
look_last (at_skipped zero) m t h = subst (EndsLook t) (same_Some (at_skipped 0) m h) (none t)
look_last (at_skipped (suc n)) m t h = subst (EndsLook t) (same_Some (at_skipped (suc n)) m h) (none t)

-- such a token declares nothing
look_declared : (l m : Look) (t : Token) (c : Name) → next_look l t ≡ Some m → option_and_then last_alone (look_side m) ≡ Some c → added_variables l t ≡ []
look_declared outside m t c h e = refl
look_declared at_word m t c h e = refl
look_declared at_variables m (identifier x) c h e =
    let same : None ≡ look_side m = ap look_side (same_Some at_variables m h) in
    let no : None ≡ Some c = ap (option_and_then last_alone) same ∙ e in
    absurd (cc)
look_declared at_variables m t c h e = refl
look_declared at_rules m t c h e = refl
look_declared (at_equation g) m t c h e = refl
look_declared (at_skipped n) m t c h e = refl

prepared_declared : (n : Notes) (o : Option Spot) (t : Token) → (name_notes n o t).variables.declared ≡ n.variables.declared
prepared_declared n None t = refl
prepared_declared n (Some s) (identifier x) = refl
prepared_declared n (Some s) t = refl

-- the number of the last token tells it
pub told_next : (r s : Reader) (t : Token) (number : Option ℕ) → number ≡ number_at r.notes.variables.declared t → IsNextReader r t (Some s) → TellsLast s.notes.variables.declared (look_side (place_look s.place)) (is_some number)
told_next r s t number k next = λ c e.
    let look = place_look r.place in
    let last : t ≡ identifier c = look_last look (place_look s.place) t next.0 c e in
    let same : s.notes.variables.declared ≡ r.notes.variables.declared =
    next.1.variables ∙ ap (with_names (prepared r.notes look t).variables.declared) (look_declared look (place_look s.place) t c next.0 e) ∙ prepared_declared (use_notes r.notes look t) (spot_at look) t in
    ap (λ (o : Option ℕ). is_some o) k ∙ ap (λ (u : Token). is_some (number_at r.notes.variables.declared u)) last ∙ number-is_some r.notes.variables.declared c ∙ ap (λ (vs : List Name). is_among vs c) (sym same)

pub told_start : (vars : List Name) (l : Look) → l ≡ outside → TellsLast vars (look_side l) false
told_start vars l h = λ c e.
    let no : None ≡ Some c = ap (λ (l : Look). option_and_then last_alone (look_side l)) (sym h) ∙ e in
    absurd (cc)
