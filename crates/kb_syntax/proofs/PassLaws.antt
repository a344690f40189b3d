-- Notes behind one more token of an equation that doesn't end it.
use Rattle.std.proofs.Common.{append-nil, ◌≡◌, refl, ap, sym, ◌∙◌, ℕ, List, [], ◌++◌, Option, Some, None, Bool, true, false, cond, ◌||◌, ◌&&◌}
use Rattle.std.specs.Prelude.{map, is_some}
use Rattle.kb_lemmas.proofs.Booleans.{or_nothing}
use Rattle.kb_text.specs.Tokens.{Token, right_paren, identifier}
use Rattle.kb_text.specs.Grammar.{WrittenEquation}
use Rattle.kb_text.specs.Fronts.{EquationFront, TermFront}
use Rattle.kb_text.specs.Machine.{next_equation, whole_equation}
use Rattle.kb_text.specs.Names.{Name}
use Rattle.kb_syntax.specs.Moves.{equation_ended, ended_at, ended_use}
use Rattle.kb_syntax.specs.Sides.{token_at, where_so}
use Rattle.kb_text.specs.declared.lexer.Form.{Form}
use Rattle.kb_text.specs.declared.lexer.Form.TheVariants.{Mark as MarkForm, Identifier, End}
use Rattle.kb_syntax.specs.Looks.{at_equation, ends_rules, added_equations, Look, look_side, next_in_rules, next_look, with_uses}
use Rattle.kb_text.specs.Refusals.{name_in, is_token, ended_alone, last_alone, ends_next}
use Rattle.kb_syntax.specs.Reader.{is_ended, IsNextReader, IsPassed, is_sign, place_look, prepared, use_notes}
use Rattle.kb_syntax.specs.Written.{equation_of}
use Rattle.kb_syntax.specs.declared.notes.Notes.{Notes}
use Rattle.kb_syntax.specs.declared.reader.Reader.{Reader}

not_ended : (e : EquationFront) (t : Token) → is_ended e t ≡ false → (added_equations (at_equation e) t ≡ []) × (ends_rules (at_equation e) t ≡ false)
not_ended e t h = go (whole_equation e) refl t h
  where
    go : (w : Option WrittenEquation) → whole_equation e ≡ w → (t : Token) → (is_some (whole_equation e) && (is_some (name_in t) || is_token t right_paren)) ≡ false → (equation_ended (whole_equation e) t ≡ []) × (ends_rules (at_equation e) t ≡ false)
    go None p (identifier c) h = (ap (λ (w : Option WrittenEquation). equation_ended w (identifier c)) p, refl)
    go None p right_paren h = (ap (λ (w : Option WrittenEquation). equation_ended w right_paren) p, ap is_some p)
    go None p t h = (ap (λ (w : Option WrittenEquation). equation_ended w t) p, refl)
    go (Some w) p (identifier c) h = absurd (true_false (ap (λ (o : Option WrittenEquation). is_some o && true) p) h)
      where
        true_false : {b : Bool} → b ≡ true → b ≡ false → ⊥
        true_false p q = cc
    go (Some w) p right_paren h = absurd (true_false (ap (λ (o : Option WrittenEquation). is_some o && true) p) h)
      where
        true_false : {b : Bool} → b ≡ true → b ≡ false → ⊥
        true_false p q = cc
    go (Some w) p t h = (ap (λ (w : Option WrittenEquation). equation_ended w t) p, refl)

pub goes_on_passed : (old new : Notes) (e : EquationFront) (t : Token) → is_ended e t ≡ false → new ≡ record old { size = cond (is_sign t) 0 old.size } → IsPassed old (at_equation e) t new
goes_on_passed old new e t h k =
    let r = not_ended e t h in record {
      variables = ap (λ (n : Notes). n.variables.declared) k;
      equations = ap (λ (n : Notes). map equation_of n.equations.items) k ∙ sym (ap (map equation_of old.equations.items ++◌) r.0 ∙ append-nil _);
      rules = ap (λ (n : Notes). n.has_rules) k ∙ or_nothing old.has_rules ∙ ap (old.has_rules ||◌) (sym r.1);
      symbols = ap (λ (n : Notes). n.symbols) k;
      arities = ap (λ (n : Notes). n.arities) k;
      found = ap (λ (n : Notes). n.variables.found) k ∙ ap (λ (b : Bool). cond b [] old.variables.found) (sym r.1);
      size = ap (λ (n : Notes). n.size) k ∙ ap (λ (b : Bool). cond (is_sign t) 0 (cond b 0 old.size)) (sym r.1);
    }

-- a name is no matter to the tests of other tokens
pub same_sign : (f : Form) (name : List ℕ) → is_sign (token_at f []) ≡ is_sign (token_at f name)
same_sign (MarkForm m) name = refl
same_sign Identifier name = refl
same_sign End name = refl

pub same_uses : (n : Notes) (look : Look) (f : Form) (name : List ℕ) → use_notes n look (token_at f []) ≡ use_notes n look (token_at f name)
same_uses n look (MarkForm m) name = refl
same_uses n look Identifier name = ap (λ (us : List (Name × ℕ)). record n { arities = with_uses n.variables.declared n.arities us }) (go (look_side look))
  where
    go : (o : Option TermFront) → ended_at o (identifier []) ≡ ended_at o (identifier name)
    go None = refl
    go (Some u) = by (ends_next u)
      where
        by : (a : Option (Name × ℕ × ℕ)) → ended_alone (last_alone u) ++ ended_use a (identifier []) ≡ ended_alone (last_alone u) ++ ended_use a (identifier name)
        by None = refl
        by (Some a) = refl
same_uses n look End name = refl

-- the place behind a token that doesn't end the equation
pub went_on : (e g : EquationFront) (t : Token) (b : Bool) → is_ended e t ≡ false → where_so b g ≡ next_equation e t → where_so b (at_equation g) ≡ next_look (at_equation e) t
went_on e g t b h q = go b ∙ ap (next_in_rules (whole_equation e) t) q
  where
    none : (w : Option WrittenEquation) (t : Token) → (is_some w && (is_some (name_in t) || is_token t right_paren)) ≡ false → None ≡ next_in_rules w t None
    none None (identifier c) h = refl
    none None right_paren h = refl
    none None t h = refl
    none (Some w) (identifier c) h = absurd (cc)
    none (Some w) right_paren h = absurd (cc)
    none (Some w) t h = refl

    go : (b : Bool) → where_so b (at_equation g) ≡ next_in_rules (whole_equation e) t (where_so b g)
    go true = refl
    go false = none (whole_equation e) t h

-- the reader behind one more token
pub next_reader : (r s : Reader) (t : Token) (b : Bool) → where_so b (place_look s.place) ≡ next_look (place_look r.place) t → (b ≡ true → IsPassed (prepared r.notes (place_look r.place) t) (place_look r.place) t s.notes) → IsNextReader r t (where_so b s)
next_reader r s t true e p = (sym e, p refl)
next_reader r s t false e p = sym e
