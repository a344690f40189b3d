-- Equations, one token more.
use Rattle.std.proofs.Common.{◌≡◌, refl, sym, ℕ, List, [], Option, Some, None, false}
use Rattle.std.specs.Prelude.{option_map, option_and_then, is_some}
use Rattle.kb_text.specs.Tokens.{Token, arrow, equals}
use Rattle.kb_text.specs.Grammar.{Sign, Written}
use Rattle.kb_text.specs.Fronts.{TermFront, in_left, behind_sign}
use Rattle.kb_text.specs.Machine.{next_term, next_equation, is_whole, sign_of, or_try}
use Rattle.kb_syntax.specs.Sides.{token_at}
use Rattle.kb_text.specs.declared.lexer.Form.{Form}
use Rattle.kb_text.specs.declared.lexer.Form.TheVariants.{Mark as MarkForm, Identifier, End}
use Rattle.kb_text.specs.declared.lexer.Mark.TheVariants.{Arrow, Equals}
use Rattle.kb_syntax.proofs.SideLaws.{no_term_token}

sign-behind : (u : TermFront) (t : Token) (s : Sign) → None ≡ next_term u t → sign_of t ≡ Some s → is_whole u ≡ None → None ≡ next_equation (in_left u) t
sign-behind u t s a b c = sym ((λ i. or_try (option_map in_left (sym a i)) (option_and_then (λ w. option_map (behind_sign w) (b i)) (c i))))

-- no sign comes behind a side that isn't whole
pub sign_none : (u : TermFront) (f : Form) (name : List ℕ) (s : Sign) → Some s ≡ sign_of (token_at f []) → is_whole u ≡ None → None ≡ next_equation (in_left u) (token_at f name)
sign_none u (MarkForm Arrow) name s e h = sign-behind u arrow s (no_term_token u arrow tt) (sym e) h
sign_none u (MarkForm Equals) name s e h = sign-behind u equals s (no_term_token u equals tt) (sym e) h
sign_none u (MarkForm m) name s e h = absurd (cc)
sign_none u Identifier name s e h = absurd (cc)
sign_none u End name s e h = absurd (cc)

no_sign : {X : Type 0} (o : Option Sign) (w : Option Written) (g : Written → Sign → X) → is_some o ≡ false → option_and_then (λ v. option_map (g v) o) w ≡ None
no_sign None None g h = refl
no_sign None (Some v) g h = refl
no_sign (Some s) w g h = absurd (cc)

same_sign : (f : Form) (name : List ℕ) → sign_of (token_at f []) ≡ sign_of (token_at f name)
same_sign (MarkForm m) name = refl
same_sign Identifier name = refl
same_sign End name = refl
