-- What stands at a place, by the byte there and the two behind it.
use Rattle.std.specs.Prelude.{◌≡◌, ℕ, ◌+◌, ◌-◌, ◌<◌, ◌≤◌, List, [], ◌∷◌, true, cond, nat_eq, ◌&&◌, length, take, drop, get_or, ⊤}
use Rattle.std.specs.Str.{IsCharBoundary}
use Rattle.kb_term.specs.Identifier.{IsIdentifier, is_white_space}
use Rattle.kb_text.specs.Tokens.{Token, Placed, white, mark, letter, tokens_from, arrow_equals, arrow, equals, bar, left_paren, right_paren, comma, quotation, identifier, end_of_input}
use Rattle.kb_text.specs.Tokens as toks
use Rattle.kb_text.specs.declared.lexer.Mark.{Mark}
use Rattle.kb_text.specs.declared.lexer.Mark.TheVariants.{ArrowEquals, Arrow, Equals, Bar, LeftParen, RightParen, Comma, Quotation}
use Rattle.kb_text.specs.declared.lexer.Start.{Start}
use Rattle.kb_text.specs.declared.lexer.Start.TheVariants.{White, Mark as IsMark, Letter}
use Rattle.kb_text.specs.declared.lexer.Form.{Form}
use Rattle.kb_text.specs.declared.lexer.Form.TheVariants.{Mark as MarkForm, Identifier, End}
use Rattle.kb_text.specs.declared.lexer.Found.{Found}

abbrev pub mark_token : Mark → Token
mark_token ArrowEquals = arrow_equals
mark_token Arrow = arrow
mark_token Equals = equals
mark_token Bar = bar
mark_token LeftParen = left_paren
mark_token RightParen = right_paren
mark_token Comma = comma
mark_token Quotation = quotation

abbrev pub mark_length_of : Mark → ℕ
mark_length_of ArrowEquals = 3
mark_length_of Arrow = 2
mark_length_of Equals = 2
mark_length_of Bar = 1
mark_length_of LeftParen = 1
mark_length_of RightParen = 1
mark_length_of Comma = 1
mark_length_of Quotation = 1

abbrev pub start_view : Start → toks.Start
start_view White = white
start_view (IsMark m) = mark (mark_token m) (mark_length_of m)
start_view Letter = letter

-- by the byte and the two behind it, which are 0 where there is none
abbrev pub start_by : ℕ → ℕ → ℕ → toks.Start
start_by b c d = cond (is_white_space b) white
    (cond (nat_eq 45 b && (nat_eq 62 c && (nat_eq 61 d && true))) (mark arrow_equals 3)
    (cond (nat_eq 45 b && (nat_eq 62 c && true)) (mark arrow 2)
    (cond (nat_eq 61 b && (nat_eq 61 c && true)) (mark equals 2)
    (cond (nat_eq 124 b && true) (mark bar 1)
    (cond (nat_eq 40 b && true) (mark left_paren 1)
    (cond (nat_eq 41 b && true) (mark right_paren 1)
    (cond (nat_eq 44 b && true) (mark comma 1)
    (cond (nat_eq 34 b && true) (mark quotation 1) letter))))))))

abbrev pub start_in : List ℕ → ℕ → toks.Start
start_in bytes at = start_by (get_or bytes at 0) (get_or bytes (at + 1) 0) (get_or bytes (at + 2) 0)

abbrev pub IsNoIdentifier : Token → Type 0
IsNoIdentifier arrow_equals = ⊤
IsNoIdentifier arrow = ⊤
IsNoIdentifier equals = ⊤
IsNoIdentifier bar = ⊤
IsNoIdentifier left_paren = ⊤
IsNoIdentifier right_paren = ⊤
IsNoIdentifier comma = ⊤
IsNoIdentifier quotation = ⊤
IsNoIdentifier (identifier name) = ⊥
IsNoIdentifier end_of_input = ⊤

-- no identifier goes on here
abbrev pub Stops : toks.Start → Type 0
Stops white = ⊤
Stops (mark t size) = IsNoIdentifier t
Stops letter = ⊥

-- the bytes of a mark behind the first aren't 0
abbrev pub HasBytes : Start → ℕ → ℕ → Type 0
HasBytes White c d = ⊤
HasBytes (IsMark ArrowEquals) c d = (0 < c) × (0 < d)
HasBytes (IsMark Arrow) c d = 0 < c
HasBytes (IsMark Equals) c d = 0 < c
HasBytes (IsMark m) c d = ⊤
HasBytes Letter c d = ⊤

-- white space and a mark begin and end with ASCII
abbrev pub AreAscii : Start → ℕ → ℕ → ℕ → Type 0
AreAscii White b c d = b < 128
AreAscii (IsMark ArrowEquals) b c d = (b < 128) × (d < 128)
AreAscii (IsMark Arrow) b c d = (b < 128) × (c < 128)
AreAscii (IsMark Equals) b c d = (b < 128) × (c < 128)
AreAscii (IsMark m) b c d = b < 128
AreAscii Letter b c d = ⊤

abbrev pub start_length : Start → ℕ
start_length White = 1
start_length (IsMark m) = mark_length_of m
start_length Letter = 1

-- an identifier stands from the one place to the other
pub record IsNameTo (bytes : List ℕ) (at end : ℕ) : Type 0 where
  pub some : at < end
  pub within : end ≤ length bytes
  pub letters : (k : ℕ) → at ≤ k → k < end → start_in bytes k ≡ letter
  pub stops : end < length bytes → Stops (start_in bytes end)
  pub ascii : end < length bytes → get_or bytes end 0 < 128

-- the token that was found, and those behind it
abbrev pub found_tokens : List ℕ → ℕ → ℕ → Form → List Placed
found_tokens bytes at end (MarkForm m) = record { at = at; token = mark_token m } ∷ tokens_from 0 end (drop end bytes)
found_tokens bytes at end Identifier = record { at = at; token = identifier (take (end - at) (drop at bytes)) } ∷ tokens_from 0 end (drop end bytes)
found_tokens bytes at end End = record { at = at; token = end_of_input } ∷ []

abbrev pub first_and_rest : List ℕ → Found → List Placed
first_and_rest bytes f = found_tokens bytes f.at f.end f.form

abbrev pub EndsBehind : ℕ → ℕ → Form → Type 0
EndsBehind from end (MarkForm m) = from < end
EndsBehind from end Identifier = from < end
EndsBehind from end End = ⊤

-- a token but the end of the input ends behind the place from which it was sought
abbrev pub IsAhead : ℕ → Found → Type 0
IsAhead from f = EndsBehind from f.end f.form

-- in a text, from where a character begins: a character begins behind the token, and an identifier of the text is one
pub record IsInText (bytes : List ℕ) (f : Found) : Type 0 where
  pub boundary : IsCharBoundary bytes f.end
  pub identifier : f.form ≡ Identifier → IsIdentifier (take (f.end - f.at) (drop f.at bytes))
