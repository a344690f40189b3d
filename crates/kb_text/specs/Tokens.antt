-- The tokens of a text, each with its place.
use Rattle.std.specs.Prelude.{ℕ, zero, suc, ◌+◌, ◌-◌, ◌==◌, List, [], ◌∷◌, length, map, Bool, cond, nat_eq, zip}
use Rattle.std.specs.List.{starts_with}
use Rattle.kb_term.specs.Identifier.{is_white_space}
use Rattle.kb_term.specs.Identifier.{marks as mark_texts}
use Rattle.kb_text.specs.Names.{Name}

pub data Token : Type 0 where
  arrow_equals : Token
  arrow : Token
  equals : Token
  bar : Token
  left_paren : Token
  right_paren : Token
  comma : Token
  quotation : Token
  identifier : Name → Token
  end_of_input : Token

-- a token, and the number of bytes before it
pub record Placed : Type 0 where
  pub at : ℕ
  pub token : Token

-- the tokens that are marks: ->= -> == | ( ) , "
abbrev pub mark_tokens : List Token
mark_tokens = arrow_equals ∷ arrow ∷ equals ∷ bar ∷ left_paren ∷ right_paren ∷ comma ∷ quotation ∷ []

-- these tokens with their texts, a longer one before its fronts
abbrev pub marks : List (Token × List ℕ)
marks = zip mark_tokens mark_texts

-- what stands at the front of a text that isn't empty
pub data Start : Type 0 where
  white : Start
  mark : Token → ℕ → Start
  letter : Start

-- the first of these marks with which the text begins, and its length
abbrev pub mark_of : List (Token × List ℕ) → List ℕ → Start
mark_of [] text = letter
mark_of (m ∷ ms) text = cond (starts_with nat_eq text m.1) (mark m.0 (length m.1)) (mark_of ms text)

-- white space, a mark, or a byte of an identifier
abbrev pub start_of : ℕ → List ℕ → Start
start_of b text = cond (is_white_space b) white (mark_of marks (b ∷ text))

-- an identifier that begins with the byte b at the place n, and goes on with the identifier that stands directly behind it, if one does
abbrev pub with_letter : ℕ → ℕ → Placed → List Placed → Token → Bool → List Placed
with_letter n b next ts (identifier name) adjacent = cond adjacent (record { at = n; token = identifier (b ∷ name) } ∷ ts) (record { at = n; token = identifier (b ∷ []) } ∷ next ∷ ts)
with_letter n b next ts token adjacent = record { at = n; token = identifier (b ∷ []) } ∷ next ∷ ts

abbrev pub letter_before : ℕ → ℕ → List Placed → List Placed
letter_before n b [] = []
letter_before n b (next ∷ ts) = with_letter n b next ts next.token (next.at == n + 1)

-- the tokens of a text whose first byte b has the place n; rest k has those behind the next k bytes
abbrev pub tokens_by : Start → ℕ → ℕ → (ℕ → List Placed) → List Placed
tokens_by white n b rest = rest 0
tokens_by (mark t size) n b rest = record { at = n; token = t } ∷ rest (size - 1)
tokens_by letter n b rest = letter_before n b (rest 0)

-- The tokens of a text that begins at the place n. The first k bytes of it belong to a mark that stands before.
abbrev pub tokens_from : ℕ → ℕ → List ℕ → List Placed
tokens_from k n [] = record { at = n; token = end_of_input } ∷ []
tokens_from (suc k) n (b ∷ text) = tokens_from k (n + 1) text
tokens_from zero n (b ∷ text) = tokens_by (start_of b text) n b (λ k. tokens_from k (n + 1) text)

-- The tokens of a text with their places. The end of the input is the last of them.
abbrev pub placed_tokens : List ℕ → List Placed
placed_tokens text = tokens_from 0 0 text

-- the same without their places
abbrev pub tokens : List ℕ → List Token
tokens text = map (λ (t : Placed). t.token) (placed_tokens text)
