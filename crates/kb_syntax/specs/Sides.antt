-- The fronts that values of the reader stand for.
use Rattle.std.specs.Prelude.{◌≡◌, ℕ, List, [], ◌∷◌, map, Bool, true, false, Option, Some, None, is_some}
use Rattle.kb_text.specs.Names.{Name}
use Rattle.kb_text.specs.Tokens.{Token, identifier, end_of_input}
use Rattle.kb_text.specs.Starts.{mark_token}
use Rattle.kb_text.specs.Grammar.{Arguments}
use Rattle.kb_text.specs.Fronts.{TermFront, whole, opened, within, EquationFront, in_left, behind_sign, in_right}
use Rattle.kb_text.specs.Machine.{sign_of as sign_in}
use Rattle.kb_text.specs.Written.{arguments_of, sign_of}
use Rattle.kb_syntax.specs.Written.{written_of}
use Rattle.kb_text.specs.declared.lexer.Form.{Form}
use Rattle.kb_text.specs.declared.lexer.Form.TheVariants.{Mark as MarkForm, Identifier, End}
use Rattle.kb_syntax.specs.declared.equation.OpenEquation.{OpenEquation}
use Rattle.kb_syntax.specs.declared.equation.OpenEquation.TheVariants.{Left, Sign, Right}
use Rattle.kb_syntax.specs.declared.side.Application.{Application}
use Rattle.kb_syntax.specs.declared.side.Inner.{Inner}
use Rattle.kb_syntax.specs.declared.side.Inner.TheVariants.{Whole, Open}
use Rattle.kb_syntax.specs.declared.side.Side.{Side}

-- a token by its form and, of an identifier, its bytes
abbrev pub token_at : Form → List ℕ → Token
token_at (MarkForm m) name = mark_token m
token_at Identifier name = identifier name
token_at End name = end_of_input

-- an open application: its symbol and its whole arguments
abbrev pub application_of : Application → Name × Arguments
application_of a = (a.name.now, arguments_of (map written_of a.arguments.items))

-- a front with open applications around it, from the outermost
abbrev pub enclosed : List (Name × Arguments) → TermFront → TermFront
enclosed [] u = u
enclosed (a ∷ rest) u = within a.0 a.1 (enclosed rest u)

abbrev pub inner_front : Inner → TermFront
inner_front (Whole t) = whole (written_of t)
inner_front (Open a) = opened (application_of a).0 (application_of a).1

abbrev pub side_front : Side → TermFront
side_front s = enclosed (map application_of s.outer.items) (inner_front s.inner)

abbrev pub equation_front : OpenEquation → EquationFront
equation_front (Left side) = in_left (side_front side)
equation_front (Sign t s) = behind_sign (written_of t) (sign_of s)
equation_front (Right t s side) = in_right (written_of t) (sign_of s) (side_front side)

-- the side to which the last token belongs
abbrev pub equation_side : EquationFront → Option TermFront
equation_side (in_left t) = Some t
equation_side (behind_sign t s) = None
equation_side (in_right t s u) = Some u

-- the application that ends next has this symbol and so many arguments
abbrev pub AreEnd : Option (Name × ℕ × ℕ) → Name → ℕ → Type 0
AreEnd None f n = ⊥
AreEnd (Some a) f n = (a.0 ≡ f) × (a.1 ≡ n)

-- it has so many tokens
abbrev pub HasTokens : Option (Name × ℕ × ℕ) → ℕ → Type 0
HasTokens None k = Unit {0}
HasTokens (Some a) k = a.2 ≡ k

-- the token belongs to no side that has begun: it is a sign behind the left one, or stands behind the sign
abbrev pub is_turn : EquationFront → Token → Bool
is_turn (in_left u) t = is_some (sign_in t)
is_turn (behind_sign w s) t = true
is_turn (in_right w s u) t = false

-- what is there where the answer is yes
abbrev pub where_so : {X : Type 0} → Bool → X → Option X
where_so true x = Some x
where_so false x = None
