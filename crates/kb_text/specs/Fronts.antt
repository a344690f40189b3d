-- Fronts: what stands of a text before one of its tokens. A front is a text cut off behind a token, as a tree that is cut.
use Rattle.std.specs.Prelude.{◌≡◌, List, [], ◌∷◌, ◌++◌, Option, Some, None, IsSome, IsFalse, codes, flat_map, ⊤}
use Rattle.std.specs.List.{AllByRecursion}
use Rattle.kb_text.specs.Names.{Name, is_among}
use Rattle.kb_text.specs.Tokens.{Token, left_paren, comma, identifier}
use Rattle.kb_text.specs.Grammar.{Written, Arguments, no_arguments, argument, Sign, WrittenEquation, Section, term_tokens, sign_token, equation_tokens, name_tokens, section_tokens, open_after, reserved_names, IsSection}

-- Of a term: the whole term; or a name, its open parenthesis and arguments that have each a comma behind them;
-- or the same with a front of the next argument.
pub data TermFront : Type 0 where
  whole : Written → TermFront
  opened : Name → Arguments → TermFront
  within : Name → Arguments → TermFront → TermFront

-- Of an equation: a front of the left side; the left side and the sign; or also a front of the right side.
pub data EquationFront : Type 0 where
  in_left : TermFront → EquationFront
  behind_sign : Written → Sign → EquationFront
  in_right : Written → Sign → TermFront → EquationFront

-- Of a section: its parenthesis; with VAR and names; with RULES; with RULES, whole equations and a front of the next one,
-- which is there as soon as its first token is; with the name of a skipped section and tokens.
pub data SectionFront : Type 0 where
  begun : SectionFront
  in_variables : List Name → SectionFront
  in_rules : SectionFront
  in_equation : List WrittenEquation → EquationFront → SectionFront
  in_skipped : Name → List Token → SectionFront

-- Of a text: whole sections, and perhaps a front of the next one.
pub record Front : Type 0 where
  pub sections : List Section
  pub open_section : Option SectionFront

-- ---- the tokens of each

-- with a comma behind each
abbrev pub followed_tokens : Arguments → List Token
followed_tokens no_arguments = []
followed_tokens (argument t ts) = term_tokens t ++ comma ∷ followed_tokens ts

abbrev pub term_front_tokens : TermFront → List Token
term_front_tokens (whole t) = term_tokens t
term_front_tokens (opened f ts) = identifier f ∷ left_paren ∷ followed_tokens ts
term_front_tokens (within f ts t) = identifier f ∷ left_paren ∷ (followed_tokens ts ++ term_front_tokens t)

abbrev pub equation_front_tokens : EquationFront → List Token
equation_front_tokens (in_left t) = term_front_tokens t
equation_front_tokens (behind_sign t s) = term_tokens t ++ sign_token s ∷ []
equation_front_tokens (in_right t s u) = term_tokens t ++ sign_token s ∷ term_front_tokens u

abbrev pub section_front_tokens : SectionFront → List Token
section_front_tokens begun = left_paren ∷ []
section_front_tokens (in_variables xs) = left_paren ∷ identifier (codes "VAR") ∷ name_tokens xs
section_front_tokens in_rules = left_paren ∷ identifier (codes "RULES") ∷ []
section_front_tokens (in_equation es e) = left_paren ∷ identifier (codes "RULES") ∷ (flat_map equation_tokens es ++ equation_front_tokens e)
section_front_tokens (in_skipped name ts) = left_paren ∷ identifier name ∷ ts

abbrev pub open_tokens : Option SectionFront → List Token
open_tokens None = []
open_tokens (Some s) = section_front_tokens s

abbrev pub front_tokens : Front → List Token
front_tokens f = flat_map section_tokens f.sections ++ open_tokens f.open_section

-- a skipped section has no reserved name, and closes no parenthesis that it didn't open
abbrev pub IsSectionFront : Option SectionFront → Type 0
IsSectionFront None = ⊤
IsSectionFront (Some begun) = ⊤
IsSectionFront (Some (in_variables xs)) = ⊤
IsSectionFront (Some in_rules) = ⊤
IsSectionFront (Some (in_equation es e)) = ⊤
IsSectionFront (Some (in_skipped name ts)) = IsFalse (is_among reserved_names name) × IsSome (open_after 0 ts)

-- these tokens are those of the front
pub record IsFrontOf (before : List Token) (f : Front) : Type 0 where
  pub sections : AllByRecursion IsSection f.sections
  pub open_section : IsSectionFront f.open_section
  pub tokens_are : before ≡ front_tokens f
