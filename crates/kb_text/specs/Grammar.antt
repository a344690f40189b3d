-- What the grammar alone derives: the structure of a problem as it is written, and the tokens of each structure.
use Rattle.std.specs.Prelude.{◌≡◌, ℕ, zero, suc, List, [], ◌∷◌, ◌++◌, Option, Some, None, codes, flat_map, ⊤, IsFalse}
use Rattle.std.specs.List.{AllByRecursion}
use Rattle.kb_text.specs.Names.{Name, is_among}
use Rattle.kb_text.specs.Tokens.{Token, arrow_equals, arrow, equals, bar, left_paren, right_paren, comma, quotation, identifier, end_of_input}

-- a term: an identifier alone, or with arguments in parentheses, of which there may be none
mutual
  pub data Written : Type 0 where
    alone : Name → Written
    applied : Name → Arguments → Written

  pub data Arguments : Type 0 where
    no_arguments : Arguments
    argument : Written → Arguments → Arguments

-- how the two sides of an equation are joined
pub data Sign : Type 0 where
  by_arrow : Sign
  by_equals : Sign

pub record WrittenEquation : Type 0 where
  pub left : Written
  pub sign : Sign
  pub right : Written

-- a section: of variables, of rules, or a skipped one with its name and the tokens behind the name
pub data Section : Type 0 where
  variables : List Name → Section
  rules : List WrittenEquation → Section
  skipped : Name → List Token → Section

-- ---- the tokens of each

abbrev mutual
  pub term_tokens : Written → List Token
  term_tokens (alone c) = identifier c ∷ []
  term_tokens (applied f ts) = identifier f ∷ left_paren ∷ (argument_tokens ts ++ right_paren ∷ [])

  -- parted by commas
  pub argument_tokens : Arguments → List Token
  argument_tokens no_arguments = []
  argument_tokens (argument t ts) = term_tokens t ++ later_tokens ts

  -- with a comma before each
  pub later_tokens : Arguments → List Token
  later_tokens no_arguments = []
  later_tokens (argument t ts) = comma ∷ (term_tokens t ++ later_tokens ts)

abbrev pub sign_token : Sign → Token
sign_token by_arrow = arrow
sign_token by_equals = equals

abbrev pub equation_tokens : WrittenEquation → List Token
equation_tokens e = term_tokens e.left ++ sign_token e.sign ∷ term_tokens e.right

abbrev pub name_tokens : List Name → List Token
name_tokens [] = []
name_tokens (x ∷ xs) = identifier x ∷ name_tokens xs

-- what stands between the parentheses of a section
abbrev pub inner_tokens : Section → List Token
inner_tokens (variables xs) = identifier (codes "VAR") ∷ name_tokens xs
inner_tokens (rules es) = identifier (codes "RULES") ∷ flat_map equation_tokens es
inner_tokens (skipped name ts) = identifier name ∷ ts

abbrev pub section_tokens : Section → List Token
section_tokens s = left_paren ∷ (inner_tokens s ++ right_paren ∷ [])

-- ---- skipped sections

-- how many more parentheses are open behind these tokens than before them; None where one closes that isn't open, or the input ends
abbrev pub open_after : ℕ → List Token → Option ℕ
open_after n [] = Some n
open_after n (left_paren ∷ ts) = open_after (suc n) ts
open_after zero (right_paren ∷ ts) = None
open_after (suc n) (right_paren ∷ ts) = open_after n ts
open_after n (end_of_input ∷ ts) = None
open_after n (arrow_equals ∷ ts) = open_after n ts
open_after n (arrow ∷ ts) = open_after n ts
open_after n (equals ∷ ts) = open_after n ts
open_after n (bar ∷ ts) = open_after n ts
open_after n (comma ∷ ts) = open_after n ts
open_after n (quotation ∷ ts) = open_after n ts
open_after n (identifier name ∷ ts) = open_after n ts

abbrev pub IsBalanced : List Token → Type 0
IsBalanced ts = open_after 0 ts ≡ Some 0

-- the names that no skipped section has
abbrev pub reserved_names : List Name
reserved_names = codes "VAR" ∷ codes "RULES" ∷ codes "THEORY" ∷ codes "STRATEGY" ∷ []

abbrev pub IsSection : Section → Type 0
IsSection (variables xs) = ⊤
IsSection (rules es) = ⊤
IsSection (skipped name ts) = IsFalse (is_among reserved_names name) × IsBalanced ts

-- ---- whole texts

abbrev pub text_tokens : List Section → List Token
text_tokens sections = flat_map section_tokens sections ++ end_of_input ∷ []

-- the grammar alone derives these tokens
abbrev pub Derives : List Token → Type 0
Derives ts = (sections : List Section) × AllByRecursion IsSection sections × (ts ≡ text_tokens sections)

-- the grammar has the token t behind these: with it they begin some list that the grammar derives
abbrev pub HasNext : List Token → Token → Type 0
HasNext before t = (more : List Token) × Derives (before ++ t ∷ more)
