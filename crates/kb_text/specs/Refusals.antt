-- Which texts are refused, why, and where.
use Rattle.std.specs.Prelude.{◌≡◌, ℕ, ◌+◌, ◌-◌, ◌<◌, ◌≤◌, ◌⊎◌, List, [], ◌∷◌, ◌++◌, length, map, Bool, true, false, not, Option, Some, None, codes, get_or, IsUtf8, nat_lt, nat_eq, bytes_eq, ◌&&◌, ◌||◌, cond, is_some, option_and_then}
use Rattle.std.specs.Str.{IsValidUpTo}
use Rattle.std.specs.List.{list_any}
use Rattle.kb_text.specs.Names.{Name, is_among, firsts}
use Rattle.kb_text.specs.Tokens.{Token, Placed, placed_tokens, tokens, arrow_equals, arrow, equals, bar, left_paren, right_paren, comma, quotation, identifier, end_of_input}
use Rattle.kb_text.specs.Grammar.{alone, applied, no_arguments, argument, HasNext}
use Rattle.kb_text.specs.Fronts.{TermFront, whole, opened, within, EquationFront, in_left, behind_sign, in_right, SectionFront, begun, in_variables, in_rules, in_equation, in_skipped, Front, IsFrontOf, term_front_tokens}
use Rattle.kb_text.specs.Problems.{variables_of, equations_of, names_in, names_in_all, count_of, uses_in, uses_in_all, arity_in, all_names, all_uses, variables_among, symbols_among, is_rules}
use Rattle.kb_text.specs.declared.kind.Kind.{Kind}
use Rattle.kb_text.specs.declared.kind.Kind.TheVariants.{NotUtf8, Unclosed, BadSection, Theory, Strategy, DoubleVariable, Relative, Conditional, VariableApplied, ArityClash, BadToken, Limit}
use Rattle.kb_text.specs.declared.kind.Bound.TheVariants.{Name as NameLimit, Equations, Size, Depth, Symbols, Variables, Arity, Input}
use Rattle.kb_term.specs.declared.limits.TheConstants.{MAX_ARITY, MAX_DEPTH, MAX_EQUATIONS, MAX_NAME_BYTES, MAX_PROBLEM_BYTES, MAX_SIZE, MAX_SYMBOLS, MAX_VARIABLES}

-- ---- what stands in a front

-- its identifiers, from the left
abbrev pub names_in_front : TermFront → List Name
names_in_front (whole t) = names_in t
names_in_front (opened f ts) = f ∷ names_in_all ts
names_in_front (within f ts t) = f ∷ (names_in_all ts ++ names_in_front t)

-- the uses of names whose end is reached within the front; that of an identifier without parentheses is reached by the next token
abbrev pub uses_in_front : TermFront → List (Name × ℕ)
uses_in_front (whole (alone c)) = []
uses_in_front (whole (applied f ts)) = uses_in (applied f ts)
uses_in_front (opened f ts) = uses_in_all ts
uses_in_front (within f ts t) = uses_in_all ts ++ uses_in_front t

-- how many parentheses are open
abbrev pub open_parens : TermFront → ℕ
open_parens (whole t) = 0
open_parens (opened f ts) = 1
open_parens (within f ts t) = open_parens t + 1

-- whether a term may come next: behind an open parenthesis or a comma
abbrev pub awaits_term : TermFront → Bool
awaits_term (whole t) = false
awaits_term (opened f ts) = true
awaits_term (within f ts t) = awaits_term t

-- the identifier at the end, where one stands there that has no parentheses
abbrev pub last_alone : TermFront → Option Name
last_alone (whole (alone c)) = Some c
last_alone (whole (applied f ts)) = None
last_alone (opened f ts) = None
last_alone (within f ts t) = last_alone t

-- the application that a closing parenthesis ends next: its symbol, the number of its arguments, and that of its tokens so far
abbrev pub ends_next : TermFront → Option (Name × ℕ × ℕ)
ends_next (whole t) = None
ends_next (opened f no_arguments) = Some (f, 0, 2)
ends_next (opened f (argument t ts)) = None
ends_next (within f ts (whole t)) = Some (f, count_of ts + 1, length (term_front_tokens (within f ts (whole t))))
ends_next (within f ts (opened g us)) = ends_next (opened g us)
ends_next (within f ts (within g us t)) = ends_next (within g us t)

-- how many arguments the innermost open application has, where its last one is whole
abbrev pub arguments_so_far : TermFront → ℕ
arguments_so_far (whole t) = 0
arguments_so_far (opened f ts) = 0
arguments_so_far (within f ts (whole t)) = count_of ts + 1
arguments_so_far (within f ts (opened g us)) = 0
arguments_so_far (within f ts (within g us t)) = arguments_so_far (within g us t)

abbrev pub equation_names : EquationFront → List Name
equation_names (in_left t) = names_in_front t
equation_names (behind_sign t s) = names_in t
equation_names (in_right t s u) = names_in t ++ names_in_front u

abbrev pub equation_uses : EquationFront → List (Name × ℕ)
equation_uses (in_left t) = uses_in_front t
equation_uses (behind_sign t s) = uses_in t
equation_uses (in_right t s u) = uses_in t ++ uses_in_front u

-- of the section that is open: the names that it makes variables
abbrev pub open_variables : Option SectionFront → List Name
open_variables None = []
open_variables (Some begun) = []
open_variables (Some (in_variables xs)) = xs
open_variables (Some in_rules) = []
open_variables (Some (in_equation es e)) = []
open_variables (Some (in_skipped name ts)) = []

-- the identifiers in its equations
abbrev pub open_names : Option SectionFront → List Name
open_names None = []
open_names (Some begun) = []
open_names (Some (in_variables xs)) = []
open_names (Some in_rules) = []
open_names (Some (in_equation es e)) = all_names es ++ equation_names e
open_names (Some (in_skipped name ts)) = []

-- the uses of names that end in its equations
abbrev pub open_uses : Option SectionFront → List (Name × ℕ)
open_uses None = []
open_uses (Some begun) = []
open_uses (Some (in_variables xs)) = []
open_uses (Some in_rules) = []
open_uses (Some (in_equation es e)) = all_uses es ++ equation_uses e
open_uses (Some (in_skipped name ts)) = []

-- how many of its equations have begun
abbrev pub open_count : Option SectionFront → ℕ
open_count None = 0
open_count (Some begun) = 0
open_count (Some (in_variables xs)) = 0
open_count (Some in_rules) = 0
open_count (Some (in_equation es e)) = length es + 1
open_count (Some (in_skipped name ts)) = 0

-- the side of an equation to which the last token belongs
abbrev pub side_of : Option SectionFront → Option TermFront
side_of None = None
side_of (Some begun) = None
side_of (Some (in_variables xs)) = None
side_of (Some in_rules) = None
side_of (Some (in_equation es (in_left t))) = Some t
side_of (Some (in_equation es (behind_sign t s))) = None
side_of (Some (in_equation es (in_right t s u))) = Some u
side_of (Some (in_skipped name ts)) = None

-- What stands before an identifier of a term that comes next: whether it begins an equation, the identifiers of its side
-- and of its equation, and the parentheses that are open in its side.
pub record Spot : Type 0 where
  pub begins : Bool
  pub side : List Name
  pub equation : List Name
  pub parens : ℕ

abbrev pub new_equation : Spot
new_equation = record { begins = true; side = []; equation = []; parens = 0 }

abbrev pub equation_spot : EquationFront → Option Spot
equation_spot (in_left t) = cond (awaits_term t) (Some (record { begins = false; side = names_in_front t; equation = names_in_front t; parens = open_parens t })) None
equation_spot (behind_sign t s) = Some (record { begins = false; side = []; equation = names_in t; parens = 0 })
equation_spot (in_right t s u) = Some (cond (awaits_term u) (record { begins = false; side = names_in_front u; equation = names_in t ++ names_in_front u; parens = open_parens u }) new_equation)

abbrev pub spot_of : Option SectionFront → Option Spot
spot_of None = None
spot_of (Some begun) = None
spot_of (Some (in_variables xs)) = None
spot_of (Some in_rules) = Some new_equation
spot_of (Some (in_equation es e)) = equation_spot e
spot_of (Some (in_skipped name ts)) = None

-- of a front: its variables, the identifiers of its equations, the uses that end in it, and the equations that have begun
abbrev pub front_variables : Front → List Name
front_variables f = variables_of f.sections ++ open_variables f.open_section

abbrev pub front_names : Front → List Name
front_names f = all_names (equations_of f.sections) ++ open_names f.open_section

abbrev pub front_uses : Front → List (Name × ℕ)
front_uses f = all_uses (equations_of f.sections) ++ open_uses f.open_section

abbrev pub front_count : Front → ℕ
front_count f = length (equations_of f.sections) + open_count f.open_section

-- ---- tests of a front and the token behind it

abbrev pub is_open : Option SectionFront → Bool
is_open None = false
is_open (Some s) = true

abbrev pub is_begun : Option SectionFront → Bool
is_begun None = false
is_begun (Some begun) = true
is_begun (Some (in_variables xs)) = false
is_begun (Some in_rules) = false
is_begun (Some (in_equation es e)) = false
is_begun (Some (in_skipped name ts)) = false

abbrev pub is_in_variables : Option SectionFront → Bool
is_in_variables None = false
is_in_variables (Some begun) = false
is_in_variables (Some (in_variables xs)) = true
is_in_variables (Some in_rules) = false
is_in_variables (Some (in_equation es e)) = false
is_in_variables (Some (in_skipped name ts)) = false

abbrev pub is_in_rules : Option SectionFront → Bool
is_in_rules None = false
is_in_rules (Some begun) = false
is_in_rules (Some (in_variables xs)) = false
is_in_rules (Some in_rules) = true
is_in_rules (Some (in_equation es e)) = true
is_in_rules (Some (in_skipped name ts)) = false

abbrev pub is_in_skipped : Option SectionFront → Bool
is_in_skipped None = false
is_in_skipped (Some begun) = false
is_in_skipped (Some (in_variables xs)) = false
is_in_skipped (Some in_rules) = false
is_in_skipped (Some (in_equation es e)) = false
is_in_skipped (Some (in_skipped name ts)) = true

-- the name of an identifier
abbrev pub name_in : Token → Option Name
name_in arrow_equals = None
name_in arrow = None
name_in equals = None
name_in bar = None
name_in left_paren = None
name_in right_paren = None
name_in comma = None
name_in quotation = None
name_in (identifier x) = Some x
name_in end_of_input = None

-- two tokens that are no identifiers are the same
abbrev pub is_token : Token → Token → Bool
is_token arrow_equals arrow_equals = true
is_token arrow arrow = true
is_token equals equals = true
is_token bar bar = true
is_token left_paren left_paren = true
is_token right_paren right_paren = true
is_token comma comma = true
is_token quotation quotation = true
is_token end_of_input end_of_input = true
is_token _ _ = false

abbrev pub is_some_and : {A : Type 0} → Option A → (A → Bool) → Bool
is_some_and None p = false
is_some_and (Some x) p = p x

-- the uses have another number of arguments for the name
abbrev pub has_other_arity : List (Name × ℕ) → Name → ℕ → Bool
has_other_arity uses name n = is_some_and (arity_in uses name) (λ m. not (nat_eq m n))

abbrev pub ended_alone : Option Name → List (Name × ℕ)
ended_alone None = []
ended_alone (Some c) = (c, 0) ∷ []

-- the refusal stands at the token that shows it; at one that stands some tokens before it
abbrev pub here : Bool → Option ℕ
here b = cond b (Some 0) None

abbrev pub back : Bool → ℕ → Option ℕ
back b k = cond b (Some k) None

abbrev pub or_else : Option ℕ → Option ℕ → Option ℕ
or_else None b = b
or_else (Some a) b = Some a

abbrev pub closing_clash_of : List (Name × ℕ) → Option (Name × ℕ × ℕ) → Option ℕ
closing_clash_of uses None = None
closing_clash_of uses (Some a) = back (has_other_arity uses a.0 a.1) a.2

-- the closing parenthesis ends an application whose symbol has another arity already; an identifier alone, which the same token ends, counts before it
abbrev pub closing_clash : Front → Option TermFront → Option ℕ
closing_clash f None = None
closing_clash f (Some t) = closing_clash_of (front_uses f ++ ended_alone (last_alone t)) (ends_next t)

-- the identifier at the end, which the next token shows to be alone, has another arity already
abbrev pub alone_clash : Front → Option TermFront → Option ℕ
alone_clash f None = None
alone_clash f (Some t) = back (is_some_and (last_alone t) (λ c. has_other_arity (front_uses f) c 0)) 1

-- the name isn't among these, of which there are so many already
abbrev pub is_new : Name → List Name → ℕ → Bool
is_new x names n = not (is_among names x) && nat_eq (length (firsts names)) n

-- The refusals but BadToken that a token shows behind a front: of each kind, how many tokens before it the place is.
abbrev pub shown : Kind → Front → Token → Option ℕ
-- those of whole texts are shown by no token
shown NotUtf8 f t = None
shown (Limit Input) f t = None
-- an identifier of more than 64 bytes
shown (Limit NameLimit) f t = here (is_some_and (name_in t) (λ x. nat_lt MAX_NAME_BYTES (length x)) && not (is_in_skipped f.open_section))
-- the end of the input in a section or behind its parenthesis
shown Unclosed f t = here (is_token t end_of_input && is_open f.open_section)
-- no identifier behind the parenthesis of a section; VAR there, behind a section of rules; the end of the input without one
shown BadSection f t = here ((is_begun f.open_section && not (is_some_and (name_in t) (λ x. true))) || (is_begun f.open_section && is_some_and (name_in t) (λ x. bytes_eq x (codes "VAR")) && list_any is_rules f.sections) || (is_token t end_of_input && not (is_open f.open_section) && not (list_any is_rules f.sections)))
shown Theory f t = here (is_begun f.open_section && is_some_and (name_in t) (λ x. bytes_eq x (codes "THEORY")))
shown Strategy f t = here (is_begun f.open_section && is_some_and (name_in t) (λ x. bytes_eq x (codes "STRATEGY")))
-- a variable that is one already
shown DoubleVariable f t = here (is_in_variables f.open_section && is_some_and (name_in t) (is_among (front_variables f)))
shown Relative f t = here (is_in_rules f.open_section && is_token t arrow_equals)
shown Conditional f t = here (is_in_rules f.open_section && is_token t bar)
-- a parenthesis behind a variable in a term; the place is the variable
shown VariableApplied f t = back (is_token t left_paren && is_some_and (option_and_then last_alone (side_of f.open_section)) (is_among (front_variables f))) 1
-- the end of a use whose symbol has another arity already; the place is the symbol
shown ArityClash f t = or_else (cond (is_token t right_paren) (closing_clash f (side_of f.open_section)) None) (cond (is_token t left_paren) None (alone_clash f (side_of f.open_section)))
-- the first identifier of the 257th equation
shown (Limit Equations) f t = here (is_some_and (name_in t) (λ x. is_some_and (spot_of f.open_section) (λ s. s.begins && nat_eq (front_count f) MAX_EQUATIONS)))
-- the 513th identifier of a side
shown (Limit Size) f t = here (is_some_and (name_in t) (λ x. is_some_and (spot_of f.open_section) (λ s. nat_eq (length s.side) MAX_SIZE)))
-- an identifier at depth 65
shown (Limit Depth) f t = here (is_some_and (name_in t) (λ x. is_some_and (spot_of f.open_section) (λ s. nat_eq s.parens MAX_DEPTH)))
-- the first occurrence of a 25th symbol
shown (Limit Symbols) f t = here (is_some_and (name_in t) (λ x. is_some (spot_of f.open_section) && is_new x (symbols_among (front_variables f) (front_names f)) MAX_SYMBOLS && not (is_among (front_variables f) x)))
-- the first occurrence of a 65th variable in one equation
shown (Limit Variables) f t = here (is_some_and (name_in t) (λ x. is_some_and (spot_of f.open_section) (λ s. is_new x (variables_among (front_variables f) s.equation) MAX_VARIABLES && is_among (front_variables f) x)))
-- the comma before a ninth argument
shown (Limit Arity) f t = here (is_token t comma && is_some_and (side_of f.open_section) (λ u. nat_eq (arguments_so_far u) MAX_ARITY))
shown BadToken f t = None

-- A token t that stands behind these tokens, of the front f, shows a refusal of this kind, whose place is k tokens before it.
-- BadToken: the grammar doesn't have it there.
abbrev pub Shows : List Token → Front → Token → Kind → ℕ → Type 0
Shows before f t NotUtf8 k = shown NotUtf8 f t ≡ Some k
Shows before f t Unclosed k = shown Unclosed f t ≡ Some k
Shows before f t BadSection k = shown BadSection f t ≡ Some k
Shows before f t Theory k = shown Theory f t ≡ Some k
Shows before f t Strategy k = shown Strategy f t ≡ Some k
Shows before f t DoubleVariable k = shown DoubleVariable f t ≡ Some k
Shows before f t Relative k = shown Relative f t ≡ Some k
Shows before f t Conditional k = shown Conditional f t ≡ Some k
Shows before f t VariableApplied k = shown VariableApplied f t ≡ Some k
Shows before f t ArityClash k = shown ArityClash f t ≡ Some k
Shows before f t (Limit b) k = shown (Limit b) f t ≡ Some k
Shows before f t BadToken k = (HasNext before t → ⊥) × (k ≡ 0)

-- which kind comes first, where one token shows two at one place
abbrev pub rank : Kind → ℕ
rank NotUtf8 = 0
rank (Limit NameLimit) = 1
rank Unclosed = 2
rank BadSection = 3
rank Theory = 4
rank Strategy = 5
rank DoubleVariable = 6
rank Relative = 7
rank Conditional = 8
rank VariableApplied = 9
rank ArityClash = 10
rank (Limit Equations) = 11
rank (Limit Size) = 12
rank (Limit Depth) = 13
rank (Limit Symbols) = 14
rank (Limit Variables) = 15
rank (Limit Arity) = 16
rank BadToken = 17
rank (Limit Input) = 0

-- these tokens show nothing: no token of theirs does, behind those before it
abbrev pub ShowNothing : List Token → Type 0
ShowNothing ts = (before : List Token) (t : Token) (more : List Token) → ts ≡ before ++ t ∷ more → (f : Front) → IsFrontOf before f → (kind : Kind) (k : ℕ) → Shows before f t kind k → ⊥

-- The first refusal that tokens show: that of the earliest token that shows any; of what it shows that with the smallest place, and then the first of the table.
pub record IsFirstShown (ts : List Token) (kind : Kind) (number : ℕ) : Type 0 where
  pub before : List Token
  pub token : Token
  pub more : List Token
  pub tokens_are : ts ≡ before ++ token ∷ more
  pub earliest : ShowNothing before
  pub front : Front
  pub is_front : IsFrontOf before front
  pub back_by : ℕ
  pub shows : Shows before front token kind back_by
  pub number_is : number ≡ length before - back_by
  pub first : (other : Kind) (k : ℕ) → Shows before front token other k → (k < back_by) ⊎ ((k ≡ back_by) × (rank kind ≤ rank other))

-- where the token with this number stands
abbrev pub place_of : List ℕ → ℕ → ℕ
place_of bytes number = get_or (map (λ (t : Placed). t.at) (placed_tokens bytes)) number 0

-- The bytes are refused: there are too many of them; else they aren't UTF-8; else by their tokens.
pub data IsRefused : List ℕ → Kind → ℕ → Type 0 where
  too_long : {bytes : List ℕ} → MAX_PROBLEM_BYTES < length bytes → IsRefused bytes (Limit Input) MAX_PROBLEM_BYTES
  not_utf8 : {bytes : List ℕ} {at : ℕ} → length bytes ≤ MAX_PROBLEM_BYTES → IsValidUpTo bytes at → IsRefused bytes NotUtf8 at
  by_tokens : {bytes : List ℕ} {kind : Kind} → length bytes ≤ MAX_PROBLEM_BYTES → IsUtf8 bytes → (number : ℕ) → IsFirstShown (tokens bytes) kind number → IsRefused bytes kind (place_of bytes number)
