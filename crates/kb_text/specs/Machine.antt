-- The front that a token leads to. A front is the state of a reader that goes once from the left: this function is what such a reader does,
-- and the first refusal is computed with it.
use Rattle.std.proofs.Common.{ℕ, zero, ◌+◌, ◌-◌, List, [], ◌∷◌, ◌++◌, Bool, true, false, cond, Option, Some, None, codes, nat_lt, bytes_eq, is_some, option_map, option_and_then}
use Rattle.kb_text.specs.Names.{Name, is_among}
use Rattle.kb_text.specs.Tokens.{Token, arrow, equals, left_paren, right_paren, comma, identifier, end_of_input}
use Rattle.kb_text.specs.Grammar.{Written, alone, applied, Arguments, no_arguments, argument, Sign, by_arrow, by_equals, WrittenEquation, Section, variables, rules, skipped, open_after, reserved_names}
use Rattle.kb_text.specs.Fronts.{TermFront, whole, opened, within, EquationFront, in_left, behind_sign, in_right, SectionFront, begun, in_variables, in_rules, in_equation, in_skipped, Front}
use Rattle.kb_text.specs.Refusals.{shown}
use Rattle.kb_text.specs.declared.kind.Kind.{Kind}
use Rattle.kb_text.specs.declared.kind.Kind.TheVariants.{Unclosed, BadSection, Theory, Strategy, DoubleVariable, Relative, Conditional, VariableApplied, ArityClash, BadToken, Limit}
use Rattle.kb_text.specs.declared.kind.Bound.TheVariants.{Name as NameLimit, Equations, Size, Depth, Symbols, Variables, Arity}

-- one argument more
abbrev pub with_last : Arguments → Written → Arguments
with_last no_arguments t = argument t no_arguments
with_last (argument u us) t = argument u (with_last us t)

-- behind a whole argument: a comma or the closing parenthesis
abbrev pub behind_argument : Name → Arguments → Token → Option TermFront
behind_argument f ts comma = Some (opened f ts)
behind_argument f ts right_paren = Some (whole (applied f ts))
behind_argument f ts _ = None

-- what may come behind a front of a term within that term
abbrev pub next_term : TermFront → Token → Option TermFront
next_term (whole (alone c)) left_paren = Some (opened c no_arguments)
next_term (whole (alone c)) _ = None
next_term (whole (applied f ts)) _ = None
next_term (opened f ts) (identifier c) = Some (within f ts (whole (alone c)))
next_term (opened f no_arguments) right_paren = Some (whole (applied f no_arguments))
next_term (opened f ts) _ = None
next_term (within f ts (whole (alone c))) left_paren = Some (within f ts (opened c no_arguments))
next_term (within f ts (whole u)) t = behind_argument f (with_last ts u) t
next_term (within f ts (opened g us)) t = option_map (within f ts) (next_term (opened g us) t)
next_term (within f ts (within g us u)) t = option_map (within f ts) (next_term (within g us u) t)

abbrev pub sign_of : Token → Option Sign
sign_of arrow = Some by_arrow
sign_of equals = Some by_equals
sign_of _ = None

abbrev pub is_whole : TermFront → Option Written
is_whole (whole t) = Some t
is_whole (opened f ts) = None
is_whole (within f ts t) = None

abbrev pub or_try : {A : Type 0} → Option A → Option A → Option A
or_try None b = b
or_try (Some a) b = Some a

abbrev pub begin_term : Token → Option TermFront
begin_term (identifier c) = Some (whole (alone c))
begin_term _ = None

abbrev pub next_equation : EquationFront → Token → Option EquationFront
next_equation (in_left u) t = or_try (option_map in_left (next_term u t)) (option_and_then (λ w. option_map (behind_sign w) (sign_of t)) (is_whole u))
next_equation (behind_sign l s) t = option_map (in_right l s) (begin_term t)
next_equation (in_right l s u) t = option_map (in_right l s) (next_term u t)

-- the equation that a front of one is
abbrev pub whole_equation : EquationFront → Option WrittenEquation
whole_equation (in_left u) = None
whole_equation (behind_sign l s) = None
whole_equation (in_right l s u) = option_map (λ r. record { left = l; sign = s; right = r }) (is_whole u)

abbrev pub section_named : Name → Option SectionFront
section_named x = cond (bytes_eq x (codes "VAR")) (Some (in_variables [])) (cond (bytes_eq x (codes "RULES")) (Some in_rules) (cond (is_among reserved_names x) None (Some (in_skipped x []))))

abbrev pub open_at : List Section → Option SectionFront → Option Front
open_at ss None = None
open_at ss (Some s) = Some (record { sections = ss; open_section = Some s })

abbrev pub closed_with : List Section → Section → Option Front
closed_with ss s = Some (record { sections = ss ++ s ∷ []; open_section = None })

abbrev pub next_rules : List Section → List WrittenEquation → EquationFront → Token → Option WrittenEquation → Option EquationFront → Option Front
next_rules ss es e t w (Some g) = open_at ss (Some (in_equation es g))
next_rules ss es e (identifier c) (Some w) None = open_at ss (Some (in_equation (es ++ w ∷ []) (in_left (whole (alone c)))))
next_rules ss es e right_paren (Some w) None = closed_with ss (rules (es ++ w ∷ []))
next_rules ss es e _ _ None = None

abbrev pub next_skipped : List Section → Name → List Token → Token → Option ℕ → Option Front
next_skipped ss x ts right_paren (Some zero) = closed_with ss (skipped x ts)
next_skipped ss x ts end_of_input n = None
next_skipped ss x ts t n = open_at ss (Some (in_skipped x (ts ++ t ∷ [])))

abbrev pub next_open : List Section → SectionFront → Token → Option Front
next_open ss begun (identifier x) = open_at ss (section_named x)
next_open ss begun _ = None
next_open ss (in_variables xs) (identifier x) = open_at ss (Some (in_variables (xs ++ x ∷ [])))
next_open ss (in_variables xs) right_paren = closed_with ss (variables xs)
next_open ss (in_variables xs) _ = None
next_open ss in_rules (identifier x) = open_at ss (Some (in_equation [] (in_left (whole (alone x)))))
next_open ss in_rules right_paren = closed_with ss (rules [])
next_open ss in_rules _ = None
next_open ss (in_equation es e) t = next_rules ss es e t (whole_equation e) (next_equation e t)
next_open ss (in_skipped x ts) t = next_skipped ss x ts t (open_after 0 ts)

abbrev pub next_section : List Section → Option SectionFront → Token → Option Front
next_section ss None left_paren = open_at ss (Some begun)
next_section ss None _ = None
next_section ss (Some s) t = next_open ss s t

-- the front behind one more token, where the grammar has it
abbrev pub next_front : Front → Token → Option Front
next_front f t = next_section f.sections f.open_section t

-- the end of the input is there behind whole sections alone
abbrev pub may_end : Option SectionFront → Token → Bool
may_end None end_of_input = true
may_end _ _ = false

-- ---- the first refusal

abbrev pub kinds : List Kind
kinds = Limit NameLimit ∷ Unclosed ∷ BadSection ∷ Theory ∷ Strategy ∷ DoubleVariable ∷ Relative ∷ Conditional ∷ VariableApplied ∷ ArityClash ∷ Limit Equations ∷ Limit Size ∷ Limit Depth ∷ Limit Symbols ∷ Limit Variables ∷ Limit Arity ∷ []

-- the one with the smaller place, the first of two at one place
abbrev pub better : Option (Kind × ℕ) → Kind → Option ℕ → Option (Kind × ℕ)
better None kind None = None
better None kind (Some k) = Some (kind, k)
better (Some p) kind None = Some p
better (Some p) kind (Some k) = cond (nat_lt p.1 k) (Some (kind, k)) (Some p)

abbrev pub best : Option (Kind × ℕ) → List Kind → Front → Token → Option (Kind × ℕ)
best p [] f t = p
best p (kind ∷ ks) f t = best (better p kind (shown kind f t)) ks f t

abbrev pub bad_token : Option (Kind × ℕ) → Option Front → Bool → Option (Kind × ℕ)
bad_token p next end = better p BadToken (cond (is_some next) None (cond end None (Some 0)))

abbrev pub judged : Front → Token → Option (Kind × ℕ)
judged f t = bad_token (best None kinds f t) (next_front f t) (may_end f.open_section t)

-- places before, newest first
abbrev pub go : Option (Kind × ℕ) → ℕ → (ℕ → Option (Kind × ℕ)) → Option (Kind × ℕ)
go (Some p) n more = Some (p.0, n - p.1)
go None n more = more (n + 1)

abbrev pub from_next : Option Front → (Front → Option (Kind × ℕ)) → Option (Kind × ℕ)
from_next None k = None
from_next (Some g) k = k g

-- the kind and the number of the token at its place
abbrev pub first_from : Front → List Token → ℕ → Option (Kind × ℕ)
first_from f [] n = None
first_from f (t ∷ ts) n = go (judged f t) n (λ m. from_next (next_front f t) (λ g. first_from g ts m))

abbrev pub start : Front
start = record { sections = []; open_section = None }
