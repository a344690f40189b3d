-- What a reader keeps of a front, and what one more token makes of it.
use Rattle.std.specs.Prelude.{ℕ, zero, suc, List, [], ◌∷◌, ◌++◌, Bool, true, false, not, ◌&&◌, cond, Option, Some, None, is_some, length, nat_eq, bytes_eq, codes, unwrap_or, option_map}
use Rattle.kb_text.specs.Names.{Name, is_among, with_name}
use Rattle.kb_text.specs.Tokens.{Token, left_paren, right_paren, comma, bar, arrow_equals, identifier, end_of_input}
use Rattle.kb_text.specs.Grammar.{alone, WrittenEquation, open_after, reserved_names}
use Rattle.kb_text.specs.Fronts.{TermFront, whole, EquationFront, in_left, behind_sign, in_right, SectionFront, begun, in_variables, in_rules, in_equation, in_skipped}
use Rattle.kb_text.specs.Problems.{arity_in}
use Rattle.kb_text.specs.Refusals.{is_token, awaits_term, open_parens, arguments_so_far}
use Rattle.kb_text.specs.Machine.{next_equation, whole_equation}
use Rattle.kb_syntax.specs.Moves.{names_of_token, ended_at, equation_ended}
use Rattle.kb_syntax.specs.Sides.{equation_side}
use Rattle.kb_text.specs.declared.kind.Kind.{Kind}
use Rattle.kb_text.specs.declared.kind.Kind.TheVariants.{Unclosed, BadSection, Theory, Strategy, Relative, Conditional, VariableApplied, ArityClash, Limit}
use Rattle.kb_text.specs.declared.kind.Bound.TheVariants.{Arity}
use Rattle.kb_term.specs.declared.limits.TheConstants.{MAX_ARITY}

-- where a front ends: its open section, without the lists of what stands in it; of a skipped one, how many parentheses are open beside its own
pub data Look : Type 0 where
  outside : Look
  at_word : Look
  at_variables : Look
  at_rules : Look
  at_equation : EquationFront → Look
  at_skipped : ℕ → Look

abbrev pub look_of : Option SectionFront → Look
look_of None = outside
look_of (Some begun) = at_word
look_of (Some (in_variables xs)) = at_variables
look_of (Some in_rules) = at_rules
look_of (Some (in_equation es e)) = at_equation e
look_of (Some (in_skipped x ts)) = at_skipped (unwrap_or (open_after 0 ts) 0)

abbrev pub depth_of : Look → ℕ
depth_of (at_skipped n) = n
depth_of look = 0

-- ---- one token more

abbrev pub word_look : Name → Option Look
word_look x = cond (bytes_eq x (codes "VAR")) (Some at_variables) (cond (bytes_eq x (codes "RULES")) (Some at_rules) (cond (is_among reserved_names x) None (Some (at_skipped 0))))

abbrev pub next_in_rules : Option WrittenEquation → Token → Option EquationFront → Option Look
next_in_rules w t (Some e) = Some (at_equation e)
next_in_rules (Some w) (identifier c) None = Some (at_equation (in_left (whole (alone c))))
next_in_rules (Some w) right_paren None = Some outside
next_in_rules w t None = None

abbrev pub next_look : Look → Token → Option Look
next_look outside left_paren = Some at_word
next_look outside t = None
next_look at_word (identifier x) = word_look x
next_look at_word t = None
next_look at_variables (identifier x) = Some at_variables
next_look at_variables right_paren = Some outside
next_look at_variables t = None
next_look at_rules (identifier x) = Some (at_equation (in_left (whole (alone x))))
next_look at_rules right_paren = Some outside
next_look at_rules t = None
next_look (at_equation e) t = next_in_rules (whole_equation e) t (next_equation e t)
next_look (at_skipped zero) right_paren = Some outside
next_look (at_skipped (suc n)) right_paren = Some (at_skipped n)
next_look (at_skipped n) left_paren = Some (at_skipped (suc n))
next_look (at_skipped n) end_of_input = None
next_look (at_skipped n) t = Some (at_skipped n)

-- the variables that the token adds
abbrev pub added_variables : Look → Token → List Name
added_variables at_variables t = names_of_token t
added_variables look t = []

-- the equation that it ends
abbrev pub added_equations : Look → Token → List WrittenEquation
added_equations (at_equation e) t = equation_ended (whole_equation e) t
added_equations look t = []

-- whether it closes a section of rules
abbrev pub ends_rules : Look → Token → Bool
ends_rules at_rules t = is_token t right_paren
ends_rules (at_equation e) right_paren = is_some (whole_equation e)
ends_rules look t = false

abbrev pub look_side : Look → Option TermFront
look_side (at_equation e) = equation_side e
look_side look = None

-- the uses that it ends
abbrev pub added_uses : Look → Token → List (Name × ℕ)
added_uses look t = ended_at (look_side look) t

-- of a name that comes next in a term: whether it begins an equation, and how many parentheses are open
abbrev pub Spot : Type 0
Spot = Bool × ℕ

abbrev pub spot_in : EquationFront → Option Spot
spot_in (in_left u) = cond (awaits_term u) (Some (false, open_parens u)) None
spot_in (behind_sign t s) = Some (false, 0)
spot_in (in_right t s u) = Some (cond (awaits_term u) (false, open_parens u) (true, 0))

abbrev pub spot_at : Look → Option Spot
spot_at outside = None
spot_at at_word = None
spot_at at_variables = None
spot_at at_rules = Some (true, 0)
spot_at (at_equation e) = spot_in e
spot_at (at_skipped n) = None

-- ---- what is kept beside

-- the first uses of symbols, with one more use that ended
abbrev pub with_use : List Name → List (Name × ℕ) → Name × ℕ → List (Name × ℕ)
with_use vars uses u = cond (is_among vars u.0) uses (cond (is_some (arity_in uses u.0)) uses (uses ++ u ∷ []))

abbrev pub with_uses : List Name → List (Name × ℕ) → List (Name × ℕ) → List (Name × ℕ)
with_uses vars uses [] = uses
with_uses vars uses (u ∷ us) = with_uses vars (with_use vars uses u) us

-- the different names, with these more
abbrev pub with_names : List Name → List Name → List Name
with_names names [] = names
with_names names (x ∷ xs) = with_names (with_name names x) xs

-- ---- what a token shows at its own place

abbrev pub end_row : Look → Bool → Option Kind
end_row outside has_rules = cond has_rules None (Some BadSection)
end_row look has_rules = Some Unclosed

abbrev pub rules_row : Token → Option Kind
rules_row arrow_equals = Some Relative
rules_row bar = Some Conditional
rules_row t = None

abbrev pub arity_row : Option TermFront → Option Kind
arity_row None = None
arity_row (Some u) = cond (nat_eq (arguments_so_far u) MAX_ARITY) (Some (Limit Arity)) None

abbrev pub mark_row : Look → Token → Option Kind
mark_row at_word t = Some BadSection
mark_row at_rules t = rules_row t
mark_row (at_equation e) comma = arity_row (equation_side e)
mark_row (at_equation e) t = rules_row t
mark_row look t = None

abbrev pub word_row : Bool → Name → Option Kind
word_row has_rules x = cond (bytes_eq x (codes "VAR") && has_rules) (Some BadSection) (cond (bytes_eq x (codes "THEORY")) (Some Theory) (cond (bytes_eq x (codes "STRATEGY")) (Some Strategy) None))

-- a name that isn't among so many
abbrev pub is_one_more : List Name → ℕ → Name → Bool
is_one_more names n x = not (is_among names x) && nat_eq (length names) n

-- what the table's order and places choose: a clash, a variable before a parenthesis, else what stands at the token itself
abbrev pub answer : Option ℕ → Option ℕ → Option Kind → Option (Kind × ℕ)
answer (Some k) applied own = Some (ArityClash, k)
answer None (Some k) own = Some (VariableApplied, k)
answer None None own = option_map (λ (kind : Kind). (kind, 0)) own
