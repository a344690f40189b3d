-- What the values of the reader stand for.
use Rattle.std.specs.Prelude.{◌≡◌, ℕ, List, option_and_then, ◌+◌, ◌<◌, ◌≤◌, ◌^◌, [], ◌++◌, map, Bool, true, false, not, ◌&&◌, ◌||◌, cond, Option, Some, None, is_some, length, nat_eq, nat_lt, nat_le, unwrap_or, All}
use Rattle.std.specs.List.{list_any, list_all}
use Rattle.kb_term.specs.Signature.{Problem, IsSignature}
use Rattle.kb_text.specs.Names.{Name, is_among, firsts, with_name}
use Rattle.kb_text.specs.Tokens.{Token, arrow, equals, left_paren, right_paren, identifier, end_of_input}
use Rattle.kb_text.specs.Problems.{equations_of, arity_in, variables_among, symbols_among, is_rules, entry_of, equation_variables, equation_of as problem_equation}
use Rattle.kb_text.specs.Fronts.{Front, TermFront, EquationFront, term_front_tokens}
use Rattle.kb_text.specs.Machine.{whole_equation}
use Rattle.kb_text.specs.Refusals.{front_variables, front_names, front_uses, has_other_arity, is_some_and, name_in, or_else, last_alone, ends_next, ended_alone, is_token, back}
use Rattle.kb_syntax.specs.Moves.{open_equations, equation_names_of, side_names_of}
use Rattle.kb_syntax.specs.Looks.{Look, look_side, answer, outside, at_word, at_variables, at_rules, at_equation, at_skipped, look_of, spot_at, Spot, end_row, mark_row, word_row, is_one_more, with_names, with_uses, added_uses, next_look, added_variables, added_equations, ends_rules}
use Rattle.kb_syntax.specs.Sides.{equation_front, token_at}
use Rattle.kb_syntax.specs.Written.{equation_of}
use Rattle.kb_syntax.specs.declared.reader.Place.{Place}
use Rattle.kb_syntax.specs.declared.reader.Place.TheVariants.{Outside, Word, Variables, Rules, Equation, Skipped}
use Rattle.kb_syntax.specs.declared.notes.Notes.{Notes}
use Rattle.kb_syntax.specs.declared.reader.Reader.{Reader}
use Rattle.kb_text.specs.declared.lexer.Form.{Form}
use Rattle.kb_text.specs.declared.kind.Kind.{Kind}
use Rattle.kb_text.specs.declared.kind.Kind.TheVariants.{DoubleVariable, Limit}
use Rattle.kb_text.specs.declared.kind.Bound.TheVariants.{Name as NameLimit, Equations, Size, Depth, Symbols, Variables as VariablesLimit}
use Rattle.kb_term.specs.declared.limits.TheConstants.{MAX_ARITY, MAX_DEPTH, MAX_EQUATIONS, MAX_NAME_BYTES, MAX_SIZE, MAX_SYMBOLS, MAX_VARIABLES}

abbrev pub place_look : Place → Look
place_look Outside = outside
place_look Word = at_word
place_look Variables = at_variables
place_look Rules = at_rules
place_look (Equation e) = at_equation (equation_front e)
place_look (Skipped n) = at_skipped n

-- how many equations have begun
abbrev pub count_at : Notes → Look → ℕ
count_at n (at_equation e) = length n.equations.items + 1
count_at n look = length n.equations.items

-- what a name of a term shows at its own place
abbrev pub spot_row : Notes → ℕ → Spot → Name → Option Kind
spot_row n count s x =
    cond (s.0 && nat_eq count MAX_EQUATIONS) (Some (Limit Equations))
    (cond (nat_eq (cond s.0 0 n.size) MAX_SIZE) (Some (Limit Size))
    (cond (nat_eq s.1 MAX_DEPTH) (Some (Limit Depth))
    (cond (is_among n.variables.declared x)
    (cond (is_one_more (cond s.0 [] n.variables.found) MAX_VARIABLES x) (Some (Limit VariablesLimit)) None)
    (cond (is_one_more n.symbols MAX_SYMBOLS x) (Some (Limit Symbols)) None))))

abbrev pub at_a_spot : Notes → ℕ → Option Spot → Name → Option Kind
at_a_spot n count None x = None
at_a_spot n count (Some s) x = spot_row n count s x

-- what a name shows at its own place
abbrev pub own_name_row : Notes → Look → Name → Option Kind
own_name_row n outside x = None
own_name_row n at_word x = word_row n.has_rules x
own_name_row n at_variables x = cond (is_among n.variables.declared x) (Some DoubleVariable) None
own_name_row n at_rules x = spot_row n (count_at n at_rules) (true, 0) x
own_name_row n (at_equation e) x = at_a_spot n (count_at n (at_equation e)) (spot_at (at_equation e)) x
own_name_row n (at_skipped k) x = None

abbrev pub name_row : Notes → Look → Name → Option Kind
name_row n (at_skipped k) x = None
name_row n look x = cond (nat_lt MAX_NAME_BYTES (length x)) (Some (Limit NameLimit)) (own_name_row n look x)

-- ---- clashes

-- another arity than n is known of the name, which is no variable
abbrev pub clashes : Notes → Name → ℕ → Bool
clashes n x k = not (is_among n.variables.declared x) && has_other_arity n.arities x k

abbrev pub alone_row : Notes → Option Name → Option ℕ
alone_row n None = None
alone_row n (Some c) = cond (clashes n c 0) (Some 1) None

abbrev pub closing_row : Notes → Option Name → Option (Name × ℕ × ℕ) → Option ℕ
closing_row n alone None = None
closing_row n alone (Some a) = cond (has_other_arity (n.arities ++ ended_alone alone) a.0 a.1) (Some a.2) None

-- ---- one token more

-- the notes with one more name of a term
abbrev pub named_notes : Notes → Spot → Name → Notes
named_notes n s x = record n {
  symbols = cond (is_among n.variables.declared x) n.symbols (with_name n.symbols x);
  variables = record n.variables { found = cond (is_among n.variables.declared x) (with_name (cond s.0 [] n.variables.found) x) (cond s.0 [] n.variables.found) };
  size = cond s.0 0 n.size + 1;
}

abbrev pub name_notes : Notes → Option Spot → Token → Notes
name_notes n (Some s) (identifier x) = named_notes n s x
name_notes n s t = n

abbrev pub use_notes : Notes → Look → Token → Notes
use_notes n look t = record n { arities = with_uses n.variables.declared n.arities (added_uses look t) }

-- the notes with the uses that a token ends, and the name that it may be
abbrev pub prepared : Notes → Look → Token → Notes
prepared n look t = name_notes (use_notes n look t) (spot_at look) t

-- the token is a sign
abbrev pub is_sign : Token → Bool
is_sign t = is_token t arrow || is_token t equals

-- behind a sign the names of a side are counted anew
abbrev pub resets : Look → Token → Bool
resets (at_equation e) t = is_sign t
resets look t = false

-- the token ends the equation, which is whole
abbrev pub is_ended : EquationFront → Token → Bool
is_ended e t = is_some (whole_equation e) && (is_some (name_in t) || is_token t right_paren)

-- the place is in an equation that the token doesn't end
abbrev pub stays : Look → Token → Bool
stays (at_equation e) t = not (is_ended e t)
stays look t = false

-- the same notes but for the equations
pub record HasSameNotes (old new : Notes) : Type 0 where
  pub variables : new.variables.declared ≡ old.variables.declared
  pub symbols : new.symbols ≡ old.symbols
  pub arities : new.arities ≡ old.arities
  pub rules : new.has_rules ≡ old.has_rules
  pub found : new.variables.found ≡ old.variables.found
  pub size : new.size ≡ old.size

-- The notes before and behind a token by which a front goes on, but for the uses that it ends and the name that it may be.
pub record IsPassed (old : Notes) (look : Look) (t : Token) (new : Notes) : Type 0 where
  pub variables : new.variables.declared ≡ with_names old.variables.declared (added_variables look t)
  pub equations : map equation_of new.equations.items ≡ map equation_of old.equations.items ++ added_equations look t
  pub rules : new.has_rules ≡ (old.has_rules || ends_rules look t)
  pub symbols : new.symbols ≡ old.symbols
  pub arities : new.arities ≡ old.arities
  pub found : new.variables.found ≡ cond (ends_rules look t) [] old.variables.found
  pub size : new.size ≡ cond (resets look t) 0 (cond (ends_rules look t) 0 old.size)

-- ---- clashes and rows together

abbrev pub clash_row : Notes → Option TermFront → Token → Option ℕ
clash_row n None t = None
clash_row n (Some u) t = or_else (cond (is_token t right_paren) (closing_row n (last_alone u) (ends_next u)) None) (cond (is_token t left_paren) None (alone_row n (last_alone u)))

abbrev pub applied_row : Notes → Option TermFront → Token → Bool
applied_row n None t = false
applied_row n (Some u) t = is_token t left_paren && is_some_and (last_alone u) (is_among n.variables.declared)

abbrev pub own_row : Notes → Look → Token → Option Kind
own_row n look (identifier x) = name_row n look x
own_row n look end_of_input = end_row look n.has_rules
own_row n look t = mark_row look t

-- what the token of this form shows, which has these bytes if it is an identifier: an answer by the rows of both kinds of clashes and by its own
abbrev pub shown_row : Notes → Look → Form → Name → Option (Kind × ℕ)
shown_row n look form name =
    answer (clash_row n (look_side look) (token_at form [])) (back (applied_row n (look_side look) (token_at form [])) 1) (own_row n look (token_at form name))

-- an answer, whether the name alone at the end of the side is a variable, where one stands there
abbrev pub TellsLast : List Name → Option TermFront → Bool → Type 0
TellsLast declared side is_variable = (c : Name) → option_and_then last_alone side ≡ Some c → is_variable ≡ is_among declared c

-- ---- the whole

-- The notes and the place stand for the front.
pub record Stands (n : Notes) (p : Place) (f : Front) : Type 0 where
  pub place : place_look p ≡ look_of f.open_section
  pub variables : n.variables.declared ≡ front_variables f
  pub equations : map equation_of n.equations.items ≡ equations_of f.sections ++ open_equations f.open_section
  pub rules : n.has_rules ≡ list_any is_rules f.sections
  pub symbols : n.symbols ≡ firsts (symbols_among (front_variables f) (front_names f))
  pub arities : (x : Name) → is_among (front_variables f) x ≡ false → arity_in n.arities x ≡ arity_in (front_uses f) x
  pub found : n.variables.found ≡ firsts (variables_among (front_variables f) (equation_names_of f.open_section))
  pub size : n.size ≡ length (side_names_of f.open_section)

-- the reader behind one more token, where the grammar has it
abbrev pub IsNextReader : Reader → Token → Option Reader → Type 0
IsNextReader r t None = next_look (place_look r.place) t ≡ None
IsNextReader r t (Some s) = (next_look (place_look r.place) t ≡ Some (place_look s.place)) × IsPassed (prepared r.notes (place_look r.place) t) (place_look r.place) t s.notes

-- a side has fewer tokens than a machine word counts
abbrev pub IsShortSide : Option TermFront → Type 0
IsShortSide None = Unit {0}
IsShortSide (Some u) = length (term_front_tokens u) < 2 ^ 64

-- nothing is noted
pub record AreEmpty (n : Notes) : Type 0 where
  pub variables : n.variables.declared ≡ []
  pub symbols : n.symbols ≡ []
  pub arities : n.arities ≡ []
  pub equations : n.equations.items ≡ []
  pub rules : n.has_rules ≡ false
  pub found : n.variables.found ≡ []
  pub size : n.size ≡ 0

-- the problem of the notes of a whole text
abbrev pub problem_from : Notes → Problem
problem_from n = record {
  signature = map (entry_of n.arities) n.symbols;
  equations = map (problem_equation n.variables.declared n.symbols) (map equation_of n.equations.items);
}

-- its symbols make a signature, and it is within the limits that the program's types have
pub record IsProblemNoted (n : Notes) : Type 0 where
  pub signature : IsSignature (map (entry_of n.arities) n.symbols)
  pub arities : All (λ x. unwrap_or (arity_in n.arities x) 0 ≤ MAX_ARITY) n.symbols
  pub symbols : length n.symbols ≤ MAX_SYMBOLS
  pub variables : list_all (λ e. nat_le (length (equation_variables n.variables.declared e)) MAX_VARIABLES) (map equation_of n.equations.items) ≡ true
