-- The declared variables and those of an equation, by their numbers.
use Rattle.std.specs.Prelude.{◌≡◌, ◌<◌, ◌≤◌, ℕ, List, [], map, get_or, length, true, cond, Option, Some, None}
use Rattle.std.specs.List.{list_all}
use Rattle.kb_text.specs.Names.{Name, is_among, number_of}
use Rattle.kb_text.specs.Tokens.{Token, identifier}
use Rattle.kb_syntax.specs.Looks.{with_names}

-- the declared names, and those of them that an equation has
pub record VariableNames : Type 0 where
  pub declared : List Name
  pub found : List Name

-- with more names of the equation
abbrev pub with_found : VariableNames → List Name → VariableNames
with_found v names = record v { found = with_names v.found names }

abbrev pub names_at : List Name → List ℕ → List Name
names_at names numbers = map (λ (i : ℕ). get_or names i []) numbers

-- the numbers are those of declared names
pub record AreNumbered (declared : List Name) (numbers : List ℕ) : Type 0 where
  pub names : List Name
  pub declared_all : list_all (is_among declared) names ≡ true
  pub numbered : numbers ≡ map (number_of declared) names

-- the number of a name among the declared ones
abbrev pub variable_number : List Name → Name → Option ℕ
variable_number declared x = cond (is_among declared x) (Some (number_of declared x)) None

-- and of a token, which may be a name
abbrev pub number_at : List Name → Token → Option ℕ
number_at declared (identifier x) = variable_number declared x
number_at declared t = None

-- a declared name has this number
pub record IsNumber (declared : List Name) (number : ℕ) : Type 0 where
  pub name : Name
  pub is : variable_number declared name ≡ Some number

-- each number that was found has its place among these
abbrev pub ArePlaced : List ℕ → List ℕ → Type 0
ArePlaced found places = (i : ℕ) → i < length found → get_or places (get_or found i 0) 0 ≡ i

-- what is kept of the declared names and of those of the equation: the numbers of these, and their places, with room for one of each declared name
pub record IsKept (declared : List Name) (found places : List ℕ) : Type 0 where
  pub numbered : AreNumbered declared found
  pub placed : ArePlaced found places
  pub all : length declared ≤ length places
