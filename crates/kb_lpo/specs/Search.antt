-- The search for a precedence: what is known of it, and what is found.
use Rattle.std.specs.Prelude.{ℕ, ◌<◌, ◌≤◌, ◌≡◌, ◌++◌, ◌∷◌, ◌⊎◌, [], cond, List, Bool, true, false, slice_index, Some, None, not, filter, map, Contains, ◌==◌, All}
use Rattle.std.specs.List.{range_with_len, list_any}
use Rattle.kb_term.specs.declared.term.Symbol.{Symbol}
use Rattle.kb_lpo.specs.declared.known.Known.{Known}
use Rattle.kb_term.specs.Rule.{Rule}
use Rattle.std.specs.Int.{bit_at}
use Rattle.kb_term.specs.Pair.{place_in}
use Rattle.kb_lpo.specs.Precedences.{arrangements, LpoOrients}
use Rattle.kb_term.specs.First.{IsFirst}
use Rattle.kb_term.specs.declared.limits.TheConstants.{MAX_SYMBOLS}

-- wherever bit g of row f is 1, f doesn't stand behind g in the precedence
abbrev pub FitsRows : List ℕ → List ℕ → Type 0
FitsRows rows prec = (f g : ℕ) → f < MAX_SYMBOLS → bit_at (slice_index rows f) g ≡ 1 → place_in prec f ≤ place_in prec g

-- the precedence fulfils what is known
abbrev pub Fits : Known → List ℕ → Type 0
Fits known prec = FitsRows known.rows prec

-- the symbols by number
abbrev pub numbers : List Symbol → List ℕ
numbers = map (λ (f : Symbol). f.0)

-- the numbers below count that aren't listed
abbrev pub outside : ℕ → List ℕ → List ℕ
outside count prefix = filter (λ y. not (list_any (λ z. z == y) prefix)) (range_with_len 0 count)

-- each precedence that goes on with the symbol behind the prefix, which doesn't have it, fits what is known and orients the rules is so
abbrev pub EachThatGoesOn : Known → List Rule → List ℕ → ℕ → (List ℕ → Type 0) → Type 0
EachThatGoesOn known rules prefix f P = (rest : List ℕ) → ¬ Contains prefix f → Fits known (prefix ++ f ∷ rest) → LpoOrients (prefix ++ f ∷ rest) rules → P (prefix ++ f ∷ rest)

-- found: the prefix now ends in the first arrangement of the symbols outside that orients the rules; not found: it is as before, and no arrangement does
abbrev pub IsSearched : List Rule → ℕ → ℕ → List ℕ → List ℕ → Bool → Type 0
IsSearched rules count left before now true = (rest : List ℕ) × (now ≡ before ++ rest) × IsFirst (λ rest. LpoOrients (before ++ rest) rules) (arrangements left (outside count before)) (Some rest)
IsSearched rules count left before now false = (now ≡ before) × IsFirst (λ rest. LpoOrients (before ++ rest) rules) (arrangements left (outside count before)) None

-- found: as IsSearched says; not found: the prefix is as before
abbrev pub IsTried : List Rule → ℕ → ℕ → List ℕ → List ℕ → Bool → Type 0
IsTried rules count left before now true = IsSearched rules count left before now true
IsTried rules count left before now false = now ≡ before

-- the first place at which the lists differ has the smaller number in the first one
abbrev pub IsEarlier : List ℕ → List ℕ → Type 0
IsEarlier [] ys = ⊥
IsEarlier (x ∷ xs) [] = ⊥
IsEarlier (x ∷ xs) (y ∷ ys) = (x < y) ⊎ ((x ≡ y) × IsEarlier xs ys)

-- the floor's numbers are below count, and no arrangement of the symbols outside that is earlier than the floor orients the rules
pub record IsFloor (rules : List Rule) (count left : ℕ) (before floor : List ℕ) : Type 0 where
  pub below : All (λ y. y < count) floor
  pub refused : (rest : List ℕ) → Contains (arrangements left (outside count before)) rest → IsEarlier rest floor → ¬ LpoOrients (before ++ rest) rules

-- the floor's first number, or 0
abbrev pub lowest_of : List ℕ → ℕ
lowest_of [] = 0
lowest_of (y ∷ ys) = y

-- the floor behind the symbol: empty unless the symbol is its first
abbrev pub floor_behind : List ℕ → ℕ → List ℕ
floor_behind [] f = []
floor_behind (y ∷ ys) f = cond (y == f) ys []
