-- The search for an order: what is known of it, and what is found.
use Rattle.std.specs.Prelude.{ℕ, ◌<◌, ◌≤◌, ◌+◌, ◌*◌, ◌≡◌, ◌++◌, ◌∷◌, [], cond, ◌==◌, List, Bool, true, false, slice_get, slice_index, length, Option, Some, None, map, Contains, All}
use Rattle.std.specs.List.{flat_map}
use Rattle.kb_term.specs.Rule.{Rule}
use Rattle.kb_term.specs.First.{IsFirst}
use Rattle.kb_lpo.specs.PathOrder.{IsAbove}
use Rattle.kb_lpo.specs.Precedences.{arrangements, precedences}
use Rattle.kb_lpo.specs.Search.{outside}
use Rattle.kb_linear.specs.Numbers.{IsLess}
use Rattle.kb_kbo.specs.KnuthBendix.{KboOrder, symbol_weight}
use Rattle.kb_kbo.specs.Measures.{order_of}
use Rattle.kb_kbo.specs.Orders.{KboOrients, weightings}
use Rattle.kb_kbo.specs.declared.known.Known.{Known}
use Rattle.kb_kbo.specs.Asking.{AreAskedAll}
use Rattle.kb_kbo.specs.declared.needs.Asked.{Asked}
use Rattle.kb_kbo.specs.declared.needs.Demand.{Demand}
use Rattle.kb_kbo.specs.declared.needs.Demand.TheVariants.{Nothing, Above, Refused}

-- the precedence has f above g wherever this is known
abbrev pub Fits : Known → List ℕ → Type 0
Fits known prec = (f g : ℕ) → f < 8 → g < 8 → slice_get known.above (8 * f + g) ≡ Some true → IsAbove prec f g

-- each of the first 8 symbols weighs at least what the first list says, and at most what the second does
abbrev pub IsBetween : KboOrder → List ℕ → List ℕ → Type 0
IsBetween order low high = (f : ℕ) → f < 8 → (slice_index low f ≤ symbol_weight order f) × (symbol_weight order f ≤ slice_index high f)

-- the order's precedence has what is needed
abbrev pub IsMet : KboOrder → Demand → Type 0
IsMet order Nothing = Unit {0}
IsMet order (Above f g) = IsAbove order.precedence f.0 g.0
IsMet order Refused = ⊥

-- an order of at most 8 weights that orients the rules has what is known, and meets the comparisons
abbrev pub IsAsked : List Rule → Asked → Type 0
IsAsked rules asked = (order : KboOrder) → length order.weights ≤ 8 → KboOrients order rules → AreAskedAll order asked.table.items × Fits asked.known order.precedence

-- found: the prefix now ends in the first arrangement of the symbols outside of which Q holds; not found: it is as before, and Q holds of none
abbrev pub IsPlaced : (List ℕ → Type 0) → ℕ → ℕ → List ℕ → List ℕ → Bool → Type 0
IsPlaced Q count left before now true = (rest : List ℕ) × (now ≡ before ++ rest) × IsFirst (λ rest. Q (before ++ rest)) (arrangements left (outside count before)) (Some rest)
IsPlaced Q count left before now false = (now ≡ before) × IsFirst (λ rest. Q (before ++ rest)) (arrangements left (outside count before)) None

-- the orders of k symbols whose weights are those given and so many more, in order
abbrev pub orders_behind : ℕ → ℕ → List ℕ → List KboOrder
orders_behind k left before = flat_map (λ (w : List ℕ). map (λ (p : List ℕ). order_of (before ++ w) p) (precedences k)) (weightings left)

-- found: the weights now are, with the precedence, the first of these orders that orients the rules; not found: they are as before, and none does
abbrev pub IsWeighed : List Rule → ℕ → ℕ → List ℕ → List ℕ → Option (List ℕ) → Type 0
IsWeighed rules k left before now (Some p) = IsFirst (λ order. KboOrients order rules) (orders_behind k left before) (Some (order_of now p))
IsWeighed rules k left before now None = (now ≡ before) × IsFirst (λ order. KboOrients order rules) (orders_behind k left before) None

-- the floor's weights are at least 1, and no order whose further weights are less than the floor orients the rules
pub record IsFloor (rules : List Rule) (k left : ℕ) (before floor : List ℕ) : Type 0 where
  pub least : All (λ w. 1 ≤ w) floor
  pub refused : (w p : List ℕ) → Contains (weightings left) w → IsLess w floor → Contains (precedences k) p → ¬ KboOrients (order_of (before ++ w) p) rules

-- the floor's first weight, or 1
abbrev pub lowest_of : List ℕ → ℕ
lowest_of [] = 1
lowest_of (w ∷ ws) = w

-- the floor behind the weight: empty unless the weight is its first
abbrev pub floor_behind : List ℕ → ℕ → List ℕ
floor_behind [] weight = []
floor_behind (w ∷ ws) weight = cond (w == weight) ws []
