-- What rules ask of weights and of the precedence.
use Rattle.std.specs.Prelude.{ℕ, ◌+◌, ◌≤◌, ◌≡◌, List, [], ◌∷◌, ◌++◌, length, All, Vec}
use Rattle.std.specs.declared.alloc.Global.{Global}
use Rattle.kb_term.specs.Tree.{Tree}
use Rattle.kb_lpo.specs.PathOrder.{IsAbove}
use Rattle.kb_linear.specs.Forms.{weighted}
use Rattle.kb_kbo.specs.KnuthBendix.{KboOrder, KboGreater, weight, symbol_weight}
use Rattle.kb_kbo.specs.declared.level.Tally.{Tally}
use Rattle.kb_kbo.specs.declared.level.Level.{Level}
use Rattle.kb_kbo.specs.declared.level.Tie.{Tie}
use Rattle.kb_kbo.specs.declared.level.Tie.TheVariants.{Refused, Above, Next}

-- what the occurrences weigh where a gives the symbols their weights, and all else weighs 1
abbrev pub value_of : Tally → (ℕ → ℕ) → ℕ
value_of tally a = tally.rest + weighted tally.symbols a

-- by each order of at most 8 weights, the left side weighs as much more than the right side as s does than t
abbrev pub ComparesWeights : Level → Tree → Tree → Type 0
ComparesWeights level s t =
    (order : KboOrder) → length order.weights ≤ 8 → value_of level.left (symbol_weight order) + weight order t ≡ value_of level.right (symbol_weight order) + weight order s

-- what a comparison asks at equal weights
abbrev pub AsksAtTie : KboOrder → Tie → Type 0 → Type 0
AsksAtTie order Refused next = ⊥
AsksAtTie order (Above f g) next = IsAbove order.precedence f.0 g.0
AsksAtTie order Next next = next

-- what comparisons ask of an order: the left side weighs at least as much, and at equal weights the tie decides
abbrev pub Asks : KboOrder → List Level → Type 0
Asks order [] = Unit {0}
Asks order (level ∷ levels) =
    (value_of level.right (symbol_weight order) ≤ value_of level.left (symbol_weight order))
    × (value_of level.left (symbol_weight order) ≡ value_of level.right (symbol_weight order) → AsksAtTie order level.tie (Asks order levels))

-- the levels that are added ask what each order asks that has s above t and at most 8 weights
abbrev pub AreAsked : List Level → List Level → Tree → Tree → Type 0
AreAsked old new s t = (more : List Level) × (new ≡ old ++ more) × ((order : KboOrder) → length order.weights ≤ 8 → KboGreater order s t → Asks order more)

-- what all lists of comparisons ask
abbrev pub AreAskedAll : KboOrder → List (Vec Level Global) → Type 0
AreAskedAll order table = All (λ (levels : Vec Level Global). Asks order levels.items) table
