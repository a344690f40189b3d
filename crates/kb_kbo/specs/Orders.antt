-- The Knuth-Bendix orders that are tried, and the first one that orients given rules.
use Rattle.std.specs.Prelude.{ℕ, cond, nat_le, List, [], ◌∷◌, ◌++◌, ◌≡◌, map, length, replicate, All}
use Rattle.std.specs.List.{flat_map}
use Rattle.kb_term.specs.Rule.{Rule}
use Rattle.kb_term.specs.Signature.{Signature}
use Rattle.kb_term.specs.First.{IsFirst}
use Rattle.kb_lpo.specs.Precedences.{precedences}
use Rattle.kb_linear.specs.Interpretations.{choices}
use Rattle.kb_kbo.specs.KnuthBendix.{KboOrder, KboGreater}
use Rattle.std.specs.Prelude.{Option}

-- all weights from 1 to 3 of k symbols, in lexicographic order
abbrev pub weightings : ℕ → List (List ℕ)
weightings k = choices (replicate k (1 ∷ 2 ∷ 3 ∷ []))

-- all weights from 1 to 3 with a total precedence of k symbols, in lexicographic order of the weights, then of the precedence
abbrev pub orders_of : ℕ → List KboOrder
orders_of k = flat_map (λ (w : List ℕ). map (λ (p : List ℕ). record { weights = w; precedence = p }) (precedences k)) (weightings k)

-- the Knuth-Bendix orders that are tried: those of the signature's symbols where there are at most 8, else none
abbrev pub kbo_orders : Signature → List KboOrder
kbo_orders signature = cond (nat_le (length signature) 8) (orders_of (length signature)) []

-- the order makes left greater than right in each rule
abbrev pub KboOrients : KboOrder → List Rule → Type 0
KboOrients order rules = All (λ (rule : Rule). KboGreater order rule.left rule.right) rules

-- the earliest of the orders that are tried that orients the rules
abbrev pub IsFirstKbo : Signature → List Rule → Option KboOrder → Type 0
IsFirstKbo signature rules = IsFirst (λ order. KboOrients order rules) (kbo_orders signature)

-- start is one of the orders that are tried, and none before it orients the rules
abbrev pub IsLowerBound : Signature → List Rule → KboOrder → Type 0
IsLowerBound signature rules start =
    (before : List KboOrder) × (after : List KboOrder) × (kbo_orders signature ≡ before ++ start ∷ after) × All (λ order. ¬ KboOrients order rules) before
