-- All total precedences of so many symbols, and the first one that orients given rules.
use Rattle.std.specs.Prelude.{ℕ, zero, suc, not, ◌==◌, ◌≡◌, List, [], ◌∷◌, ◌++◌, map, filter, All}
use Rattle.std.specs.List.{flat_map, range_with_len}
use Rattle.kb_term.specs.Rule.{Rule}
use Rattle.kb_lpo.specs.PathOrder.{LpoGreater}

-- the lists of n different members, in lexicographic order of where their members stand
abbrev pub arrangements : ℕ → List ℕ → List (List ℕ)
arrangements zero xs = [] ∷ []
arrangements (suc n) xs = flat_map (λ x. map (x ∷◌) (arrangements n (filter (λ y. not (y == x)) xs))) xs

-- all total precedences of k symbols, in lexicographic order
abbrev pub precedences : ℕ → List (List ℕ)
precedences k = arrangements k (range_with_len 0 k)

-- the precedence makes left greater than right in each rule
abbrev pub LpoOrients : List ℕ → List Rule → Type 0
LpoOrients prec rules = All (λ (rule : Rule). LpoGreater prec rule.left rule.right) rules

-- start is one of the precedences of so many symbols, and none before it orients the rules
abbrev pub IsLowerBound : ℕ → List Rule → List ℕ → Type 0
IsLowerBound count rules start = (before : List (List ℕ)) × (after : List (List ℕ)) × (precedences count ≡ before ++ start ∷ after) × All (λ prec. ¬ LpoOrients prec rules) before
