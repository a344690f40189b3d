-- The linear interpretations that are tried, and the first one that orients given rules.
use Rattle.std.specs.Prelude.{ℕ, ◌+◌, ◌*◌, ◌^◌, cond, nat_le, List, [], ◌∷◌, ◌++◌, ◌≡◌, map, length, replicate, sum_by, All, Option, Some, None}
use Rattle.std.specs.List.{flat_map, range_with_len}
use Rattle.kb_term.specs.Rule.{Rule}
use Rattle.kb_term.specs.Signature.{Signature, SymbolEntry}
use Rattle.kb_linear.specs.LinearOrder.{LinearGreater, Interpretation}

-- the lists with one member of each list, in lexicographic order
abbrev pub choices : {X : Type 0} → List (List X) → List (List X)
choices [] = [] ∷ []
choices (xs ∷ xss) = flat_map (λ x. map (x ∷◌) (choices xss)) xs

-- what a symbol of n arguments may have: a constant from 0 to top and coefficients from 1 to 2
abbrev pub rows : ℕ → ℕ → List (ℕ × List ℕ)
rows top n = flat_map (λ c. map (λ cs. (c, cs)) (choices (replicate n (1 ∷ 2 ∷ [])))) (range_with_len 0 (top + 1))

-- all linear interpretations with coefficients 1 to 2 and constants 0 to top, in lexicographic order of their numbers
abbrev pub interpretations_to : Signature → ℕ → List Interpretation
interpretations_to signature top = choices (map (λ (f : SymbolEntry). rows top f.arity) signature)

-- the greatest constant that is tried: 3 where this gives at most 65536 interpretations, else 1 where this does, else none
abbrev pub top_constant : Signature → Option ℕ
top_constant signature =
    let k = length signature in
    let a = sum_by (λ (f : SymbolEntry). f.arity) signature in
    cond (nat_le (4 ^ k * 2 ^ a) 65536) (Some 3) (cond (nat_le (2 ^ (k + a)) 65536) (Some 1) None)

-- those up to the greatest constant, where there is one
abbrev pub interpretations_up_to : Signature → Option ℕ → List Interpretation
interpretations_up_to signature None = []
interpretations_up_to signature (Some top) = interpretations_to signature top

-- the linear interpretations that are tried
abbrev pub interpretations : Signature → List Interpretation
interpretations signature = interpretations_up_to signature (top_constant signature)

-- the interpretation makes left greater than right in each rule
abbrev pub LinearOrients : Interpretation → List Rule → Type 0
LinearOrients i rules = All (λ (rule : Rule). LinearGreater i rule.left rule.right) rules

-- start is one of the interpretations that are tried, and none before it orients the rules
abbrev pub IsLowerBound : Signature → List Rule → Interpretation → Type 0
IsLowerBound signature rules start =
    (before : List Interpretation) × (after : List Interpretation) × (interpretations signature ≡ before ++ start ∷ after) × All (λ i. ¬ LinearOrients i rules) before
