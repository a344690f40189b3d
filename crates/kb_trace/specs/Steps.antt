-- Steps of a trace, and the first that isn't right.
use Rattle.std.specs.Prelude.{ℕ, ◌≡◌, ◌+◌, List, ◌∷◌, ◌++◌, map, length, All, Option, Some, None, Result, Ok, Err}
use Rattle.kb_term.specs.Tree.{Tree}
use Rattle.kb_term.specs.Pair.{Pair, IsWithin, ArePairWithin}
use Rattle.kb_term.specs.Rule.{Rule, IsRuleBelow, rule_of}
use Rattle.kb_term.specs.Proving.{RewritesAt}
use Rattle.kb_term.specs.View.{tree_of}
use Rattle.kb_term.specs.declared.term.Term.{Term}
use Rattle.kb_term.specs.declared.limit.Limit.{Limit}
use Rattle.kb_overlap.specs.Overlap.{IsOverlapOrLimit}
use Rattle.kb_overlap.specs.Trace.{TraceStep, item, IsRightOrigin, IsRightTrace}
use Rattle.kb_term.specs.declared.limits.TheConstants.{MAX_VARIABLES}

-- the pairs of the steps
abbrev pub pairs_of : List TraceStep → List Pair
pairs_of trace = map (λ (s : TraceStep). s.pair) trace

-- the pair of each step passes no limit
abbrev pub ArePairsWithin : List TraceStep → Type 0
ArePairsWithin trace = All (λ (s : TraceStep). ArePairWithin s.pair.first s.pair.second) trace

-- the step with the number n, from 1, isn't right, and those before it are
pub record IsFirstBadStep (equations : List (Tree × Tree)) (trace : List TraceStep) (n : ℕ) : Type 0 where
  pub before : List TraceStep
  pub step : TraceStep
  pub after : List TraceStep
  pub parts : trace ≡ before ++ step ∷ after
  pub number : n ≡ length before + 1
  pub right_before : IsRightTrace equations before
  pub not_right : ¬ IsRightOrigin equations (item (pairs_of before)) step.origin step.pair

-- the one term to which the rule rewrites t at p; none where it rewrites t there to no term within the limits
abbrev pub IsRewritten : Rule → List ℕ → Tree → Option Term → Type 0
IsRewritten rule p t None = (v : Tree) → RewritesAt rule p t v → ¬ IsWithin v
IsRewritten rule p t (Some u) = RewritesAt rule p t (tree_of u) × ((v : Tree) → RewritesAt rule p t v → v ≡ tree_of u)

-- the critical pair of the rules at p; none where they have none there that passes no limit
abbrev pub IsOverlapped : Rule → Rule → List ℕ → Option (Term × Term) → Type 0
IsOverlapped outer inner p None = (s t : Tree) → ¬ IsOverlapOrLimit outer inner (record { position = p; sides = Ok (s, t) })
IsOverlapped outer inner p (Some e) = IsOverlapOrLimit outer inner (record { position = p; sides = Ok (tree_of e.0, tree_of e.1) })

-- the two terms; none where there is a limit in their place
abbrev pub IsPairWithin : Result (Tree × Tree) Limit → Option (Term × Term) → Type 0
IsPairWithin sides (Some e) = sides ≡ Ok (tree_of e.0, tree_of e.1)
IsPairWithin sides None = (limit : Limit) × (sides ≡ Err limit)

-- the rule of the pair in the direction, with variables below 64; none where there is no pair
abbrev pub IsCitedRule : Option Pair → ℕ → Option Rule → Type 0
IsCitedRule None d None = Unit {0}
IsCitedRule None d (Some rule) = ⊥
IsCitedRule (Some e) d None = ⊥
IsCitedRule (Some e) d (Some rule) = (rule ≡ rule_of e d) × IsRuleBelow MAX_VARIABLES rule
