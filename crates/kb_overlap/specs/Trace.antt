-- Traces: how each pair follows from the equations and earlier pairs.
use Rattle.std.specs.Prelude.{ℕ, zero, suc, ◌≡◌, ◌≤◌, List, [], ◌∷◌, ◌++◌, map, Option, Some, None, slice_get, Ok, ⊤}
use Rattle.kb_term.specs.Tree.{Tree}
use Rattle.kb_term.specs.Pair.{Pair, canonical_pair}
use Rattle.kb_term.specs.Rule.{Rule, IsRule, rule_of, pair_of_rule}
use Rattle.kb_term.specs.Proving.{RewritesAt}
use Rattle.kb_overlap.specs.Overlap.{IsOverlapOrLimit}
use Rattle.kb_term.specs.declared.origin.Origin.{Origin}
use Rattle.kb_term.specs.declared.origin.Origin.TheVariants.{Input, Rewrite, Overlap}

-- a pair and where it comes from
pub record TraceStep : Type 0 where
  pub origin : Origin
  pub pair : Pair

-- the member with a number, counted from 1
abbrev pub item : {X : Type 0} → List X → ℕ → Option X
item xs zero = None
item xs (suc i) = slice_get xs i

-- side 0 is the first term, side 1 the second
abbrev pub side : Pair → ℕ → Tree
side e zero = e.first
side e (suc w) = e.second

abbrev pub other_side : Pair → ℕ → Tree
other_side e zero = e.second
other_side e (suc w) = e.first

-- the equation is there, isn't trivial, and its canonical pair is the pair
abbrev pub IsRightInput : List (Tree × Tree) → ℕ → Pair → Type 0
IsRightInput equations i pair = (e : Tree × Tree) × (item equations i ≡ Some e) × (canonical_pair e.0 e.1 ≡ Some pair)

-- the rule rewrites a side of the old pair at the position, and the new side with the other one has the pair as its canonical pair
pub record IsRightRewrite (old : Pair) (w : ℕ) (p : List ℕ) (rule : Rule) (pair : Pair) : Type 0 where
  pub is_rule : IsRule rule
  pub result : Tree
  pub rewrites : RewritesAt rule p (side old w) result
  pub canonical : canonical_pair result (other_side old w) ≡ Some pair

-- both are rules, they overlap at the position without passing a limit, and the overlap's canonical pair is the pair
pub record IsRightOverlap (outer inner : Rule) (p : List ℕ) (pair : Pair) : Type 0 where
  pub outer_rule : IsRule outer
  pub inner_rule : IsRule inner
  pub s : Tree
  pub t : Tree
  pub overlap : IsOverlapOrLimit outer inner (record { position = p; sides = Ok (s, t) })
  pub canonical : canonical_pair s t ≡ Some pair

-- the sides and directions that the origin names are 0 or 1
abbrev pub IsOriginOfForm : Origin → Type 0
IsOriginOfForm (Input i) = ⊤
IsOriginOfForm (Rewrite n w p r) = (w ≤ 1) × (r.dir ≤ 1)
IsOriginOfForm (Overlap a b p) = (a.dir ≤ 1) × (b.dir ≤ 1)

-- the pair follows from the equations and the pairs that `earlier` gives by number, in the way that the origin says
abbrev pub FollowsBy : List (Tree × Tree) → (ℕ → Option Pair) → Origin → Pair → Type 0
FollowsBy equations earlier (Input i) pair = IsRightInput equations i pair
FollowsBy equations earlier (Rewrite a w p b) pair =
    (old : Pair) × (by : Pair) × (earlier a ≡ Some old) × (earlier b.node ≡ Some by) × IsRightRewrite old w p (rule_of by b.dir) pair
FollowsBy equations earlier (Overlap a b p) pair =
    (outer : Pair) × (inner : Pair) × (earlier a.node ≡ Some outer) × (earlier b.node ≡ Some inner) × IsRightOverlap (rule_of outer a.dir) (rule_of inner b.dir) p pair

-- the origin is of the form, and the pair follows as it says
abbrev pub IsRightOrigin : List (Tree × Tree) → (ℕ → Option Pair) → Origin → Pair → Type 0
IsRightOrigin equations earlier origin pair = IsOriginOfForm origin × FollowsBy equations earlier origin pair

-- each step of the rest is right, given the pairs of the steps before it; they are cited by their numbers from 1
abbrev pub IsRightAfter : List (Tree × Tree) → List Pair → List TraceStep → Type 0
IsRightAfter equations before [] = ⊤
IsRightAfter equations before (step ∷ rest) = IsRightOrigin equations (item before) step.origin step.pair × IsRightAfter equations (before ++ step.pair ∷ []) rest

-- each step is right: it cites equations, or steps before it
abbrev pub IsRightTrace : List (Tree × Tree) → List TraceStep → Type 0
IsRightTrace equations trace = IsRightAfter equations [] trace

-- the step with the number k has the canonical pair of the rule
abbrev pub IsTracedBy : List TraceStep → ℕ → Rule → Type 0
IsTracedBy trace k rule = item (map (λ (s : TraceStep). s.pair) trace) k ≡ Some (pair_of_rule rule)
