-- The trace of the nodes that wanted ones reach through origins.
use Rattle.std.specs.Prelude.{ℕ, ◌≡◌, ◌+◌, ◌<◌, ◌↔◌, ◌⊎◌, Bool, false, IsTrue, List, [], ◌∷◌, length, get_or, AllPairs, Contains, Some, slice_get}
use Rattle.std.specs.List.{AllZip}
use Rattle.kb_term.specs.Pair.{Pair, place_in}
use Rattle.kb_term.specs.Proving.{IsPath}
use Rattle.kb_term.specs.declared.origin.Origin.{Origin}
use Rattle.kb_term.specs.declared.origin.Origin.TheVariants.{Input, Rewrite, Overlap}
use Rattle.kb_overlap.specs.Trace.{TraceStep}

-- the numbers of the pairs that an origin cites
abbrev pub cites : Origin → List ℕ
cites (Input i) = []
cites (Rewrite a w p b) = a ∷ b.node ∷ []
cites (Overlap a b p) = a.node ∷ b.node ∷ []

-- the node n, counted from 0, cites the node m
abbrev pub Cites : List (Pair × Origin) → ℕ → ℕ → Type 0
Cites nodes n m = (x : Pair × Origin) × (slice_get nodes n ≡ Some x) × Contains (cites x.1) m

-- each node cites nodes before it alone
abbrev pub CitesEarlier : List (Pair × Origin) → Type 0
CitesEarlier nodes = (n m : ℕ) → Cites nodes n m → m < n

-- the node is wanted, or a wanted one cites it through others
abbrev pub IsReached : List (Pair × Origin) → List ℕ → ℕ → Type 0
IsReached nodes wanted m = (w : ℕ) × Contains wanted w × (path : List ℕ) × IsPath (Cites nodes) path w m

-- the number from 1 that a node has among the listed ones
abbrev pub number_in : List ℕ → ℕ → ℕ
number_in kept n = place_in kept n + 1

-- the origin with other numbers for the pairs that it cites
abbrev pub with_numbers : (ℕ → ℕ) → Origin → Origin
with_numbers f (Input i) = Input i
with_numbers f (Rewrite a w p b) = Rewrite (f a) w p (record { node = f b.node; dir = b.dir })
with_numbers f (Overlap a b p) = Overlap (record { node = f a.node; dir = a.dir }) (record { node = f b.node; dir = b.dir }) p

-- the step is the node, cited nodes renumbered
abbrev pub IsStepOf : List (Pair × Origin) → List ℕ → ℕ → TraceStep → Type 0
IsStepOf nodes kept n s = (x : Pair × Origin) × (slice_get nodes n ≡ Some x) × (s.pair ≡ x.0) × (s.origin ≡ with_numbers (number_in kept) x.1)

-- the steps are the reached nodes, in node order
pub record IsTraceOf (nodes : List (Pair × Origin)) (wanted : List ℕ) (trace : List TraceStep) : Type 0 where
  pub kept : List ℕ
  pub in_order : AllPairs (λ m n. m < n) kept
  pub reached : (n : ℕ) → Contains kept n ↔ IsReached nodes wanted n
  pub steps : AllZip (IsStepOf nodes kept) kept trace

-- the marks are those of the reached nodes
pub record AreMarks (nodes : List (Pair × Origin)) (wanted : List ℕ) (marks : List Bool) : Type 0 where
  pub count : length marks ≡ length nodes
  pub reached : (n : ℕ) → IsTrue (get_or marks n false) ↔ IsReached nodes wanted n

-- the members with these numbers are marked besides
pub record HasMarked (ns : List ℕ) (old new : List Bool) : Type 0 where
  pub count : length new ≡ length old
  pub marked : (n : ℕ) → IsTrue (get_or new n false) ↔ (IsTrue (get_or old n false) ⊎ Contains ns n)
