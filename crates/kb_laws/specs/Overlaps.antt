-- Rules whose overlaps are joinable.
use Rattle.std.specs.Prelude.{ℕ, ◌≡◌, ◌==◌, List, Contains, Some, Ok, slice_get}
use Rattle.kb_term.specs.Tree.{Tree}
use Rattle.kb_term.specs.Rule.{Rule}
use Rattle.kb_term.specs.Proving.{IsJoinable}
use Rattle.kb_overlap.specs.Overlap.{Overlap, IsOverlapList}
use Rattle.kb_rewrite.specs.NormalForm.{NormalisesTo, form}

-- the overlaps of every two rules of the list pass no limit, and the terms of each have the property
abbrev pub OverlapsHave : (Tree → Tree → Type 0) → List Rule → Type 0
OverlapsHave P rules = (i j : ℕ) (outer inner : Rule) → slice_get rules i ≡ Some outer → slice_get rules j ≡ Some inner
    → (os : List Overlap) × IsOverlapList outer inner (i == j) os × ((o : Overlap) → Contains os o → (s : Tree) × (t : Tree) × (o.sides ≡ Ok (s, t)) × P s t)

-- all overlaps are joinable
abbrev pub OverlapsJoin : List Rule → Type 0
OverlapsJoin rules = OverlapsHave (IsJoinable rules) rules

-- both terms normalise to one
abbrev pub HaveOneNormalForm : List Rule → Tree → Tree → Type 0
HaveOneNormalForm rules s t = (u : Tree) × (m : ℕ) × (n : ℕ) × NormalisesTo rules s (form u m) × NormalisesTo rules t (form u n)

-- the terms of each overlap normalise to one
abbrev pub OverlapsClose : List Rule → Type 0
OverlapsClose rules = OverlapsHave (HaveOneNormalForm rules) rules
