-- The overlaps of two rules with their names, as a list that the code makes.
use Rattle.std.specs.Prelude.{ℕ, ◌≤◌, ◌≡◌, List, [], ◌∷◌, ◌++◌, map, length, Contains, Option, Some, None, Ok}
use Rattle.std.specs.List.{flat_map}
use Rattle.kb_term.specs.Tree.{Tree}
use Rattle.kb_term.specs.Rule.{Rule}
use Rattle.kb_term.specs.Pair.{Pair, variables_of_pair}
use Rattle.kb_term.specs.FewArguments.{HasFewArguments}
use Rattle.kb_term.specs.declared.origin.RuleRef.{RuleRef}
use Rattle.kb_overlap.specs.Found.{AreVariablesBelow}
use Rattle.kb_overlap.specs.View.{overlap_of}
use Rattle.kb_overlap.specs.declared.overlap.Overlap.{Overlap}
use Rattle.kb_node.specs.declared.job.Deduced.{Deduced}
use Rattle.mkb_model.specs.Proposals.{NamedRule, NamedOverlap, OverlapsOf, deduced_pair, own_limit, FirstThat}
use Rattle.kb_label.specs.declared.verdict.Reason.{Reason}
use Rattle.kb_jobs.specs.declared.groups.Group.{Group}
use Rattle.kb_term.specs.declared.limits.TheConstants.{MAX_VARIABLES}

-- a rule of fewer than 64 variables, with at most 255 arguments of each symbol on its left side
pub record IsOverlappable (rule : Rule) : Type 0 where
  pub variables : AreVariablesBelow MAX_VARIABLES rule
  pub arguments : HasFewArguments rule.left

-- an overlap of the group with the names of its rules
abbrev pub named_overlap : Group → Overlap → NamedOverlap
named_overlap g o = record { outer = g.outer; inner = g.inner; overlap = overlap_of o }

-- the overlaps of the group
abbrev pub overlaps_in : Group → List NamedOverlap
overlaps_in g = map (named_overlap g) g.overlaps.items

-- the group holds the overlaps of the first rule as outer with the second as inner
abbrev pub IsGroupOf : RuleRef → Rule → RuleRef → Rule → Group → Type 0
IsGroupOf a x c y g = OverlapsOf (record { ref = a; rule = x }) (record { ref = c; rule = y }) (overlaps_in g)

-- both terms have at most 64 variables together
abbrev pub AreFew : Tree → Tree → Type 0
AreFew s t = length (variables_of_pair s t) ≤ MAX_VARIABLES

-- a pair with its origin
abbrev pub origin_of : Deduced → RuleRef × RuleRef × List ℕ × Pair
origin_of d = (d.outer, d.inner, d.position, d.pair)

-- the new list has the pair of the two terms behind the old one, with the overlap as its origin, where it is not trivial
abbrev pub AddsPair : Group → Overlap → Tree → Tree → List Deduced → List Deduced → Type 0
AddsPair g o s t old new = map origin_of new ≡ map origin_of old ++ deduced_pair (named_overlap g o) (Ok (s, t))

-- the new list has the pairs of the overlaps behind the old one
abbrev pub AddsPairs : List NamedOverlap → List Deduced → List Deduced → Type 0
AddsPairs os old new = map origin_of new ≡ map origin_of old ++ flat_map (λ (o : NamedOverlap). deduced_pair o o.overlap.sides) os

-- the group holds the overlaps of some two rules
abbrev pub IsGroup : Group → Type 0
IsGroup g = (x : NamedRule) × (y : NamedRule) × OverlapsOf x y (overlaps_in g)

-- one group for each pair of rules, in order
abbrev pub AreGroupsOf : List (NamedRule × NamedRule) → List Group → Type 0
AreGroupsOf [] gs = gs ≡ []
AreGroupsOf (x ∷ xs) gs = (g : Group) × (rest : List Group) × (gs ≡ g ∷ rest) × OverlapsOf x.0 x.1 (overlaps_in g) × AreGroupsOf xs rest

-- no overlap passes a limit, and the pairs are added; or the first overlap that passes one passes this one
abbrev pub DeducesGroup : List NamedOverlap → List Deduced → List Deduced → Option Reason → Type 0
DeducesGroup os old new None = ((o : NamedOverlap) → Contains os o → own_limit o.overlap.sides ≡ None) × AddsPairs os old new
DeducesGroup os old new (Some r) = FirstThat (λ (o : NamedOverlap). own_limit o.overlap.sides ≡ None) (λ (o : NamedOverlap). own_limit o.overlap.sides ≡ Some r) os
