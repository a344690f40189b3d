-- What a Close proposes, by what it reads.
use Rattle.std.specs.Prelude.{ℕ, ◌≡◌, ◌≢◌, ◌⊎◌, List, [], ◌∷◌, ◌++◌, map, length, slice_get, Contains, true, false, Option, Some, None, Ok}
use Rattle.kb_term.specs.Tree.{Tree}
use Rattle.kb_term.specs.Rule.{Rule}
use Rattle.kb_term.specs.Pair.{Pair}
use Rattle.kb_term.specs.View.{tree_of}
use Rattle.kb_term.specs.declared.term.Term.{Term}
use Rattle.kb_overlap.specs.View.{sides_of}
use Rattle.kb_overlap.specs.declared.overlap.Overlap.{Overlap}
use Rattle.kb_rewrite.specs.NormalForm.{HoldVariables}
use Rattle.kb_label.specs.declared.verdict.Reason.{Reason}
use Rattle.kb_node.specs.declared.job.Job.TheVariants.{Close}
use Rattle.mkb_model.specs.Plain.{sides}
use Rattle.mkb_model.specs.Proposals.{NamedRule, NamedOverlap, all_ways, AllOverlaps, AreDeduced, FirstThat, Picks, HasForm, PassesFirst, HaveForms, IsFormed, IsJoined, IsUnjoined, IsStopped, IsClosed, IsUnjoining, IsOverlapStop, IsInputStop, IsPlainCause}
use Rattle.mkb_model.specs.declared.proposed.Proposed.{Proposed}
use Rattle.mkb_model.specs.declared.proposed.Proposed.TheVariants.{Unjoined, Closed, Limit}
use Rattle.kb_jobs.specs.Rules.{listed}
use Rattle.kb_jobs.specs.Groups.{IsOverlappable, AreGroupsOf}
use Rattle.kb_jobs.specs.declared.groups.Group.{Group}
use Rattle.kb_jobs.specs.declared.rules.NamedRules.{NamedRules}
use Rattle.kb_jobs.specs.declared.closing.CloseSnapshot.{CloseSnapshot}
use Rattle.kb_jobs.specs.declared.closing.Parting.{Parting}
use Rattle.kb_jobs.specs.declared.closing.Forms.{Forms}
use Rattle.kb_jobs.specs.declared.closing.Forms.TheVariants.{Both, Stop}

-- the equations, each as its two terms
abbrev pub equations_of : List Pair → List (Tree × Tree)
equations_of qs = map sides qs

-- the input equations, each as its two terms
abbrev pub inputs_of : CloseSnapshot → List (Tree × Tree)
inputs_of s = map (λ (e : Term × Term). (tree_of e.0, tree_of e.1)) s.inputs.items

-- each rule with each
abbrev pub all_pairs : NamedRules → List (NamedRule × NamedRule)
all_pairs rs = all_ways (listed rs)

-- as many names as rules, of fewer than 64 variables each, with at most 255 arguments of each symbol
pub record AreOverlappable (rs : NamedRules) : Type 0 where
  pub as_many : length rs.names.items ≡ length rs.rules
  pub each : (rule : Rule) → Contains rs.rules rule → IsOverlappable rule

-- what a Close may read: named rules whose left sides hold the variables of their right sides, of fewer than 64 variables each
pub record IsClosable (s : CloseSnapshot) : Type 0 where
  pub overlappable : AreOverlappable s.rules
  pub held : HoldVariables s.rules.rules

-- what a Close proposes: the pairs of the overlaps that don't join, that the process is closed, or a limit
abbrev pub ProposesClose : CloseSnapshot → Proposed → Type 0
ProposesClose s (Unjoined p pairs) = (p ≡ s.process) × IsUnjoining (listed s.rules) (equations_of s.equations.items) pairs
ProposesClose s (Closed p) = (p ≡ s.process) × IsClosed (listed s.rules) (equations_of s.equations.items) (inputs_of s)
ProposesClose s (Limit j cause) =
    (j ≡ Close s.process) × IsPlainCause cause (λ r. IsOverlapStop (listed s.rules) r ⊎ IsInputStop (listed s.rules) (equations_of s.equations.items) (inputs_of s) r)
ProposesClose s x = ⊥

-- ---- the parts of the work

-- the limit of this reason
abbrev pub IsStoppedClose : CloseSnapshot → Reason → Proposed → Type 0
IsStoppedClose s r x = x ≡ Limit (Close s.process) (record { redex = None; reason = r })

-- the overlap passes no limit, and these are its two terms
abbrev pub IsSides : Overlap → Tree → Tree → Type 0
IsSides o u v = sides_of o.sides ≡ Ok (u, v)

-- the normal forms of the two terms, or the first limit that normalising them passes
abbrev pub AreForms : List NamedRule → Tree → Tree → Forms → Type 0
AreForms rules s t (Both u v) = HasForm rules s (tree_of u) × HasForm rules t (tree_of v)
AreForms rules s t (Stop r) = PassesFirst rules (s, t) r

-- the groups of the rule with the number as outer, with each of the other list as inner, stand behind the old ones
abbrev pub AddsRow : List NamedRule → List NamedRule → ℕ → List Group → List Group → Type 0
AddsRow outers inners i old new =
    (x : NamedRule) (pairs : List (NamedRule × NamedRule)) → slice_get outers i ≡ Some x → AreGroupsOf pairs old → AreGroupsOf (pairs ++ map (λ y. (x, y)) inners) new

-- of these overlaps, both sides of which have normal forms, those that don't join are proposed
pub record IsSettled (s : CloseSnapshot) (os : List NamedOverlap) (seen : Parting) : Type 0 where
  pub formed : (o : NamedOverlap) → Contains os o → IsFormed (listed s.rules) o
  pub apart : List NamedOverlap
  pub picked : Picks (IsUnjoined (listed s.rules) (equations_of s.equations.items)) os apart
  pub proposed : AreDeduced seen.pairs.items apart
  pub joined : seen.any ≡ false → (o : NamedOverlap) → Contains os o → IsJoined (listed s.rules) (equations_of s.equations.items) o
  pub some : seen.any ≡ true → apart ≢ []

-- one more overlap is settled, or it passes this limit
abbrev pub Settles : CloseSnapshot → NamedOverlap → Parting → Parting → Option Reason → Type 0
Settles s o old new None = IsFormed (listed s.rules) o × ((before : List NamedOverlap) → IsSettled s before old → IsSettled s (before ++ o ∷ []) new)
Settles s o old new (Some r) = IsStopped (listed s.rules) r o

-- these overlaps are settled, or the first of them that passes a limit passes this one
abbrev pub SettlesGroup : CloseSnapshot → List NamedOverlap → Parting → Parting → Option Reason → Type 0
SettlesGroup s os old new None = (before : List NamedOverlap) → IsSettled s before old → IsSettled s (before ++ os) new
SettlesGroup s os old new (Some r) = FirstThat (IsFormed (listed s.rules)) (IsStopped (listed s.rules) r) os

-- all overlaps of the rules are settled
abbrev pub IsAllSettled : CloseSnapshot → Parting → Type 0
IsAllSettled s seen = (os : List NamedOverlap) × AllOverlaps (listed s.rules) os × IsSettled s os seen

-- the input equations have normal forms, or normalising them in order passes this limit first
abbrev pub LimitsInputs : CloseSnapshot → Option Reason → Type 0
LimitsInputs s None = (e : Tree × Tree) → Contains (inputs_of s) e → HaveForms (listed s.rules) e
LimitsInputs s (Some r) = FirstThat (HaveForms (listed s.rules)) (λ e. PassesFirst (listed s.rules) e r) (inputs_of s)
