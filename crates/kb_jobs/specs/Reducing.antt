-- What a Reduce proposes, by what it reads.
use Rattle.std.specs.Prelude.{ℕ, zero, suc, ◌≡◌, ◌<◌, ◌≤◌, ◌^◌, List, [], ◌∷◌, map, length, Bool, true, false, All, Some, slice_get}
use Rattle.std.specs.Option.{option_map_or}
use Rattle.kb_term.specs.FewArguments.{HasFewArguments}
use Rattle.kb_term.specs.Rule.{Rule}
use Rattle.kb_term.specs.View.{tree_of}
use Rattle.kb_term.specs.declared.origin.RuleRef.{RuleRef}
use Rattle.kb_term.specs.declared.origin.Found.{Found}
use Rattle.kb_term.specs.declared.origin.Found.TheVariants.{No, Variant, Strict}
use Rattle.kb_overlap.specs.Trace.{side}
use Rattle.kb_rewrite.specs.NormalForm.{IsFound}
use Rattle.kb_node.specs.declared.job.Fact.{Fact}
use Rattle.kb_node.specs.declared.job.Job.TheVariants.{Reduce}
use Rattle.mkb_model.specs.Proposals.{IsRewriting, IsLargeRewriting, AreMissingFacts}
use Rattle.mkb_model.specs.declared.proposed.Proposed.{Proposed}
use Rattle.mkb_model.specs.declared.proposed.Proposed.TheVariants.{Facts, Rewrite, Limit}
use Rattle.kb_jobs.specs.Rules.{listed, AreNamed}
use Rattle.kb_jobs.specs.declared.reducing.ReduceSnapshot.{ReduceSnapshot}

-- any redex on the side may be rewritten
abbrev pub is_any : ReduceSnapshot → ℕ → Bool
is_any s zero = s.any_first
is_any s (suc w) = s.any_second

-- the redexes that may be rewritten: strict ones, and others where any may be
abbrev pub usable : ReduceSnapshot → ℕ → Found → Bool
usable s w No = false
usable s w Variant = is_any s w
usable s w Strict = true

-- a rule that stands for a number where there is none
abbrev pub no_name : RuleRef
no_name = record { node = 0; dir = 0 }

-- the name of the rule with the number
abbrev pub name_at : ReduceSnapshot → ℕ → RuleRef
name_at s n = option_map_or (λ a. a) (slice_get s.rules.names.items n) no_name

-- the sides and the rules of which nothing is known
abbrev pub unknown_of : ReduceSnapshot → List (ℕ × RuleRef)
unknown_of s = map (λ (u : ℕ × ℕ). (u.0, name_at s u.1)) s.unknown.items

-- what a Reduce may read: named rules, fewer than 2^32, and terms with at most 255 arguments of each symbol; what is unknown names sides and rules that are there
pub record IsReducible (s : ReduceSnapshot) : Type 0 where
  pub rules : AreNamed s.rules
  pub few : length s.rules.rules < 2 ^ 32
  pub first : HasFewArguments s.pair.first
  pub second : HasFewArguments s.pair.second
  pub unknown : All (λ (u : ℕ × ℕ). (u.0 ≤ 1) × (u.1 < length s.rules.rules)) s.unknown.items

-- the fact says what the rule with the number can do to the side
pub record IsFactAt (s : ReduceSnapshot) (u : ℕ × ℕ) (f : Fact) : Type 0 where
  pub node : f.node ≡ s.node
  pub side_is : f.side ≡ u.0
  pub name : f.rule ≡ name_at s u.1
  pub rule : Rule
  pub there : slice_get s.rules.rules u.1 ≡ Some rule
  pub found : IsFound (side s.pair u.0) rule f.found

-- one such fact for each
abbrev pub AreFactsAt : ReduceSnapshot → List (ℕ × ℕ) → List Fact → Type 0
AreFactsAt s [] fs = fs ≡ []
AreFactsAt s (u ∷ us) fs = (f : Fact) × (rest : List Fact) × (fs ≡ f ∷ rest) × IsFactAt s u f × AreFactsAt s us rest

-- what a Reduce proposes: its first redex that may be rewritten with the result, or with the limit that this passes; or what wasn't known
abbrev pub ProposesReduce : ReduceSnapshot → Proposed → Type 0
ProposesReduce s (Facts fs) = AreMissingFacts (listed s.rules) s.pair (usable s) s.node.0 (unknown_of s) fs
ProposesReduce s (Rewrite m w at a kind t) = (m ≡ s.node) × IsRewriting (listed s.rules) s.pair (usable s) w at a kind (tree_of t)
ProposesReduce s (Limit j cause) = (j ≡ Reduce s.process s.node) × IsLargeRewriting (listed s.rules) s.pair (usable s) cause
ProposesReduce s x = ⊥
