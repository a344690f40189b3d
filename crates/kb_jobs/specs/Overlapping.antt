-- What an Overlap proposes, by what it reads.
use Rattle.std.specs.Prelude.{◌≡◌}
use Rattle.kb_node.specs.declared.job.Job.TheVariants.{Overlap}
use Rattle.mkb_model.specs.Proposals.{NamedRule, IsDeducing, IsLargeOverlap, IsPlainCause}
use Rattle.mkb_model.specs.declared.proposed.Proposed.{Proposed}
use Rattle.mkb_model.specs.declared.proposed.Proposed.TheVariants.{Deduce, Limit}
use Rattle.kb_jobs.specs.Groups.{IsOverlappable}
use Rattle.kb_jobs.specs.declared.overlapping.OverlapSnapshot.{OverlapSnapshot}

-- the first rule with its name
abbrev pub first_of : OverlapSnapshot → NamedRule
first_of s = record { ref = s.first; rule = s.first_rule }

-- the second rule with its name
abbrev pub second_of : OverlapSnapshot → NamedRule
second_of s = record { ref = s.second; rule = s.second_rule }

-- what an Overlap may read: rules of fewer than 64 variables, with at most 255 arguments of each symbol
pub record IsOverlapping (s : OverlapSnapshot) : Type 0 where
  pub first : IsOverlappable s.first_rule
  pub second : IsOverlappable s.second_rule

-- what an Overlap proposes: the pairs of the overlaps both ways, or the limit that the first of them passes that passes one
abbrev pub ProposesOverlap : OverlapSnapshot → Proposed → Type 0
ProposesOverlap s (Deduce a c pairs) = (a ≡ s.first) × (c ≡ s.second) × IsDeducing (first_of s) (second_of s) pairs
ProposesOverlap s (Limit j cause) = (j ≡ Overlap s.process s.first s.second) × IsPlainCause cause (λ r. IsLargeOverlap (first_of s) (second_of s) r)
ProposesOverlap s x = ⊥
