-- What is told of an answer that is to be reduced.
use Rattle.std.specs.Prelude.{ℕ, ◌+◌, ◌≤◌, ◌<◌, ◌≡◌, List, ◌∷◌, ◌++◌, length}
use Rattle.kb_term.specs.Rule.{Rule}
use Rattle.kb_term.specs.declared.limit.Limit.{Limit}
use Rattle.kb_term.specs.declared.limit.Limit.TheVariants as limits
use Rattle.kb_rewrite.specs.NormalForm.{Normalised, NormalisesTo, form, long, large}
use Rattle.kb_overlap.specs.Trace.{TraceStep}
use Rattle.kb_checker.specs.Answers.{Answer, rules_of}
use Rattle.kb_checker.specs.Verdicts.{IsAccepted, IsRejected}
use Rattle.kb_reduce.specs.Reducing.{AreComposed, IsReduced}
use Rattle.kb_reduce.specs.declared.reduction.Why.{Why}
use Rattle.kb_reduce.specs.declared.reduction.Why.TheVariants.{Steps, Size, Depth, Trace}
use Rattle.kb_reduce.specs.declared.reduction.Reduction.{Reduction}
use Rattle.kb_reduce.specs.declared.reduction.Reduction.TheVariants.{Reduced, Rejected, Unreduced}
use Rattle.kb_term.specs.declared.limits.TheConstants.{MAX_NODES}

-- the limit is one of size or depth, and this names it
abbrev pub IsLimitWhy : Limit → Why → Type 0
IsLimitWhy limits.Size why = why ≡ Size
IsLimitWhy limits.Depth why = why ≡ Depth
IsLimitWhy limits.Variables why = ⊥

-- why a right side that normalises so isn't reduced behind n steps of a trace: normalising passes a limit, or else its steps are too many for the trace
abbrev pub IsWhy : ℕ → Normalised → Why → Type 0
IsWhy n (form t m) why = (MAX_NODES < n + m) × (why ≡ Trace)
IsWhy n (long m) why = why ≡ Steps
IsWhy n (large limit) why = IsLimitWhy limit why

-- the rules before the one with the number n, from 1, are composed within the limits, and this one isn't
pub record IsUnreduced (a : Answer) (why : Why) (n : ℕ) : Type 0 where
  pub before : List (Rule × ℕ)
  pub rule : Rule × ℕ
  pub after : List (Rule × ℕ)
  pub parts : a.rules ≡ before ++ rule ∷ after
  pub number : n ≡ length before + 1
  pub steps : List TraceStep
  pub composed : List (Rule × ℕ)
  pub are_composed : AreComposed a.rules (length a.trace) before steps composed
  pub room : length a.trace + length steps ≤ MAX_NODES
  pub answer : Normalised
  pub normalises : NormalisesTo (rules_of a.rules) rule.0.right answer
  pub reason : IsWhy (length a.trace + length steps) answer why

-- what is told: the answer with a reduced system, the first item that the check of the answer rejects, or the first rule that passes a limit
abbrev pub IsReduction : Answer → Reduction → Type 0
IsReduction a (Reduced b) = IsAccepted a × IsReduced a b
IsReduction a (Rejected reason n) = IsRejected a reason n
IsReduction a (Unreduced why n) = IsAccepted a × IsUnreduced a why n
