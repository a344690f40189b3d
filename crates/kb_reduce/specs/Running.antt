-- What the private calls answer.
use Rattle.std.specs.Prelude.{ℕ, ◌≡◌, List, ◌++◌, length}
use Rattle.kb_term.specs.Rule.{Rule}
use Rattle.kb_rewrite.specs.NormalForm.{Normalised, NormalisesTo, form, long, large}
use Rattle.kb_overlap.specs.Trace.{TraceStep}
use Rattle.kb_checker.specs.Answers.{rules_of}
use Rattle.kb_reduce.specs.Reducing.{IsComposed}
use Rattle.kb_reduce.specs.Telling.{IsLimitWhy}
use Rattle.kb_reduce.specs.declared.reduction.Why.{Why}
use Rattle.kb_reduce.specs.declared.reduction.Why.TheVariants.{Steps}
use Rattle.kb_reduce.specs.declared.composing.Composed.{Composed}
use Rattle.kb_reduce.specs.declared.composing.Composed.TheVariants.{Rule as composed, Passed}

-- the steps begin with the trace
abbrev pub IsBehind : List TraceStep → List TraceStep → Type 0
IsBehind trace steps = (more : List TraceStep) × (steps ≡ trace ++ more)

-- normalising so passes this limit
abbrev pub PassesWhy : Normalised → Why → Type 0
PassesWhy (form t n) why = ⊥
PassesWhy (long n) why = why ≡ Steps
PassesWhy (large limit) why = IsLimitWhy limit why

-- the rule is composed behind the old steps by what the new ones have more, or its right side passes a limit
abbrev pub IsComposing : List (Rule × ℕ) → Rule × ℕ → List TraceStep → List TraceStep → Composed → Type 0
IsComposing rules r old new (composed rule k) = (more : List TraceStep) × (new ≡ old ++ more) × IsComposed rules (length old) r more (rule, k)
IsComposing rules r old new (Passed why) = (x : Normalised) × NormalisesTo (rules_of rules) r.0.right x × PassesWhy x why
