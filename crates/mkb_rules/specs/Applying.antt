-- What a call that applies an effect answers.
use Rattle.std.specs.Prelude.{◌≡◌, ◌<◌, Option, Some, None, Result, Ok, Err}
use Rattle.kb_label.specs.declared.verdict.Reason.{Reason}
use Rattle.mkb_model.specs.Plain.{Plain}
use Rattle.mkb_model.specs.Effects.{acted, limit_of}
use Rattle.mkb_model.specs.declared.proposed.Proposed.{Proposed}
use Rattle.kb_term.specs.declared.memory.Memory.{Memory}
use Rattle.mkb_rules.specs.declared.applied.Applied.{Applied}
use Rattle.mkb_rules.specs.declared.applied.Committed.{Committed}
use Rattle.mkb_rules.specs.declared.applied.Applied.TheVariants.{Done, Over}

-- the effect was made, or processes gave up for this reason
abbrev pub applied_as : Option Reason → Applied
applied_as None = Done
applied_as (Some r) = Over r

-- there is budget for one commit more
abbrev pub HasBudget : Plain → Type 0
HasBudget b = b.commits < b.settings.budget

-- the new board is what the commit of the proposal itself makes, before any process falls asleep or wakes, and the answer tells the limit that it met
abbrev pub Commits : Plain → Proposed → Plain → Applied → Type 0
Commits b x c answer = (c ≡ acted b x) × (answer ≡ applied_as (limit_of b x))

-- the answer of a commit that leads to no node
abbrev pub untargeted : Result Applied Memory → Result Committed Memory
untargeted (Ok a) = Ok (record { applied = a; target = None })
untargeted (Err e) = Err e
