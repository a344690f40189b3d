-- What the threads made of the tickets of a round.
use Rattle.std.specs.Prelude.{ℕ, List, ◌≡◌, All, IfOk, Some, slice_get}
use Rattle.kb_jobs.specs.Working.{IsReadable, ProposesBy}
use Rattle.work_crew.specs.declared.shared.Assignment.{Assignment}
use Rattle.mkb_rounds.specs.declared.stealing.Outcome.{Outcome}

-- each job may read its snapshot
abbrev pub AreReadable : List Assignment → Type 0
AreReadable round = All (λ (a : Assignment). IsReadable a.snapshot) round

-- each outcome that names a ticket of the round is what its job proposes, unless there was no memory
abbrev pub AreRight : List Assignment → List Outcome → Type 0
AreRight round outcomes = All (λ (o : Outcome). (a : Assignment) → slice_get round o.place ≡ Some a → IfOk o.worked (ProposesBy a.snapshot)) outcomes
