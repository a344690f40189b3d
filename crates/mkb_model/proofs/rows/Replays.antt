-- Running the definitions: a worker takes the first job and finishes it with a given proposal.
use Rattle.std.specs.Prelude.{ℕ, ◌+◌, List, [], ◌∷◌, if◌then◌else◌}
use Rattle.std.specs.declared.option.Option.{Option}
use Rattle.std.specs.declared.option.Option.TheVariants.{Some, None}
use Rattle.mkb_model.specs.Plain.{Plain}
use Rattle.mkb_model.specs.DueJobs.{first_job}
use Rattle.mkb_model.specs.Effects.{effect, is_dropped}
use Rattle.mkb_model.specs.Journals.{in_flight, landed}
use Rattle.kb_node.specs.declared.job.Job.{Job}
use Rattle.mkb_model.specs.declared.proposed.Proposed.{Proposed}

-- ticket t of worker 1 takes the first job
abbrev pub take : ℕ → Plain → Plain
take t b = taken (first_job b)
  where
    taken : Option Job → Plain
    taken None = b
    taken (Some j) = in_flight 1 t j b

-- ticket t ends with the proposal
abbrev pub finish : ℕ → Proposed → Plain → Plain
finish t x b = landed t (if is_dropped b x then b else effect b x)

-- ticket t takes the first job, and commits the proposal
abbrev pub turn : ℕ → Proposed → Plain → Plain
turn t x b = finish t x (take t b)

-- the board after all these proposals, one after the other, the first ticket being number t
abbrev pub turns : ℕ → List Proposed → Plain → Plain
turns t [] b = b
turns t (x ∷ xs) b = turns (t + 1) xs (turn t x b)

-- the first job before each of these proposals, and the one after all of them
abbrev pub first_jobs : ℕ → List Proposed → Plain → List (Option Job)
first_jobs t [] b = first_job b ∷ []
first_jobs t (x ∷ xs) b = first_job b ∷ first_jobs (t + 1) xs (turn t x b)
