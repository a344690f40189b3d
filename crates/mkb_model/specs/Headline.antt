-- Whatever the order of the entries, the views of each living process are a completion run of that process alone.
use Rattle.std.specs.Prelude.{ℕ, ◌≤◌, List, [], ◌∷◌, ◌++◌, ◌≡◌, IsTrue, Contains}
use Rattle.std.specs.declared.option.Option.TheVariants.{Some}
use Rattle.kb_term.specs.Signature.{Problem, IsWithinLimits}
use Rattle.kb_laws.specs.Completion.{KbState, IsKbRun}
use Rattle.kb_label.specs.Names.{Name, has}
use Rattle.mkb_model.specs.Plain.{Plain, state_of, ancestor}
use Rattle.mkb_model.specs.Verdicts.{verdict}
use Rattle.mkb_model.specs.Journals.{Moment, IsRun, journal_of}
use Rattle.kb_label.specs.declared.verdict.Verdict.{Verdict}
use Rattle.kb_node.specs.declared.job.Job.{Job}
use Rattle.mkb_model.specs.declared.entry.Entry.{Entry}
use Rattle.mkb_model.specs.declared.entry.Entry.TheVariants.{Take}
use Rattle.mkb_model.specs.declared.settings.Settings.{Settings}

-- the state of p on a board, or of the process there whose forks led to p
abbrev pub past_state : Name → Plain → KbState
past_state p b = state_of b (ancestor b p)

-- the states of p and its ancestors before each entry, in order
abbrev pub states_before : List Moment → Name → List KbState
states_before [] p = []
states_before (m ∷ ms) p = states_before ms p ++ past_state p m.board ∷ []

-- these, and the state on the board at the end
abbrev pub states_of : List Moment → Plain → Name → List KbState
states_of ms c p = states_before ms p ++ past_state p c ∷ []

-- the views of each living process are a completion run of the problem
abbrev pub EachCompletes : Problem → List Moment → Plain → Type 0
EachCompletes P ms c = (p : Name) → IsTrue (has c.living p) → IsKbRun P (states_of ms c p)

-- each take names a worker from 1 to the number of workers
abbrev pub TakesAreBy : ℕ → List Entry → Type 0
TakesAreBy workers J = (w t : ℕ) (j : Job) → Contains J (Take w t j) → (1 ≤ w) × (w ≤ workers)

-- the problem is within the limits, so its equations are well formed; the journal is legal for it, the settings and the workers, leads to the board, and each living process completes by itself
pub record IsOutcome (P : Problem) (settings : Settings) (workers : ℕ) (J : List Entry) (c : Plain) : Type 0 where
  pub within : IsWithinLimits P
  pub moments : List Moment
  pub run : IsRun P settings moments c
  pub journal : journal_of moments ≡ J
  pub takes : TakesAreBy workers J
  pub completes : EachCompletes P moments c

-- this verdict stands on the board
abbrev pub HasVerdict : Plain → Verdict → Type 0
HasVerdict c v = verdict c ≡ Some v
