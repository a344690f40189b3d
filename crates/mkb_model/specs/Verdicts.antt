-- How a search ends.
use Rattle.std.specs.Prelude.{ℕ, ◌≡◌, ◌≢◌, ◌⊎◌, IsTrue, IsFalse, [], ◌∷◌, Bool, ◌&&◌, ◌||◌, ◌==◌, if◌then◌else◌, option_map, option_and_then}
use Rattle.std.specs.List.{list_all, find}
use Rattle.std.specs.declared.option.Option.{Option}
use Rattle.std.specs.declared.option.Option.TheVariants.{Some, None}
use Rattle.kb_label.specs.Names.{Name, has}
use Rattle.mkb_model.specs.Plain.{Plain, label, is_equation, equations_of, is_over, over_reason}
use Rattle.mkb_model.specs.DueJobs.{is_reducible, due_jobs_of}
use Rattle.mkb_model.specs.Sleeping.{no_members, is_failed}
use Rattle.mkb_model.specs.Effects.{first_some, some_if}
use Rattle.kb_node.specs.declared.node.LabelKind.TheVariants.{X}
use Rattle.kb_label.specs.declared.verdict.Reason.{Reason}
use Rattle.kb_label.specs.declared.verdict.Spent.TheVariants.{Commits, Over}
use Rattle.kb_label.specs.declared.verdict.Verdict.{Verdict}
use Rattle.kb_label.specs.declared.verdict.Verdict.TheVariants.{Complete, AllFailed, Spent as IsSpent}

-- the process has no equation, and is closed
abbrev pub is_complete : Plain → Name → Bool
is_complete b p = no_members (equations_of b p) && has b.closed p

-- the first process by name that gave up
abbrev pub first_over : Plain → Option Name
first_over b = find (is_over b) b.living

-- the verdict: a complete process; or all failed; or the budget spent; or all failed or gave up, with the reason of the first by name that gave up
abbrev pub verdict : Plain → Option Verdict
verdict b = first_some (
    option_map Complete (find (is_complete b) b.living)
    ∷ some_if (list_all (is_failed b) b.living) AllFailed
    ∷ some_if (b.commits == b.settings.budget) (IsSpent Commits)
    ∷ (if list_all (λ p. is_failed b p || is_over b p) b.living
    then option_map (λ r. IsSpent (Over r)) (option_and_then (over_reason b) (first_over b))
    else None)
    ∷ [])

-- ---- what a verdict means

-- the process has not given up, has an equation and no due job; so it is closed, and each of its equations is refused and has no redex
pub record HasFailed (b : Plain) (p : Name) : Type 0 where
  pub not_over : IsFalse (is_over b p)
  pub some_equation : equations_of b p ≢ []
  pub no_job : due_jobs_of b p ≡ []
  pub closed : IsTrue (has b.closed p)
  pub refused : (n : ℕ) → IsTrue (is_equation b p n) → IsTrue (has (label b n X) p)
  pub irreducible : (n : ℕ) → IsTrue (is_equation b p n) → IsFalse (is_reducible b p n)

-- the process lives, is closed and has no equation
pub record HasCompleted (b : Plain) (p : Name) : Type 0 where
  pub lives : IsTrue (has b.living p)
  pub closed : IsTrue (has b.closed p)
  pub no_equation : equations_of b p ≡ []

-- each living process has failed or given up, and one has given up for this reason
pub record HaveGivenUp (b : Plain) (r : Reason) : Type 0 where
  pub each : (p : Name) → IsTrue (has b.living p) → HasFailed b p ⊎ IsTrue (is_over b p)
  pub some : Name
  pub lives : IsTrue (has b.living some)
  pub reason : over_reason b some ≡ Some r

-- what the board has where the verdict stands
abbrev pub VerdictMeans : Plain → Verdict → Type 0
VerdictMeans b (Complete p) = HasCompleted b p
VerdictMeans b AllFailed = (p : Name) → IsTrue (has b.living p) → HasFailed b p
VerdictMeans b (IsSpent Commits) = b.commits ≡ b.settings.budget
VerdictMeans b (IsSpent (Over r)) = HaveGivenUp b r
