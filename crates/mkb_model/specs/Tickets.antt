-- What happens between a ticket's take and its end.
use Rattle.std.specs.Prelude.{ℕ, List, ◌∷◌, ◌++◌, Bool, true, false, ◌≡◌, ◌≢◌, IsTrue, Contains}
use Rattle.kb_label.specs.Names.{Name}
use Rattle.mkb_model.specs.Plain.{Plain}
use Rattle.mkb_model.specs.Journals.{Moment, IsDropping}
use Rattle.kb_node.specs.declared.job.Job.{Job}
use Rattle.kb_node.specs.declared.job.Job.TheVariants.{Close}
use Rattle.mkb_model.specs.declared.entry.Entry.{Entry}
use Rattle.mkb_model.specs.declared.entry.Entry.TheVariants.{Take, Commit}

-- the entry is a commit
abbrev pub is_commit : Entry → Bool
is_commit (Commit w t e) = true
is_commit e = false

-- after this take a commit was made
pub record CommitCameSince (past : List Moment) (before : Plain) (w t : ℕ) (j : Job) : Type 0 where
  pub later : List Moment
  pub earlier : List Moment
  pub parts : past ≡ later ++ record { board = before; entry = Take w t j } ∷ earlier
  pub commit : Moment
  pub after : Contains later commit
  pub is_one : IsTrue (is_commit commit.entry)

-- where a ticket is dropped on the board, a commit was made after its take
abbrev pub DropsFollowCommits : List Moment → Plain → Type 0
DropsFollowCommits past b = (w t : ℕ) (p : Name) (c : Plain) → (drop : IsDropping past b w t p c) → CommitCameSince past drop.finishing.before w t drop.job

-- no ticket that is dropped on the board is of a closing
abbrev pub DropsNoClosing : List Moment → Plain → Type 0
DropsNoClosing past b = (w t : ℕ) (p : Name) (c : Plain) → (drop : IsDropping past b w t p c) → (q : Name) → drop.job ≢ Close q
