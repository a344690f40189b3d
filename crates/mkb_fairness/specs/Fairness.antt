-- How long an overlap that is due waits for others of its process.
use Rattle.std.specs.Prelude.{ℕ, ◌+◌, ◌≤◌, ◌≢◌, ◌⊎◌, List, ◌++◌, Bool, false, filter, length, Contains, AllPairs, IsTrue}
use Rattle.std.specs.List.{filter_map}
use Rattle.std.specs.declared.option.Option.{Option}
use Rattle.std.specs.declared.option.Option.TheVariants.{Some, None}
use Rattle.kb_term.specs.Pair.{Pair, IsCanonical, IsTrivial}
use Rattle.kb_term.specs.Signature.{Signature, Problem, IsWellFormed}
use Rattle.kb_term.specs.declared.origin.RuleRef.{RuleRef}
use Rattle.kb_label.specs.Names.{Name, name_eq}
use Rattle.kb_node.specs.declared.job.Job.{Job}
use Rattle.kb_node.specs.declared.job.Job.TheVariants.{Overlap}
use Rattle.mkb_model.specs.Jobs.{process_of}
use Rattle.mkb_model.specs.Plain.{Plain, pair_size, weight_by}
use Rattle.mkb_model.specs.DueJobs.{due_jobs_of}
use Rattle.mkb_model.specs.Journals.{Moment, IsRun, journal_of, takes_in_turn}
use Rattle.mkb_model.specs.declared.entry.Entry.{Entry}
use Rattle.mkb_model.specs.declared.entry.Entry.TheVariants.{Take}
use Rattle.mkb_model.specs.declared.settings.Selection.TheVariants.{Size}
use Rattle.mkb_model.specs.declared.settings.Settings.{Settings}

-- ---- the overlaps that are taken

-- the job that the entry takes, if it is a take
abbrev pub taken_by : Entry → Option Job
taken_by (Take w t j) = Some j
taken_by e = None

-- the job is an overlap of the process
abbrev pub is_overlap_of : Name → Job → Bool
is_overlap_of p (Overlap q a c) = name_eq q p
is_overlap_of p j = false

-- the overlaps of the process that are taken in these moments, the newest first
abbrev pub overlaps_taken : Name → List Moment → List Job
overlaps_taken p ms = filter (is_overlap_of p) (filter_map (λ (m : Moment). taken_by m.entry) ms)

-- no job stands twice in the list
abbrev pub AreDifferent : List Job → Type 0
AreDifferent jobs = AllPairs (λ (i j : Job). i ≢ j) jobs

-- ---- waiting

-- the job is one of the due jobs of its process on the board of each of these moments
abbrev pub StaysDue : Job → List Moment → Type 0
StaysDue j ms = (m : Moment) → Contains ms m → Contains (due_jobs_of m.board (process_of j)) j

-- one worker alone made these moments, and ended each ticket before it took the next one
abbrev pub IsInTurn : List Moment → Type 0
IsInTurn ms = IsTrue (takes_in_turn (journal_of ms))

-- one worker alone made a legal run that leads to the board, and in the latest stretch of it the job stays due
pub record Waits (problem : Problem) (settings : Settings) (job : Job) (stretch earlier : List Moment) (board : Plain) : Type 0 where
  pub run : IsRun problem settings (stretch ++ earlier) board
  pub in_turn : IsInTurn (stretch ++ earlier)
  pub stays_due : StaysDue job stretch

-- it holds of each overlap that waits: of the problem, the settings and the board, of this overlap, and of the overlaps of its process that are taken meanwhile
abbrev pub OfEachWait : (Problem → Settings → Plain → Job → List Job → Type 0) → Type 0
OfEachWait P =
    (problem : Problem) (settings : Settings) (stretch earlier : List Moment) (board : Plain) (p : Name) (a c : RuleRef) → Waits problem settings (Overlap p a c) stretch earlier board
    → P problem settings board (Overlap p a c) (overlaps_taken p stretch)

-- none of the jobs weighs more by sizes than this one
abbrev pub AreNoHeavier : Plain → Job → List Job → Type 0
AreNoHeavier b j jobs = (i : Job) → Contains jobs i → weight_by Size b i ≤ weight_by Size b j

-- ---- pairs of pairs

-- the pair is canonical and not trivial, and its sides are terms over the signature
pub record IsPairOver (signature : Signature) (q : Pair) : Type 0 where
  pub canonical : IsCanonical q
  pub differ : ¬ IsTrivial q
  pub first : IsWellFormed signature q.first
  pub second : IsWellFormed signature q.second

-- the list has each two such pairs whose sizes are together at most this, in one order or the other
abbrev pub HasPairsUpTo : Signature → ℕ → List (Pair × Pair) → Type 0
HasPairsUpTo signature size all = (q r : Pair) → IsPairOver signature q → IsPairOver signature r → pair_size q + pair_size r ≤ size → Contains all (q, r) ⊎ Contains all (r, q)

-- the jobs are no more than the members of any such list
abbrev pub AreNoMoreThanPairs : Signature → ℕ → List Job → Type 0
AreNoMoreThanPairs signature size jobs = (all : List (Pair × Pair)) → HasPairsUpTo signature size all → length jobs ≤ length all

-- the jobs are no more than the pairs of pairs over the signature that weigh by sizes at most what this job does
abbrev pub AreNoMoreThanLighter : Signature → Plain → Job → List Job → Type 0
AreNoMoreThanLighter signature b j jobs = AreNoMoreThanPairs signature (weight_by Size b j) jobs
