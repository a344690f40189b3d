-- Which journals are legal, and what board each leads to.
use Rattle.std.specs.Prelude.{ℕ, ◌+◌, ◌≤◌, List, [], ◌∷◌, ◌++◌, map, length, Bool, true, false, ◌&&◌, not, ◌==◌, ◌≡◌, filter, Contains, take, ⊤, IsSome, IsTrue, IsFalse}
use Rattle.std.specs.List.{list_any}
use Rattle.std.specs.declared.option.Option.{Option}
use Rattle.std.specs.declared.option.Option.TheVariants.{Some, None}
use Rattle.kb_term.specs.Tree.{Tree}
use Rattle.kb_term.specs.Pair.{Pair, canonical_pair}
use Rattle.kb_term.specs.Signature.{Problem}
use Rattle.kb_cert.specs.Family.{family}
use Rattle.mkb_model.specs.Jobs.{process_of}
use Rattle.kb_label.specs.Names.{Name, root}
use Rattle.mkb_model.specs.Plain.{Plain, PlainNode, nobody_over}
use Rattle.mkb_model.specs.DueJobs.{free_jobs, first_job}
use Rattle.mkb_model.specs.Effects.{with_node, gains_equation, node_of, effect, effect_entry, is_dropped}
use Rattle.mkb_model.specs.Proposals.{Proposes}
use Rattle.mkb_model.specs.Verdicts.{verdict}
use Rattle.kb_term.specs.declared.origin.Origin.TheVariants.{Input}
use Rattle.kb_node.specs.declared.job.Job.{Job}
use Rattle.mkb_model.specs.declared.proposed.Proposed.{Proposed}
use Rattle.mkb_model.specs.declared.entry.Ticket.{Ticket}
use Rattle.mkb_model.specs.declared.entry.Effect.{Effect}
use Rattle.mkb_model.specs.declared.entry.Entry.{Entry}
use Rattle.mkb_model.specs.declared.entry.Entry.TheVariants.{Take, Commit, Drop, Abandon, Halt}
use Rattle.kb_cert.specs.declared.family.Family.TheVariants.{Stated as StatedOrders}
use Rattle.mkb_model.specs.declared.settings.Selection.TheVariants.{Stated}
use Rattle.mkb_model.specs.declared.settings.Settings.{Settings}

-- ---- the opening board

-- the nodes with one for the pair, if there is one, which the first process has as an equation
abbrev pub with_input : Option Pair → ℕ → List PlainNode → List PlainNode
with_input None i xs = xs
with_input (Some q) i xs = gains_equation (node_of (with_node q (Input i) xs) q) (root ∷ []) (with_node q (Input i) xs)

-- the nodes with the input equations from number i on, but for trivial ones
abbrev pub with_inputs : ℕ → List (Tree × Tree) → List PlainNode → List PlainNode
with_inputs i [] xs = xs
with_inputs i (e ∷ es) xs = with_inputs (i + 1) es (with_input (canonical_pair e.0 e.1) i xs)

-- the settings with this budget under which the stated job comes first and the stated orders are searched
abbrev pub stated : ℕ → Settings
stated n = record { budget = n; selection = Stated; family = StatedOrders }

-- the board before any entry: one process, which has the input equations that are not trivial
abbrev pub opening : Problem → Settings → Plain
opening P s = record {
  problem = P;
  settings = s;
  living = root ∷ [];
  nodes = with_inputs 1 P.equations [];
  done = [];
  facts = [];
  closed = [];
  over = nobody_over;
  asleep = [];
  commits = 0;
  flight = [];
  certificates = map (λ c. record { name = root; certificate = c }) (take 1 (family s.family P.signature));
}

-- ---- runs

-- an entry, with the board before it
pub record Moment : Type 0 where
  pub board : Plain
  pub entry : Entry

-- the entry is a take
abbrev pub is_take : Entry → Bool
is_take (Take w t j) = true
is_take e = false

-- the entry is a halt
abbrev pub is_halt : Entry → Bool
is_halt Halt = true
is_halt e = false

-- how many tickets were taken
abbrev pub tickets : List Moment → ℕ
tickets ms = length (filter (λ (m : Moment). is_take m.entry) ms)

-- a halt was made
abbrev pub is_halted : List Moment → Bool
is_halted ms = list_any (λ (m : Moment). is_halt m.entry) ms

-- the ticket is put into the flight
abbrev pub in_flight : ℕ → ℕ → Job → Plain → Plain
in_flight w t j b = record b { flight = b.flight ++ record { number = t; worker = w; job = j } ∷ [] }

-- the ticket is taken out of the flight
abbrev pub landed : ℕ → Plain → Plain
landed t b = record b { flight = filter (λ (x : Ticket). not (x.number == t)) b.flight }

-- a ticket in flight, and what its job proposed on the board from which it was taken
pub record IsFinishing (past : List Moment) (b : Plain) (w t : ℕ) (j : Job) (x : Proposed) : Type 0 where
  pub no_verdict : verdict b ≡ None
  pub flying : Contains b.flight (record { number = t; worker = w; job = j })
  pub before : Plain
  pub taken : Contains past (record { board = before; entry = Take w t j })
  pub proposed : Proposes before j x

-- the job is due for a process that gets jobs, and clashes with none in flight
abbrev pub IsFreeJob : Plain → Job → Type 0
IsFreeJob b j = Contains (free_jobs b) j

-- the job is the first of these
abbrev pub IsFirstJob : Plain → Job → Type 0
IsFirstJob b j = first_job b ≡ Some j

-- a take of a job that may be taken, under the next number
pub record IsTaking (May : Plain → Job → Type 0) (past : List Moment) (b : Plain) (w t : ℕ) (j : Job) (c : Plain) : Type 0 where
  pub no_verdict : verdict b ≡ None
  pub no_halt : IsFalse (is_halted past)
  pub worker_least : 1 ≤ w
  pub worker_most : w ≤ 16
  pub next_number : t ≡ tickets past + 1
  pub picked : May b j
  pub leads_to : c ≡ in_flight w t j b

-- a commit: the proposal has its effect
pub record IsCommitting (past : List Moment) (b : Plain) (w t : ℕ) (e : Effect) (c : Plain) : Type 0 where
  pub job : Job
  pub proposal : Proposed
  pub finishing : IsFinishing past b w t job proposal
  pub acts : IsFalse (is_dropped b proposal)
  pub names_effect : e ≡ effect_entry b proposal
  pub leads_to : c ≡ landed t (effect b proposal)

-- a drop: nothing is left on which the proposal could act
pub record IsDropping (past : List Moment) (b : Plain) (w t : ℕ) (p : Name) (c : Plain) : Type 0 where
  pub job : Job
  pub proposal : Proposed
  pub finishing : IsFinishing past b w t job proposal
  pub idle : IsTrue (is_dropped b proposal)
  pub names_process : p ≡ process_of job
  pub leads_to : c ≡ landed t b

-- an abandon: the ticket leaves the flight, and its job may be taken again
pub record IsAbandoning (b : Plain) (w t : ℕ) (c : Plain) : Type 0 where
  pub job : Job
  pub flying : Contains b.flight (record { number = t; worker = w; job = job })
  pub leads_to : c ≡ landed t b

-- after these moments the entry may follow on the board b, and leads to the board c, where takes are of jobs that may be taken
abbrev pub Follows : (Plain → Job → Type 0) → List Moment → Plain → Entry → Plain → Type 0
Follows May past b (Take w t j) c = IsTaking May past b w t j c
Follows May past b (Commit w t e) c = IsCommitting past b w t e c
Follows May past b (Drop w t p) c = IsDropping past b w t p c
Follows May past b (Abandon w t) c = IsAbandoning b w t c
Follows May past b Halt c = IsFalse (is_halted past) × (c ≡ b)

-- the entry gives a ticket back, or halts
abbrev pub IsLeaving : Entry → Type 0
IsLeaving (Abandon w t) = ⊤
IsLeaving Halt = ⊤
IsLeaving e = ⊥

-- these moments, the newest first, make up a journal of the problem and the settings whose takes are of jobs that may be taken, and lead to the board
abbrev pub IsRunBy : (Plain → Job → Type 0) → Problem → Settings → List Moment → Plain → Type 0
IsRunBy May P s [] c = c ≡ opening P s
IsRunBy May P s (m ∷ past) c = IsRunBy May P s past m.board × Follows May past m.board m.entry c

-- a possible run: each take is of any due job that clashes with none in flight
abbrev pub IsPossibleRun : Problem → Settings → List Moment → Plain → Type 0
IsPossibleRun = IsRunBy IsFreeJob

-- a legal run: each take is of the first of these jobs
abbrev pub IsRun : Problem → Settings → List Moment → Plain → Type 0
IsRun = IsRunBy IsFirstJob

-- the journal of a run, in order
abbrev pub journal_of : List Moment → List Entry
journal_of [] = []
journal_of (m ∷ ms) = journal_of ms ++ m.entry ∷ []

-- the journal is legal, and leads to this board
abbrev pub After : Problem → Settings → List Entry → Plain → Type 0
After P s J c = (ms : List Moment) × (journal_of ms ≡ J) × IsRun P s ms c

-- what each line of a journal text keeps of an entry: of a take its worker, ticket and job, of every other but a halt the ticket
pub data Move : Type 0 where
  takes : ℕ → ℕ → Job → Move
  ends : ℕ → Move
  gives_back : ℕ → Move
  halts : Move

-- the move of an entry; that of a commit doesn't differ from that of a drop
abbrev pub move_of : Entry → Move
move_of (Take w t j) = takes w t j
move_of (Commit w t e) = ends t
move_of (Drop w t p) = ends t
move_of (Abandon w t) = gives_back t
move_of Halt = halts

-- the moves of a run, the newest first
abbrev pub moves_of : List Moment → List Move
moves_of ms = map (λ (m : Moment). move_of m.entry) ms

-- ---- workers

-- the worker that an entry names, and 0 for a halt
abbrev pub worker_of : Entry → ℕ
worker_of (Take w t j) = w
worker_of (Commit w t e) = w
worker_of (Drop w t p) = w
worker_of (Abandon w t) = w
worker_of Halt = 0

-- the entries that name the worker, in order
abbrev pub own : List Entry → ℕ → List Entry
own J w = filter (λ e. worker_of e == w) J

-- the entry ends the ticket by a commit or a drop
abbrev pub is_end_of : ℕ → Entry → Bool
is_end_of t (Commit w s e) = s == t
is_end_of t (Drop w s p) = s == t
is_end_of t e = false

-- each entry is a take by worker 1, followed at once by the commit or drop of its ticket
abbrev pub takes_in_turn : List Entry → Bool
takes_in_turn [] = true
takes_in_turn (Take w t j ∷ e ∷ J) = (w == 1) && (is_end_of t e && takes_in_turn J)
takes_in_turn J = false

-- the journal of one worker: legal, each ticket ended at once, and ended by a verdict
pub record Alone (P : Problem) (s : Settings) (J : List Entry) (c : Plain) : Type 0 where
  pub legal : After P s J c
  pub in_turn : IsTrue (takes_in_turn J)
  pub ended : IsSome (verdict c)
