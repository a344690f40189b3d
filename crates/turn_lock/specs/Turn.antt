-- The rule of the turn, and what each step tells.
use Rattle.std.specs.Prelude.{◌≡◌, ◌≢◌, ℕ, ◌+◌, ◌*◌, ◌^◌, ◌<◌, ◌≤◌, ◌==◌, ◌⊎◌, Bool, true, false, List, [], ◌∷◌, ◌++◌, length, filter, All, Option, Some, None}
use mathlib.Core.Option.{none, some}
use lib.ListN.{get_elem?}
use Rattle.atomic_table.specs.Table.{State, Me, Step}
use Rattle.turn_lock.specs.declared.rule.View.{View}
use Rattle.turn_lock.specs.declared.rule.Joined.{Joined}

-- the list begins with the other
abbrev pub StartsWith : {E : Type 0} → List E → List E → Type 0
StartsWith {E} xs ys = (rest : List E) × (xs ≡ ys ++ rest)

module _ {E : Type 0} (worker : E → ℕ) where
  -- the entries of one worker, in their order
  abbrev pub own : ℕ → List E → List E
  own w es = filter (λ e. worker e == w) es

  -- each entry is of this worker, or of none
  abbrev pub IsFrom : ℕ → List E → Type 0
  IsFrom w es = All (λ e. (worker e ≡ w) ⊎ (worker e ≡ 0)) es

module _ {P E : Type 0} where
  -- the view after the seat has seen this history
  abbrev pub seeing : View P E → List E → Bool → View P E
  seeing v log h = record { problem = v.problem; budget = v.budget; worker = v.worker; seen = log; holds = h; drawn = v.drawn; joined = v.joined }

  -- what the first seat of a new lock knows
  abbrev pub first_view : P → ℕ → View P E
  first_view p b = record { problem = Some p; budget = b; worker = 1; seen = []; holds = false; drawn = 1; joined = [] }

  -- the first seat's view after it has drawn one number more
  abbrev pub drawing : View P E → View P E
  drawing v = record { problem = v.problem; budget = v.budget; worker = v.worker; seen = v.seen; holds = v.holds; drawn = v.drawn + 1; joined = v.joined }

  -- what a new seat knows: what the first one had seen, under the number that was drawn for it
  abbrev pub drawn_view : View P E → View P E
  drawn_view v = record { problem = v.problem; budget = v.budget; worker = v.drawn + 1; seen = v.seen; holds = false; drawn = 0; joined = [] }

  -- what is kept of a seat that is joined: its number, and what it had seen
  abbrev pub joined_of : View P E → Joined E
  joined_of v = record { worker = v.worker; seen = v.seen }

  -- the first seat's view after it has taken in another
  abbrev pub taking : View P E → View P E → View P E
  taking v w = record { problem = v.problem; budget = v.budget; worker = v.worker; seen = v.seen; holds = v.holds; drawn = v.drawn; joined = v.joined ++ joined_of w ∷ [] }

  -- what is left of a view that was taken in
  abbrev pub spent_view : View P E
  spent_view = record { problem = None; budget = 0; worker = 0; seen = []; holds = false; drawn = 0; joined = [] }

-- a joined seat had seen a beginning of the history, and all entries of its worker
abbrev pub IsKept : {E : Type 0} → (E → ℕ) → List E → Joined E → Type 0
IsKept worker log j = (0 < j.worker) × StartsWith log j.seen × (own worker j.worker log ≡ own worker j.worker j.seen)

-- what a seat knows is true
pub record Sits {P E : Type 0} (worker : E → ℕ) (p : P) (b : ℕ) (log : List E) (drawn : ℕ) (joined : List (Joined E)) (v : View P E) : Type 0 where
  pub problem : v.problem ≡ Some p
  pub budget : v.budget ≡ b
  pub drawn_before : v.worker ≤ drawn
  pub prefix : StartsWith log v.seen
  pub mine : own worker v.worker log ≡ own worker v.worker v.seen
  pub apart : All (λ j. j.worker ≢ v.worker) joined
  pub first : v.worker ≡ 1 → (v.drawn ≡ drawn) × (v.joined ≡ joined)

-- what all seats know
pub record Seated {P E : Type 0} (worker : E → ℕ) (p : P) (b : ℕ) (log : List E) (drawn : ℕ) (joined : List (Joined E)) (views : List (View P E)) : Type 0 where
  pub some_drawn : 1 ≤ drawn
  pub numbered : All (λ e. worker e ≤ drawn) log
  pub each : (j : ℕ) (v : View P E) → get_elem? views j ≡ some v → 0 < v.worker → Sits worker p b log drawn joined v
  pub distinct : (i j : ℕ) (v w : View P E) → get_elem? views i ≡ some v → get_elem? views j ≡ some w → 0 < v.worker → v.worker ≡ w.worker → i ≡ j
  pub kept : All (IsKept worker log) joined
  pub joined_drawn : All (λ j. j.worker ≤ drawn) joined

module _ {T P E : Type 0} (problem : T → P) (budget : T → ℕ) where
  -- the value is for the seat's problem and budget
  abbrev pub Fits : View P E → T → Type 0
  Fits v x = (v.problem ≡ Some (problem x)) × (v.budget ≡ budget x)

module _ {T P E : Type 0} (problem : T → P) (budget : T → ℕ) (entries : T → List E) (worker : E → ℕ) where
  -- an even word: the value is at home, and no seat has the turn
  pub record Free (p : P) (b : ℕ) (log : List E) (s : State (Option T) (View P E)) : Type 0 where
    pub value : T
    pub words : s.words ≡ (2 * length log) ∷ []
    pub home : s.homes ≡ some (Some value) ∷ []
    pub history : entries value ≡ log
    pub for_problem : problem value ≡ p
    pub for_budget : budget value ≡ b
    pub idle : (j : ℕ) (v : View P E) → get_elem? s.views j ≡ some v → v.holds ≡ false

  -- an odd word: one seat has the turn, and has seen the whole history
  pub record Held (log : List E) (s : State (Option T) (View P E)) : Type 0 where
    pub holder : ℕ
    pub words : s.words ≡ (2 * length log + 1) ∷ []
    pub away : s.homes ≡ none ∷ []
    pub there : (v : View P E) × (get_elem? s.views holder ≡ some v) × (0 < v.worker) × (v.holds ≡ true)
    pub only : (j : ℕ) (v : View P E) → get_elem? s.views j ≡ some v → v.holds ≡ true → (j ≡ holder) × (v.seen ≡ log)

  -- the rule
  pub record Turning (p : P) (b : ℕ) (s : State (Option T) (View P E)) : Type 0 where
    pub log : List E
    pub drawn : ℕ
    pub joined : List (Joined E)
    pub few : length log < 2 ^ 62
    pub seats : Seated worker p b log drawn joined s.views
    pub turn : Free p b log s ⊎ Held log s

  -- the seat has the turn, and its slot the value, whose entries begin with what the seat had seen
  abbrev pub Enters : Me (Option T) (View P E) → Me (Option T) (View P E) → ℕ → Type 0
  Enters m m' r =
      (x : T) × (m' ≡ (seeing m.0 (entries x) true, (0, Some x) ∷ m.1)) × Fits problem budget m.0 x × StartsWith (entries x) m.0.seen
      × (own worker m.0.worker (entries x) ≡ own worker m.0.worker m.0.seen) × (length (entries x) < 2 ^ 62) × (r ≡ 2 * length (entries x))

  -- a try of the word: where it held what was expected, the seat enters; else nothing changes
  abbrev pub tried : Step (Option T) → Me (Option T) (View P E) → ℕ → Me (Option T) (View P E) → Type 0
  tried st m r m' = (r ≡ st.first → Enters m m' r) × (r ≢ st.first → m' ≡ m)

module _ {T P E : Type 0} (entries : T → List E) where
  -- a release of the word: the seat has seen the entries of the value that it put back, and has the turn no more
  abbrev pub released : Step (Option T) → Me (Option T) (View P E) → ℕ → Me (Option T) (View P E) → Type 0
  released st m r m' = (x : T) (more : List (ℕ × Option T)) → m.1 ≡ (0, Some x) ∷ more → m' ≡ (seeing m.0 (entries x) false, more)

module _ {T P E : Type 0} (worker : E → ℕ) where
  -- a load of the word: the seat has seen a history that goes on from what it had seen, by entries of others
  abbrev pub looked : Step (Option T) → Me (Option T) (View P E) → ℕ → Me (Option T) (View P E) → Type 0
  looked st m r m' =
      (log : List E) × (m' ≡ (seeing m.0 log m.0.holds, m.1)) × StartsWith log m.0.seen × (own worker m.0.worker log ≡ own worker m.0.worker m.0.seen)
      × (length log < 2 ^ 62) × ((r ≡ 2 * length log) ⊎ (r ≡ 2 * length log + 1))
