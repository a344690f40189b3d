-- What laws speak of: each possible run, each commit, and each two runs.
use Rattle.std.specs.Prelude.{ℕ, List, ◌≡◌}
use Rattle.kb_term.specs.Signature.{Problem, IsWithinLimits}
use Rattle.mkb_model.specs.Plain.{Plain}
use Rattle.mkb_model.specs.Journals.{Alone, Moment, IsPossibleRun, IsCommitting}
use Rattle.mkb_model.specs.declared.entry.Entry.{Entry}
use Rattle.mkb_model.specs.declared.entry.Effect.{Effect}
use Rattle.mkb_model.specs.declared.proposed.Proposed.{Proposed}
use Rattle.mkb_model.specs.declared.settings.Settings.{Settings}

-- ---- each run

-- it holds of each board of a possible run
abbrev pub OfEachRun : (Plain → Type 0) → Type 0
OfEachRun P = (problem : Problem) (settings : Settings) (past : List Moment) (board : Plain) → IsPossibleRun problem settings past board → P board

-- it holds of each board of a possible run of a problem within the limits
abbrev pub OfEachLimitedRun : (Plain → Type 0) → Type 0
OfEachLimitedRun P = (problem : Problem) (settings : Settings) (past : List Moment) (board : Plain) → IsWithinLimits problem → IsPossibleRun problem settings past board → P board

-- it holds of each possible run: of its problem, settings, moments and board
abbrev pub OfEachWholeRun : ((problem : Problem) (settings : Settings) (past : List Moment) (board : Plain) → IsPossibleRun problem settings past board → Type 0) → Type 0
OfEachWholeRun P = (problem : Problem) (settings : Settings) (past : List Moment) (board : Plain) → (run : IsPossibleRun problem settings past board) → P problem settings past board run

-- it holds of each possible run of a problem within the limits: of its problem, settings, moments and board
abbrev pub OfEachWholeLimitedRun : ((problem : Problem) (settings : Settings) (past : List Moment) (board : Plain) → IsPossibleRun problem settings past board → Type 0) → Type 0
OfEachWholeLimitedRun P = (problem : Problem) (settings : Settings) (past : List Moment) (board : Plain) → IsWithinLimits problem → (run : IsPossibleRun problem settings past board) → P problem settings past board run

-- ---- each commit

-- it holds of each commit of this effect, after whatever moments: of the boards before and after it
abbrev pub OfAnyCommit : Effect → (Plain → Plain → Type 0) → Type 0
OfAnyCommit effect P = (past : List Moment) (board : Plain) (worker ticket : ℕ) (next : Plain) → IsCommitting past board worker ticket effect next → P board next

-- it holds of each commit of this effect in a possible run: of the boards before and after it, and of what is proposed
abbrev pub OfEachCommit : Effect → (Plain → Plain → Proposed → Type 0) → Type 0
OfEachCommit effect P =
    (problem : Problem) (settings : Settings) (past : List Moment) (board : Plain) (worker ticket : ℕ) (next : Plain) → IsPossibleRun problem settings past board
    → (commit : IsCommitting past board worker ticket effect next) → P board next commit.proposal

-- it holds of each commit of this effect in a possible run of a problem within the limits: of the boards before and after it, and of what is proposed
abbrev pub OfEachLimitedCommit : Effect → (Plain → Plain → Proposed → Type 0) → Type 0
OfEachLimitedCommit effect P =
    (problem : Problem) (settings : Settings) (past : List Moment) (board : Plain) (worker ticket : ℕ) (next : Plain) → IsWithinLimits problem → IsPossibleRun problem settings past board
    → (commit : IsCommitting past board worker ticket effect next) → P board next commit.proposal

-- ---- each two runs

-- two possible runs of which this is the same have the same moments and the same board
abbrev pub DecidesRuns : {A : Type 0} → (List Moment → A) → Problem → Settings → Type 0
DecidesRuns seen problem settings =
    (past other : List Moment) (board end : Plain) → IsPossibleRun problem settings past board → IsPossibleRun problem settings other end → seen past ≡ seen other
    → (past ≡ other) × (board ≡ end)

-- whoever works alone to a verdict has the same journal and the same board at the end
abbrev pub HasOneWayAlone : Problem → Settings → Type 0
HasOneWayAlone problem settings = (journal other : List Entry) (board end : Plain) → Alone problem settings journal board → Alone problem settings other end → (journal ≡ other) × (board ≡ end)
