-- Who is worked on, and how a commit changes that.
use Rattle.std.specs.Prelude.{◌∷◌, [], List, map, filter, not, if◌then◌else◌, Option, Some, None, ◌≡◌, ◌+◌, ◌≤◌, ◌<◌, length, Vec, vec_capacity}
use Rattle.kb_label.specs.Names.{Name, minus, relabel}
use Rattle.kb_label.specs.declared.verdict.Reason.{Reason}
use Rattle.mkb_model.specs.Plain.{Plain, equations_of, is_over}
use Rattle.mkb_model.specs.Sleeping.{no_members}
use Rattle.mkb_model.specs.declared.proposed.Proposed.{Proposed}
use Rattle.mkb_model.specs.declared.proposed.Proposed.TheVariants.{Both, Closed}
use Rattle.kb_label.specs.declared.process.TheConstants.{MAX_BITS}
use Rattle.mkb_model.specs.Sleeping.{working, most_awake}
use Rattle.std.specs.declared.alloc.Global.{Global}
use Rattle.mkb_board.specs.declared.working.Placed.{Placed}

-- the processes, without their places
abbrev pub processes_in : List Placed → List Name
processes_in l = map (λ (it : Placed). it.process) l

-- those who work after a commit that came to this limit, if to any, of those who did before: at a limit who has not given up; a fork puts the children in the place of their parent; who is closed with an equation left has failed
abbrev pub still_working : Plain → Option Reason → Proposed → List Name → List Name
still_working after (Some r) x l = filter (λ p. not (is_over after p)) l
still_working after None (Both p n c0 c1) l = relabel p l
still_working after None (Closed p) l = if no_members (equations_of after p) then l else minus l (p ∷ [])
still_working after None x l = l

-- the process that a commit completes, if it does: one that is closed and has no equation
abbrev pub completed_by : Plain → Option Reason → Proposed → Option Name
completed_by after None (Closed p) = if no_members (equations_of after p) then Some p else None
completed_by after limit x = None

-- these are all who work, and there is room for one more than may
pub record IsWorking (b : Plain) (l : Vec Placed Global) : Type 0 where
  pub all : processes_in l.items ≡ working b b.asleep
  pub room : most_awake + 1 ≤ vec_capacity l

-- of a fork: the name of the process has room for one bit more
abbrev pub IsShort : Proposed → Type 0
IsShort (Both p n c0 c1) = length p < MAX_BITS
IsShort x = Unit {0}
