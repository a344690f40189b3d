-- Nodes that are set aside.
use Rattle.std.specs.Prelude.{◌≤◌, vec_len}
use Rattle.mkb_pick.specs.declared.stores.Stores.{Stores}

-- the number told is there
abbrev pub IsStocked : Stores → Type 0
IsStocked s = s.spare_jobs ≤ vec_len s.jobs.boxes
