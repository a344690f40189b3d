use Rattle.std.proofs.Common.{◌≤◌, ◌-◌, vec_len}
use Rattle.mkb_pick.proofs.pool.Pool.fill.Given as goal

-- no node goes
abbrev pub invariant-loop-alloc : goal.invariant-loop-alloc
invariant-loop-alloc l = vec_len l.initial.self.boxes ≤ vec_len l.self.boxes

abbrev pub decreases-loop-alloc : goal.decreases-loop-alloc
decreases-loop-alloc l = l.count - vec_len l.self.boxes
