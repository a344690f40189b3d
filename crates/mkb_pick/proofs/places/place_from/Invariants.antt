use Rattle.std.proofs.Common.{◌≤◌, ◌<◌, ◌-◌, ◌^◌, length}
use Rattle.mkb_pick.proofs.Narrowed.{IsBetween}
use Rattle.mkb_pick.proofs.places.place_from.Given as goal

-- the name stands between the two bounds, if anywhere
abbrev pub invariant-loop-low : goal.invariant-loop-low
invariant-loop-low l = IsBetween l.names l.name l.low l.high × (l.high ≤ length l.names) × (l.low ≤ l.next) × (1 ≤ l.step) × (l.high < 2 ^ 64)

abbrev pub decreases-loop-low : goal.decreases-loop-low
decreases-loop-low l = l.high - l.low
