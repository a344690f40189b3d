use Rattle.std.proofs.Common.{ℕ, ◌≡◌, ◌≤◌, false, get_or, length}
use Rattle.rules_in_use.proofs.in_use.make_room.Given as goal

abbrev pub invariant-loop : goal.invariant-loop
invariant-loop l = ((k : ℕ) → get_or l.told.items k false ≡ get_or l.fn.told.items k false) × (l.counter ≤ length l.told.items)
