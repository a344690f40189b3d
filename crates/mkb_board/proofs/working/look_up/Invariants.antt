use Rattle.std.proofs.Common.{◌≡◌, ◌≤◌, vec_len, vec_capacity}
use Rattle.mkb_board.specs.Working.{processes_in}
use Rattle.mkb_board.proofs.working.look_up.Given as goal

-- the names are as before
abbrev pub invariant-loop-i : goal.invariant-loop-i
invariant-loop-i l = record {
  names : processes_in l.working.items ≡ processes_in l.fn.working.items;
  len : vec_len l.working ≡ vec_len l.fn.working;
  room : vec_capacity l.fn.working ≤ vec_capacity l.working;
}
