use Rattle.std.proofs.Common.{◌≡◌, ◌++◌, replicate}
use Rattle.mkbtt_shown.proofs.excerpts.push_spaces.Given as goal

abbrev pub invariant-loop : goal.invariant-loop
invariant-loop l = l.out.items ≡ l.initial.out.items ++ replicate l.counter 32
