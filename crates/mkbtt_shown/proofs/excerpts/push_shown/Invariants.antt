use Rattle.std.proofs.Common.{◌≡◌, ◌++◌, take}
use Rattle.mkbtt_shown.specs.Excerpts.{shown}
use Rattle.mkbtt_shown.proofs.excerpts.push_shown.Given as goal

abbrev pub invariant-loop-b : goal.invariant-loop-b
invariant-loop-b l = l.out.items ≡ l.initial.out.items ++ shown (take l.b-index l.part)
