use Rattle.std.proofs.Common.{◌≡◌, ◌+◌, ◌*◌, ◌≤◌, drop, get_or}
use Rattle.kb_linear.specs.Forms.{weighted}
use Rattle.kb_kbo.specs.Asking.{value_of}
use Rattle.kb_kbo.proofs.level.Tally.value.Given as goal

-- what is added and what is still to be added make the whole
abbrev pub invariant-loop-f : goal.invariant-loop-f
invariant-loop-f l = record {
  added : l.total + weighted (drop l.f l.self.symbols) (λ n. get_or l.weights (n + l.f) 0) ≡ value_of l.self (λ n. get_or l.weights n 0);
  small : l.total ≤ 65535 + l.f * 16711425;
}
