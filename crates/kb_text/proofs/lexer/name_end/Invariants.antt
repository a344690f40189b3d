use Rattle.std.proofs.Common.{length, ◌-◌, ◌≡◌, ◌<◌, ◌≤◌, ℕ}
use Rattle.kb_text.specs.Tokens.{letter}
use Rattle.kb_text.specs.Starts.{start_in}
use Rattle.kb_text.proofs.lexer.name_end.Given as goal

abbrev pub invariant-loop-end : goal.invariant-loop-end
invariant-loop-end l = record {
  some : l.at < l.end;
  within : l.end ≤ length l.bytes;
  letters : (k : ℕ) → l.at ≤ k → k < l.end → start_in l.bytes k ≡ letter;
}

abbrev pub decreases-loop-end : goal.decreases-loop-end
decreases-loop-end l = length l.bytes - l.end
