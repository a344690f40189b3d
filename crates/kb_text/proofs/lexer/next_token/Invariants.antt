use Rattle.std.proofs.Common.{length, ◌-◌, ◌≡◌, ◌≤◌, drop}
use Rattle.std.specs.Prelude.{IsUtf8}
use Rattle.std.specs.Str.{IsCharBoundary}
use Rattle.kb_text.specs.Tokens.{tokens_from}
use Rattle.kb_text.proofs.lexer.next_token.Given as goal

abbrev pub invariant-loop-at : goal.invariant-loop-at
invariant-loop-at l = record {
  within : l.at ≤ length l.bytes;
  same : tokens_from 0 l.from (drop l.from l.bytes) ≡ tokens_from 0 l.at (drop l.at l.bytes);
  behind : l.from ≤ l.at;
  boundary : IsUtf8 l.bytes → IsCharBoundary l.bytes l.from → IsCharBoundary l.bytes l.at;
}

abbrev pub decreases-loop-at : goal.decreases-loop-at
decreases-loop-at l = length l.bytes - l.at
