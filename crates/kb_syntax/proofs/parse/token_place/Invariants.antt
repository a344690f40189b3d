use Rattle.std.proofs.Common.{◌≡◌, ◌≤◌, ◌-◌, length, get_or, drop}
use Rattle.kb_text.specs.Refusals.{place_of}
use Rattle.kb_text.specs.Tokens.{tokens_from}
use Rattle.kb_syntax.proofs.PlaceLaws.{places}
use Rattle.kb_syntax.proofs.parse.token_place.Given as goal

-- the place sought is among those of the tokens that are left
abbrev pub invariant-loop-left : goal.invariant-loop-left
invariant-loop-left l = record {
  within : l.at ≤ length l.bytes;
  same : get_or (places (tokens_from 0 l.at (drop l.at l.bytes))) l.left 0 ≡ place_of l.bytes l.number;
}

abbrev pub decreases-loop-left : goal.decreases-loop-left
decreases-loop-left l = length l.bytes - l.at
