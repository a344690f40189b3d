use Rattle.std.proofs.Common.{◌≡◌, ◌+◌, ◌≤◌, not, take, length}
use Rattle.std.specs.List.{suffix_len}
use Rattle.mkbtt_shown.specs.Excerpts.{is_feed}
use Rattle.mkbtt_shown.proofs.excerpts.last_line.Given as goal

abbrev pub invariant-loop-start : goal.invariant-loop-start
invariant-loop-start l = (l.start ≤ length l.text) × (l.start + suffix_len (λ b. not (is_feed b)) l.text ≡ length l.text + suffix_len (λ b. not (is_feed b)) (take l.start l.text))

abbrev pub decreases-loop-start : goal.decreases-loop-start
decreases-loop-start l = l.start
