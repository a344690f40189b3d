use Rattle.std.proofs.Common.{◌≡◌, length}
use Rattle.kb_bench.proofs.rewriting.word_rules.Given as goal

-- a rule for each word so far
abbrev pub invariant-loop-number : goal.invariant-loop-number
invariant-loop-number l = length l.rules.items ≡ l.number
