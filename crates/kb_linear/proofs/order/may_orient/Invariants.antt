use Rattle.std.proofs.Common.{ℕ, ◌<◌, slice_index_or}
use Rattle.kb_term.specs.Rule.{Rule}
use Rattle.kb_linear.specs.LinearOrder.{linear_value}
use Rattle.kb_linear.specs.Limits.{interpretation_of}
use Rattle.kb_linear.proofs.order.may_orient.Given as goal

-- the rules so far pass
abbrev pub invariant-loop-rule : goal.invariant-loop-rule
invariant-loop-rule l =
    (k : ℕ) (d : Rule) → k < l.rule-index → (a : ℕ → ℕ) → linear_value (interpretation_of l.low) a (slice_index_or l.rules k d).right < linear_value (interpretation_of l.high) a (slice_index_or l.rules k d).left
