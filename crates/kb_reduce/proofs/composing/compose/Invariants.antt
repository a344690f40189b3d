use Rattle.std.proofs.Common.{ℕ, ◌≡◌, List, ◌++◌, length, Some, slice_get}
use Rattle.kb_term.specs.Rule.{Rule}
use Rattle.kb_overlap.specs.Trace.{TraceStep}
use Rattle.kb_reduce.specs.Reducing.{AreRewritings}
use Rattle.kb_reduce.proofs.composing.compose.Given as goal

-- the steps, one for each turn, rewrite the right side of the given rule to the one at hand
abbrev pub invariant-loop : goal.invariant-loop
invariant-loop l = record {
  more : List TraceStep;
  steps : l.steps.items ≡ l.initial.steps.items ++ more;
  count : length more ≡ l.counter;
  rewritings : (r : Rule × ℕ) → slice_get l.a.rules l.k ≡ Some r → AreRewritings l.a.rules (length l.initial.steps.items) more r l.rule;
}
