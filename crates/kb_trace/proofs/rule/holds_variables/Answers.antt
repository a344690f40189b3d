use Rattle.std.proofs.Common.{ℕ, ◌≡◌, ◌<◌, refl, subst, arith, below_more, Contains}
use Rattle.kb_term.specs.Tree.{variables_of}
use Rattle.kb_term.specs.View.{tree_of}
use Rattle.kb_trace.proofs.rule.holds_variables.Goals.{else-occurs-via-then-occurs+else-not-occurs, else-occurs-via-else-occurs}
use Rattle.kb_trace.proofs.rule.holds_variables.Goals as goal

pub loop-n-preserved : goal.loop-n-preserved
loop-n-preserved c = below_more _ _ c.loop-n.invariant (elim c.else-occurs.branch [
  | else-occurs-via-then-occurs+else-not-occurs w ↦ λ h. w.occurs-then-occurs.ensures.0 (grind (arith, w.if-not-occurs))
  | else-occurs-via-else-occurs w ↦ λ h. let found = c.occurs.ensures.1 h in absurd (grind (arith, found, w.if-occurs))
])

pub returns : goal.returns
returns c = (
  λ e n h. c.loop-n.invariant n (let below = (c.variable_bound-n-end.ensures c.variable_bound-n-end.result).0 (omega arith) n h in omega (arith, below, c.loop-n-test.false)) h,
  λ h. refl,
)
