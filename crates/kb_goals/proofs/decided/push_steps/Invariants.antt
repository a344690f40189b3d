use Rattle.std.proofs.Common.{◌≡◌, ◌++◌}
use Rattle.std.specs.Prelude.{flat_map, take}
use Rattle.kb_goals.specs.Answering.{step_line}
use Rattle.kb_goals.proofs.decided.push_steps.Given as goal

-- the steps so far were added
abbrev pub invariant-loop-step : goal.invariant-loop-step
invariant-loop-step l = l.out.items ≡ l.fn.out.items ++ flat_map (step_line l.side) (take l.step-index l.steps)
