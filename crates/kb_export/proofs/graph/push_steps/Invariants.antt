use Rattle.std.proofs.Common.{◌≡◌, ◌++◌, take}
use Rattle.kb_text.specs.Terms.{names_of}
use Rattle.kb_export.specs.Graphs.{step_lines}
use Rattle.kb_export.proofs.graph.push_steps.Given as goal

-- the steps so far were added
abbrev pub invariant-loop-i : goal.invariant-loop-i
invariant-loop-i l = l.out.items ≡ l.fn.out.items ++ step_lines (names_of l.signature) 1 (take l.i l.steps)
