use Rattle.std.proofs.Common.{◌≡◌, ◌++◌}
use Rattle.std.specs.Prelude.{take}
use Rattle.kb_export.specs.Graphs.{escaped}
use Rattle.kb_export.proofs.graph.push_escaped.Given as goal

-- the bytes so far were added
abbrev pub invariant-loop-b : goal.invariant-loop-b
invariant-loop-b l = l.out.items ≡ l.fn.out.items ++ escaped (take l.b-index l.bytes)
