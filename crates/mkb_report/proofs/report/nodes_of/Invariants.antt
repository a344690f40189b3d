use Rattle.std.proofs.Common.{◌≡◌, ◌++◌, take}
use Rattle.mkb_report.specs.Reports.{nodes_of}
use Rattle.mkb_report.proofs.report.nodes_of.Given as goal

-- the nodes of the rules, and of the constraints so far
abbrev pub invariant-loop-name : goal.invariant-loop-name
invariant-loop-name l = l.nodes.items ≡ nodes_of (l.rules ++ take l.name-index l.constraints)
