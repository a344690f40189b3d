use Rattle.std.proofs.Common.{◌≡◌, map, take}
use Rattle.mkb_model.specs.Plain.{PlainNode}
use Rattle.mkb_rules.specs.Parts.{plain_nodes}
use Rattle.mkb_report.proofs.report.node_list.Given as goal

-- the nodes so far
abbrev pub invariant-loop-i : goal.invariant-loop-i
invariant-loop-i l = l.nodes.items ≡ map (λ (x : PlainNode). (x.pair, x.origin)) (plain_nodes (take l.i l.table))
