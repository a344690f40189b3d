use Rattle.std.proofs.Common.{◌≡◌, take}
use Rattle.kb_node.specs.Stored.{nodes_in}
use Rattle.kb_node.specs.Views.{equations_of, rules_of, constraints_of}
use Rattle.kb_node.proofs.table.NodeTable.view_of.Given as goal

abbrev pub invariant-loop-i : goal.invariant-loop-i
invariant-loop-i g l = record {
  equations : l.equations ≡ equations_of g.L.Labels.names_under l.log l.p (take l.i (nodes_in l.self-inside.bank l.self-inside.sides.keys l.self-inside.entries.items));
  rules : l.rules ≡ rules_of g.L.Labels.names_under l.log l.p (take l.i (nodes_in l.self-inside.bank l.self-inside.sides.keys l.self-inside.entries.items));
  constraints : l.constraints ≡ constraints_of g.L.Labels.names_under l.log l.p (take l.i (nodes_in l.self-inside.bank l.self-inside.sides.keys l.self-inside.entries.items));
}
