use Rattle.std.proofs.Common.{◌≡◌, take}
use Rattle.mkb_rules.specs.Parts.{plain_nodes}
use Rattle.mkb_rules.specs.Sizes.{open_sizes, rule_sizes}
use Rattle.mkb_rules.proofs.sizes.sizes_of.Given as goal

-- what the process pays for the nodes so far
abbrev pub invariant-loop-n : goal.invariant-loop-n
invariant-loop-n l = record {
  process : l.sizes.process ≡ l.p;
  open_is : l.sizes.open_sizes ≡ open_sizes (take l.n (plain_nodes l.table)) l.p;
  rules_is : l.sizes.rule_sizes ≡ rule_sizes (take l.n (plain_nodes l.table)) l.p;
}
