use Rattle.std.proofs.Common.{◌≡◌, length}
use Rattle.mkb_rules.specs.Tabled.{IsWider}
use Rattle.mkb_rules.proofs.facts.add_rows.Given as goal

-- rows without room come behind
abbrev pub invariant-loop : goal.invariant-loop
invariant-loop l = record {
  count : length l.rows.items ≡ l.counter;
  wider : IsWider l.fn.rows.items l.rows.items;
}
