use Rattle.std.proofs.Common.{◌≡◌, ◌≤◌, length}
use Rattle.std.specs.Prelude.{All}
use Rattle.mkb_rules.specs.Parts.{plain_nodes}
use Rattle.mkb_rules.specs.Accounts.{IsAccountOf}
use Rattle.mkb_rules.specs.Constrained.{AreConstraintsMarked}
use Rattle.mkb_rules.specs.Sizes.{AreMarked}
use Rattle.mkb_rules.proofs.tracked.Tracked.keep_accounts.Given as goal

-- as many are kept as were looked at
abbrev pub invariant-loop-i : goal.invariant-loop-i
invariant-loop-i l = record {
  table : l.self-inside.table ≡ l.fn.self;
  marked : AreMarked (plain_nodes l.self-inside.table) l.self-inside.used;
  right : All (IsAccountOf (plain_nodes l.self-inside.table)) l.self-inside.accounts.items;
  constrained : AreConstraintsMarked (plain_nodes l.self-inside.table) l.self-inside.constrained;
  within : l.i ≤ length l.self-inside.accounts.items;
}
