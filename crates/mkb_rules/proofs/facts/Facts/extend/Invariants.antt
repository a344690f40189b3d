use Rattle.std.proofs.Common.{◌≡◌, ◌++◌, take}
use Rattle.std.specs.Prelude.{All}
use Rattle.mkb_rules.specs.Tabled.{HasRoom, IsTabled}
use Rattle.mkb_rules.proofs.facts.Facts.extend.Given as goal

-- what is known stays, and there is room for the facts so far
abbrev pub invariant-loop-i : goal.invariant-loop-i
invariant-loop-i l = record {
  list : l.self-inside.list.items ≡ l.fn.self;
  tabled : IsTabled l.self-inside.ranks l.self-inside.rows.items l.fn.self;
  room : All (HasRoom l.self-inside.ranks l.self-inside.rows.items) (take l.i l.facts);
}

-- the facts so far are found, and there is room for all
abbrev pub invariant-loop-i-2 : goal.invariant-loop-i-2
invariant-loop-i-2 l = record {
  list : l.self-inside.list.items ≡ l.fn.self ++ l.facts;
  tabled : IsTabled l.self-inside.ranks l.self-inside.rows.items (l.fn.self ++ take l.i l.facts);
  room : All (HasRoom l.self-inside.ranks l.self-inside.rows.items) l.facts;
}
