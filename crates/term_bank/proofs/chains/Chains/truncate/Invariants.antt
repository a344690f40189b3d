use Rattle.std.proofs.Common.{◌≡◌, ◌≤◌, length, take}
use Rattle.term_bank.specs.Chains.{IsChained}
use Rattle.term_bank.proofs.chains.Chains.truncate.Given as goal

-- the first places are there, and linked
abbrev pub invariant-loop-self : goal.invariant-loop-self
invariant-loop-self l = record {
  chained : IsChained l.self-inside.heads.items l.self-inside.links.items;
  enough : l.len ≤ length l.self-inside.links.items;
  first : take l.len l.self-inside.links.items ≡ take l.len l.initial.self-inside.links.items;
}

abbrev pub decreases-loop-self : goal.decreases-loop-self
decreases-loop-self l = length l.self-inside.links.items
