use Rattle.std.proofs.Common.{ℕ, ◌+◌, ◌≡◌, List, [], length, take, drop}
use Rattle.kb_term.specs.Rule.{Rule}
use Rattle.kb_reduce.specs.Reducing.{IsThinned}
use Rattle.kb_reduce.proofs.thinning.thin.Given as goal

-- what is left of the rules from the index on, behind those before it, is left of all; each turn goes past one of them
abbrev pub invariant-loop : goal.invariant-loop
invariant-loop l = record {
  left : (left : List (Rule × ℕ)) → IsThinned (take l.k l.rules.items) (drop l.k l.rules.items) left → IsThinned [] l.initial.rules.items left;
  count : l.k + length l.initial.rules.items ≡ length l.rules.items + l.counter;
}
