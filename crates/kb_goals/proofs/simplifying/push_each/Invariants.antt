use Rattle.std.proofs.Common.{◌≡◌, ◌++◌, take}
use Rattle.kb_text.specs.Terms.{names_of}
use Rattle.kb_goals.specs.Simplifying.{simplified_lines}
use Rattle.kb_goals.proofs.simplifying.push_each.Given as goal

-- what becomes of the terms so far
abbrev pub invariant-loop-k : goal.invariant-loop-k
invariant-loop-k l = l.out.items ≡ l.fn.out.items ++ simplified_lines (names_of l.signature) 1 (take l.k l.simplified)
