use Rattle.std.proofs.Common.{◌≡◌, ◌++◌, take}
use Rattle.kb_text.specs.Terms.{names_of}
use Rattle.kb_goals.specs.Answering.{decisions_text}
use Rattle.kb_goals.proofs.decided.push_decisions.Given as goal

-- what is said of the goals so far
abbrev pub invariant-loop-k : goal.invariant-loop-k
invariant-loop-k l = l.out.items ≡ l.fn.out.items ++ decisions_text (names_of l.signature) 1 (take l.k l.decisions)
