use Rattle.std.proofs.Common.{take, map}
use Rattle.kb_term.specs.View.{tree_of}
use Rattle.kb_checker.specs.Answers.{rules_of}
use Rattle.kb_goals.specs.Simplifying.{AreSimplified}
use Rattle.kb_goals.proofs.simplifying.simplify_terms.Given as goal

-- what the terms so far are simplified to
abbrev pub invariant-loop-k : goal.invariant-loop-k
invariant-loop-k l = AreSimplified (rules_of l.answer.rules) (map tree_of (take l.k l.terms)) l.simplified.items
