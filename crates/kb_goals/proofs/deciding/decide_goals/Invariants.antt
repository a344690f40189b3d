use Rattle.std.proofs.Common.{take}
use Rattle.kb_term.specs.View.{equations_of_list}
use Rattle.kb_checker.specs.Answers.{rules_of}
use Rattle.kb_goals.specs.Answering.{AreDecided}
use Rattle.kb_goals.proofs.deciding.decide_goals.Given as goal

-- the decisions of the goals so far
abbrev pub invariant-loop-k : goal.invariant-loop-k
invariant-loop-k l = AreDecided (rules_of l.answer.rules) (equations_of_list (take l.k l.goals)) l.decisions.items
