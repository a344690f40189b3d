-- The goals behind a good answer are decided by its rules.
use Rattle.std.proofs.Common.{◌≡◌, ◌≤◌, sym, subst, arith, List}
use Rattle.std.proofs.lemmas.List.Elements.{All-weaker}
use Rattle.kb_term.specs.Rule.{Rule}
use Rattle.kb_term.specs.Signature.{SymbolEntry, IsEquationWithinLimits}
use Rattle.kb_term.specs.Tree.{Tree}
use Rattle.kb_checker.specs.Answers.{Answer, IsAnswer, IsGoodAnswer, rules_of}
use Rattle.kb_decide.specs.Deciding.{IsGoalFor}

pub goal_for : (a : Answer) (rules : List Rule) (goal : Tree × Tree) → IsAnswer a → IsGoodAnswer a → rules ≡ rules_of a.rules → IsEquationWithinLimits a.problem.signature goal → IsGoalFor rules goal.0 goal.1
goal_for a rules goal i g r e =
    subst (λ (rs : List Rule). IsGoalFor rs goal.0 goal.1) (sym r) (record {
      signature = a.problem.signature;
      arities = All-weaker (λ (f : SymbolEntry). f.arity ≤ 8) (λ (f : SymbolEntry). f.arity ≤ 255) (λ f l. (omega arith)) a.problem.signature i.problem.arities;
      over = g.system.over;
      left_over = e.left.well_formed;
      right_over = e.right.well_formed;
    })
