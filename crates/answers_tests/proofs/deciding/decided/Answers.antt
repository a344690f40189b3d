use Rattle.std.proofs.Common.{sym, subst, ◌∙◌, arith}
use Rattle.kb_term.specs.View.{tree_of}
use Rattle.kb_decide.specs.Constants.{constant}
use Rattle.kb_decide.specs.Deciding.{IsGoalFor}
use Rattle.kb_decide.proofs.Constants.{two, constants_goal}
use Rattle.answers_tests.proofs.deciding.decided.Goals as goal

pub decide-requires-clause-over : goal.decide-requires-clause-over
decide-requires-clause-over c =
    let to = c.args.to in
    let left = c.args.left in
    let right = c.args.right in
    let whole = constants_goal 0 1 1 to left right (omega arith) (omega arith) (omega arith) c.requires.to c.requires.left c.requires.right in
    let with_left = subst (λ t. IsGoalFor (two 0 1 1 to) t (constant right)) (sym c.constant.ensures) whole in
    let with_right = subst (λ t. IsGoalFor (two 0 1 1 to) (tree_of c.constant.result) t) (sym c.constant-2.ensures) with_left in
    subst (λ rules. IsGoalFor rules (tree_of c.constant.result) (tree_of c.constant-2.result)) (sym (c.deref.ensures.value ∙ c.in_ok-rules.ensures)) with_right
