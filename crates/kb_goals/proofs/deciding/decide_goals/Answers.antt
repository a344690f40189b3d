use Rattle.std.proofs.Common.{arith, ◌≡◌, ◌<◌, ◌+◌, ◌++◌, ◌∷◌, [], sym, ap, ◌∙◌, subst, take, length, List, ℕ}
use Rattle.std.proofs.lemmas.List.{take_all, take_more, length-map, map-append, get_or-map}
use Rattle.std.proofs.lemmas.List.Elements.{All-get_or}
use Rattle.kb_lemmas.proofs.Lists.{zip_push}
use Rattle.kb_term.specs.Rule.{Rule}
use Rattle.kb_term.specs.Signature.{IsEquationWithinLimits}
use Rattle.kb_term.specs.Tree.{Tree}
use Rattle.kb_term.specs.View.{tree_of, equations_of_list}
use Rattle.kb_term.specs.declared.term.Term.{Term}
use Rattle.kb_checker.specs.Answers.{rules_of}
use Rattle.kb_decide.specs.Deciding.{IsDecision}
use Rattle.kb_decide.specs.declared.decision.Decision.{Decision}
use Rattle.kb_goals.specs.Answering.{AreDecided}
use Rattle.kb_goals.proofs.DecisionGoals.{goal_for}
use Rattle.kb_goals.proofs.Meanings.{decisions_right}
use Rattle.kb_goals.proofs.deciding.decide_goals.Goals as goal

pub decide-requires-clause-few : goal.decide-requires-clause-few
decide-requires-clause-few c =
    let same = ap length (c.deref.ensures.value ∙ c.in_ok-rules.ensures) in
    let few = c.has_form.ensures.count in
    let long = length-map c.args.answer.now.rules (λ (r : Rule × ℕ). r.0) in
    omega arith

pub decide-requires-clause-over : goal.decide-requires-clause-over
decide-requires-clause-over c =
    let a = c.args.answer.now in
    let goals = c.args.goals.now in
    let g = c.index-goals-k.result in
    let room : c.loop-k.k < length (equations_of_list goals) = omega (arith, c.loop-k-test.true, length-map {B = Tree × Tree} goals (λ (e : Term × Term). (tree_of e.0, tree_of e.1))) in
    let e : IsEquationWithinLimits a.problem.signature (tree_of g.0, tree_of g.1) =
    subst {A = Tree × Tree} (IsEquationWithinLimits a.problem.signature) (get_or-map (λ (e : Term × Term). (tree_of e.0, tree_of e.1)) goals c.loop-k.k g (tree_of g.0, tree_of g.1) c.loop-k-test.true ∙ ap (λ (e : Term × Term). (tree_of e.0, tree_of e.1)) (sym c.index-goals-k.is)) (All-get_or (IsEquationWithinLimits a.problem.signature) (equations_of_list goals) c.loop-k.k (tree_of g.0, tree_of g.1) room c.requires.goals) in
    goal_for a c.deref.result.now (tree_of g.0, tree_of g.1) c.has_form.ensures c.requires.good (c.deref.ensures.value ∙ c.in_ok-rules.ensures) e

pub loop-k-preserved : goal.loop-k-preserved
loop-k-preserved c =
    let rules = rules_of c.args.answer.now.rules in
    let goals = c.args.goals.now in
    let k = c.loop-k.k in
    let g = c.index-goals-k.result in
    let d = c.in_ok-decide.field-0 in
    let more : equations_of_list (take (k + 1) goals) ≡ equations_of_list (take k goals) ++ (tree_of g.0, tree_of g.1) ∷ [] =
    ap equations_of_list (take_more goals k g c.loop-k-test.true ∙ ap (λ (x : Term × Term). take k goals ++ x ∷ []) (sym c.index-goals-k.is)) ∙ map-append (λ (e : Term × Term). (tree_of e.0, tree_of e.1)) (take k goals) (g ∷ []) in
    let by : IsDecision rules (tree_of g.0) (tree_of g.1) d = subst (λ (rs : List Rule). IsDecision rs (tree_of g.0) (tree_of g.1) d) (c.deref.ensures.value ∙ c.in_ok-rules.ensures) c.in_ok-decide.ensures in
    subst {A = List (Tree × Tree)} (λ gs. AreDecided rules gs c.push.new.self.items) (sym {A = List (Tree × Tree)} more)
    (subst {A = List Decision} (λ ds. AreDecided rules (equations_of_list (take k goals) ++ (tree_of g.0, tree_of g.1) ∷ []) ds) (sym {A = List Decision} c.in_ok-push.ensures.items)
    (zip_push (λ (goal : Tree × Tree) (d : Decision). IsDecision rules goal.0 goal.1 d) (equations_of_list (take k goals)) c.loop-k.decisions.items (tree_of g.0, tree_of g.1) d c.loop-k.invariant by))

pub returns-clause-decided : goal.returns-clause-decided
returns-clause-decided c =
    let all = take_all c.loop-k.k c.args.goals.now (omega (arith, c.loop-k-test.false)) in
    subst (λ (gs : List (Term × Term)). AreDecided (rules_of c.args.answer.now.rules) (equations_of_list gs) c.loop-k.decisions.items) all c.loop-k.invariant

pub returns-clause-right : goal.returns-clause-right
returns-clause-right c = decisions_right c.args.answer.now c.requires.good (equations_of_list c.args.goals.now) c.loop-k.decisions.items c.requires.goals (returns-clause-decided c)
