use Rattle.std.proofs.Common.{append_assoc, ◌≡◌, ◌∙◌, ◌<◌, ◌+◌, ◌++◌, ◌∷◌, [], sym, ap, ap₂, take, length, List, ℕ, arith}
use Rattle.std.proofs.lemmas.List.{take_more, length-take-le}
use Rattle.kb_text.specs.Terms.{names_of}
use Rattle.kb_decide.specs.declared.decision.Decision.{Decision}
use Rattle.kb_goals.specs.Answering.{decision_text, decisions_text}
use Rattle.kb_goals.proofs.DecisionLines.{decisions_text-more}
use Rattle.kb_goals.proofs.decided.push_decisions.Goals as goal

pub loop-k-preserved : goal.loop-k-preserved
loop-k-preserved c =
    let ds = c.args.decisions.now in
    let k = c.loop-k.k in
    let names = names_of c.args.signature.now in
    let d = c.index-decisions-k.result in
    let room : k < length ds = omega (arith, c.loop-k-test.true) in
    let number : k + 1 ≡ 1 + length (take k ds) = omega (arith, length-take-le k ds (omega arith)) in
    c.in_ok-push_decision.ensures ∙ ap₂ (λ (xs : List ℕ) n. xs ++ decision_text names n d) c.loop-k.invariant number
    ∙ append_assoc c.args.out.now.items (decisions_text names 1 (take k ds)) (decision_text names (1 + length (take k ds)) d)
    ∙ ap (c.args.out.now.items ++◌) (sym (ap (decisions_text names 1) (take_more ds k d room ∙ ap (λ (x : Decision). take k ds ++ x ∷ []) (sym c.index-decisions-k.is)) ∙ decisions_text-more names 1 (take k ds) d))
