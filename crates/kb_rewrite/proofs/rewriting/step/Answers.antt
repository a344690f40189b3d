use Rattle.std.proofs.Common.{◌≡◌, ◌∙◌, ap, Some}
use Rattle.kb_term.specs.Position.{subtree_at}
use Rattle.kb_term.specs.Substitution.{instance, substitution_of}
use Rattle.kb_term.specs.View.{tree_of}
use Rattle.kb_term.proofs.Limited.{limited-memory}
use Rattle.kb_rewrite.proofs.FirstRedexes.{rule_inside}
use Rattle.kb_rewrite.proofs.Steps.{step_made, step_memory}
use Rattle.kb_rewrite.proofs.rewriting.step.Goals as goal

pub returns-in_err-m : goal.returns-in_err-m
returns-in_err-m c = step_memory c.args.rules.now (tree_of c.args.t.now) c.args.r.now.position c.args.r.now.rule c.requires c.from_residual.result (λ v. limited-memory v _ c.from_residual.ensures.1)

pub returns-in_err-made : goal.returns-in_err-made
returns-in_err-made c = step_memory c.args.rules.now (tree_of c.args.t.now) c.args.r.now.position c.args.r.now.rule c.requires c.from_residual-in_err-made.result (λ v. limited-memory v _ c.from_residual-in_err-made.ensures.1)

pub returns : goal.returns
returns c =
    let rules = c.args.rules.now in
    let t = tree_of c.args.t.now in
    let p = c.args.r.now.position in
    let i = c.args.r.now.rule in
    let rule = c.index-rules-r.result in
    let m = substitution_of c.in_ok-m.m in
    let at : subtree_at t p ≡ Some (instance m rule.left) = c.in_ok-m.ensures ∙ ap (λ u. Some (instance m u)) c.left.ensures in
    step_made rules t (tree_of c.in_ok-made.made) p i rule m c.replace.result (rule_inside rules i c.requires.rule c.requires.there) c.index-rules-r.is at (c.in_ok-made.ensures ∙ ap (instance m) c.right.ensures) c.replace.ensures
