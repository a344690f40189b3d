use Rattle.std.proofs.Common.{subst, arith}
use Rattle.std.proofs.lemmas.List.Elements.{All-more}
use Rattle.std.proofs.lemmas.List.{take_all}
use Rattle.std.specs.Prelude.{All}
use Rattle.kb_term.specs.Rule.{Rule}
use Rattle.kb_rewrite.specs.Roots.{IsNoted}
use Rattle.kb_rewrite.proofs.roots.Roots.of.Goals as goal

pub loop-rule-preserved : goal.loop-rule-preserved
loop-rule-preserved c =
    let noted = λ (rule : Rule). IsNoted c.note.new.self rule.left in
    let rules = c.args.rules.now in
    let i = c.loop-rule.rule-index in
    let rule = c.rule-item.result in
    All-more noted rules i rule c.loop-rule-test.true (λ k d h. c.note.ensures.kept _ (c.loop-rule.invariant k d h)) (subst noted c.rule-item.is (subst (IsNoted c.note.new.self) c.left.ensures c.note.ensures.noted))

pub returns : goal.returns
returns c = subst (All (λ (rule : Rule). IsNoted c.loop-rule.roots rule.left)) (take_all c.loop-rule.rule-index c.args.rules.now (omega (arith, c.loop-rule-test.false))) c.loop-rule.invariant
