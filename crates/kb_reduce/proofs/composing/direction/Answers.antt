use Rattle.std.proofs.Common.{◌≡◌, ◌∙◌, sym, arith}
use Rattle.kb_term.specs.View.{pair_of}
use Rattle.kb_reduce.proofs.Directions.{pair_with, cited_forth, cited_back}
use Rattle.kb_reduce.proofs.composing.direction.Goals as goal

pub returns-then-has_sides-clause-direction : goal.returns-then-has_sides-clause-direction
returns-then-has_sides-clause-direction c =
    let sides : pair_of c.left.result.now c.right.result.now ≡ pair_with c.args.rule.now.0 = λ i. record { first = c.left.ensures i; second = c.right.ensures i } in
    cited_forth c.args.steps.now c.args.rule.now c.index-steps-rule.result c.requires c.index-steps-rule.is (sym c.pair-pair.ensures ∙ c.has_sides.ensures.0 (grind (arith, c.if-has_sides.true)) ∙ sides)

pub returns-else-has_sides-clause-direction : goal.returns-else-has_sides-clause-direction
returns-else-has_sides-clause-direction c =
    let sides : pair_of c.left.result.now c.right.result.now ≡ pair_with c.args.rule.now.0 = λ i. record { first = c.left.ensures i; second = c.right.ensures i } in
    cited_back c.args.steps.now c.args.rule.now c.index-steps-rule.result c.requires c.index-steps-rule.is (λ e. let h = c.has_sides.ensures.1 (c.pair-pair.ensures ∙ e ∙ sym sides) in absurd (grind (arith, h, c.if-has_sides.false)))
