use Rattle.std.proofs.Common.{ℕ, ◌≡◌, arith, length, sym, ap, subst, ◌∙◌, false, get_or, true≢false}
use Rattle.std.proofs.lemmas.List.{length-map}
use Rattle.mkb_rules.specs.Parts.{plain_node}
use Rattle.rules_in_use.proofs.Indexed.{IsIndexUpTo, up_to_all, up_to_next, up_to_none, up_to_sides}
use Rattle.rules_in_use.proofs.in_use.RulesInUse.of.Goals as goal

pub invariant_of-rules : goal.invariant_of-rules
invariant_of-rules c key = (λ i. absurd (c.new.ensures key i), λ t. absurd (true≢false (sym t ∙ ap (λ xs. get_or xs key false) c.new-2.ensures.items)))

pub loop-n-init : goal.loop-n-init
loop-n-init c = up_to_none c.args.state.now c.new.result c.new.ensures

pub loop-n-preserved : goal.loop-n-preserved
loop-n-preserved c = up_to_next c.args.state.now c.loop-n.n c.loop-n.rules c.look_at_node.new.self c.loop-n.invariant (c.in_ok-look_at_node.ensures (up_to_sides c.args.state.now c.loop-n.n c.loop-n.rules c.loop-n.invariant))

pub returns : goal.returns
returns c =
    let all : c.loop-n.n ≡ length c.args.state.now.nodes = omega (arith, c.loop-n-test.false, c.loop-n.auto.n-end, c.len-n-end.ensures.count, length-map c.nodes.result.now plain_node, ap length c.nodes.ensures) in
    up_to_all c.args.state.now c.loop-n.rules (subst (λ (n : ℕ). IsIndexUpTo c.args.state.now n c.loop-n.rules) all c.loop-n.invariant)
