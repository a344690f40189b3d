use Rattle.std.proofs.Common.{◌+◌, ◌*◌, ◌≡◌, ◌∙◌, length, ap, ap₂, sym, arith}
use Rattle.std.specs.Prelude.{sum_by}
use Rattle.mkb_model.specs.Plain.{numbers_from, node_size}
use Rattle.mkb_board.specs.Choosing.{role_count}
use Rattle.mkb_rules.proofs.Costs.{sum_next}
use Rattle.mkb_board.proofs.Costs.{cost_as}
use Rattle.mkb_board.proofs.cost.cost.Goals as goal

pub loop-n-preserved : goal.loop-n-preserved
loop-n-preserved c =
    let b = c.args.state.now in
    let p = c.args.p.now in
    let n = c.loop-n.n in
    record {
      value = ap₂ (λ x y. x + y) c.loop-n.invariant.value c.share-total.ensures.share ∙ sym (sum_next (λ m. role_count b p m * node_size b m) n);
      small = omega (arith, c.share-total.ensures.most, c.loop-n.invariant.small);
    }

pub returns : goal.returns
returns c =
    let b = c.args.state.now in
    let p = c.args.p.now in
    let all : c.loop-n.n ≡ length b.nodes = omega arith in
    c.loop-n.invariant.value ∙ ap (λ k. sum_by (λ m. role_count b p m * node_size b m) (numbers_from 0 k)) all ∙ sym (cost_as b p)
