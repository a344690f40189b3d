use Rattle.std.proofs.Common.{◌*◌, ◌≡◌, ap₂, arith}
use Rattle.mkb_model.specs.Plain.{node_size}
use Rattle.mkb_board.specs.Choosing.{role_count}
use Rattle.mkb_board.proofs.Costs.{share_most}
use Rattle.mkb_board.proofs.cost.share.Goals as goal

pub overflow_mul-result : goal.overflow_mul-result
overflow_mul-result c =
    let b = c.args.state.now in
    let n = c.args.n.0 in
    let share : c.role_count.result * c.node_size.result ≡ role_count b c.args.p.now n * node_size b n = ap₂ (λ x y. x * y) c.role_count.ensures c.node_size.ensures.size in
    omega (arith, share, share_most b.problem.signature b c.args.p.now c.requires.limited n)

pub returns-clause-share : goal.returns-clause-share
returns-clause-share c = ap₂ (λ x y. x * y) c.role_count.ensures c.node_size.ensures.size

pub returns-clause-most : goal.returns-clause-most
returns-clause-most c =
    let b = c.args.state.now in
    let n = c.args.n.0 in
    let share : c.role_count.result * c.node_size.result ≡ role_count b c.args.p.now n * node_size b n = ap₂ (λ x y. x * y) c.role_count.ensures c.node_size.ensures.size in
    omega (arith, share, share_most b.problem.signature b c.args.p.now c.requires.limited n)
