use Rattle.std.proofs.Common.{ℕ, ◌≡◌, ◌∙◌, List, filter, flat_map, length, ap, sym, arith}
use Rattle.mkb_model.specs.Plain.{directions, is_constraint, numbers_from}
use Rattle.mkb_rules.proofs.Costs.{numbers_next}
use Rattle.mkb_board.proofs.Viewed.{directions_next}
use Rattle.mkb_board.proofs.snapshots.orienting.constraints_of_all.Goals as goal

pub loop-n-preserved : goal.loop-n-preserved
loop-n-preserved c =
    let F = is_constraint c.args.state.now c.args.p.now in
    c.in_ok-push_constraints.ensures
    ∙ directions_next F (numbers_from 0 c.loop-n.n) c.loop-n.n c.loop-n.constraints.items c.loop-n.invariant
    ∙ ap (λ (xs : List ℕ). filter F (flat_map directions xs)) (sym (numbers_next c.loop-n.n))

pub returns : goal.returns
returns c =
    let b = c.args.state.now in
    let all : c.loop-n.n ≡ length b.nodes = omega arith in
    c.loop-n.invariant ∙ ap (λ (k : ℕ). filter (is_constraint b c.args.p.now) (flat_map directions (numbers_from 0 k))) all
