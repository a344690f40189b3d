use Rattle.std.proofs.Common.{ℕ, ◌∙◌, ◌<◌, ◌∷◌, [], List, length, map, filter, flat_map, take, get_or, ap, sym, arith}
use Rattle.std.proofs.lemmas.List.{map-append, take_all, take_more}
use Rattle.kb_node.specs.declared.node.NodeId.{NodeId}
use Rattle.mkb_model.specs.Plain.{directions, is_constraint}
use Rattle.mkb_board.proofs.Having.{constrained_there, constraints_listed}
use Rattle.mkb_board.proofs.Viewed.{directions_next}
use Rattle.mkb_board.proofs.snapshots.orienting.constraints_among.Goals as goal

pub push_constraints-requires : goal.push_constraints-requires
push_constraints-requires c = constrained_there c.args.state.now c.args.constrained.now c.loop-i.i (record { 0 = 0 }) c.requires (omega (arith, c.loop-i-test.true))

pub loop-i-preserved : goal.loop-i-preserved
loop-i-preserved c =
    let F = is_constraint c.args.state.now c.args.p.now in
    let l = c.args.constrained.now in
    let i = c.loop-i.i in
    let d : NodeId = record { 0 = 0 } in
    let n : NodeId = get_or l i d in
    let there : i < length l = omega (arith, c.loop-i-test.true) in
    c.in_ok-push_constraints.ensures
    ∙ directions_next F (map (λ (k : NodeId). k.0) (take i l)) n.0 c.loop-i.constraints.items c.loop-i.invariant
    ∙ ap (λ (xs : List ℕ). filter F (flat_map directions xs)) (sym (ap (map (λ (k : NodeId). k.0)) (take_more l i d there) ∙ map-append (λ (k : NodeId). k.0) (take i l) (n ∷ [])))

pub returns : goal.returns
returns c =
    let b = c.args.state.now in
    let p = c.args.p.now in
    let l = c.args.constrained.now in
    c.loop-i.invariant ∙ ap (λ (ks : List NodeId). filter (is_constraint b p) (flat_map directions (map (λ (k : NodeId). k.0) ks))) (take_all c.loop-i.i l (omega (arith, c.loop-i-test.false))) ∙ constraints_listed b p l c.requires
