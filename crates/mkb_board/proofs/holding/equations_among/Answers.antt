use Rattle.std.proofs.Common.{◌∙◌, ◌<◌, ◌++◌, ◌∷◌, [], List, cond, length, map, filter, take, get_or, ap, sym, arith}
use Rattle.std.proofs.lemmas.List.{map-append, take_all, take_more}
use Rattle.kb_node.specs.declared.node.NodeId.{NodeId}
use Rattle.mkb_rules.specs.declared.roles.Roles.{Roles}
use Rattle.mkb_model.specs.Plain.{is_equation}
use Rattle.mkb_board.proofs.Having.{equations_held, held_there, listed_next}
use Rattle.mkb_board.proofs.holding.equations_among.Goals as goal

pub roles_by-roles-requires-clause-there : goal.roles_by-roles-requires-clause-there
roles_by-roles-requires-clause-there c = held_there c.args.state.now c.args.p.now c.args.held.now c.loop-i.i (record { 0 = 0 }) c.requires (omega (arith, c.loop-i-test.true))

pub loop-i-preserved : goal.loop-i-preserved
loop-i-preserved c =
    let b = c.args.state.now in
    let p = c.args.p.now in
    let l = c.args.held.now in
    let i = c.loop-i.i in
    let d : NodeId = record { 0 = 0 } in
    let n : NodeId = get_or l i d in
    let there : i < length l = omega (arith, c.loop-i-test.true) in
    ap (map (λ (k : NodeId). k.0)) (c.in_ok-push_equation.ensures ∙ ap (λ (r : Roles). c.loop-i.equations.items ++ cond r.equation (n ∷ []) []) c.roles_by-roles.ensures.roles)
    ∙ listed_next (is_equation b p) c.loop-i.equations.items (map (λ (k : NodeId). k.0) (take i l)) n c.loop-i.invariant
    ∙ ap (filter (is_equation b p)) (sym (ap (map (λ (k : NodeId). k.0)) (take_more l i d there) ∙ map-append (λ (k : NodeId). k.0) (take i l) (n ∷ [])))

pub returns : goal.returns
returns c =
    let b = c.args.state.now in
    let p = c.args.p.now in
    let l = c.args.held.now in
    c.loop-i.invariant
    ∙ ap (λ (ks : List NodeId). filter (is_equation b p) (map (λ (k : NodeId). k.0) ks)) (take_all c.loop-i.i l (omega (arith, c.loop-i-test.false)))
    ∙ ap (filter (is_equation b p)) c.requires
    ∙ equations_held b p
