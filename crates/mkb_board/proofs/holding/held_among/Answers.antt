use Rattle.std.proofs.Common.{◌∙◌, ◌<◌, ◌++◌, ◌∷◌, [], List, cond, length, map, filter, take, get_or, ap, sym, arith}
use Rattle.std.proofs.lemmas.List.{map-append, take_all, take_more}
use Rattle.kb_node.specs.declared.node.NodeId.{NodeId}
use Rattle.mkb_rules.specs.declared.roles.Roles.{Roles}
use Rattle.mkb_rules.specs.Roles.{is_in_use, roles_of}
use Rattle.mkb_board.proofs.Having.{alive_there, held_alive, listed_next}
use Rattle.mkb_board.proofs.holding.held_among.Goals as goal

pub roles_by-roles-requires-clause-there : goal.roles_by-roles-requires-clause-there
roles_by-roles-requires-clause-there c = alive_there c.args.state.now c.args.alive.now c.loop-i.i (record { 0 = 0 }) c.requires (omega (arith, c.loop-i-test.true))

pub loop-i-preserved : goal.loop-i-preserved
loop-i-preserved c =
    let b = c.args.state.now in
    let p = c.args.p.now in
    let l = c.args.alive.now in
    let i = c.loop-i.i in
    let d : NodeId = record { 0 = 0 } in
    let n : NodeId = get_or l i d in
    let there : i < length l = omega (arith, c.loop-i-test.true) in
    ap (map (λ (k : NodeId). k.0)) (c.in_ok-push_held.ensures ∙ ap (λ (r : Roles). c.loop-i.held.items ++ cond (is_in_use r) (n ∷ []) []) c.roles_by-roles.ensures.roles)
    ∙ listed_next (λ m. is_in_use (roles_of b p m)) c.loop-i.held.items (map (λ (k : NodeId). k.0) (take i l)) n c.loop-i.invariant
    ∙ ap (filter (λ m. is_in_use (roles_of b p m))) (sym (ap (map (λ (k : NodeId). k.0)) (take_more l i d there) ∙ map-append (λ (k : NodeId). k.0) (take i l) (n ∷ [])))

pub returns : goal.returns
returns c =
    let b = c.args.state.now in
    let p = c.args.p.now in
    let l = c.args.alive.now in
    c.loop-i.invariant ∙ ap (λ (ks : List NodeId). filter (λ m. is_in_use (roles_of b p m)) (map (λ (k : NodeId). k.0) ks)) (take_all c.loop-i.i l (omega (arith, c.loop-i-test.false))) ∙ held_alive b p l c.requires
