use Rattle.std.proofs.Common.{ℕ, ◌≡◌, ◌∙◌, ◌++◌, ◌∷◌, [], cond, length, map, filter, ap, sym, arith}
use Rattle.kb_node.specs.declared.node.NodeId.{NodeId}
use Rattle.mkb_model.specs.Plain.{numbers_from}
use Rattle.mkb_rules.specs.declared.roles.Roles.{Roles}
use Rattle.mkb_rules.proofs.Costs.{numbers_next}
use Rattle.mkb_rules.specs.Roles.{is_in_use, roles_of}
use Rattle.mkb_board.proofs.Having.{listed_next}
use Rattle.mkb_board.proofs.holding.held_of_all.Goals as goal

pub loop-n-preserved : goal.loop-n-preserved
loop-n-preserved c =
    let b = c.args.state.now in
    let p = c.args.p.now in
    let n : NodeId = record { 0 = c.loop-n.n } in
    ap (map (λ (k : NodeId). k.0)) (c.in_ok-push_held.ensures ∙ ap (λ (r : Roles). c.loop-n.held.items ++ cond (is_in_use r) (n ∷ []) []) c.roles_by-roles.ensures.roles)
    ∙ listed_next (λ m. is_in_use (roles_of b p m)) c.loop-n.held.items (numbers_from 0 c.loop-n.n) n c.loop-n.invariant
    ∙ ap (filter (λ m. is_in_use (roles_of b p m))) (sym (numbers_next c.loop-n.n))

pub returns : goal.returns
returns c =
    let b = c.args.state.now in
    let all : c.loop-n.n ≡ length b.nodes = omega arith in
    c.loop-n.invariant ∙ ap (λ (k : ℕ). filter (λ m. is_in_use (roles_of b c.args.p.now m)) (numbers_from 0 k)) all
