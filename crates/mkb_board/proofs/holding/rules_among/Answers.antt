use Rattle.std.proofs.Common.{ℕ, ◌∙◌, ◌<◌, ◌++◌, ◌∷◌, [], List, length, map, filter, flat_map, take, get_or, append-nil, ap, sym, arith}
use Rattle.std.proofs.lemmas.Grind.{flat_map-append}
use Rattle.std.proofs.lemmas.List.{map-append, take_all, take_more}
use Rattle.std.proofs.lemmas.List.Elements.{filter-append}
use Rattle.kb_node.specs.declared.node.NodeId.{NodeId}
use Rattle.kb_term.specs.declared.origin.RuleRef.{RuleRef}
use Rattle.mkb_model.specs.Plain.{directions, is_rule}
use Rattle.mkb_rules.specs.Roles.{rules_in}
use Rattle.mkb_rules.specs.declared.roles.Roles.{Roles}
use Rattle.mkb_board.proofs.Having.{held_there, rules_held, rules_of_roles}
use Rattle.mkb_board.proofs.holding.rules_among.Goals as goal

pub roles_by-roles-requires-clause-there : goal.roles_by-roles-requires-clause-there
roles_by-roles-requires-clause-there c = held_there c.args.state.now c.args.p.now c.args.held.now c.loop-i.i (record { 0 = 0 }) c.requires (omega (arith, c.loop-i-test.true))

pub loop-i-preserved : goal.loop-i-preserved
loop-i-preserved c =
    let b = c.args.state.now in
    let p = c.args.p.now in
    let l = c.args.held.now in
    let i = c.loop-i.i in
    let d : NodeId = record { 0 = 0 } in
    let n : NodeId = get_or l i d in
    let there : i < length l = omega (arith, c.loop-i-test.true) in
    let ns = map (λ (k : NodeId). k.0) (take i l) in
    c.in_ok-push_rules.ensures ∙ ap (λ (r : Roles). c.loop-i.rules.items ++ rules_in n.0 r) c.roles_by-roles.ensures.roles
    ∙ ap (λ (xs : List RuleRef). c.loop-i.rules.items ++ xs) (rules_of_roles b p n.0)
    ∙ ap (λ (xs : List RuleRef). xs ++ filter (is_rule b p) (directions n.0)) c.loop-i.invariant
    ∙ sym (filter-append (is_rule b p) (flat_map directions ns) (directions n.0))
    ∙ ap (λ (xs : List RuleRef). filter (is_rule b p) (flat_map directions ns ++ xs)) (sym (append-nil (directions n.0)))
    ∙ ap (filter (is_rule b p)) (sym (flat_map-append directions ns (n.0 ∷ [])))
    ∙ ap (λ (ks : List ℕ). filter (is_rule b p) (flat_map directions ks)) (sym (ap (map (λ (k : NodeId). k.0)) (take_more l i d there) ∙ map-append (λ (k : NodeId). k.0) (take i l) (n ∷ [])))

pub returns : goal.returns
returns c =
    let b = c.args.state.now in
    let p = c.args.p.now in
    c.loop-i.invariant
    ∙ ap (λ (ks : List NodeId). filter (is_rule b p) (flat_map directions (map (λ (k : NodeId). k.0) ks))) (take_all c.loop-i.i c.args.held.now (omega (arith, c.loop-i-test.false)))
    ∙ ap (λ (ks : List ℕ). filter (is_rule b p) (flat_map directions ks)) c.requires ∙ rules_held b p
