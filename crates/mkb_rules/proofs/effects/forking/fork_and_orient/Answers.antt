use Rattle.std.proofs.Common.{◌<◌, ◌∙◌, [], ◌∷◌, length, map, ap, sym, subst, arith, List, All, false, true}
use Rattle.kb_label.specs.Names.{child}
use Rattle.kb_term.specs.declared.origin.RuleRef.{RuleRef}
use Rattle.mkb_model.specs.Plain.{PlainNode}
use Rattle.mkb_model.specs.Effects.{forked_node}
use Rattle.mkb_rules.specs.Accounts.{IsAccountOf}
use Rattle.mkb_rules.specs.Parts.{oriented_by}
use Rattle.mkb_rules.proofs.Apart.{accounts_oriented}
use Rattle.mkb_rules.proofs.Relabelled.{length_oriented, length_forked}
use Rattle.mkb_rules.proofs.effects.forking.fork_and_orient.Goals as goal

pub orient_nodes-requires-2 : goal.orient_nodes-requires-2
orient_nodes-requires-2 c =
    omega (
      arith,
      ap length c.in_ok-orient_nodes.ensures.ok,
      length_oriented c.args.left.now (record { node = c.args.n.0; dir = 0 }) c.fork_nodes.new.nodes.now,
      ap length c.in_ok-others.ensures.ok,
      length_forked c.args.p.now c.args.nodes.now.now,
      c.requires.there,
    )

pub take_in-requires : goal.take_in-requires
take_in-requires c =
    let p = c.args.p.now in
    let n = c.args.n.0 in
    let others = c.in_ok-others.others.items in
    let first : RuleRef = record { node = n; dir = 0 } in
    let second : RuleRef = record { node = n; dir = 1 } in
    let forked = map (forked_node p) c.args.nodes.now.now in
    let once = oriented_by (child p false ∷ []) first forked in
    let there : n < length forked = omega (arith, length_forked p c.args.nodes.now.now, c.requires.there) in
    let there-2 : n < length once = omega (arith, there, length_oriented (child p false ∷ []) first forked) in
    let right = accounts_oriented p true second once others there-2 c.in_ok-others.ensures.apart
    (accounts_oriented p false first forked others there c.in_ok-others.ensures.apart c.in_ok-others.ensures.right) in
    let nodes = c.in_ok-orient_nodes-2.ensures.ok
    ∙ ap (oriented_by c.args.right.now second) (c.in_ok-orient_nodes.ensures.ok ∙ ap (oriented_by c.args.left.now first) c.in_ok-others.ensures.ok)
    ∙ (λ i. oriented_by (c.requires.right i) second (oriented_by (c.requires.left i) first forked)) in
    subst {A = List PlainNode} (λ ys. All (IsAccountOf ys) others) (sym nodes) right
