use Rattle.std.proofs.Common.{◌≡◌, ◌<◌, ap, sym, subst, map, length, arith}
use Rattle.std.specs.Prelude.{IfSome}
use Rattle.kb_node.specs.declared.node.NodeId.{NodeId}
use Rattle.mkb_rules.specs.Roles.{held_by, rules_by}
use Rattle.mkb_rules.proofs.RowKept.{equations_before, equations_few, equations_set}
use Rattle.mkb_rules.proofs.role_row.RoleRow.set.Goals as goal

pub overflow_add-self : goal.overflow_add-self
overflow_add-self c = omega (arith, c.self.invariant.2, equations_few c.self.inside.roles.items, c.self.inside.roles.ok.0, c.self.inside.roles.small, c.one_if-2.ensures.most)

pub overflow_sub-self : goal.overflow_sub-self
overflow_sub-self c =
    let row = c.self.inside.roles.items in
    let there : c.args.n.0 < length row = omega (arith, c.requires, ap length c.self.view_is) in
    omega (arith, c.self.invariant.2, c.one_if.ensures.value, equations_before row c.args.n.0 c.index-was.result.now there c.index-was.ensures)

pub invariant_of-self : goal.invariant_of-self
invariant_of-self c =
    let row = c.self.inside.roles.items in
    let there : c.args.n.0 < length row = omega (arith, c.requires, ap length c.self.view_is) in (
      c.held_with.ensures row there (subst (λ o. IfSome o (λ l. map (λ (m : NodeId). m.0) l.items ≡ held_by row)) (sym c.take.ensures.value) c.self.invariant.0),
      c.rules_with.ensures row there (subst (λ o. IfSome o (λ l. l.items ≡ rules_by row)) (sym c.take-2.ensures.value) c.self.invariant.1),
      omega (arith, c.self.invariant.2, c.one_if.ensures.value, c.one_if-2.ensures.value, equations_before row c.args.n.0 c.index-was.result.now there c.index-was.ensures, equations_set row c.args.n.0 c.args.roles c.index-was.result.now there c.index-was.ensures),
    )
