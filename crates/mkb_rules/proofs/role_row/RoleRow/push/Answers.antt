use Rattle.std.proofs.Common.{arith}
use Rattle.mkb_rules.proofs.RowKept.{equations_few}
use Rattle.mkb_rules.proofs.role_row.RoleRow.push.Goals as goal

pub overflow_add-self : goal.overflow_add-self
overflow_add-self c = omega (arith, c.self.invariant.2, equations_few c.self.inside.roles.items, c.self.inside.roles.ok.0, c.self.inside.roles.small, c.one_if.ensures.most)
