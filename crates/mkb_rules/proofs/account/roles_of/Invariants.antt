use Rattle.std.proofs.Common.{◌≡◌, length}
use Rattle.mkb_rules.specs.Parts.{plain_nodes}
use Rattle.mkb_rules.specs.Roles.{AreRolesOf}
use Rattle.mkb_rules.proofs.account.roles_of.Given as goal

-- the roles of the nodes so far
abbrev pub invariant-loop-n : goal.invariant-loop-n
invariant-loop-n l = record {
  count : length l.roles ≡ l.n;
  right : AreRolesOf (plain_nodes l.table) l.p l.roles;
}
