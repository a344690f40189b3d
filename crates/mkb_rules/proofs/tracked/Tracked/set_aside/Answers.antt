use Rattle.mkb_rules.specs.Parts.{plain_nodes}
use Rattle.mkb_rules.proofs.tracked.Tracked.set_aside.Goals as goal

pub returns-clause-right : goal.returns-clause-right
returns-clause-right c =
    rw (← c.self.view_is)
    (c.for_fork_of.ensures (plain_nodes c.self.inside.table) (rw c.replace-accounts.ensures.value c.self.invariant.1))
