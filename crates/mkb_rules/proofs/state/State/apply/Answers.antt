use Rattle.std.proofs.Common.{IfOk, subst, sym}
use Rattle.mkb_model.specs.declared.proposed.Proposed.{Proposed}
use Rattle.mkb_rules.specs.Applying.{Commits}
use Rattle.mkb_rules.proofs.Leading.{untargeted_ok}
use Rattle.mkb_rules.proofs.state.State.apply.Goals as goal

pub returns-in-Limit-clause-ok : goal.returns-in-Limit-clause-ok
returns-in-Limit-clause-ok c =
    untargeted_ok c.pass_limit.result c.without_target-in-Limit.result (Commits c.args.self.now c.args.proposal.now c.pass_limit.new.self) c.without_target-in-Limit.ensures
    (subst {A = Proposed} (λ x. IfOk c.pass_limit.result (Commits c.args.self.now x c.pass_limit.new.self)) (sym c.in-Limit.is) c.pass_limit.ensures.ok)
