use Rattle.std.proofs.Common.{ap, ◌∙◌}
use Rattle.std.specs.Option.{is_some}
use Rattle.mkb_rules.proofs.Reasons.{over_reasoned}
use Rattle.mkb_rules.proofs.state.State.is_over.Goals as goal

pub returns : goal.returns
returns c = c.is_some.ensures ∙ ap is_some c.over.ensures ∙ over_reasoned c.args.self.now c.args.p.now
