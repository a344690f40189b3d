use Rattle.std.proofs.Common.{sym, ◌∙◌}
use Rattle.kb_label.proofs.Members.{name_eq-eq}
use Rattle.mkb_rules.proofs.tracked.Tracked.account.Goals as goal

pub returns-in-Some-clause-process : goal.returns-in-Some-clause-process
returns-in-Some-clause-process c = name_eq-eq c.in-Some.account.now.sizes.process c.args.p.now (sym c.eq.ensures ∙ c.if-eq.true)
