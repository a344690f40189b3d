use Rattle.std.proofs.Common.{◌∙◌}
use Rattle.mkb_rules.proofs.RowKept.{of_some, rules_pushed}
use Rattle.mkb_rules.proofs.role_row.rules_more.Goals as goal

pub returns-in-Ok : goal.returns-in-Ok
returns-in-Ok c = λ row e h.
    c.in-Ok.ensures ∙ rules_pushed row c.args.roles c.in_ok-rules.rules.items c.args.n.0 e (of_some _ _ _ c.in_ok-rules.was h)
