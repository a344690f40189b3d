use Rattle.std.proofs.Common.{◌∙◌, sym, length}
use Rattle.std.proofs.lemmas.Option.{IfSome_then}
use Rattle.mkb_rules.specs.Roles.{but_for}
use Rattle.mkb_rules.proofs.RowKept.{first, rule_before, rules_set}
use Rattle.mkb_rules.proofs.role_row.rules_with.Goals as goal

pub returns : goal.returns
returns c = λ row h e.
    let n = c.args.n.0 in
    let r = c.args.roles in
    let once = c.updated-rules.ensures (rule_before row n r h) (length row) h e in
    IfSome_then c.updated.result (c.updated.ensures (but_for (rule_before row n r h) (first row n r h) r.first) (length row) h once) (λ l a. a ∙ sym (rules_set row n r h))
