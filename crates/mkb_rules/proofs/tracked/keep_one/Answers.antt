use Rattle.std.specs.Prelude.{is_ok}
use Rattle.mkb_rules.specs.Accounts.{IsAccountOf}
use Rattle.mkb_rules.specs.Parts.{plain_nodes}
use Rattle.mkb_rules.proofs.Edited.{all_inserted}
use Rattle.mkb_rules.proofs.tracked.keep_one.Goals as goal

pub returns-in-Some-account_of-clause-right : goal.returns-in-Some-account_of-clause-right
returns-in-Some-account_of-clause-right c =
    all_inserted (IsAccountOf (plain_nodes c.args.table.now)) c.args.accounts.now.items c.insert.new.self.items c.args.place c.in-Some-account_of.account (is_ok c.insert.result)
    c.insert.ensures.items c.requires.right c.in-Some-account_of.ensures.right
