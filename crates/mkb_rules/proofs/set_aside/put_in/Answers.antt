use Rattle.std.specs.Prelude.{is_ok}
use Rattle.mkb_rules.specs.Accounts.{IsAccountOf}
use Rattle.mkb_rules.proofs.Edited.{all_inserted}
use Rattle.mkb_rules.proofs.set_aside.put_in.Goals as goal

pub returns-in-Err : goal.returns-in-Err
returns-in-Err c = λ xs right all.
    all_inserted (IsAccountOf xs) c.args.accounts.now.items c.insert.new.self.items c.in-Err.place c.args.account (is_ok c.insert.result) c.insert.ensures.items all right
