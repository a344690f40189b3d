use Rattle.std.proofs.Common.{List, vec_len}
use Rattle.std.specs.Prelude.{All}
use Rattle.mkb_model.specs.Plain.{PlainNode}
use Rattle.mkb_rules.specs.Accounts.{IsAccountOf}
use Rattle.mkb_rules.proofs.set_aside.put_all_in.Given as goal

-- the accounts on both sides are right
abbrev pub invariant-loop-account : goal.invariant-loop-account
invariant-loop-account l = (xs : List PlainNode) → All (IsAccountOf xs) l.fn.accounts.items → All (IsAccountOf xs) l.fn.others.items → All (IsAccountOf xs) l.accounts.items × All (IsAccountOf xs) l.others.items

abbrev pub decreases-loop-account : goal.decreases-loop-account
decreases-loop-account l = vec_len l.accounts
