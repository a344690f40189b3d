use Rattle.std.proofs.Common.{◌≡◌, ◌<◌, ◌≤◌, ℕ, length, get_or}
use Rattle.kb_node.specs.Labelled.{with_label_at}
use Rattle.mkb_rules.specs.Parts.{plain_nodes}
use Rattle.mkb_rules.specs.Accounts.{IsAccountOf}
use Rattle.mkb_rules.specs.declared.account.Account.{Account}
use Rattle.mkb_rules.proofs.account.follow.Given as goal

-- those so far have followed the label, the others are as before
abbrev pub invariant-loop-i : goal.invariant-loop-i
invariant-loop-i l = record {
  count : length l.accounts.items ≡ l.i-end;
  done : (j : ℕ) (d : Account) → j < l.i → j < length l.accounts.items → IsAccountOf (plain_nodes (with_label_at l.fn.table l.fn.change.node.0 l.fn.change.kind l.fn.label)) (get_or l.accounts.items j d);
  todo : (j : ℕ) (d : Account) → l.i ≤ j → j < length l.accounts.items → IsAccountOf (plain_nodes l.fn.table) (get_or l.accounts.items j d);
}
