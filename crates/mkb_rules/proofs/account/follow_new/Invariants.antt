use Rattle.std.proofs.Common.{ℕ, ◌≡◌, ◌<◌, ◌≤◌, ◌++◌, ◌∷◌, [], List, length, get_or}
use Rattle.std.specs.Prelude.{All}
use Rattle.mkb_model.specs.Plain.{PlainNode}
use Rattle.mkb_rules.specs.Accounts.{IsAccountOf, IsBare}
use Rattle.mkb_rules.specs.declared.account.Account.{Account}
use Rattle.mkb_rules.proofs.account.follow_new.Given as goal

-- those so far have noted the node, the others are as before
abbrev pub invariant-loop-i : goal.invariant-loop-i
invariant-loop-i l = record {
  count : length l.accounts.items ≡ length l.fn.accounts.items;
  end : l.i-end ≡ length l.fn.accounts.items;
  done : (xs : List PlainNode) (x : PlainNode) → IsBare x → l.n.0 ≡ length xs → All (IsAccountOf xs) l.fn.accounts.items → (j : ℕ) (d : Account) → j < l.i → j < length l.accounts.items → IsAccountOf (xs ++ x ∷ []) (get_or l.accounts.items j d);
  todo : (j : ℕ) (d : Account) → l.i ≤ j → j < length l.accounts.items → get_or l.accounts.items j d ≡ get_or l.fn.accounts.items j d;
}
