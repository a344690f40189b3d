use Rattle.std.proofs.Common.{suc, List, [], ◌∷◌, ◌++◌, arith, subst}
use Rattle.std.specs.Prelude.{All}
use Rattle.std.proofs.lemmas.List.Elements.{All-take}
use Rattle.mkb_rules.specs.Accounts.{IsAccountOf}
use Rattle.mkb_rules.specs.declared.account.Account.{Account}
use Rattle.mkb_rules.proofs.set_aside.put_all_in.Goals as goal

all_last : {X : Type 0} (P : X → Type 0) (xs : List X) (y : X) → All P (xs ++ y ∷ []) → P y
all_last P [] y h = h 0 y (omega arith)
all_last P (x ∷ xs) y h = all_last P xs y (λ k d u. h (suc k) d (omega (arith, u)))

pub loop-account-preserved : goal.loop-account-preserved
loop-account-preserved c = λ xs accounts others.
    let h = c.loop-account.invariant xs accounts others in
    let last = all_last (IsAccountOf xs) c.pop.new.self.items c.in-Some.account (subst {A = List Account} (All (IsAccountOf xs)) c.in-Some.ensures.items h.0) in
    (rw c.in-Some.ensures.rest (All-take (IsAccountOf xs) _ c.loop-account.accounts.items h.0), c.put_in.ensures xs last h.1)
