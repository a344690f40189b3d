use Rattle.std.proofs.Common.{◌∙◌, List, ap, subst, sym}
use Rattle.std.specs.Prelude.{All}
use Rattle.mkb_rules.specs.Accounts.{IsAccountOf}
use Rattle.mkb_rules.specs.declared.account.Account.{Account}
use Rattle.mkb_rules.proofs.Edited.{all_remove}
use Rattle.mkb_rules.proofs.set_aside.taken_out.Goals as goal

pub returns-in-Ok-clause-own : goal.returns-in-Ok-clause-own
returns-in-Ok-clause-own c = λ xs all.
    let a = c.remove.result in
    let found = rw c.deref.ensures.value at c.in-Ok.ensures.found in (
      ap (λ (z : Account). z.sizes.process) c.remove.ensures.value ∙ found.1 a,
      subst {A = Account} (IsAccountOf xs) (sym c.remove.ensures.value) (all c.in-Ok.place a found.0),
    )

pub returns-in-Ok-clause-others : goal.returns-in-Ok-clause-others
returns-in-Ok-clause-others c = λ xs all. subst {A = List Account} (All (IsAccountOf xs)) (sym c.remove.ensures.items) (all_remove (IsAccountOf xs) c.args.accounts.now.items c.in-Ok.place all)
