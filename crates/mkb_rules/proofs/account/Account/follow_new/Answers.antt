use Rattle.std.proofs.Common.{◌≡◌, ◌++◌, ◌∷◌, [], List, length, ap, sym, subst, refl, ◌∙◌, arith}
use Rattle.std.specs.Prelude.{Result, Ok, Err, OnOk, OnErr}
use Rattle.mkb_model.specs.Plain.{PlainNode}
use Rattle.mkb_rules.specs.Accounts.{IsAccountOf, IsBare}
use Rattle.mkb_rules.specs.Roles.{AreRolesOf}
use Rattle.mkb_rules.specs.declared.roles.Roles.{Roles}
use Rattle.mkb_rules.proofs.RolesKept.{account_longer, account_more}
use Rattle.mkb_rules.proofs.account.Account.follow_new.Goals as goal

pub returns-then-as_slice-n : goal.returns-then-as_slice-n
returns-then-as_slice-n c = λ xs x bare n right. go xs x bare n right c.push.result c.push.ensures.ok c.push.ensures.err
  where
    old : List Roles
    old = c.args.self.now.roles

    go : {A B : Type 0} (xs : List PlainNode) (x : PlainNode) → IsBare x → c.args.n.0 ≡ length xs → IsAccountOf xs c.args.self.now → (o : Result A B) → OnOk o (c.push.new.self ≡ old ++ c.none.result ∷ []) → OnErr o (c.push.new.self ≡ old)
        → IsAccountOf (xs ++ x ∷ []) (record { sizes = c.args.self.now.sizes; roles = c.push.new.self })
    go xs x bare n right (Ok u) e f =
        account_longer x bare xs c.args.self.now (record { sizes = c.args.self.now.sizes; roles = c.push.new.self })
        (omega (arith, c.if-as_slice-n.true, ap length c.as_slice.ensures, n)) refl (e ∙ ap (λ (r : Roles). old ++ r ∷ []) c.none.ensures) right
    go xs x bare n right (Err u) e f =
        let more = account_more x bare xs c.args.self.now right in
        record { sizes = more.sizes; roles = subst {A = List Roles} (AreRolesOf (xs ++ x ∷ []) c.args.self.now.sizes.process) (sym f) more.roles }

pub returns-else-as_slice-n : goal.returns-else-as_slice-n
returns-else-as_slice-n c = λ xs x bare n right. account_more x bare xs c.args.self.now right
