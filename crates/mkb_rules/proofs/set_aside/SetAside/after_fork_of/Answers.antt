use Rattle.std.proofs.Common.{◌≡◌, arith, length, ap, map}
use Rattle.mkb_model.specs.Effects.{forked_node}
use Rattle.mkb_rules.specs.Accounts.{IsAccountOf}
use Rattle.mkb_rules.specs.declared.account.Account.{Account}
use Rattle.mkb_rules.proofs.Apart.{accounts_kept, account_inherited}
use Rattle.mkb_rules.proofs.RowKept.{of_some}
use Rattle.mkb_rules.proofs.set_aside.SetAside.after_fork_of.Goals as goal

pub returns-in-Some : goal.returns-in-Some
returns-in-Some c = λ xs aside inherit.
    let p = c.args.p.now in
    let own = of_some (λ (a : Account). (a.sizes.process ≡ p) × IsAccountOf xs a) c.args.self.own c.in-Some.own c.in-Some.is aside.own in
    record {
      children = c.hand_on.ensures (map (forked_node p) xs) (account_inherited p xs c.in-Some.own own.0 (inherit c.if-children_inherit.true) own.1) (λ k d h. absurd (omega (arith, h, ap length c.new-children.ensures.items)));
      others = accounts_kept p xs c.args.self.others.items aside.apart aside.others;
      apart = aside.apart;
    }

pub returns-in_default : goal.returns-in_default
returns-in_default c = λ xs aside inherit. record {
  children = λ k d h. absurd (omega (arith, h, ap length c.new-children.ensures.items));
  others = accounts_kept c.args.p.now xs c.args.self.others.items aside.apart aside.others;
  apart = aside.apart;
}
