-- Accounts that are set aside while a process forks.
use Rattle.std.specs.Prelude.{◌≡◌, List, All, IfSome}
use Rattle.kb_label.specs.Names.{Name}
use Rattle.mkb_model.specs.Plain.{PlainNode}
use Rattle.mkb_rules.specs.Accounts.{IsAccountOf, IsApart}
use Rattle.mkb_rules.specs.declared.account.Account.{Account}
use Rattle.mkb_rules.specs.declared.set_aside.HandedOn.{HandedOn}
use Rattle.mkb_rules.specs.declared.set_aside.SetAside.{SetAside}

-- all of them are right, one is that of p, and the others are those of neither p nor a child of it
pub record AreSetAside (xs : List PlainNode) (p : Name) (s : SetAside) : Type 0 where
  pub own : IfSome s.own (λ (a : Account). (a.sizes.process ≡ p) × IsAccountOf xs a)
  pub others : All (IsAccountOf xs) s.others.items
  pub apart : All (IsApart p) s.others.items

-- after a fork of p all of them are right, and the others are those of neither p nor a child of it
pub record AreHandedOn (xs : List PlainNode) (p : Name) (s : HandedOn) : Type 0 where
  pub children : All (IsAccountOf xs) s.children.items
  pub others : All (IsAccountOf xs) s.others.items
  pub apart : All (IsApart p) s.others.items
