-- Accounts of processes, as they are kept.
use Rattle.std.specs.Prelude.{ℕ, ◌≡◌, List, [], Bool, true, false, not, ◌&&◌, ⊤}
use Rattle.kb_label.specs.Names.{Name, has, name_eq, child, relabel}
use Rattle.kb_node.specs.declared.node.LabelKind.{LabelKind}
use Rattle.mkb_model.specs.Plain.{PlainNode, label_at}
use Rattle.mkb_rules.specs.Roles.{AreRolesOf}
use Rattle.mkb_rules.specs.Sizes.{AreSizesOf}
use Rattle.mkb_rules.specs.declared.account.Account.{Account}
use Rattle.mkb_rules.specs.declared.account.Concerned.{Concerned}
use Rattle.mkb_rules.specs.declared.account.Concerned.TheVariants.{Anyone, Only}

-- what the process pays, and how it has the first nodes, is as the account says
pub record IsAccountOf (xs : List PlainNode) (a : Account) : Type 0 where
  pub sizes : AreSizesOf xs a.sizes
  pub roles : AreRolesOf xs a.sizes.process a.roles

-- the same account under another name
abbrev pub renamed : Name → Account → Account
renamed q a = record { sizes = record a.sizes { process = q }; roles = a.roles }

-- these are the children of p
abbrev pub HasChildren : Name → Name → Name → Type 0
HasChildren p left right = (left ≡ child p false) × (right ≡ child p true)

-- the children of p stand in the label after the fork of p if p stood in it before
abbrev pub Inherits : Name → List Name → Type 0
Inherits p l = (bit : Bool) → has (relabel p l) (child p bit) ≡ has l p

-- in each label of the nodes they do
abbrev pub InheritNodes : Name → List PlainNode → Type 0
InheritNodes p xs = (n : ℕ) (k : LabelKind) → Inherits p (label_at xs n k)

-- q is neither p nor a child of it
abbrev pub is_apart : Name → Name → Bool
is_apart p q = not (name_eq q p) && (not (name_eq q (child p false)) && not (name_eq q (child p true)))

-- the account of a process that is neither p nor a child of it
abbrev pub IsApart : Name → Account → Type 0
IsApart p a = is_apart p a.sizes.process ≡ true

-- no label of the node names a process for which it would count
pub record IsBare (x : PlainNode) : Type 0 where
  pub rule0 : x.rule0 ≡ []
  pub rule1 : x.rule1 ≡ []
  pub equation : x.equation ≡ []
  pub constraint0 : x.constraint0 ≡ []
  pub constraint1 : x.constraint1 ≡ []

-- but for those whom the change concerns both labels have the same names
abbrev pub DiffersFor : Concerned → List Name → List Name → Type 0
DiffersFor Anyone old new = ⊤
DiffersFor (Only names) old new = (q : Name) → has names.now q ≡ false → has old q ≡ has new q
