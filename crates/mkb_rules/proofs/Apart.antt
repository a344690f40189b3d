-- What is kept of processes after a fork: of the others as before, of the children what was kept of the process that forks.
use Rattle.std.proofs.Common.{ℕ, zero, suc, ◌+◌, ◌<◌, ◌≡◌, ◌≢◌, ◌⊎◌, ⊎_elim, length, length-append, arith, refl, sym, ap, ap₂, ◌∙◌, List, [], ◌∷◌, map, get_or, Bool, true, false, not, ◌&&◌, ◌||◌, All}
use Rattle.std.proofs.Math.Bool.{or-false, or-true}
use Rattle.std.proofs.lemmas.List.Sums.{sum_by-cons}
use Rattle.kb_term.specs.declared.origin.RuleRef.{RuleRef}
use Rattle.kb_label.specs.Names.{Name, has, name_eq, child, join, minus, relabel}
use Rattle.kb_label.proofs.Members.{name_eq-refl, has-join, has-minus}
use Rattle.kb_label.proofs.Sets.{has-relabel, relabel-absent}
use Rattle.kb_node.specs.declared.node.LabelKind.{LabelKind}
use Rattle.kb_node.specs.declared.node.LabelKind.TheVariants.{R0, R1, E, C0, C1}
use Rattle.mkb_model.specs.Plain.{PlainNode, label_at, rule_kind, constraint_kind}
use Rattle.mkb_model.specs.Effects.{forked_node, gains, loses}
use Rattle.mkb_model.proofs.commits.Roles.{relabel-other}
use Rattle.mkb_model.proofs.tickets.InFlight.{unlike}
use Rattle.mkb_rules.specs.Accounts.{renamed, Inherits, InheritNodes, IsAccountOf, IsApart, is_apart}
use Rattle.mkb_rules.specs.Roles.{roles_in, roles_at}
use Rattle.mkb_rules.specs.Sizes.{open_share, rule_share, open_sizes, rule_sizes}
use Rattle.mkb_rules.specs.declared.account.Account.{Account}
use Rattle.mkb_rules.specs.Parts.{oriented_by}
use Rattle.mkb_rules.proofs.Relabelled.{length_gains, length_loses}
use Rattle.mkb_rules.proofs.RolesKept.{account_kept}

-- ---- who stands in labels after a fork of p as another one did before

module _ (p q r : Name) where
  -- in the labels of the nodes r stands after the fork as q did before
  abbrev StandsAs : List PlainNode → Type 0
  StandsAs xs = (n : ℕ) (k : LabelKind) → has (relabel p (label_at xs n k)) r ≡ has (label_at xs n k) q

  same_open : (x : PlainNode) (xs : List PlainNode) → StandsAs (x ∷ xs) → open_share r (forked_node p x) ≡ open_share q x
  same_open x xs stands =
      let equation : has (relabel p x.equation) r ≡ has x.equation q = stands zero E in
      let forth : has (relabel p x.constraint0) r ≡ has x.constraint0 q = stands zero C0 in
      let back : has (relabel p x.constraint1) r ≡ has x.constraint1 q = stands zero C1 in
      rw (equation, forth, back) refl

  same_rules : (x : PlainNode) (xs : List PlainNode) → StandsAs (x ∷ xs) → rule_share r (forked_node p x) ≡ rule_share q x
  same_rules x xs stands =
      let first : has (relabel p x.rule0) r ≡ has x.rule0 q = stands zero R0 in
      let second : has (relabel p x.rule1) r ≡ has x.rule1 q = stands zero R1 in
      rw (first, second) refl

  same_roles : (x : PlainNode) (xs : List PlainNode) → StandsAs (x ∷ xs) → roles_in r (forked_node p x) ≡ roles_in q x
  same_roles x xs stands =
      let equation : has (relabel p x.equation) r ≡ has x.equation q = stands zero E in
      let first : has (relabel p x.rule0) r ≡ has x.rule0 q = stands zero R0 in
      let second : has (relabel p x.rule1) r ≡ has x.rule1 q = stands zero R1 in
      rw (equation, first, second) refl

  open_kept : (xs : List PlainNode) → StandsAs xs → open_sizes (map (forked_node p) xs) r ≡ open_sizes xs q
  open_kept [] stands = refl
  open_kept (x ∷ xs) stands =
      sum_by-cons (open_share r) (forked_node p x) (map (forked_node p) xs)
      ∙ ap₂ (λ (m n : ℕ). m + n) (same_open x xs stands) (open_kept xs (λ n. stands (suc n))) ∙ sym (sum_by-cons (open_share q) x xs)

  rules_kept : (xs : List PlainNode) → StandsAs xs → rule_sizes (map (forked_node p) xs) r ≡ rule_sizes xs q
  rules_kept [] stands = refl
  rules_kept (x ∷ xs) stands =
      sum_by-cons (rule_share r) (forked_node p x) (map (forked_node p) xs)
      ∙ ap₂ (λ (m n : ℕ). m + n) (same_rules x xs stands) (rules_kept xs (λ n. stands (suc n))) ∙ sym (sum_by-cons (rule_share q) x xs)

  roles_kept : (xs : List PlainNode) → StandsAs xs → (n : ℕ) → roles_at (map (forked_node p) xs) n r ≡ roles_at xs n q
  roles_kept [] stands n = refl
  roles_kept (x ∷ xs) stands zero = same_roles x xs stands
  roles_kept (x ∷ xs) stands (suc n) = roles_kept xs (λ m. stands (suc m)) n

-- the account is right after the fork for who stands as its process did
account_forked : (p r : Name) (xs : List PlainNode) (a : Account) → StandsAs p a.sizes.process r xs → IsAccountOf xs a → IsAccountOf (map (forked_node p) xs) (renamed r a)
account_forked p r xs a stands right =
    let q = a.sizes.process in
    record {
      sizes = record { open_is = right.sizes.open_is ∙ sym (open_kept p q r xs stands); rules_is = right.sizes.rules_is ∙ sym (rules_kept p q r xs stands) };
      roles = λ n i. right.roles n i ∙ sym (roles_kept p q r xs stands n);
    }

-- ---- the others

module _ (p q : Name) (apart : is_apart p q ≡ true) where
  parts : (x y z : Bool) → (not x && (not y && not z)) ≡ true → (x ≡ false) × (y ≡ false) × (z ≡ false)
  parts false false false e = (refl, refl, refl)
  parts false false true e = absurd (cc)
  parts false true z e = absurd (cc)
  parts true y z e = absurd (cc)

  named : (l : List Name) → has (relabel p l) q ≡ has l q
  named l =
      let h = parts (name_eq q p) (name_eq q (child p false)) (name_eq q (child p true)) apart in
      relabel-other p q l h.0 h.1 h.2

-- the accounts of processes apart are right after the fork
pub accounts_kept : (p : Name) (xs : List PlainNode) (accounts : List Account) → All (IsApart p) accounts → All (IsAccountOf xs) accounts → All (IsAccountOf (map (forked_node p) xs)) accounts
accounts_kept p xs accounts apart right = λ k d h.
    let a = get_or accounts k d in
    account_forked p a.sizes.process xs a (λ n j. named p a.sizes.process (apart k d h) (label_at xs n j)) (right k d h)

-- ---- the others when the children orient

-- where a label with one name more or less than another one is put, those who aren't among these names have it as before
module _ (l : List Name) (n : ℕ) (k : LabelKind) (xs : List PlainNode) (a : Account) (there : n < length xs) (absent : has l a.sizes.process ≡ false) (right : IsAccountOf xs a) where
  account-loses : IsAccountOf (loses n k l xs) a
  account-loses =
      let m = label_at xs n k in
      account_kept xs n k (minus m l) a there (sym (has-minus m l a.sizes.process ∙ ap (λ b. not b && has m a.sizes.process) absent)) right

  account-gains : IsAccountOf (gains n k l xs) a
  account-gains =
      let m = label_at xs n k in
      account_kept xs n k (join m l) a there (sym (has-join m l a.sizes.process ∙ ap (λ b. has m a.sizes.process || b) absent ∙ or-false (has m a.sizes.process))) right

-- who doesn't orient an equation has its account as before
account_oriented : (l : List Name) (r : RuleRef) (xs : List PlainNode) (a : Account) → r.node < length xs → has l a.sizes.process ≡ false → IsAccountOf xs a → IsAccountOf (oriented_by l r xs) a
account_oriented l r xs a there absent right =
    let n = r.node in
    let once = loses n E l xs in
    let twice = gains n (rule_kind r.dir) l once in
    let first : n < length once = omega (arith, there, length_loses n E l xs) in
    let second : n < length twice = omega (arith, first, length_gains n (rule_kind r.dir) l once) in
    account-gains l n (constraint_kind r.dir) twice a second absent (account-gains l n (rule_kind r.dir) once a first absent (account-loses l n E xs a there absent right))

-- so the accounts of processes apart are right after the children of p have oriented
pub accounts_oriented : (p : Name) (bit : Bool) (r : RuleRef) (xs : List PlainNode) (accounts : List Account) → r.node < length xs → All (IsApart p) accounts → All (IsAccountOf xs) accounts → All (IsAccountOf (oriented_by (child p bit ∷ []) r xs)) accounts
accounts_oriented p bit r xs accounts there apart right = λ k d h.
    let a = get_or accounts k d in
    account_oriented (child p bit ∷ []) r xs a there (absent a.sizes.process (apart k d h) bit) (right k d h)
  where
    absent : (q : Name) → is_apart p q ≡ true → (b : Bool) → has (child p b ∷ []) q ≡ false
    absent q e false = or-false (name_eq q (child p false)) ∙ (parts p q e (name_eq q p) (name_eq q (child p false)) (name_eq q (child p true)) e).1
    absent q e true = or-false (name_eq q (child p true)) ∙ (parts p q e (name_eq q p) (name_eq q (child p false)) (name_eq q (child p true)) e).2

-- ---- the children

-- the account of p is that of its children
pub account_inherited : (p : Name) (xs : List PlainNode) (a : Account) → a.sizes.process ≡ p → InheritNodes p xs → IsAccountOf xs a → (bit : Bool) → IsAccountOf (map (forked_node p) xs) (renamed (child p bit) a)
account_inherited p xs a own inherit right bit = account_forked p (child p bit) xs a (λ n k. inherit n k bit ∙ ap (has (label_at xs n k)) (sym own)) right

-- children inherit a label in which their parent stands
pub inherits_named : (p : Name) (l : List Name) → has l p ≡ true → Inherits p l
inherits_named p l stands bit = has-relabel p (child p bit) l stands ∙ first bit ∙ sym stands
  where
    first : (b : Bool) → (name_eq (child p b) (child p false) || (name_eq (child p b) (child p true) || (not (name_eq (child p b) p) && has l (child p b)))) ≡ true
    first false = rw name_eq-refl refl
    first true =
        let q = child p true in
        ap (λ (b : Bool). name_eq q (child p false) || (b || (not (name_eq q p) && has l q))) (name_eq-refl q) ∙ or-true (name_eq q (child p false))

-- and one in which neither it nor they do
pub inherits_absent : (p : Name) (l : List Name) → has l p ≡ false → has l (child p false) ≡ false → has l (child p true) ≡ false → Inherits p l
inherits_absent p l none left right bit = ap (λ m. has m (child p bit)) (relabel-absent p l none) ∙ either bit ∙ sym none
  where
    either : (b : Bool) → has l (child p b) ≡ false
    either false = left
    either true = right

-- ---- who is told apart by length

-- who has another length than p and its children is neither
pub apart_by_length : (p q : Name) → (length q < length p) ⊎ (length p + 1 < length q) → is_apart p q ≡ true
apart_by_length p q other = rw (unlike q p own, unlike q (child p false) (none false), unlike q (child p true) (none true)) refl
  where
    own : q ≢ p
    own e = let same : length q ≡ length p = ap length e in ⊎_elim (λ h. omega (arith, same, h)) (λ h. omega (arith, same, h)) other

    none : (bit : Bool) → q ≢ child p bit
    none bit e = let same : length q ≡ length (child p bit) = ap length e in let more = length-append p (bit ∷ []) in ⊎_elim (λ h. omega (arith, same, more, h)) (λ h. omega (arith, same, more, h)) other
