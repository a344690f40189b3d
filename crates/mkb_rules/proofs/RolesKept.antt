-- How a process has the nodes, as it is kept, after a label is put and a node comes.
use Rattle.std.proofs.Common.{ℕ, zero, suc, ◌+◌, ◌<◌, ◌≤◌, ◌≡◌, refl, sym, ap, ap₂, ◌∙◌, subst, arith, List, [], ◌∷◌, ◌++◌, length, set, get_or, Bool, true, false, ◌⊎◌, inl, inr, ⊎_elim}
use Rattle.std.specs.Prelude.{◌&&◌, ◌==◌, ◌≢◌}
use Rattle.std.proofs.lemmas.Bool.Decides.{nat_tests}
use Rattle.std.proofs.lemmas.List.{get_or-set_same, get_or-set_other, length-set}
use mathlib.Core.Bool.{true≢false}
use Rattle.kb_label.specs.Names.{Name, has}
use Rattle.kb_node.specs.declared.node.LabelKind.{LabelKind}
use Rattle.kb_node.specs.declared.node.LabelKind.TheVariants.{R0, R1, E, C0, C1, X}
use Rattle.mkb_model.specs.Plain.{PlainNode, label_at}
use Rattle.mkb_model.specs.Effects.{with_label}
use Rattle.mkb_rules.specs.Accounts.{IsAccountOf, IsBare}
use Rattle.mkb_rules.specs.Roles.{no_roles, roles_in, roles_at, with_role, with_role_at, AreRolesOf}
use Rattle.mkb_rules.specs.Sizes.{size_if, size_at, is_open_kind, is_rule_kind, AreSizesOf}
use Rattle.mkb_rules.specs.declared.account.Account.{Account}
use Rattle.mkb_rules.specs.declared.roles.Roles.{Roles}
use Rattle.mkb_rules.proofs.Paying.{sizes_moved, sizes_more}

-- ---- a label is put

-- the node's own roles
roles_here : (xs : List PlainNode) (n : ℕ) (k : LabelKind) (l : List Name) (p : Name) → n < length xs → with_role (roles_at xs n p) k (has l p) ≡ roles_at (with_label n k l xs) n p
roles_here [] n k l p h = absurd (omega (arith, h))
roles_here (x ∷ xs) zero E l p h = refl
roles_here (x ∷ xs) zero R0 l p h = refl
roles_here (x ∷ xs) zero R1 l p h = refl
roles_here (x ∷ xs) zero C0 l p h = refl
roles_here (x ∷ xs) zero C1 l p h = refl
roles_here (x ∷ xs) zero X l p h = refl
roles_here (x ∷ xs) (suc n) k l p h = roles_here xs n k l p (omega (arith, h))

-- those of the others
other_roles : (xs : List PlainNode) (n m : ℕ) (k : LabelKind) (l : List Name) (p : Name) → (m ≡ n → ⊥) → roles_at (with_label n k l xs) m p ≡ roles_at xs m p
other_roles [] n m k l p d = refl
other_roles (x ∷ xs) zero zero k l p d = absurd (d refl)
other_roles (x ∷ xs) zero (suc m) k l p d = refl
other_roles (x ∷ xs) (suc n) zero k l p d = refl
other_roles (x ∷ xs) (suc n) (suc m) k l p d = other_roles xs n m k l p (λ e. d (ap suc e))

-- roles that have followed a label are those in which the process has the nodes with it
pub roles_moved : (xs : List PlainNode) (n : ℕ) (k : LabelKind) (l : List Name) (p : Name) (roles : List Roles) → n < length xs → AreRolesOf xs p roles → AreRolesOf (with_label n k l xs) p (with_role_at roles n k (has l p))
roles_moved xs n k l p roles h right m i = go (m == n) refl
  where
    new : Roles
    new = with_role (get_or roles n no_roles) k (has l p)

    inside : m < length roles
    inside = omega (arith, i, length-set roles n new)

    go : (b : Bool) → (m == n) ≡ b → get_or (set roles n new) m no_roles ≡ roles_at (with_label n k l xs) m p
    go true e =
        let same : m ≡ n = grind (arith, nat_tests) in
        let here : n < length roles = omega (arith, inside, same) in
        ap (λ j. get_or (set roles n new) j no_roles) same ∙ get_or-set_same roles n new no_roles here
        ∙ ap (λ r. with_role r k (has l p)) (right n here) ∙ roles_here xs n k l p h
        ∙ ap (λ j. roles_at (with_label n k l xs) j p) (sym same)
    go false e =
        let apart : m ≢ n = λ same. absurd (true≢false (sym (test same) ∙ e)) in
        get_or-set_other roles n m new no_roles apart ∙ right m inside ∙ sym (other_roles xs n m k l p apart)
      where
        test : m ≡ n → (m == n) ≡ true
        test same = grind (arith, nat_tests)

-- the roles that the node's own label of this kind tells
same_role : (xs : List PlainNode) (n : ℕ) (k : LabelKind) (p : Name) → n < length xs → with_role (roles_at xs n p) k (has (label_at xs n k) p) ≡ roles_at xs n p
same_role [] n k p h = absurd (omega (arith, h))
same_role (x ∷ xs) zero E p h = refl
same_role (x ∷ xs) zero R0 p h = refl
same_role (x ∷ xs) zero R1 p h = refl
same_role (x ∷ xs) zero C0 p h = refl
same_role (x ∷ xs) zero C1 p h = refl
same_role (x ∷ xs) zero X p h = refl
same_role (x ∷ xs) (suc n) k p h = same_role xs n k p (omega (arith, h))

-- a label that changes no role of the node changes none
same_roles : (xs : List PlainNode) (n : ℕ) (k : LabelKind) (l : List Name) (p : Name) → n < length xs → with_role (roles_at xs n p) k (has l p) ≡ roles_at xs n p → (m : ℕ) → roles_at xs m p ≡ roles_at (with_label n k l xs) m p
same_roles xs n k l p h same m = go (m == n) refl
  where
    go : (b : Bool) → (m == n) ≡ b → roles_at xs m p ≡ roles_at (with_label n k l xs) m p
    go true e =
        let here : m ≡ n = grind (arith, nat_tests) in
        ap (λ j. roles_at xs j p) here ∙ sym same ∙ roles_here xs n k l p h ∙ ap (λ j. roles_at (with_label n k l xs) j p) (sym here)
    go false e = sym (other_roles xs n m k l p (λ here. absurd (true≢false (sym (test here) ∙ e))))
      where
        test : m ≡ n → (m == n) ≡ true
        test here = grind (arith, nat_tests)

-- an account stays right after a label that names its process as the one before did
pub account_kept : (xs : List PlainNode) (n : ℕ) (k : LabelKind) (l : List Name) (a : Account) → n < length xs → has (label_at xs n k) a.sizes.process ≡ has l a.sizes.process → IsAccountOf xs a → IsAccountOf (with_label n k l xs) a
account_kept xs n k l a h same right =
    let p = a.sizes.process in
    let role : with_role (roles_at xs n p) k (has l p) ≡ roles_at xs n p = ap (with_role (roles_at xs n p) k) (sym same) ∙ same_role xs n k p h in
    record {
      sizes = sizes_moved xs n k l a.sizes a.sizes h right.sizes refl
          (ap (λ (b : Bool). a.sizes.open_sizes + size_if (is_open_kind k && b) (size_at xs n)) same)
          (ap (λ (b : Bool). a.sizes.rule_sizes + size_if (is_rule_kind k && b) (size_at xs n)) same);
      roles = λ m i. right.roles m i ∙ same_roles xs n k l p h role m;
    }

-- and after each label that counts for nobody
pub account_uncounted : (xs : List PlainNode) (n : ℕ) (l : List Name) (a : Account) → n < length xs → IsAccountOf xs a → IsAccountOf (with_label n X l xs) a
account_uncounted xs n l a h right = record {
  sizes = sizes_moved xs n X l a.sizes a.sizes h right.sizes refl refl refl;
  roles = λ m i. right.roles m i ∙ same_roles xs n X l a.sizes.process h refl m;
}

-- ---- a node comes

-- nobody has a node that isn't there
pub roles_beyond : (xs : List PlainNode) (n : ℕ) (p : Name) → length xs ≤ n → roles_at xs n p ≡ no_roles
roles_beyond [] n p h = refl
roles_beyond (x ∷ xs) zero p h = absurd (omega (arith, h))
roles_beyond (x ∷ xs) (suc n) p h = roles_beyond xs n p (omega (arith, h))

module _ (x : PlainNode) (bare : IsBare x) where
  bare_roles : (p : Name) → roles_in p x ≡ no_roles
  bare_roles p =
      ap (λ l. record { equation = has l p; first = has x.rule0 p; second = has x.rule1 p }) bare.equation
      ∙ ap₂ (λ l m. record { equation = false; first = has l p; second = has m p }) bare.rule0 bare.rule1

  -- nobody has it
  roles_as_before : (xs : List PlainNode) (m : ℕ) (p : Name) → roles_at (xs ++ x ∷ []) m p ≡ roles_at xs m p
  roles_as_before [] zero p = bare_roles p
  roles_as_before [] (suc m) p = refl
  roles_as_before (y ∷ xs) zero p = refl
  roles_as_before (y ∷ xs) (suc m) p = roles_as_before xs m p

  pub account_more : (xs : List PlainNode) (a : Account) → IsAccountOf xs a → IsAccountOf (xs ++ x ∷ []) a
  account_more xs a right = record {
    sizes = sizes_more xs x bare a.sizes right.sizes;
    roles = λ m i. right.roles m i ∙ sym (roles_as_before xs m a.sizes.process);
  }

  -- with its own roles behind them
  pub account_longer : (xs : List PlainNode) (a c : Account) → length a.roles ≡ length xs → c.sizes ≡ a.sizes → c.roles ≡ a.roles ++ no_roles ∷ [] → IsAccountOf xs a → IsAccountOf (xs ++ x ∷ []) c
  account_longer xs a c whole same longer right = record {
    sizes = subst (AreSizesOf (xs ++ x ∷ [])) (sym same) (sizes_more xs x bare a.sizes right.sizes);
    roles = λ m i. ap (λ rs. get_or rs m no_roles) longer ∙ more a.roles whole right.roles m ∙ ap (λ s. roles_at (xs ++ x ∷ []) m s.process) (sym same);
  }
    where
      p : Name
      p = a.sizes.process

      last : (rs : List Roles) (m : ℕ) → length rs ≤ m → get_or (rs ++ no_roles ∷ []) m no_roles ≡ no_roles
      last [] zero h = refl
      last [] (suc m) h = refl
      last (r ∷ rs) zero h = absurd (omega (arith, h))
      last (r ∷ rs) (suc m) h = last rs m (omega (arith, h))

      first : (rs : List Roles) (m : ℕ) → m < length rs → get_or (rs ++ no_roles ∷ []) m no_roles ≡ get_or rs m no_roles
      first [] m h = absurd (omega (arith, h))
      first (r ∷ rs) zero h = refl
      first (r ∷ rs) (suc m) h = first rs m (omega (arith, h))

      more : (rs : List Roles) → length rs ≡ length xs → AreRolesOf xs p rs → (m : ℕ) → get_or (rs ++ no_roles ∷ []) m no_roles ≡ roles_at (xs ++ x ∷ []) m p
      more rs e right m = ⊎_elim (λ i. first rs m i ∙ right m i ∙ sym (roles_as_before xs m p)) (λ h. last rs m h ∙ sym (roles_beyond xs m p (omega (arith, e, h))) ∙ sym (roles_as_before xs m p)) (split m (length rs))
        where
          split : (i j : ℕ) → (i < j) ⊎ (j ≤ i)
          split i zero = inr (omega arith)
          split zero (suc j) = inl (omega arith)
          split (suc i) (suc j) = ⊎_elim (λ h. inl (omega (arith, h))) (λ h. inr (omega (arith, h))) (split i j)
