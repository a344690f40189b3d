-- In which roles a process has the nodes, before and after each change of labels.
use Rattle.std.proofs.Common.{ℕ, zero, suc, ◌≤◌, ◌<◌, ◌≡◌, ◌≢◌, ◌⊎◌, ◌↔◌, inl, inr, refl, sym, ap, ◌∙◌, subst, arith, List, [], ◌∷◌, ◌++◌, map, Bool, true, false, cond, not, ◌&&◌, ◌||◌, length, ⊎_elim}
use Rattle.std.proofs.Math.Bool.{or-false}
use Rattle.std.proofs.lemmas.Bool.{and_from, or_cases, or_left, or_right}
use Rattle.kb_lemmas.proofs.Booleans.{and_gives_left, and_gives_right}
use Rattle.kb_term.specs.Pair.{Pair}
use Rattle.kb_term.specs.declared.origin.RuleRef.{RuleRef}
use Rattle.kb_term.specs.declared.origin.Origin.{Origin}
use Rattle.kb_label.specs.Names.{Name, has, name_eq, join, minus, relabel, add, child}
use Rattle.mkb_model.specs.Plain.{PlainNode, label_in, label_at, rule_kind, constraint_kind}
use Rattle.mkb_model.specs.Effects.{with_label_in, with_label, loses, gains, gains_equation, gains_rule, with_node, new_node, is_present, forked_node}
use Rattle.kb_node.specs.declared.node.LabelKind.{LabelKind}
use Rattle.kb_node.specs.declared.node.LabelKind.TheVariants.{R0, R1, E, C0, C1, X}
use Rattle.kb_label.proofs.Members.{has-minus, has-join, has-add, name_eq-refl}
use Rattle.mkb_model.specs.Ready.{IsOn}
use Rattle.mkb_model.proofs.Lists.{clash, false_unless, not_true, not_of_false}

-- ---- kinds of label

abbrev pub kind_number : LabelKind → ℕ
kind_number R0 = 0
kind_number R1 = 1
kind_number E = 2
kind_number C0 = 3
kind_number C1 = 4
kind_number X = 5

pub kinds_decide : (j k : LabelKind) → (j ≡ k) ⊎ (j ≢ k)
kinds_decide R0 R0 = inl refl
kinds_decide R1 R1 = inl refl
kinds_decide E E = inl refl
kinds_decide C0 C0 = inl refl
kinds_decide C1 C1 = inl refl
kinds_decide X X = inl refl
kinds_decide j k = inr (λ e. omega (arith, ap kind_number e))

pub numbers_decide : (n m : ℕ) → (n ≡ m) ⊎ (n ≢ m)
numbers_decide zero zero = inl refl
numbers_decide zero (suc m) = inr (λ e. omega (arith, e))
numbers_decide (suc n) zero = inr (λ e. omega (arith, e))
numbers_decide (suc n) (suc m) = ⊎_elim (λ e. inl (ap suc e)) (λ h. inr (λ e. h (omega (arith, e)))) (numbers_decide n m)

pub equation-no_rule : (d : ℕ) → E ≢ rule_kind d
equation-no_rule zero e = omega (arith, ap kind_number e)
equation-no_rule (suc d) e = omega (arith, ap kind_number e)

pub equation-no_constraint : (d : ℕ) → E ≢ constraint_kind d
equation-no_constraint zero e = omega (arith, ap kind_number e)
equation-no_constraint (suc d) e = omega (arith, ap kind_number e)

pub rule-no_constraint : (d c : ℕ) → rule_kind d ≢ constraint_kind c
rule-no_constraint zero zero e = omega (arith, ap kind_number e)
rule-no_constraint zero (suc c) e = omega (arith, ap kind_number e)
rule-no_constraint (suc d) zero e = omega (arith, ap kind_number e)
rule-no_constraint (suc d) (suc c) e = omega (arith, ap kind_number e)

pub refused-no_rule : (d : ℕ) → rule_kind d ≢ X
refused-no_rule zero e = omega (arith, ap kind_number e)
refused-no_rule (suc d) e = omega (arith, ap kind_number e)

pub refused-no_constraint : (d : ℕ) → constraint_kind d ≢ X
refused-no_constraint zero e = omega (arith, ap kind_number e)
refused-no_constraint (suc d) e = omega (arith, ap kind_number e)

-- ---- a label put anew

put_in_same : (x : PlainNode) (k : LabelKind) (l : List Name) → label_in (with_label_in x k l) k ≡ l
put_in_same x R0 l = refl
put_in_same x R1 l = refl
put_in_same x E l = refl
put_in_same x C0 l = refl
put_in_same x C1 l = refl
put_in_same x X l = refl

put_in_other : (x : PlainNode) (k j : LabelKind) (l : List Name) → j ≢ k → label_in (with_label_in x k l) j ≡ label_in x j
put_in_other x R0 R0 l h = absurd (h refl)
put_in_other x R0 j l h = refl
put_in_other x R1 R1 l h = absurd (h refl)
put_in_other x R1 j l h = refl
put_in_other x E E l h = absurd (h refl)
put_in_other x E j l h = refl
put_in_other x C0 C0 l h = absurd (h refl)
put_in_other x C0 j l h = refl
put_in_other x C1 C1 l h = absurd (h refl)
put_in_other x C1 j l h = refl
put_in_other x X X l h = absurd (h refl)
put_in_other x X j l h = refl

pub put_same : (xs : List PlainNode) (n : ℕ) (k : LabelKind) (l : List Name) → n < length xs → label_at (with_label n k l xs) n k ≡ l
put_same [] n k l h = absurd (omega (arith, h))
put_same (x ∷ xs) zero k l h = put_in_same x k l
put_same (x ∷ xs) (suc n) k l h = put_same xs n k l (omega (arith, h))

pub put_other : (xs : List PlainNode) (n m : ℕ) (k j : LabelKind) (l : List Name) → (m ≢ n) ⊎ (j ≢ k) → label_at (with_label n k l xs) m j ≡ label_at xs m j
put_other [] n m k j l h = refl
put_other (x ∷ xs) zero zero k j l (inl h) = absurd (h refl)
put_other (x ∷ xs) zero zero k j l (inr h) = put_in_other x k j l h
put_other (x ∷ xs) zero (suc m) k j l h = refl
put_other (x ∷ xs) (suc n) zero k j l h = refl
put_other (x ∷ xs) (suc n) (suc m) k j l (inl h) = put_other xs n m k j l (inl (λ e. h (ap suc e)))
put_other (x ∷ xs) (suc n) (suc m) k j l (inr h) = put_other xs n m k j l (inr h)

pub put_beyond : (xs : List PlainNode) (n : ℕ) (k : LabelKind) (l : List Name) → length xs ≤ n → with_label n k l xs ≡ xs
put_beyond [] n k l h = refl
put_beyond (x ∷ xs) zero k l h = absurd (omega (arith, h))
put_beyond (x ∷ xs) (suc n) k l h = ap (x ∷◌) (put_beyond xs n k l (omega (arith, h)))

pub label_beyond : (xs : List PlainNode) (n : ℕ) (k : LabelKind) → length xs ≤ n → label_at xs n k ≡ []
label_beyond [] n k h = refl
label_beyond (x ∷ xs) zero k h = absurd (omega (arith, h))
label_beyond (x ∷ xs) (suc n) k h = label_beyond xs n k (omega (arith, h))

pub length-put : (xs : List PlainNode) (n : ℕ) (k : LabelKind) (l : List Name) → length (with_label n k l xs) ≡ length xs
length-put [] n k l = refl
length-put (x ∷ xs) zero k l = refl
length-put (x ∷ xs) (suc n) k l = ap suc (length-put xs n k l)

pub below : (n m : ℕ) → (n < m) ⊎ (m ≤ n)
below n zero = inr (omega arith)
below zero (suc m) = inl (omega arith)
below (suc n) (suc m) = ⊎_elim (λ h. inl (omega (arith, h))) (λ h. inr (omega (arith, h))) (below n m)

-- a node that someone has is there
pub on_there : (xs : List PlainNode) (q : Name) (m : ℕ) (j : LabelKind) → IsOn xs q m j → m < length xs
on_there xs q m j h = ⊎_elim (λ l. l) (λ l. clash h (ap (λ z. has z q) (label_beyond xs m j l))) (below m (length xs))

-- the place is the one that was put anew, or another
abbrev pub IsHere : ℕ → LabelKind → ℕ → LabelKind → Type 0
IsHere n k m j = (m ≡ n) × (j ≡ k)

pub here_or_other : (n : ℕ) (k : LabelKind) (m : ℕ) (j : LabelKind) → IsHere n k m j ⊎ ((m ≢ n) ⊎ (j ≢ k))
here_or_other n k m j = both (numbers_decide m n) (kinds_decide j k)
  where
    both : (m ≡ n) ⊎ (m ≢ n) → (j ≡ k) ⊎ (j ≢ k) → IsHere n k m j ⊎ ((m ≢ n) ⊎ (j ≢ k))
    both (inl e) (inl f) = inl (e, f)
    both (inl e) (inr h) = inr (inr h)
    both (inr h) f = inr (inl h)

pub not_here : (n : ℕ) (k : LabelKind) (m : ℕ) (j : LabelKind) → (m ≢ n) ⊎ (j ≢ k) → ¬ IsHere n k m j
not_here n k m j (inl h) (e, f) = h e
not_here n k m j (inr h) (e, f) = h f

-- ---- gains and losses

pub on-gains : (n : ℕ) (k : LabelKind) (l : List Name) (xs : List PlainNode) (q : Name) (m : ℕ) (j : LabelKind)
    → IsOn (gains n k l xs) q m j ↔ (IsOn xs q m j ⊎ (IsHere n k m j × (n < length xs) × (has l q ≡ true)))
on-gains n k l xs q m j = (to (here_or_other n k m j) (below n (length xs)), from (here_or_other n k m j))
  where
    to : IsHere n k m j ⊎ ((m ≢ n) ⊎ (j ≢ k)) → (n < length xs) ⊎ (length xs ≤ n) → IsOn (gains n k l xs) q m j → IsOn xs q m j ⊎ (IsHere n k m j × (n < length xs) × (has l q ≡ true))
    to h (inr b) o = inl (subst {A = List PlainNode} (λ ys. IsOn ys q m j) (put_beyond xs n k (join (label_at xs n k) l) b) o)
    to (inr h) (inl b) o = inl (sym (ap (λ z. has z q) (put_other xs n m k j (join (label_at xs n k) l) h)) ∙ o)
    to (inl (e, f)) (inl b) o =
        ⊎_elim (λ h. inl (rw (e, f) h)) (λ h. inr ((e, f), b, h))
        (or_cases (has (label_at xs n k) q) (has l q) (sym (has-join (label_at xs n k) l q) ∙ sym (ap (λ z. has z q) (put_same xs n k (join (label_at xs n k) l) b)) ∙ (rw (e, f) at o)))

    from : IsHere n k m j ⊎ ((m ≢ n) ⊎ (j ≢ k)) → IsOn xs q m j ⊎ (IsHere n k m j × (n < length xs) × (has l q ≡ true)) → IsOn (gains n k l xs) q m j
    from (inr h) (inl o) = ap (λ z. has z q) (put_other xs n m k j (join (label_at xs n k) l) h) ∙ o
    from (inr h) (inr (i, b, g)) = absurd (not_here n k m j h i)
    from (inl (e, f)) (inr (i, b, g)) = rw (e, f) (ap (λ z. has z q) (put_same xs n k (join (label_at xs n k) l) b) ∙ has-join (label_at xs n k) l q ∙ or_right (has (label_at xs n k) q) (has l q) g)
    from (inl (e, f)) (inl o) =
        let o' : IsOn xs q n k = (rw (e, f) at o) in
        rw (e, f) (ap (λ z. has z q) (put_same xs n k (join (label_at xs n k) l) (on_there xs q n k o')) ∙ has-join (label_at xs n k) l q ∙ or_left (has (label_at xs n k) q) (has l q) o')

pub on-loses : (n : ℕ) (k : LabelKind) (l : List Name) (xs : List PlainNode) (q : Name) (m : ℕ) (j : LabelKind)
    → IsOn (loses n k l xs) q m j ↔ (IsOn xs q m j × ¬ (IsHere n k m j × (has l q ≡ true)))
on-loses n k l xs q m j = (to (here_or_other n k m j) (below n (length xs)), from (here_or_other n k m j))
  where
    to : IsHere n k m j ⊎ ((m ≢ n) ⊎ (j ≢ k)) → (n < length xs) ⊎ (length xs ≤ n) → IsOn (loses n k l xs) q m j → IsOn xs q m j × ¬ (IsHere n k m j × (has l q ≡ true))
    to (inr h) b o = (sym (ap (λ z. has z q) (put_other xs n m k j (minus (label_at xs n k) l) h)) ∙ o, λ i. not_here n k m j h i.0)
    to (inl (e, f)) (inr b) o =
        let o' : IsOn xs q m j = subst {A = List PlainNode} (λ ys. IsOn ys q m j) (put_beyond xs n k (minus (label_at xs n k) l) b) o in
        absurd (let u = on_there xs q m j o' in omega (arith, u, b, e))
    to (inl (e, f)) (inl b) o =
        let h : (not (has l q) && has (label_at xs n k) q) ≡ true = sym (has-minus (label_at xs n k) l q) ∙ sym (ap (λ z. has z q) (put_same xs n k (minus (label_at xs n k) l) b)) ∙ (rw (e, f) at o) in
        (rw (e, f) (and_gives_right (not (has l q)) (has (label_at xs n k) q) h), λ i. clash i.1 (not_true (and_gives_left (not (has l q)) (has (label_at xs n k) q) h)))

    from : IsHere n k m j ⊎ ((m ≢ n) ⊎ (j ≢ k)) → IsOn xs q m j × ¬ (IsHere n k m j × (has l q ≡ true)) → IsOn (loses n k l xs) q m j
    from (inr h) (o, g) = ap (λ z. has z q) (put_other xs n m k j (minus (label_at xs n k) l) h) ∙ o
    from (inl (e, f)) (o, g) =
        let o' : IsOn xs q n k = (rw (e, f) at o) in
        rw (e, f) (ap (λ z. has z q) (put_same xs n k (minus (label_at xs n k) l) (on_there xs q n k o')) ∙ has-minus (label_at xs n k) l q
        ∙ and_from (not (has l q)) (has (label_at xs n k) q) (not_of_false (false_unless (has l q) (λ t. g ((e, f), t)))) o')

-- an equation is gained by those that have the node as no rule
pub on-gains_equation : (n : ℕ) (l : List Name) (xs : List PlainNode) (q : Name) (m : ℕ) (j : LabelKind)
    → IsOn (gains_equation n l xs) q m j ↔ (IsOn xs q m j ⊎ (IsHere n E m j × (n < length xs) × (has l q ≡ true) × (¬ IsOn xs q n R0) × (¬ IsOn xs q n R1)))
on-gains_equation n l xs q m j = (
  (λ o. ⊎_elim (λ h. inl h) (λ h. inr (to h)) ((on-gains n E (minus (minus l (label_at xs n R0)) (label_at xs n R1)) xs q m j).0 o)),
  λ o. (on-gains n E (minus (minus l (label_at xs n R0)) (label_at xs n R1)) xs q m j).1 (⊎_elim (λ h. inl h) (λ h. inr (from h)) o),
)
  where
    to : IsHere n E m j × (n < length xs) × (has (minus (minus l (label_at xs n R0)) (label_at xs n R1)) q ≡ true) → IsHere n E m j × (n < length xs) × (has l q ≡ true) × (¬ IsOn xs q n R0) × (¬ IsOn xs q n R1)
    to (i, b, h) =
        let h1 = sym (has-minus (minus l (label_at xs n R0)) (label_at xs n R1) q) ∙ h in
        let h2 = and_gives_right (not (has (label_at xs n R1) q)) (has (minus l (label_at xs n R0)) q) h1 in
        let h3 = sym (has-minus l (label_at xs n R0) q) ∙ h2 in (
          i,
          b,
          and_gives_right (not (has (label_at xs n R0) q)) (has l q) h3,
          (λ t. clash t (not_true (and_gives_left (not (has (label_at xs n R0) q)) (has l q) h3))),
          λ t. clash t (not_true (and_gives_left (not (has (label_at xs n R1) q)) (has (minus l (label_at xs n R0)) q) h1)),
        )

    from : IsHere n E m j × (n < length xs) × (has l q ≡ true) × (¬ IsOn xs q n R0) × (¬ IsOn xs q n R1) → IsHere n E m j × (n < length xs) × (has (minus (minus l (label_at xs n R0)) (label_at xs n R1)) q ≡ true)
    from (i, b, h, n0, n1) = (
      i,
      b,
      has-minus (minus l (label_at xs n R0)) (label_at xs n R1) q
          ∙ and_from (not (has (label_at xs n R1) q)) (has (minus l (label_at xs n R0)) q) (not_of_false (false_unless (has (label_at xs n R1) q) n1))
          (has-minus l (label_at xs n R0) q ∙ and_from (not (has (label_at xs n R0) q)) (has l q) (not_of_false (false_unless (has (label_at xs n R0) q) n0)) h),
    )

pub on-gains_rule : (a : RuleRef) (l : List Name) (xs : List PlainNode) (q : Name) (m : ℕ) (j : LabelKind)
    → IsOn (gains_rule a l xs) q m j
    ↔ ((IsOn xs q m j × ¬ (IsHere a.node E m j × (has l q ≡ true))) ⊎ (IsHere a.node (rule_kind a.dir) m j × (a.node < length xs) × (has l q ≡ true)))
on-gains_rule a l xs q m j = (
  (λ o. ⊎_elim (λ h. inl ((on-loses a.node E l xs q m j).0 h)) (λ h. inr (h.0, subst {A = ℕ} (λ z. a.node < z) (length-put xs a.node E (minus (label_at xs a.node E) l)) h.1, h.2))
      ((on-gains a.node (rule_kind a.dir) l (loses a.node E l xs) q m j).0 o)),
  λ o. (on-gains a.node (rule_kind a.dir) l (loses a.node E l xs) q m j).1
      (⊎_elim (λ h. inl ((on-loses a.node E l xs q m j).1 h)) (λ h. inr (h.0, subst {A = ℕ} (λ z. a.node < z) (sym (length-put xs a.node E (minus (label_at xs a.node E) l))) h.1, h.2)) o),
)

-- ---- who is not named keeps all its roles

-- the process has each node in the same roles
abbrev pub KeepsRoles : List PlainNode → List PlainNode → Name → Type 0
KeepsRoles xs ys q = (m : ℕ) (j : LabelKind) → IsOn ys q m j ↔ IsOn xs q m j

pub keeps_trans : (xs ys zs : List PlainNode) (q : Name) → KeepsRoles xs ys q → KeepsRoles ys zs q → KeepsRoles xs zs q
keeps_trans xs ys zs q h k m j = ((λ o. (h m j).0 ((k m j).0 o)), λ o. (k m j).1 ((h m j).1 o))

pub keeps-gains : (n : ℕ) (k : LabelKind) (l : List Name) (xs : List PlainNode) (q : Name) → has l q ≡ false → KeepsRoles xs (gains n k l xs) q
keeps-gains n k l xs q h m j = ((λ o. ⊎_elim (λ r. r) (λ r. clash r.2 h) ((on-gains n k l xs q m j).0 o)), λ o. (on-gains n k l xs q m j).1 (inl o))

pub keeps-loses : (n : ℕ) (k : LabelKind) (l : List Name) (xs : List PlainNode) (q : Name) → has l q ≡ false → KeepsRoles xs (loses n k l xs) q
keeps-loses n k l xs q h m j = ((λ o. ((on-loses n k l xs q m j).0 o).0), λ o. (on-loses n k l xs q m j).1 (o, λ i. clash i.1 h))

pub keeps-gains_equation : (n : ℕ) (l : List Name) (xs : List PlainNode) (q : Name) → has l q ≡ false → KeepsRoles xs (gains_equation n l xs) q
keeps-gains_equation n l xs q h m j = ((λ o. ⊎_elim (λ r. r) (λ r. clash r.2 h) ((on-gains_equation n l xs q m j).0 o)), λ o. (on-gains_equation n l xs q m j).1 (inl o))

pub keeps-gains_rule : (a : RuleRef) (l : List Name) (xs : List PlainNode) (q : Name) → has l q ≡ false → KeepsRoles xs (gains_rule a l xs) q
keeps-gains_rule a l xs q h = keeps_trans xs (loses a.node E l xs) (gains_rule a l xs) q (keeps-loses a.node E l xs q h) (keeps-gains a.node (rule_kind a.dir) l (loses a.node E l xs) q h)

-- ---- a node more

label-append : (xs : List PlainNode) (p : Pair) (o : Origin) (m : ℕ) (j : LabelKind) → label_at (xs ++ new_node p o ∷ []) m j ≡ label_at xs m j
label-append [] p o zero R0 = refl
label-append [] p o zero R1 = refl
label-append [] p o zero E = refl
label-append [] p o zero C0 = refl
label-append [] p o zero C1 = refl
label-append [] p o zero X = refl
label-append [] p o (suc m) j = refl
label-append (x ∷ xs) p o zero j = refl
label-append (x ∷ xs) p o (suc m) j = label-append xs p o m j

pub label-with_node : (p : Pair) (o : Origin) (xs : List PlainNode) (m : ℕ) (j : LabelKind) → label_at (with_node p o xs) m j ≡ label_at xs m j
label-with_node p o xs m j = go (is_present xs p)
  where
    go : (b : Bool) → label_at (cond b xs (xs ++ new_node p o ∷ [])) m j ≡ label_at xs m j
    go true = refl
    go false = label-append xs p o m j

pub keeps-with_node : (p : Pair) (o : Origin) (xs : List PlainNode) (q : Name) → KeepsRoles xs (with_node p o xs) q
keeps-with_node p o xs q m j = ((λ h. sym (ap (λ z. has z q) (label-with_node p o xs m j)) ∙ h), λ h. ap (λ z. has z q) (label-with_node p o xs m j) ∙ h)

-- ---- forks

pub label-fork : (p : Name) (xs : List PlainNode) (m : ℕ) (j : LabelKind) → label_at (map (forked_node p) xs) m j ≡ relabel p (label_at xs m j)
label-fork p [] m j = refl
label-fork p (x ∷ xs) zero R0 = refl
label-fork p (x ∷ xs) zero R1 = refl
label-fork p (x ∷ xs) zero E = refl
label-fork p (x ∷ xs) zero C0 = refl
label-fork p (x ∷ xs) zero C1 = refl
label-fork p (x ∷ xs) zero X = refl
label-fork p (x ∷ xs) (suc m) j = label-fork p xs m j

pub has-one : (p q : Name) → has (p ∷ []) q ≡ name_eq q p
has-one p q = or-false (name_eq q p)

-- who is neither the forked process nor a child is named as before
pub relabel-other : (p q : Name) (l : List Name) → name_eq q p ≡ false → name_eq q (child p false) ≡ false → name_eq q (child p true) ≡ false → has (relabel p l) q ≡ has l q
relabel-other p q l h h0 h1 = go (has l p)
  where
    forked : has (add (child p false) (add (child p true) (minus l (p ∷ [])))) q ≡ has l q
    forked = has-add (child p false) (add (child p true) (minus l (p ∷ []))) q ∙ ap (λ z. z || has (add (child p true) (minus l (p ∷ []))) q) h0
        ∙ has-add (child p true) (minus l (p ∷ [])) q ∙ ap (λ z. z || has (minus l (p ∷ [])) q) h1
        ∙ has-minus l (p ∷ []) q ∙ ap (λ z. not z && has l q) (has-one p q ∙ h)

    go : (b : Bool) → has (cond b (add (child p false) (add (child p true) (minus l (p ∷ [])))) l) q ≡ has l q
    go true = forked
    go false = refl

-- a child, which was not named, is named where the forked process was
pub relabel-child : (p : Name) (bit : Bool) (l : List Name) → has l (child p bit) ≡ false → has (relabel p l) (child p bit) ≡ has l p
relabel-child p bit l h = go (has l p) refl
  where
    named : (bit : Bool) → has (add (child p false) (add (child p true) (minus l (p ∷ [])))) (child p bit) ≡ true
    named false = has-add (child p false) (add (child p true) (minus l (p ∷ []))) (child p false) ∙ or_left (name_eq (child p false) (child p false)) (has (add (child p true) (minus l (p ∷ []))) (child p false)) (name_eq-refl (child p false))
    named true = has-add (child p false) (add (child p true) (minus l (p ∷ []))) (child p true)
        ∙ or_right (name_eq (child p true) (child p false)) (has (add (child p true) (minus l (p ∷ []))) (child p true))
        (has-add (child p true) (minus l (p ∷ [])) (child p true) ∙ or_left (name_eq (child p true) (child p true)) (has (minus l (p ∷ [])) (child p true)) (name_eq-refl (child p true)))

    go : (b : Bool) → has l p ≡ b → has (cond b (add (child p false) (add (child p true) (minus l (p ∷ [])))) l) (child p bit) ≡ b
    go true e = named bit
    go false e = h

-- the same for the roles of a process
pub keeps-fork : (p : Name) (xs : List PlainNode) (q : Name) → name_eq q p ≡ false → name_eq q (child p false) ≡ false → name_eq q (child p true) ≡ false → KeepsRoles xs (map (forked_node p) xs) q
keeps-fork p xs q h h0 h1 m j =
    let e = ap (λ z. has z q) (label-fork p xs m j) ∙ relabel-other p q (label_at xs m j) h h0 h1 in
    ((λ o. sym e ∙ o), λ o. e ∙ o)

pub on-fork : (p : Name) (bit : Bool) (xs : List PlainNode) → ((m : ℕ) (j : LabelKind) → has (label_at xs m j) (child p bit) ≡ false) → (m : ℕ) (j : LabelKind) → IsOn (map (forked_node p) xs) (child p bit) m j ↔ IsOn xs p m j
on-fork p bit xs h m j =
    let e = ap (λ z. has z (child p bit)) (label-fork p xs m j) ∙ relabel-child p bit (label_at xs m j) (h m j) in
    ((λ o. sym e ∙ o), λ o. e ∙ o)
