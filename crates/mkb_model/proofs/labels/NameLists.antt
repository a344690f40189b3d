-- What keeps a list of names a label: in name order, and of living processes.
use Rattle.std.proofs.Common.{ℕ, ◌≤◌, ◌<◌, ◌≡◌, ◌≢◌, ◌⊎◌, inl, inr, refl, sym, ◌∙◌, subst, List, [], ◌∷◌, map, filter, length, Bool, true, false, not, ◌&&◌, ◌||◌, Option, Some, None, ⊎_elim}
use Rattle.std.proofs.lemmas.Bool.{and_from, or_cases, or_left, or_right}
use Rattle.kb_lemmas.proofs.Booleans.{and_gives_right, and_gives_left}
use Rattle.kb_term.specs.Tree.{Tree}
use Rattle.kb_term.specs.Pair.{Pair, canonical_pair}
use Rattle.kb_term.specs.declared.origin.RuleRef.{RuleRef}
use Rattle.kb_term.specs.declared.origin.Found.{Found}
use Rattle.kb_term.specs.declared.origin.Found.TheVariants.{No, Variant, Strict}
use Rattle.kb_term.specs.declared.origin.Origin.{Origin}
use Rattle.kb_term.specs.declared.origin.Origin.TheVariants.{Rewrite as ByRewrite, Overlap as ByOverlap}
use Rattle.kb_overlap.specs.Trace.{other_side}
use Rattle.kb_label.specs.Names.{Name, has, name_eq, child, add, join, meet, minus, relabel, IsInNameOrder}
use Rattle.kb_label.proofs.Members.{has-filter, has-add, has-join, name_eq-eq, name_eq-refl}
use Rattle.kb_label.proofs.Ordered.{ordered-add, ordered-filter, ordered-join}
use Rattle.kb_label.proofs.Forked.{relabelled}
use Rattle.kb_label.proofs.Sets.{has-relabel, relabel-absent}
use Rattle.kb_node.specs.declared.node.LabelKind.{LabelKind}
use Rattle.kb_node.specs.declared.node.LabelKind.TheVariants.{R0, R1, E}
use Rattle.kb_node.specs.declared.job.Deduced.{Deduced}
use Rattle.mkb_model.specs.Plain.{PlainNode, label_at, rule_kind, constraint_kind, other}
use Rattle.mkb_model.specs.Effects.{with_label, loses, gains, gains_equation, gains_rule, with_node, node_of, oriented, added, moved_to, rewritten, direction, if_strict, forked_node}
use Rattle.mkb_model.proofs.Lists.{clash, not_of_false, false_unless}
use Rattle.mkb_model.proofs.commits.Roles.{below, put_same, put_other, put_beyond, here_or_other, IsHere, label-with_node, label-fork, has-one}

-- the names are in order, and each is one of the living
pub record IsLabelOf (living l : List Name) : Type 0 where
  pub ordered : IsInNameOrder l
  pub lives : (p : Name) → has l p ≡ true → has living p ≡ true

module _ (living : List Name) where
  pub label-none : IsLabelOf living []
  label-none = record { ordered = tt; lives = λ p h. clash h refl }

  pub label-one : (p : Name) → has living p ≡ true → IsLabelOf living (p ∷ [])
  label-one p h = record { ordered = tt; lives = λ q k. subst {A = Name} (λ z. has living z ≡ true) (sym (name_eq-eq q p (sym (has-one p q) ∙ k))) h }

  pub label-filter : (f : Name → Bool) (l : List Name) → IsLabelOf living l → IsLabelOf living (filter f l)
  label-filter f l h = record { ordered = ordered-filter f l h.ordered; lives = λ p k. h.lives p (and_gives_right (f p) (has l p) (sym (has-filter f l p) ∙ k)) }

  pub label-join : (l m : List Name) → IsLabelOf living l → IsLabelOf living m → IsLabelOf living (join l m)
  label-join l m h k = record { ordered = ordered-join l m k.ordered; lives = λ p i. ⊎_elim (λ j. h.lives p j) (λ j. k.lives p j) (or_cases (has l p) (has m p) (sym (has-join l m p) ∙ i)) }

  pub label-add : (p : Name) (l : List Name) → has living p ≡ true → IsLabelOf living l → IsLabelOf living (add p l)
  label-add p l n h = record {
    ordered = ordered-add p l h.ordered;
    lives = λ q i. ⊎_elim (λ j. subst {A = Name} (λ z. has living z ≡ true) (sym (name_eq-eq q p j)) n) (λ j. h.lives q j) (or_cases (name_eq q p) (has l q) (sym (has-add p l q) ∙ i));
  }

  pub label-strict : (kind : Found) (l : List Name) → IsLabelOf living l → IsLabelOf living (if_strict kind l)
  label-strict No l h = label-none
  label-strict Variant l h = label-none
  label-strict Strict l h = h

-- ---- a fork

-- a child of a living process lives after the fork
pub child_lives : (p : Name) (bit : Bool) (living : List Name) → has living p ≡ true → has (relabel p living) (child p bit) ≡ true
child_lives p false living n = has-relabel p (child p false) living n ∙ or_left (name_eq (child p false) (child p false)) (name_eq (child p false) (child p true) || (not (name_eq (child p false) p) && has living (child p false))) (name_eq-refl (child p false))
child_lives p true living n = has-relabel p (child p true) living n
    ∙ or_right (name_eq (child p true) (child p false)) (name_eq (child p true) (child p true) || (not (name_eq (child p true) p) && has living (child p true)))
    (or_left (name_eq (child p true) (child p true)) (not (name_eq (child p true) p) && has living (child p true)) (name_eq-refl (child p true)))

-- another process lives after it as before
pub other_lives : (p q : Name) (living : List Name) → name_eq q p ≡ false → has living q ≡ true → has (relabel p living) q ≡ true
other_lives p q living d n = go (has living p) refl
  where
    go : (x : Bool) → has living p ≡ x → has (relabel p living) q ≡ true
    go true e = has-relabel p q living e ∙ or_right (name_eq q (child p false)) (name_eq q (child p true) || (not (name_eq q p) && has living q))
        (or_right (name_eq q (child p true)) (not (name_eq q p) && has living q) (and_from (not (name_eq q p)) (has living q) (not_of_false d) n))
    go false e = subst {A = List Name} (λ l. has l q ≡ true) (sym (relabel-absent p living e)) n

pub label-relabel : (p : Name) (living l : List Name) → IsLabelOf living l → IsLabelOf (relabel p living) (relabel p l)
label-relabel p living l h = go (has l p) refl
  where
    go : (x : Bool) → has l p ≡ x → IsLabelOf (relabel p living) (relabel p l)
    go false e = subst {A = List Name} (IsLabelOf (relabel p living)) (sym (relabel-absent p l e))
        (record { ordered = h.ordered; lives = λ q k. other_lives p q living (false_unless (name_eq q p) (λ s. clash k (subst {A = Name} (λ z. has l z ≡ false) (sym (name_eq-eq q p s)) e))) (h.lives q k) })
    go true e = record {
      ordered = subst {A = List Name} IsInNameOrder (sym (relabelled p l e)) (ordered-add (child p false) (add (child p true) (minus l (p ∷ []))) (ordered-add (child p true) (minus l (p ∷ [])) (ordered-filter (λ q. not (has (p ∷ []) q)) l h.ordered)));
      lives = λ q k. ⊎_elim (λ s. subst {A = Name} (λ z. has (relabel p living) z ≡ true) (sym (name_eq-eq q (child p false) s)) (child_lives p false living (h.lives p e)))
          (λ i. ⊎_elim (λ s. subst {A = Name} (λ z. has (relabel p living) z ≡ true) (sym (name_eq-eq q (child p true) s)) (child_lives p true living (h.lives p e)))
          (λ s. other_lives p q living (false_unless (name_eq q p) (λ r. clash (and_gives_left (not (name_eq q p)) (has l q) s) (subst {A = Bool} (λ z. not z ≡ false) (sym r) refl))) (h.lives q (and_gives_right (not (name_eq q p)) (has l q) s)))
          (or_cases (name_eq q (child p true)) (not (name_eq q p) && has l q) i))
          (or_cases (name_eq q (child p false)) (name_eq q (child p true) || (not (name_eq q p) && has l q)) (sym (has-relabel p q l e) ∙ k));
    }

-- ---- nodes

-- all labels of the nodes are labels
abbrev pub AreLabels : List Name → List PlainNode → Type 0
AreLabels living xs = (m : ℕ) (j : LabelKind) → IsLabelOf living (label_at xs m j)

module _ (living : List Name) where
  labels-put : (n : ℕ) (k : LabelKind) (l : List Name) (xs : List PlainNode) → AreLabels living xs → IsLabelOf living l → AreLabels living (with_label n k l xs)
  labels-put n k l xs h i m j = go (here_or_other n k m j) (below n (length xs))
    where
      go : IsHere n k m j ⊎ ((m ≢ n) ⊎ (j ≢ k)) → (n < length xs) ⊎ (length xs ≤ n) → IsLabelOf living (label_at (with_label n k l xs) m j)
      go (inr d) b = subst {A = List Name} (IsLabelOf living) (sym (put_other xs n m k j l d)) (h m j)
      go (inl (e, f)) (inl b) = rw (e, f) (subst {A = List Name} (IsLabelOf living) (sym (put_same xs n k l b)) i)
      go (inl (e, f)) (inr b) = subst {A = List PlainNode} (λ ys. IsLabelOf living (label_at ys m j)) (sym (put_beyond xs n k l b)) (h m j)

  pub labels-gains : (n : ℕ) (k : LabelKind) (l : List Name) (xs : List PlainNode) → AreLabels living xs → IsLabelOf living l → AreLabels living (gains n k l xs)
  labels-gains n k l xs h i = labels-put n k (join (label_at xs n k) l) xs h (label-join living (label_at xs n k) l (h n k) i)

  pub labels-loses : (n : ℕ) (k : LabelKind) (l : List Name) (xs : List PlainNode) → AreLabels living xs → AreLabels living (loses n k l xs)
  labels-loses n k l xs h = labels-put n k (minus (label_at xs n k) l) xs h (label-filter living (λ p. not (has l p)) (label_at xs n k) (h n k))

  pub labels-gains_equation : (n : ℕ) (l : List Name) (xs : List PlainNode) → AreLabels living xs → IsLabelOf living l → AreLabels living (gains_equation n l xs)
  labels-gains_equation n l xs h i = labels-gains n E (minus (minus l (label_at xs n R0)) (label_at xs n R1)) xs h
      (label-filter living (λ p. not (has (label_at xs n R1) p)) (minus l (label_at xs n R0)) (label-filter living (λ p. not (has (label_at xs n R0) p)) l i))

  pub labels-gains_rule : (a : RuleRef) (l : List Name) (xs : List PlainNode) → AreLabels living xs → IsLabelOf living l → AreLabels living (gains_rule a l xs)
  labels-gains_rule a l xs h i = labels-gains a.node (rule_kind a.dir) l (loses a.node E l xs) (labels-loses a.node E l xs h) i

  pub labels-with_node : (q : Pair) (o : Origin) (xs : List PlainNode) → AreLabels living xs → AreLabels living (with_node q o xs)
  labels-with_node q o xs h m j = subst {A = List Name} (IsLabelOf living) (sym (label-with_node q o xs m j)) (h m j)

  pub labels-oriented : (p : Name) (a : RuleRef) (xs : List PlainNode) → has living p ≡ true → AreLabels living xs → AreLabels living (oriented p a xs)
  labels-oriented p a xs n h = labels-gains a.node (constraint_kind a.dir) (p ∷ []) (gains a.node (rule_kind a.dir) (p ∷ []) (loses a.node E (p ∷ []) xs))
      (labels-gains a.node (rule_kind a.dir) (p ∷ []) (loses a.node E (p ∷ []) xs) (labels-loses a.node E (p ∷ []) xs h) (label-one living p n)) (label-one living p n)

  pub labels-added : (l : List Name) (ds : List Deduced) (xs : List PlainNode) → IsLabelOf living l → AreLabels living xs → AreLabels living (added l ds xs)
  labels-added l [] xs i h = h
  labels-added l (d ∷ ds) xs i h =
      let ys : List PlainNode = with_node d.pair (ByOverlap d.outer d.inner d.position) xs in
      labels-added l ds (gains_equation (node_of ys d.pair) l ys) i (labels-gains_equation (node_of ys d.pair) l ys (labels-with_node d.pair (ByOverlap d.outer d.inner d.position) xs h) i)

  labels-moved : (q : Option Pair) (o : Origin) (rest result : Tree) (le lr ll : List Name) (xs : List PlainNode) → IsLabelOf living le → IsLabelOf living lr → IsLabelOf living ll → AreLabels living xs → AreLabels living (moved_to q o rest result le lr ll xs)
  labels-moved None o rest result le lr ll xs he hr hl h = h
  labels-moved (Some q) o rest result le lr ll xs he hr hl h =
      let ws : List PlainNode = with_node q o xs in
      let n : ℕ = node_of ws q in
      let a : RuleRef = record { node = n; dir = direction rest result q } in
      labels-gains_equation n ll (gains_equation n le (gains_rule a lr ws))
      (labels-gains_equation n le (gains_rule a lr ws) (labels-gains_rule a lr ws (labels-with_node q o xs h) hr) he) hl

  pub labels-rewritten : (l : List Name) (n w : ℕ) (at : List ℕ) (a : RuleRef) (kind : Found) (u : Tree) (q : Pair) (xs : List PlainNode) → IsLabelOf living l → AreLabels living xs → AreLabels living (rewritten l n w at a kind u q xs)
  labels-rewritten l n w at a kind u q xs i h =
      labels-moved (canonical_pair u (other_side q w)) (ByRewrite n w at a) (other_side q w) u
      (meet l (label_at xs n E)) (meet l (label_at xs n (rule_kind (other w)))) (if_strict kind (meet l (label_at xs n (rule_kind w))))
      (loses n E l (loses n (rule_kind (other w)) l (loses n (rule_kind w) (if_strict kind l) xs)))
      (met (label_at xs n E)) (met (label_at xs n (rule_kind (other w)))) (label-strict living kind (meet l (label_at xs n (rule_kind w))) (met (label_at xs n (rule_kind w))))
      (labels-loses n E l (loses n (rule_kind (other w)) l (loses n (rule_kind w) (if_strict kind l) xs))
      (labels-loses n (rule_kind (other w)) l (loses n (rule_kind w) (if_strict kind l) xs) (labels-loses n (rule_kind w) (if_strict kind l) xs h)))
    where
      met : (m : List Name) → IsLabelOf living (meet l m)
      met m = label-filter living (has m) l i

pub labels-fork : (p : Name) (living : List Name) (xs : List PlainNode) → AreLabels living xs → AreLabels (relabel p living) (map (forked_node p) xs)
labels-fork p living xs h m j = subst {A = List Name} (IsLabelOf (relabel p living)) (sym (label-fork p xs m j)) (label-relabel p living (label_at xs m j) (h m j))
