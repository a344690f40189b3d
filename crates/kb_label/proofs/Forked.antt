-- The names that live after forks: in their order, none a beginning of another, and each of fewer bits than there are names.
use Rattle.std.specs.Prelude.{List, [], ◌∷◌, ◌++◌, Bool, true, false, ◌&&◌, ◌||◌, not, ◌≡◌, ◌⊎◌, refl, length, suc, ◌+◌, ◌<◌, ◌≤◌}
use Rattle.std.proofs.Common.{ap, ap₂, sym, ◌∙◌, subst, inl, inr, ⊎_elim, arith, length-append}
use mathlib.Core.Bool.{true≢false}
use Rattle.std.specs.Ordering.{is_eq}
use Rattle.std.proofs.lemmas.Bool.{false_from_ne_true, or_cases}
use Rattle.kb_lemmas.proofs.Booleans.{and_gives_left, and_gives_right}
use Rattle.kb_label.specs.Names.{Name, root, child, bit_cmp, name_eq, is_beginning, has, add, minus, relabel, IsInNameOrder}
use Rattle.kb_label.specs.declared.process.TheConstants.{MAX_BITS}
use Rattle.kb_label.specs.Forks.{IsForked, at_first, at_fork}
use Rattle.kb_label.proofs.Members.{name_eq-refl, name_eq-eq, has-add, has-minus}
use Rattle.kb_label.proofs.Ordered.{ordered-add, ordered-without, length-add, length-without}

-- ---- tests

not_or : (a : Bool) → not (a || false) ≡ true → a ≡ false
not_or true h = absurd (true≢false (sym h))
not_or false h = refl

-- ---- beginnings

bit-same : (x : Bool) → is_eq (bit_cmp x x) ≡ true
bit-same true = refl
bit-same false = refl

bit-equal : (x y : Bool) → is_eq (bit_cmp x y) ≡ true → x ≡ y
bit-equal true true h = refl
bit-equal true false h = absurd (true≢false (sym h))
bit-equal false true h = absurd (true≢false (sym h))
bit-equal false false h = refl

begins-self : (q : Name) → is_beginning q q ≡ true
begins-self [] = refl
begins-self (x ∷ q) = ap₂ ◌&&◌ (bit-same x) (begins-self q)

pub begins-more : (p q : Name) → is_beginning p (p ++ q) ≡ true
begins-more [] q = refl
begins-more (x ∷ p) q = ap₂ ◌&&◌ (bit-same x) (begins-more p q)

pub begins-trans : (p q r : Name) → is_beginning p q ≡ true → is_beginning q r ≡ true → is_beginning p r ≡ true
begins-trans [] q r h k = refl
begins-trans (x ∷ p) [] r h k = absurd (true≢false (sym h))
begins-trans (x ∷ p) (y ∷ q) [] h k = absurd (true≢false (sym k))
begins-trans (x ∷ p) (y ∷ q) (z ∷ r) h k =
    let e : x ≡ y = bit-equal x y (and_gives_left (is_eq (bit_cmp x y)) (is_beginning p q) h) in
    let d : is_eq (bit_cmp y z) ≡ true = and_gives_left (is_eq (bit_cmp y z)) (is_beginning q r) k in
    ap₂ ◌&&◌ (ap (λ v. is_eq (bit_cmp v z)) e ∙ d) (begins-trans p q r (and_gives_right (is_eq (bit_cmp x y)) (is_beginning p q) h) (and_gives_right (is_eq (bit_cmp y z)) (is_beginning q r) k))

-- what begins a child begins its parent or is the child
pub begins-child : (q p : Name) (b : Bool) → is_beginning q (child p b) ≡ true → (is_beginning q p ≡ true) ⊎ (q ≡ child p b)
begins-child [] p b h = inl refl
begins-child (x ∷ []) [] b h = inr (ap (λ v. v ∷ []) (bit-equal x b (and_gives_left (is_eq (bit_cmp x b)) true h)))
begins-child (x ∷ y ∷ q) [] b h = absurd (true≢false (sym (and_gives_right (is_eq (bit_cmp x b)) false h)))
begins-child (x ∷ q) (y ∷ p) b h =
    let e : is_eq (bit_cmp x y) ≡ true = and_gives_left (is_eq (bit_cmp x y)) (is_beginning q (child p b)) h in
    ⊎_elim (λ w. inl (ap₂ ◌&&◌ e w)) (λ w. inr (ap₂ ◌∷◌ (bit-equal x y e) w)) (begins-child q p b (and_gives_right (is_eq (bit_cmp x y)) (is_beginning q (child p b)) h))

children-begin : (p : Name) (b d : Bool) → is_beginning (child p b) (child p d) ≡ true → b ≡ d
children-begin [] b d h = bit-equal b d (and_gives_left (is_eq (bit_cmp b d)) true h)
children-begin (x ∷ p) b d h = children-begin p b d (and_gives_right (is_eq (bit_cmp x x)) (is_beginning (child p b) (child p d)) h)

-- ---- forks

length-child : (p : Name) (b : Bool) → length (child p b) ≡ length p + 1
length-child p b = length-append p (b ∷ [])

pub record AreLeaves (l : List Name) : Type 0 where
  pub in_order : IsInNameOrder l
  pub apart : (q r : Name) → has l q ≡ true → has l r ≡ true → is_beginning q r ≡ true → q ≡ r
  pub short : (q : Name) → has l q ≡ true → length q < length l

module _ (p : Name) (l : List Name) (h : has l p ≡ true) where
  pub relabelled : relabel p l ≡ add (child p false) (add (child p true) (minus l (p ∷ [])))
  relabelled = rw h refl

  -- what a fork leaves: a child, or another name that was there
  pub after_fork : (q : Name) → has (relabel p l) q ≡ true → ((b : Bool) × (q ≡ child p b)) ⊎ ((name_eq q p ≡ false) × (has l q ≡ true))
  after_fork q w =
      ⊎_elim (λ e. inl (false, name_eq-eq q (child p false) e))
      (λ v. ⊎_elim (λ e. inl (true, name_eq-eq q (child p true) e))
      (λ u. let both = sym (has-minus l (p ∷ []) q) ∙ u in
      inr (not_or (name_eq q p) (and_gives_left (not (has (p ∷ []) q)) (has l q) both), and_gives_right (not (has (p ∷ []) q)) (has l q) both))
      (or_cases (name_eq q (child p true)) (has (minus l (p ∷ [])) q) (sym (has-add (child p true) (minus l (p ∷ [])) q) ∙ v)))
      (or_cases (name_eq q (child p false)) (has (add (child p true) (minus l (p ∷ []))) q) (sym (has-add (child p false) (add (child p true) (minus l (p ∷ []))) q) ∙ ap (λ m. has m q) (sym relabelled) ∙ w))

  module _ (all : AreLeaves l) where
    -- a child of a living process doesn't live
    pub new : (b : Bool) → has l (child p b) ≡ false
    new b = false_from_ne_true (has l (child p b)) (λ w. let e : p ≡ child p b = all.apart p (child p b) h w (begins-more p (b ∷ [])) in let f : length p ≡ length (child p b) = ap length e in omega (arith, f, length-child p b))

    new_left : (b : Bool) → has (minus l (p ∷ [])) (child p b) ≡ false
    new_left b = has-minus l (p ∷ []) (child p b) ∙ ap (λ v. not (has (p ∷ []) (child p b)) && v) (new b) ∙ and_false (not (has (p ∷ []) (child p b)))
      where
        and_false : (a : Bool) → (a && false) ≡ false
        and_false true = refl
        and_false false = refl

    new_both : has (add (child p true) (minus l (p ∷ []))) (child p false) ≡ false
    new_both = has-add (child p true) (minus l (p ∷ [])) (child p false) ∙ ap₂ ◌||◌ differ (new_left false)
      where
        differ : name_eq (child p false) (child p true) ≡ false
        differ = false_from_ne_true (name_eq (child p false) (child p true)) (λ e. true≢false (sym (children-begin p false true (subst (λ v. is_beginning (child p false) v ≡ true) (name_eq-eq (child p false) (child p true) e) (begins-self (child p false))))))

    pub length-relabel : length (relabel p l) ≡ suc (length l)
    length-relabel =
        ap length relabelled ∙ length-add (child p false) (add (child p true) (minus l (p ∷ []))) new_both
        ∙ ap suc (length-add (child p true) (minus l (p ∷ [])) (new_left true) ∙ length-without p l all.in_order h)

    ordered-relabel : IsInNameOrder (relabel p l)
    ordered-relabel =
        subst IsInNameOrder (sym relabelled) (ordered-add (child p false) (add (child p true) (minus l (p ∷ []))) (ordered-add (child p true) (minus l (p ∷ [])) (ordered-without p l all.in_order)))

    other : (q : Name) → name_eq q p ≡ false → q ≡ p → ⊥
    other q e w = true≢false (sym (ap (name_eq q) (sym w) ∙ name_eq-refl q) ∙ e)

    apart-relabel : (q r : Name) → has (relabel p l) q ≡ true → has (relabel p l) r ≡ true → is_beginning q r ≡ true → q ≡ r
    apart-relabel q r w v g =
        ⊎_elim (λ b. ⊎_elim (λ d. both_new b.0 d.0 b.1 d.1) (λ d. absurd (other r d.0 (sym (all.apart p r h d.1 (begins-trans p q r (subst (λ k. is_beginning p k ≡ true) (sym b.1) (begins-more p (b.0 ∷ []))) g))))) (after_fork r v))
        (λ b. ⊎_elim (λ d. old_new b.0 b.1 d.0 d.1) (λ d. all.apart q r b.1 d.1 g) (after_fork r v))
        (after_fork q w)
      where
        both_new : (b d : Bool) → q ≡ child p b → r ≡ child p d → q ≡ r
        both_new b d e f = e ∙ ap (child p) (children-begin p b d (subst (λ k. is_beginning k (child p d) ≡ true) e (subst (λ k. is_beginning q k ≡ true) f g))) ∙ sym f

        old_new : name_eq q p ≡ false → has l q ≡ true → (d : Bool) → r ≡ child p d → q ≡ r
        old_new b k d f = ⊎_elim (λ x. absurd (other q b (all.apart q p k h x))) (λ x. x ∙ sym f) (begins-child q p d (subst (λ y. is_beginning q y ≡ true) f g))

    short-relabel : (q : Name) → has (relabel p l) q ≡ true → length q < length (relabel p l)
    short-relabel q w =
        ⊎_elim (λ b. let e : length q ≡ length p + 1 = ap length b.1 ∙ length-child p b.0 in omega (arith, e, all.short p h, length-relabel))
        (λ b. omega (arith, all.short q b.1, length-relabel))
        (after_fork q w)

    pub leaves-relabel : AreLeaves (relabel p l)
    leaves-relabel = record { in_order = ordered-relabel; apart = apart-relabel; short = short-relabel }

leaves-root : AreLeaves (root ∷ [])
leaves-root = record {
  in_order = tt;
  apart = λ q r w v g. first q w ∙ sym (first r v);
  short = λ q w. let e : length q ≡ 0 = ap length (first q w) in omega (arith, e);
}
  where
    or_false : (b : Bool) → (b || false) ≡ true → b ≡ true
    or_false true h = refl
    or_false false h = absurd (true≢false (sym h))

    first : (q : Name) → has (root ∷ []) q ≡ true → q ≡ root
    first q w = name_eq-eq q root (or_false (name_eq q root) w)

pub leaves-forked : (l : List Name) → IsForked l → AreLeaves l
leaves-forked l at_first = leaves-root
leaves-forked l (at_fork p m f h) = leaves-relabel p m h (leaves-forked m f)

-- what a fork in a list leaves
pub forked : (p : Name) (old new : List Name) → IsForked old → has old p ≡ true → length old < MAX_BITS + 1 → new ≡ relabel p old → IsForked new × (length new ≤ MAX_BITS + 1)
forked p old new f h room e = rw e (at_fork p old f h, omega (arith, length-relabel p old h (leaves-forked old f)))
