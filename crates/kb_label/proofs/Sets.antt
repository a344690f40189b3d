-- Lists of names in their order are told by what they name.
use Rattle.std.specs.Prelude.{List, [], ◌∷◌, Bool, true, false, ◌&&◌, ◌||◌, not, if◌then◌else◌, ◌≡◌, length, refl}
use Rattle.std.proofs.Common.{ap, ap₂, sym, ◌∙◌, subst}
use mathlib.Core.Bool.{true≢false}
use Rattle.std.specs.declared.cmp.Ordering.{Ordering}
use Rattle.std.specs.declared.cmp.Ordering.TheVariants.{Less, Equal, Greater}
use Rattle.std.proofs.Math.Bool.{or-false, or-true}
use Rattle.std.proofs.Math.Dec.{ltb}
use Rattle.std.proofs.lemmas.Bool.{lt-ltb}
use Rattle.kb_label.specs.Names.{Name, child, name_cmp, name_eq, has, add, join, minus, relabel, IsInNameOrder, IsTakenBack}
use Rattle.kb_label.specs.NameOrder.{name_cmp-equal}
use Rattle.kb_label.proofs.Members.{name_eq-refl, name_eq-eq, has-add, has-join, has-minus}
use Rattle.kb_label.proofs.Ordered.{turned, rest, lower, before-absent, ordered-add, ordered-join, ordered-without}
use Rattle.kb_label.proofs.Forked.{relabelled}

first : (p : Name) (l : List Name) → has (p ∷ l) p ≡ true
first p l = ap (λ b. b || has l p) (name_eq-refl p)

-- a name that comes before all of m is not first in a list that names the same
not_less : {P : Type 0} (p q : Name) (l m : List Name) → IsInNameOrder (q ∷ m) → has (p ∷ l) p ≡ has (q ∷ m) p → name_cmp p q ≡ Less → P
not_less p q l m w h e = absurd (true≢false (sym (first p l) ∙ h ∙ before-absent p (q ∷ m) (lower p q m e w)))

tails : (p r : Name) (l m : List Name) → IsInNameOrder (p ∷ l) → IsInNameOrder (p ∷ m) → (name_eq r p || has l r) ≡ (name_eq r p || has m r) → has l r ≡ has m r
tails p r l m o w h = go (name_eq r p) refl h
  where
    go : (b : Bool) → name_eq r p ≡ b → (b || has l r) ≡ (b || has m r) → has l r ≡ has m r
    go true e g =
        let same : r ≡ p = name_eq-eq r p e in
        rw same (before-absent p l o ∙ sym (before-absent p m w))
    go false e g = g

pub same_names : (l m : List Name) → IsInNameOrder l → IsInNameOrder m → ((q : Name) → has l q ≡ has m q) → l ≡ m
same_names [] [] o w h = refl
same_names [] (q ∷ m) o w h = absurd (true≢false (sym (first q m) ∙ sym (h q)))
same_names (p ∷ l) [] o w h = absurd (true≢false (sym (first p l) ∙ h p))
same_names (p ∷ l) (q ∷ m) o w h = go (name_cmp p q) refl (λ v g. same_names l m (rest p l o) (rest q m w) (λ r. tails p r l m o v (g r)))
  where
    go : (k : Ordering) → name_cmp p q ≡ k → (IsInNameOrder (p ∷ m) → ((r : Name) → (name_eq r p || has l r) ≡ (name_eq r p || has m r)) → l ≡ m) → p ∷ l ≡ q ∷ m
    go Less e ih = not_less p q l m w (h p) e
    go Equal e ih =
        let same : q ≡ p = sym (name_cmp-equal p q e) in
        ap₂ ◌∷◌ (sym same) (ih (subst (λ v. IsInNameOrder (v ∷ m)) same w) (λ r. h r ∙ ap (λ v. name_eq r v || has m r) same))
    go Greater e ih = not_less q p m l o (sym (h q)) (turned p q e)

pub has-relabel : (p q : Name) (l : List Name) → has l p ≡ true → has (relabel p l) q ≡ (name_eq q (child p false) || (name_eq q (child p true) || (not (name_eq q p) && has l q)))
has-relabel p q l h =
    ap (λ m. has m q) (relabelled p l h)
    ∙ has-add (child p false) (add (child p true) (minus l (p ∷ []))) q
    ∙ ap (λ b. name_eq q (child p false) || b) (has-add (child p true) (minus l (p ∷ [])) q ∙ ap (λ b. name_eq q (child p true) || b) (has-minus l (p ∷ []) q ∙ ap (λ b. not b && has l q) (or-false (name_eq q p))))

pub relabel-absent : (p : Name) (l : List Name) → has l p ≡ false → relabel p l ≡ l
relabel-absent p l h = rw h refl

-- ---- a fork that is taken back

taken_back : (a b c t : Bool) → (a ≡ true → t ≡ true) → (b ≡ true → t ≡ false) → (c ≡ true → t ≡ false) → (a || (not (b || false) && (not (c || false) && (b || (c || (not a && t)))))) ≡ t
taken_back true b c t is left right = sym (is refl)
taken_back false true c t is left right = sym (left refl)
taken_back false false true t is left right = sym (right refl)
taken_back false false false t is left right = refl

module _ (p : Name) (l : List Name) (o : IsInNameOrder l) where
  pub back-relabel : has l p ≡ true → has l (child p false) ≡ false → has l (child p true) ≡ false → add p (minus (minus (relabel p l) (child p true ∷ [])) (child p false ∷ [])) ≡ l
  back-relabel h none_left none_right =
      same_names (add p (minus (minus m (right ∷ [])) (left ∷ []))) l
      (ordered-add p (minus (minus m (right ∷ [])) (left ∷ [])) (ordered-without left (minus m (right ∷ [])) (ordered-without right m ordered))) o same
    where
      left : Name
      left = child p false

      right : Name
      right = child p true

      m : List Name
      m = relabel p l

      ordered : IsInNameOrder m
      ordered = rw (relabelled p l h) (ordered-add left (add right (minus l (p ∷ []))) (ordered-add right (minus l (p ∷ [])) (ordered-without p l o)))

      same : (q : Name) → has (add p (minus (minus m (right ∷ [])) (left ∷ []))) q ≡ has l q
      same q =
          has-add p (minus (minus m (right ∷ [])) (left ∷ [])) q
          ∙ ap (λ b. name_eq q p || b) (has-minus (minus m (right ∷ [])) (left ∷ []) q ∙ ap (λ b. not (name_eq q left || false) && b) (has-minus m (right ∷ []) q ∙ ap (λ b. not (name_eq q right || false) && b) (has-relabel p q l h)))
          ∙ taken_back (name_eq q p) (name_eq q left) (name_eq q right) (has l q)
          (λ e. ap (has l) (name_eq-eq q p e) ∙ h) (λ e. ap (has l) (name_eq-eq q left e) ∙ none_left) (λ e. ap (has l) (name_eq-eq q right e) ∙ none_right)

  -- both children are named after the fork
  pub child-relabel : (b : Bool) → has l p ≡ true → has (relabel p l) (child p b) ≡ true
  child-relabel false h = has-relabel p (child p false) l h ∙ ap (λ b. b || (name_eq (child p false) (child p true) || (not (name_eq (child p false) p) && has l (child p false)))) (name_eq-refl (child p false))
  child-relabel true h = has-relabel p (child p true) l h ∙ ap (λ b. name_eq (child p true) (child p false) || (b || (not (name_eq (child p true) p) && has l (child p true)))) (name_eq-refl (child p true)) ∙ or-true (name_eq (child p true) (child p false))

  pub united-relabel : IsTakenBack p l
  united-relabel short h none_left none_right = go (ltb (length p) 64) (has m (child p false)) (has m (child p true)) (lt-ltb (length p) 64 short) (child-relabel false h) (child-relabel true h) ∙ back-relabel h none_left none_right
    where
      m : List Name
      m = relabel p l

      taken : List Name
      taken = add p (minus (minus m (child p true ∷ [])) (child p false ∷ []))

      go : (a b c : Bool) → a ≡ true → b ≡ true → c ≡ true → (if a && (b && c) then taken else m) ≡ taken
      go a b c e f g = rw (e, f, g) refl

-- ---- one name alone

-- joined with one name a list gains it at its place
pub join-only : (p : Name) (l : List Name) → IsInNameOrder l → join l (p ∷ []) ≡ add p l
join-only p l o = same_names (join l (p ∷ [])) (add p l) (ordered-join l (p ∷ []) tt) (ordered-add p l o) (λ q. has-join l (p ∷ []) q ∙ ap (λ b. has l q || b) (or-false (name_eq q p)) ∙ or-turned (has l q) (name_eq q p) ∙ sym (has-add p l q))
  where
    or-turned : (a b : Bool) → (a || b) ≡ (b || a)
    or-turned true true = refl
    or-turned true false = refl
    or-turned false true = refl
    or-turned false false = refl
