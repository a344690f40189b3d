-- What a label names after each of its operations.
use Rattle.std.specs.Prelude.{List, [], ◌∷◌, Bool, true, false, ◌&&◌, ◌||◌, not, cond, ◌≡◌, refl, filter}
use Rattle.std.proofs.Common.{ap, sym, ◌∙◌}
use mathlib.Core.Bool.{true≢false}
use Rattle.std.specs.Ordering.{is_eq}
use Rattle.std.specs.declared.cmp.Ordering.{Ordering}
use Rattle.std.specs.declared.cmp.Ordering.TheVariants.{Less, Equal, Greater}
use Rattle.std.specs.Cmp.{tied_itself}
use Rattle.kb_lemmas.proofs.Booleans.{or_swap}
use Rattle.kb_label.specs.Names.{Name, bits_cmp, name_cmp, name_eq, has, by_order, add, join, meet, minus}
use Rattle.kb_lemmas.proofs.Booleans.{is_equal}
use Rattle.kb_label.specs.NameOrder.{bits_cmp-total, bits_cmp-equal, name_cmp-equal}

-- ---- names

pub name_eq-refl : (p : Name) → name_eq p p ≡ true
name_eq-refl p = ap is_eq (tied_itself bits_cmp-total p)

pub name_eq-eq : (p q : Name) → name_eq p q ≡ true → p ≡ q
name_eq-eq p q h = bits_cmp-equal p q (is_equal (bits_cmp p q) h)

-- ---- labels

or_again : (a c : Bool) → (a || c) ≡ (a || (a || c))
or_again true c = refl
or_again false c = refl

and_of_not : (a b c : Bool) → (a ≡ true → b ≡ false) → (b && c) ≡ (b && (a || c))
and_of_not true b c h = rw (h refl) refl
and_of_not false b c h = refl

and_or : (b a c : Bool) → (a ≡ true → b ≡ true) → (a || (b && c)) ≡ (b && (a || c))
and_or true a c h = refl
and_or false true c h = absurd (true≢false (sym (h refl)))
and_or false false c h = refl

-- the members that pass
pub has-filter : (f : Name → Bool) (l : List Name) (q : Name) → has (filter f l) q ≡ (f q && has l q)
has-filter f [] q = and_false (f q)
  where
    and_false : (b : Bool) → false ≡ (b && false)
    and_false true = refl
    and_false false = refl
has-filter f (x ∷ l) q = go (f x) refl (has-filter f l q)
  where
    go : (b : Bool) → f x ≡ b → has (filter f l) q ≡ (f q && has l q) → has (cond b (x ∷ filter f l) (filter f l)) q ≡ (f q && (name_eq q x || has l q))
    go true e ih = ap (name_eq q x ||◌) ih ∙ and_or (f q) (name_eq q x) (has l q) (λ h. rw (name_eq-eq q x h) e)
    go false e ih = ih ∙ and_of_not (name_eq q x) (f q) (has l q) (λ h. rw (name_eq-eq q x h) e)

-- one name more
pub has-add : (p : Name) (l : List Name) (q : Name) → has (add p l) q ≡ (name_eq q p || has l q)
has-add p [] q = refl
has-add p (x ∷ l) q = go (name_cmp p x) refl (has-add p l q)
  where
    go : (o : Ordering) → name_cmp p x ≡ o → has (add p l) q ≡ (name_eq q p || has l q)
        → has (by_order o (p ∷ x ∷ l) (x ∷ l) (x ∷ add p l)) q ≡ (name_eq q p || (name_eq q x || has l q))
    go Less h ih = refl
    go Equal h ih = rw (name_cmp-equal p x h) (or_again (name_eq q x) (has l q))
    go Greater h ih = ap (name_eq q x ||◌) ih ∙ or_swap (name_eq q x) (name_eq q p) (has l q)

pub has-join : (l m : List Name) (q : Name) → has (join l m) q ≡ (has l q || has m q)
has-join [] m q = refl
has-join (p ∷ l) m q = has-add p (join l m) q ∙ ap (name_eq q p ||◌) (has-join l m q) ∙ or_assoc (name_eq q p) (has l q) (has m q)
  where
    or_assoc : (a b c : Bool) → (a || (b || c)) ≡ ((a || b) || c)
    or_assoc true b c = refl
    or_assoc false b c = refl

pub has-minus : (l m : List Name) (q : Name) → has (minus l m) q ≡ (not (has m q) && has l q)
has-minus l m q = has-filter (λ p. not (has m p)) l q

pub has-meet : (l m : List Name) (q : Name) → has (meet l m) q ≡ (has m q && has l q)
has-meet l m q = has-filter (has m) l q
