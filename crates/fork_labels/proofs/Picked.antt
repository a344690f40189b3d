-- The names at the places of a set.
use Rattle.std.proofs.Common.{◌≡◌, ℕ, ◌<◌, List, [], ◌∷◌, ◌++◌, length, Bool, true, false, ◌&&◌, ◌||◌, not, set, get_or, zero, suc, refl, sym, ap, ap₂, ◌∙◌, arith}
use mathlib.Core.Bool.{true≢false}
use Rattle.std.proofs.Math.Bool.{or-true, or-false}
use Rattle.kb_lemmas.proofs.Booleans.{or_swap}
use Rattle.kb_label.specs.Names.{Name, root, name_eq, has, join, IsInNameOrder}
use Rattle.kb_label.proofs.Members.{name_eq-refl, name_eq-eq, has-join}
use Rattle.kb_label.proofs.Ordered.{ordered-join}
use Rattle.fork_labels.specs.Places.{picked}

-- no name twice
abbrev pub AreDistinct : List Name → Type 0
AreDistinct [] = Unit {0}
AreDistinct (p ∷ names) = (has names p ≡ false) × AreDistinct names

or_assoc : (a b c : Bool) → (a || (b || c)) ≡ ((a || b) || c)
or_assoc true b c = refl
or_assoc false b c = refl

pub has-append : (l m : List Name) (q : Name) → has (l ++ m) q ≡ (has l q || has m q)
has-append [] m q = refl
has-append (p ∷ l) m q = ap (λ b. name_eq q p || b) (has-append l m q) ∙ or_assoc (name_eq q p) (has l q) (has m q)

pub has-sorted : (l : List Name) (q : Name) → has (join l []) q ≡ has l q
has-sorted l q = has-join l [] q ∙ or-false (has l q)

pub sorted : (l : List Name) → IsInNameOrder (join l [])
sorted l = ordered-join l [] tt

-- ---- what is picked

pub has-picked : (b : Bool) (bs : List Bool) (p : Name) (ns : List Name) (q : Name) → has (picked (b ∷ bs) (p ∷ ns)) q ≡ ((b && name_eq q p) || has (picked bs ns) q)
unfolding picked
has-picked true bs p ns q = refl
has-picked false bs p ns q = refl

-- no other name is picked
pub picked-absent : (bs : List Bool) (ns : List Name) (q : Name) → has ns q ≡ false → has (picked bs ns) q ≡ false
unfolding picked
picked-absent [] ns q h = refl
picked-absent (b ∷ bs) [] q h = refl
picked-absent (b ∷ bs) (p ∷ ns) q h =
    has-picked b bs p ns q ∙ ap₂ (λ x y. b && x || y) (neither (name_eq q p) (has ns q) h).0 (picked-absent bs ns q (neither (name_eq q p) (has ns q) h).1) ∙ none b
  where
    neither : (a b : Bool) → (a || b) ≡ false → (a ≡ false) × (b ≡ false)
    neither true b h = absurd (true≢false h)
    neither false b h = (refl, h)

    none : (b : Bool) → (b && false || false) ≡ false
    none true = refl
    none false = refl

same_absent : (p q : Name) (ns : List Name) (bs : List Bool) → name_eq q p ≡ true → has ns p ≡ false → has (picked bs ns) q ≡ false
same_absent p q ns bs e h = picked-absent bs ns q (ap (has ns) (name_eq-eq q p e) ∙ h)

-- ---- the operations

-- the places of either set
abbrev pub either : List Bool → List Bool → List Bool
either [] cs = []
either (b ∷ bs) [] = []
either (b ∷ bs) (c ∷ cs) = (b || c) ∷ either bs cs

-- the places of both sets
abbrev pub both : List Bool → List Bool → List Bool
both [] cs = []
both (b ∷ bs) [] = []
both (b ∷ bs) (c ∷ cs) = (b && c) ∷ both bs cs

-- the places of the first set that the second lacks
abbrev pub first_alone : List Bool → List Bool → List Bool
first_alone [] cs = []
first_alone (b ∷ bs) [] = []
first_alone (b ∷ bs) (c ∷ cs) = (b && not c) ∷ first_alone bs cs

either_head : (b c e x y : Bool) → ((b || c) && e || (x || y)) ≡ ((b && e || x) || (c && e || y))
either_head true true true x y = refl
either_head true true false x y = refl
either_head true false true x y = refl
either_head true false false x y = refl
either_head false true true true y = refl
either_head false true true false y = refl
either_head false true false x y = refl
either_head false false true x y = refl
either_head false false false x y = refl

pub has-either : (bs cs : List Bool) (ns : List Name) (q : Name) → length bs ≡ length cs → has (picked (either bs cs) ns) q ≡ (has (picked bs ns) q || has (picked cs ns) q)
unfolding picked
has-either [] [] ns q h = refl
has-either [] (c ∷ cs) ns q h = absurd (omega arith)
has-either (b ∷ bs) [] ns q h = absurd (omega arith)
has-either (b ∷ bs) (c ∷ cs) [] q h = refl
has-either (b ∷ bs) (c ∷ cs) (p ∷ ns) q h =
    has-picked (b || c) (either bs cs) p ns q
    ∙ ap (λ x. (b || c) && name_eq q p || x) (has-either bs cs ns q (omega arith))
    ∙ either_head b c (name_eq q p) (has (picked bs ns) q) (has (picked cs ns) q)
    ∙ ap₂ ◌||◌ (sym (has-picked b bs p ns q)) (sym (has-picked c cs p ns q))

both_head : (b c e x y z : Bool) → (e ≡ true → x ≡ false) → (e ≡ true → y ≡ false) → (e ≡ true → z ≡ false) → z ≡ (y && x) → (b && c && e || z) ≡ ((c && e || y) && (b && e || x))
both_head b c true x y z h g f w = rw (h refl, g refl, f refl) (go b c)
  where
    go : (b c : Bool) → (b && c && true || false) ≡ ((c && true || false) && (b && true || false))
    go true true = refl
    go true false = refl
    go false true = refl
    go false false = refl
both_head true true false x y z h g f w = w
both_head true false false x y z h g f w = w
both_head false true false x y z h g f w = w
both_head false false false x y z h g f w = w

pub has-both : (bs cs : List Bool) (ns : List Name) (q : Name) → length bs ≡ length cs → AreDistinct ns → has (picked (both bs cs) ns) q ≡ (has (picked cs ns) q && has (picked bs ns) q)
unfolding picked
has-both [] [] ns q h d = refl
has-both [] (c ∷ cs) ns q h d = absurd (omega arith)
has-both (b ∷ bs) [] ns q h d = absurd (omega arith)
has-both (b ∷ bs) (c ∷ cs) [] q h d = refl
has-both (b ∷ bs) (c ∷ cs) (p ∷ ns) q h d =
    has-picked (b && c) (both bs cs) p ns q
    ∙ both_head b c (name_eq q p) (has (picked bs ns) q) (has (picked cs ns) q) (has (picked (both bs cs) ns) q) (λ e. same_absent p q ns bs e d.0) (λ e. same_absent p q ns cs e d.0) (λ e. same_absent p q ns (both bs cs) e d.0) (has-both bs cs ns q (omega arith) d.1)
    ∙ ap₂ ◌&&◌ (sym (has-picked c cs p ns q)) (sym (has-picked b bs p ns q))

alone_head : (b c e x y z : Bool) → (e ≡ true → x ≡ false) → (e ≡ true → y ≡ false) → (e ≡ true → z ≡ false) → z ≡ (not y && x) → (b && not c && e || z) ≡ (not (c && e || y) && (b && e || x))
alone_head b c true x y z h g f w = rw (h refl, g refl, f refl) (go b c)
  where
    go : (b c : Bool) → (b && not c && true || false) ≡ (not (c && true || false) && (b && true || false))
    go true true = refl
    go true false = refl
    go false true = refl
    go false false = refl
alone_head true true false x y z h g f w = w
alone_head true false false x y z h g f w = w
alone_head false true false x y z h g f w = w
alone_head false false false x y z h g f w = w

pub has-alone : (bs cs : List Bool) (ns : List Name) (q : Name) → length bs ≡ length cs → AreDistinct ns → has (picked (first_alone bs cs) ns) q ≡ (not (has (picked cs ns) q) && has (picked bs ns) q)
unfolding picked
has-alone [] [] ns q h d = refl
has-alone [] (c ∷ cs) ns q h d = absurd (omega arith)
has-alone (b ∷ bs) [] ns q h d = absurd (omega arith)
has-alone (b ∷ bs) (c ∷ cs) [] q h d = refl
has-alone (b ∷ bs) (c ∷ cs) (p ∷ ns) q h d =
    has-picked (b && not c) (first_alone bs cs) p ns q
    ∙ alone_head b c (name_eq q p) (has (picked bs ns) q) (has (picked cs ns) q) (has (picked (first_alone bs cs) ns) q) (λ e. same_absent p q ns bs e d.0) (λ e. same_absent p q ns cs e d.0) (λ e. same_absent p q ns (first_alone bs cs) e d.0) (has-alone bs cs ns q (omega arith) d.1)
    ∙ ap₂ (λ x y. not x && y) (sym (has-picked c cs p ns q)) (sym (has-picked b bs p ns q))

-- one place more
pub has-set : (bs : List Bool) (ns : List Name) (s : ℕ) (q : Name) → s < length bs → s < length ns → has (picked (set bs s true) ns) q ≡ (name_eq q (get_or ns s root) || has (picked bs ns) q)
unfolding picked
has-set [] ns s q h g = absurd (omega arith)
has-set (b ∷ bs) [] s q h g = absurd (omega arith)
has-set (true ∷ bs) (p ∷ ns) zero q h g = again (name_eq q p) (has (picked bs ns) q)
  where
    again : (a x : Bool) → (a || x) ≡ (a || (a || x))
    again true x = refl
    again false x = refl
has-set (false ∷ bs) (p ∷ ns) zero q h g = refl
has-set (b ∷ bs) (p ∷ ns) (suc s) q h g =
    has-picked b (set bs s true) p ns q
    ∙ ap (λ x. b && name_eq q p || x) (has-set bs ns s q (omega arith) (omega arith))
    ∙ or_swap (b && name_eq q p) (name_eq q (get_or ns s root)) (has (picked bs ns) q)
    ∙ ap (λ x. name_eq q (get_or ns s root) || x) (sym (has-picked b bs p ns q))

pub has-name_at : (ns : List Name) (s : ℕ) → s < length ns → has ns (get_or ns s root) ≡ true
has-name_at [] s g = absurd (omega arith)
has-name_at (p ∷ ns) zero g = ap (λ x. x || has ns p) (name_eq-refl p)
has-name_at (p ∷ ns) (suc s) g = ap (λ x. name_eq (get_or ns s root) p || x) (has-name_at ns s (omega arith)) ∙ or-true (name_eq (get_or ns s root) p)

-- whether a place is in the set
pub has-place : (bs : List Bool) (ns : List Name) (s : ℕ) → length bs ≡ length ns → s < length ns → AreDistinct ns → has (picked bs ns) (get_or ns s root) ≡ get_or bs s false
has-place [] ns s h g d = absurd (omega arith)
has-place (b ∷ bs) [] s h g d = absurd (omega arith)
has-place (b ∷ bs) (p ∷ ns) zero h g d =
    has-picked b bs p ns p ∙ ap₂ (λ x y. b && x || y) (name_eq-refl p) (picked-absent bs ns p d.0) ∙ only b
  where
    only : (b : Bool) → (b && true || false) ≡ b
    only true = refl
    only false = refl
has-place (b ∷ bs) (p ∷ ns) (suc s) h g d =
    has-picked b bs p ns (get_or ns s root)
    ∙ ap (λ x. b && x || has (picked bs ns) (get_or ns s root)) (other (name_eq (get_or ns s root) p) refl)
    ∙ none b (has (picked bs ns) (get_or ns s root))
    ∙ has-place bs ns s (omega arith) (omega arith) d.1
  where
    other : (e : Bool) → name_eq (get_or ns s root) p ≡ e → name_eq (get_or ns s root) p ≡ false
    other true k = absurd (true≢false (sym (has-name_at ns s (omega arith)) ∙ ap (has ns) (name_eq-eq (get_or ns s root) p k) ∙ d.0))
    other false k = k

    none : (b x : Bool) → (b && false || x) ≡ x
    none true x = refl
    none false x = refl
