-- The places of names.
use Rattle.std.proofs.Common.{◌≡◌, ℕ, ◌+◌, ◌<◌, ◌≤◌, List, [], ◌∷◌, ◌++◌, length, Bool, true, false, ◌||◌, set, get_or, map, cond, zero, suc, refl, sym, ap, ap₂, ◌∙◌, arith, length-set}
use Rattle.std.proofs.lemmas.List.{get_or-map}
use mathlib.Core.Bool.{true≢false}
use Rattle.kb_label.specs.Names.{Name, root, child, name_eq, has}
use Rattle.kb_label.specs.declared.process.TheConstants.{MAX_BITS}
use Rattle.kb_label.proofs.Members.{name_eq-refl, name_eq-eq}
use Rattle.kb_label.proofs.Forked.{leaves-forked}
use Rattle.fork_labels.specs.Places.{split, names_of, living_of, IsLog, place_in, forked}
use Rattle.fork_labels.proofs.Picked.{has-sorted}
use Rattle.fork_labels.proofs.Split.{Good, fresh, children_differ, has-set_absent}
use Rattle.fork_labels.proofs.Relabelled.{good-log, length-names_of, names_after-append, place_in-there}
use Rattle.fork_labels.proofs.Stands.{place_in-absent, length-living}

pub place_in-most : (ns : List Name) (q : Name) → place_in ns q ≤ length ns
place_in-most [] q = omega arith
place_in-most (p ∷ ns) q = go (name_eq q p) (place_in-most ns q)
  where
    go : (b : Bool) → place_in ns q ≤ length ns → cond b 0 (place_in ns q + 1) ≤ suc (length ns)
    go true h = omega arith
    go false h = omega arith

place_in-push : (ns : List Name) (r : Name) → has ns r ≡ false → place_in (ns ++ r ∷ []) r ≡ length ns
place_in-push [] r h = ap (λ b. cond b 0 1) (name_eq-refl r)
place_in-push (p ∷ ns) r h = go (name_eq r p) h (λ k. place_in-push ns r k)
  where
    go : (b : Bool) → (b || has ns r) ≡ false → (has ns r ≡ false → place_in (ns ++ r ∷ []) r ≡ length ns) → cond b 0 (place_in (ns ++ r ∷ []) r + 1) ≡ suc (length ns)
    go true k ih = absurd (true≢false k)
    go false k ih = let w = ih k in omega (arith, w)

place_in-front : (ns ms : List Name) (q : Name) → has ns q ≡ true → place_in (ns ++ ms) q ≡ place_in ns q
place_in-front [] ms q h = absurd (true≢false (sym h))
place_in-front (p ∷ ns) ms q h = go (name_eq q p) h (λ k. place_in-front ns ms q k)
  where
    go : (b : Bool) → (b || has ns q) ≡ true → (has ns q ≡ true → place_in (ns ++ ms) q ≡ place_in ns q) → cond b 0 (place_in (ns ++ ms) q + 1) ≡ cond b 0 (place_in ns q + 1)
    go true k ih = refl
    go false k ih = ap (λ n. n + 1) (ih k)

place_in-new : (ns : List Name) (s : ℕ) (r : Name) → has ns r ≡ false → s < length ns → place_in (set ns s r) r ≡ s
place_in-new [] s r h g = absurd (omega arith)
place_in-new (p ∷ ns) zero r h g = ap (λ b. cond b 0 (place_in ns r + 1)) (name_eq-refl r)
place_in-new (p ∷ ns) (suc s) r h g = go (name_eq r p) h (λ k. place_in-new ns s r k (omega arith))
  where
    go : (b : Bool) → (b || has ns r) ≡ false → (has ns r ≡ false → place_in (set ns s r) r ≡ s) → cond b 0 (place_in (set ns s r) r + 1) ≡ suc s
    go true k ih = absurd (true≢false k)
    go false k ih = let w = ih k in omega (arith, w)

has-new : (ns : List Name) (s : ℕ) (r : Name) → s < length ns → has (set ns s r) r ≡ true
has-new [] s r g = absurd (omega arith)
has-new (p ∷ ns) zero r g = ap (λ b. b || has ns r) (name_eq-refl r)
has-new (p ∷ ns) (suc s) r g = ap (λ b. name_eq r p || b) (has-new ns s r (omega arith)) ∙ or_true (name_eq r p)
  where
    or_true : (b : Bool) → (b || true) ≡ true
    or_true true = refl
    or_true false = refl

-- a name that isn't replaced keeps its place
place_in-kept : (ns : List Name) (s : ℕ) (r q : Name) → name_eq q r ≡ false → name_eq q (get_or ns s root) ≡ false → place_in (set ns s r) q ≡ place_in ns q
place_in-kept [] s r q h g = refl
place_in-kept (p ∷ ns) zero r q h g = ap₂ (λ b c. cond b 0 (place_in ns q + 1)) (h ∙ sym g) h
place_in-kept (p ∷ ns) (suc s) r q h g = ap (λ n. cond (name_eq q p) 0 (n + 1)) (place_in-kept ns s r q h g)

has-kept : (ns : List Name) (s : ℕ) (r q : Name) → name_eq q (get_or ns s root) ≡ false → has ns q ≡ true → has (set ns s r) q ≡ true
has-kept [] s r q g h = h
has-kept (p ∷ ns) zero r q g h = go (name_eq q p) g h
  where
    go : (b : Bool) → b ≡ false → (b || has ns q) ≡ true → (name_eq q r || has ns q) ≡ true
    go true e k = absurd (true≢false e)
    go false e k = ap (λ b. name_eq q r || b) k ∙ or_true (name_eq q r)
      where
        or_true : (b : Bool) → (b || true) ≡ true
        or_true true = refl
        or_true false = refl
has-kept (p ∷ ns) (suc s) r q g h = go (name_eq q p) h (λ k. has-kept ns s r q g k)
  where
    go : (b : Bool) → (b || has ns q) ≡ true → (has ns q ≡ true → has (set ns s r) q ≡ true) → (b || has (set ns s r) q) ≡ true
    go true k ih = refl
    go false k ih = ih k

-- ---- the places after a fork

module _ (fs : List ℕ) (p : Name) (l : IsLog fs) (h : has (living_of fs) p ≡ true) where
  here : (place_in (names_of fs) p < length (names_of fs)) × (get_or (names_of fs) (place_in (names_of fs) p) root ≡ p)
  here = place_in-there (names_of fs) p (sym (has-sorted (names_of fs) p) ∙ h)

  good : Good (names_of fs)
  good = good-log fs l

  after : names_of (forked fs p) ≡ set (names_of fs) (place_in (names_of fs) p) (child p false) ++ child p true ∷ []
  unfolding split
  after = names_after-append fs (root ∷ []) (place_in (names_of fs) p) ∙ ap (λ (q : Name). set (names_of fs) (place_in (names_of fs) p) (child q false) ++ child q true ∷ []) here.1

  new : (b : Bool) → has (names_of fs) (child p b) ≡ false
  new b = ap (λ (q : Name). has (names_of fs) (child q b)) (sym here.1) ∙ fresh (names_of fs) (place_in (names_of fs) p) here.0 good b

  pub second_place : place_in (names_of (forked fs p)) (child p true) ≡ length (living_of fs)
  second_place =
      ap (λ (m : List Name). place_in m (child p true)) after
      ∙ place_in-push (set (names_of fs) (place_in (names_of fs) p) (child p false)) (child p true) (has-set_absent (names_of fs) (place_in (names_of fs) p) (child p false) (child p true) (new true) (children_differ p))
      ∙ length-set (names_of fs) (place_in (names_of fs) p) (child p false)
      ∙ length-names_of fs
      ∙ sym (length-living fs l)

  pub first_place : place_in (names_of (forked fs p)) (child p false) ≡ place_in (names_of fs) p
  first_place =
      ap (λ (m : List Name). place_in m (child p false)) after
      ∙ place_in-front (set (names_of fs) (place_in (names_of fs) p) (child p false)) (child p true ∷ []) (child p false) (has-new (names_of fs) (place_in (names_of fs) p) (child p false) here.0)
      ∙ place_in-new (names_of fs) (place_in (names_of fs) p) (child p false) (new false) here.0

  -- neither child lived before
  pub absent_child : (b : Bool) → has (living_of fs) (child p b) ≡ false
  absent_child b = has-sorted (names_of fs) (child p b) ∙ new b

  -- a name that lived beside the parent keeps its place
  pub kept_place : (q : Name) → has (living_of fs) q ≡ true → name_eq q p ≡ false → place_in (names_of (forked fs p)) q ≡ place_in (names_of fs) q
  kept_place q k d =
      let apart : name_eq q (get_or (names_of fs) (place_in (names_of fs) p) root) ≡ false = ap (name_eq q) here.1 ∙ d in
      ap (λ (m : List Name). place_in m q) after
      ∙ place_in-front (set (names_of fs) (place_in (names_of fs) p) (child p false)) (child p true ∷ []) q (has-kept (names_of fs) (place_in (names_of fs) p) (child p false) q apart (sym (has-sorted (names_of fs) q) ∙ k))
      ∙ place_in-kept (names_of fs) (place_in (names_of fs) p) (child p false) q (unlike (name_eq q (child p false)) refl) apart
    where
      unlike : (b : Bool) → name_eq q (child p false) ≡ b → name_eq q (child p false) ≡ false
      unlike true e = absurd (true≢false (sym k ∙ ap (has (living_of fs)) (name_eq-eq q (child p false) e) ∙ absent_child false))
      unlike false e = e

  pub short_name : length (living_of fs) < 1024 → length p < MAX_BITS
  short_name few = let short = (leaves-forked (living_of fs) good.forked).short p h in omega (arith, short, few)

-- ---- a search in the living names

pub place_of_living : (fs places : List ℕ) (living : List Name) (p : Name) (r : ℕ) → IsLog fs → living ≡ living_of fs → places ≡ map (place_in (names_of fs)) living
    → (has living p ≡ true → (i : ℕ) × (i < length living) × (get_or living i p ≡ p) × (r ≡ get_or places i 0)) → (has living p ≡ false → r ≡ length living) → r ≡ place_in (names_of fs) p
place_of_living fs places living p r l e f found absent = go (has living p) refl
  where
    go : (b : Bool) → has living p ≡ b → r ≡ place_in (names_of fs) p
    go true k =
        let w = found k in
        w.3 ∙ ap (λ (m : List ℕ). get_or m w.0 0) f ∙ get_or-map (place_in (names_of fs)) living w.0 p 0 w.1 ∙ ap (place_in (names_of fs)) w.2
    go false k =
        absent k
        ∙ ap length e ∙ length-living fs l ∙ sym (length-names_of fs)
        ∙ sym (place_in-absent (names_of fs) p (sym (has-sorted (names_of fs) p) ∙ ap (λ (m : List Name). has m p) (sym e) ∙ k))
