-- Labels of a log, and what a fork does to them.
use Rattle.std.proofs.Common.{◌≡◌, ℕ, ◌+◌, ◌-◌, ◌<◌, List, [], ◌∷◌, ◌++◌, length, Bool, true, false, ◌||◌, take, drop, cond, get_or, suc, refl, sym, ap, ◌∙◌, arith, length-append, length-drop}
use Rattle.std.proofs.lemmas.List.{take_all, drop-append-le, length-take}
use mathlib.Core.Bool.{true≢false}
use Rattle.kb_label.specs.Names.{Name, root, name_eq, has, join, relabel}
use Rattle.kb_label.proofs.Members.{name_eq-eq}
use Rattle.fork_labels.specs.Places.{split, names_after, names_of, AreThere, IsLog, IsUnder, place_in, with_fork, with_forks, at_end, picked, stands_for}
use Rattle.fork_labels.specs.ForkLaws.{RelabelsEach, StaysUnder, ComesOfForks}
use Rattle.fork_labels.proofs.Picked.{has-sorted}
use Rattle.fork_labels.proofs.Split.{Good, good-root, good-split, length-split, length-with_fork, split-relabels}

pub length-names_after : (fs : List ℕ) (ns : List Name) → length (names_after ns fs) ≡ length ns + length fs
unfolding names_after
length-names_after [] ns = omega arith
length-names_after (s ∷ fs) ns = let h = length-names_after fs (split ns s) in omega (arith, h, length-split ns s)

pub good-after : (fs : List ℕ) (ns : List Name) → Good ns → AreThere (length ns) fs → Good (names_after ns fs)
unfolding names_after
good-after [] ns g h = g
good-after (s ∷ fs) ns g h = good-after fs (split ns s) (good-split ns s h.0 g) (rw (length-split ns s) h.1)

pub good-log : (fs : List ℕ) → IsLog fs → Good (names_of fs)
good-log fs h = good-after fs (root ∷ []) good-root h

pub length-names_of : (fs : List ℕ) → length (names_of fs) ≡ length fs + 1
length-names_of fs = let h = length-names_after fs (root ∷ []) in omega (arith, h)

pub names_after-append : (fs : List ℕ) (ns : List Name) (s : ℕ) → names_after ns (fs ++ s ∷ []) ≡ split (names_after ns fs) s
unfolding names_after
names_after-append [] ns s = refl
names_after-append (f ∷ fs) ns s = names_after-append fs (split ns f) s

pub with_forks-append : (fs : List ℕ) (bs : List Bool) (s : ℕ) → with_forks bs (fs ++ s ∷ []) ≡ with_fork (with_forks bs fs) s
unfolding with_forks
with_forks-append [] bs s = refl
with_forks-append (f ∷ fs) bs s = with_forks-append fs (with_fork bs f) s

pub length-with_forks : (fs : List ℕ) (bs : List Bool) → length (with_forks bs fs) ≡ length bs + length fs
unfolding with_forks
length-with_forks [] bs = omega arith
length-with_forks (s ∷ fs) bs = let h = length-with_forks fs (with_fork bs s) in omega (arith, h, length-with_fork bs s)

pub length-at_end : (fs : List ℕ) (bs : List Bool) → 0 < length bs → length (at_end fs bs) ≡ length fs + 1
unfolding at_end
length-at_end fs bs h =
    let k = length-with_forks (drop (length bs - 1) fs) (take (length fs + 1) bs) in
    omega (arith, k, length-take (length fs + 1) bs, length-drop (length bs - 1) fs)

-- a place of the log after one fork more
pub at_end-append : (fs : List ℕ) (bs : List Bool) (s : ℕ) → IsUnder fs bs → at_end (fs ++ s ∷ []) bs ≡ with_fork (at_end fs bs) s
unfolding at_end
at_end-append fs bs s h =
    let more : length (fs ++ s ∷ []) ≡ length fs + 1 = length-append fs (s ∷ []) in
    (λ i. with_forks ((take_all (length (fs ++ s ∷ []) + 1) bs (omega (arith, more, h.1)) ∙ sym (take_all (length fs + 1) bs h.1)) i) (drop-append-le (length bs - 1) fs (s ∷ []) (omega (arith, h.0, h.1)) i))
    ∙ with_forks-append (drop (length bs - 1) fs) (take (length fs + 1) bs) s

-- the place of a name that is there
pub place_in-there : (ns : List Name) (p : Name) → has ns p ≡ true → (place_in ns p < length ns) × (get_or ns (place_in ns p) root ≡ p)
place_in-there [] p h = absurd (true≢false (sym h))
place_in-there (q ∷ ns) p h = go (name_eq p q) refl h (λ k. place_in-there ns p k)
  where
    go : (b : Bool) → name_eq p q ≡ b → (b || has ns p) ≡ true → (has ns p ≡ true → (place_in ns p < length ns) × (get_or ns (place_in ns p) root ≡ p))
        → (cond b 0 (place_in ns p + 1) < suc (length ns)) × (get_or (q ∷ ns) (cond b 0 (place_in ns p + 1)) root ≡ p)
    go true e k ih = (omega arith, sym (name_eq-eq p q e))
    go false e k ih = let w = ih k in (omega (arith, w.0), step (place_in ns p) ∙ w.1)
      where
        step : (n : ℕ) → get_or (q ∷ ns) (n + 1) root ≡ get_or ns n root
        step n = let e : n + 1 ≡ suc n = omega arith in rw e refl

-- ---- the laws

pub relabels_each : RelabelsEach
relabels_each fs bs p l h u =
    let ns = names_of fs in
    let s = place_in ns p in
    let w = place_in-there ns p (sym (has-sorted ns p) ∙ h) in
    let long : length (at_end fs bs) ≡ length ns = length-at_end fs bs u.0 ∙ sym (length-names_of fs) in
    (λ i. join (picked (at_end-append fs bs s u i) (names_after-append fs (root ∷ []) s i)) [])
    ∙ split-relabels (at_end fs bs) ns s long w.0 (good-log fs l).distinct
    ∙ ap (λ q. relabel q (stands_for fs bs)) w.1

pub stays_under : StaysUnder
stays_under fs bs p u = let more = length-append fs (place_in (names_of fs) p ∷ []) in (u.0, omega (arith, more, u.1))

pub comes_of_forks : ComesOfForks
comes_of_forks fs l = (good-log fs l).forked
