-- The start of a log by places, and a fork of it.
use Rattle.std.proofs.Common.{◌≡◌, ℕ, ◌+◌, ◌<◌, List, [], ◌∷◌, ◌++◌, length, true, map, refl, sym, ap, subst, ◌∙◌, arith, length-append}
use Rattle.kb_label.specs.Names.{Name, root, has, join, relabel}
use Rattle.fork_labels.specs.Places.{names_after, names_of, living_of, AreThere, IsLog, place_in, forked}
use Rattle.fork_labels.proofs.Picked.{has-sorted}
use Rattle.fork_labels.proofs.Split.{living-split}
use Rattle.fork_labels.proofs.Relabelled.{good-log, length-names_of, names_after-append, place_in-there}
use Rattle.fork_labels.proofs.Stands.{length-living}

pub start_log : (gs places : List ℕ) (living : List Name) → gs ≡ [] → places ≡ 0 ∷ [] → living ≡ root ∷ [] → IsLog gs × (places ≡ map (place_in (names_of gs)) (living_of gs)) × (living ≡ living_of gs) × (length gs < 1024)
unfolding names_after
start_log gs places living e f g = rw (e, f, g) (tt, refl, refl, omega arith)

there-append : (n : ℕ) (fs : List ℕ) (s : ℕ) → AreThere n fs → s < n + length fs → AreThere n (fs ++ s ∷ [])
there-append n [] s h g = (omega arith, tt)
there-append n (f ∷ fs) s h g = (h.0, there-append (n + 1) fs s h.1 (omega arith))

module _ (fs : List ℕ) (p : Name) (l : IsLog fs) (h : has (living_of fs) p ≡ true) where
  in_names : has (names_of fs) p ≡ true
  in_names = sym (has-sorted (names_of fs) p) ∙ h

  pub fork_living : (gs : List ℕ) → gs ≡ fs ++ place_in (names_of fs) p ∷ [] → living_of gs ≡ relabel p (living_of fs)
  fork_living gs e =
      let w = place_in-there (names_of fs) p in_names in
      ap living_of e
      ∙ ap (λ m. join m []) (names_after-append fs (root ∷ []) (place_in (names_of fs) p))
      ∙ living-split (names_of fs) (place_in (names_of fs) p) w.0 (good-log fs l).distinct
      ∙ ap (λ q. relabel q (living_of fs)) w.1

  pub fork_log : (gs places : List ℕ) (living names : List Name) → length (living_of fs) < 1024 → gs ≡ forked fs p → names ≡ relabel p (living_of fs) → places ≡ map (place_in (names_of (forked fs p))) names → living ≡ relabel p (living_of fs)
      → IsLog gs × (places ≡ map (place_in (names_of gs)) (living_of gs)) × (living ≡ living_of gs) × (length gs < 1024)
  fork_log gs places living names few e n f g =
      let s = place_in (names_of fs) p in
      let w = place_in-there (names_of fs) p in_names in
      let inside : s < 1 + length fs = omega (arith, w.0, length-names_of fs) in
      let long : length gs ≡ length fs + 1 = ap length e ∙ length-append fs (s ∷ []) in (
        subst IsLog (sym e) (there-append 1 fs s l inside),
        f ∙ (λ i. map (place_in (names_of (sym e i))) ((n ∙ sym (fork_living gs e)) i)),
        g ∙ sym (fork_living gs e),
        omega (arith, long, few, length-living fs l),
      )
