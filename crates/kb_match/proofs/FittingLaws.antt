-- Patterns fit argument by argument, and a pattern that matches fits.
use Rattle.std.proofs.Common.{ℕ, zero, suc, ◌<◌, ◌≡◌, refl, ap, arith, subst, List, [], ◌∷◌, length, get_or}
use Rattle.kb_term.specs.Tree.{Tree, Trees, variable, apply, no_trees, more_trees, trees_of}
use Rattle.kb_term.specs.Substitution.{instance, instances, Matches}
use Rattle.kb_match.specs.Fitting.{Fits, FitEach}

mutual
  fits_instance : (m : ℕ → Tree) (p : Tree) → Fits p (instance m p)
  fits_instance m (variable n) = tt
  fits_instance m (apply f ps) = (refl, fit_instances m ps)

  fit_instances : (m : ℕ → Tree) (ps : Trees) → FitEach ps (instances m ps)
  fit_instances m no_trees = tt
  fit_instances m (more_trees p ps) = (fits_instance m p, fit_instances m ps)

pub fits_from_match : (p s : Tree) → Matches p s → Fits p s
fits_from_match p s (m, e) = subst (Fits p) e (fits_instance m p)

pub fits_same : {p q s t : Tree} → p ≡ q → s ≡ t → Fits p s → Fits q t
fits_same {p} {q} {s} {t} d e h = subst (λ u. Fits u t) d (subst (Fits p) e h)

-- each argument fits
pub fit_each : (ps ts : List Tree) → length ps ≡ length ts → ((j : ℕ) → j < length ps → Fits (get_or ps j (variable 0)) (get_or ts j (variable 0))) → FitEach (trees_of ps) (trees_of ts)
fit_each [] [] e h = tt
fit_each [] (t ∷ ts) e h = absurd (omega (arith, e))
fit_each (p ∷ ps) [] e h = absurd (omega (arith, e))
fit_each (p ∷ ps) (t ∷ ts) e h = (h 0 (omega arith), fit_each ps ts (omega (arith, e)) (λ j d. h (suc j) (omega (arith, d))))

-- one argument of those that fit
pub fits_at : (ps ts : List Tree) (j : ℕ) → j < length ps → FitEach (trees_of ps) (trees_of ts) → Fits (get_or ps j (variable 0)) (get_or ts j (variable 0))
fits_at [] ts j d h = absurd (omega (arith, d))
fits_at (p ∷ ps) [] j d h = absurd h
fits_at (p ∷ ps) (t ∷ ts) zero d h = h.0
fits_at (p ∷ ps) (t ∷ ts) (suc j) d h = fits_at ps ts j (omega (arith, d)) h.1

-- arguments that fit are as many
pub fit_length : (ps ts : List Tree) → FitEach (trees_of ps) (trees_of ts) → length ps ≡ length ts
fit_length [] [] h = refl
fit_length [] (t ∷ ts) h = absurd h
fit_length (p ∷ ps) [] h = absurd h
fit_length (p ∷ ps) (t ∷ ts) h = ap suc (fit_length ps ts h.1)
