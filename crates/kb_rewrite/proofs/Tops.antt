-- The fingerprint of a pattern admits the top of each term that the pattern fits.
use Rattle.std.proofs.Common.{ℕ, zero, suc, ◌+◌, ◌*◌, ◌^◌, ◌<◌, ◌≤◌, ◌≡◌, ◌%◌, ◌⊎◌, inl, inr, ⊎_elim, refl, sym, ap, ap₂, ◌∙◌, arith, subst, List, [], ◌∷◌, ◌++◌, length, get_or, Some}
use Rattle.std.specs.Prelude.{Bool, map, slice_get, bit_and, ⊤}
use Rattle.std.proofs.lemmas.Bool.{cases_eq}
use Rattle.std.proofs.lemmas.Nat.{and_le_r, and_mask, and_block}
use Rattle.std.proofs.lemmas.Option.{same_Some}
use Rattle.kb_term.specs.Tree.{Tree, Trees, variable, apply, no_trees, more_trees, list_of, trees_of}
use Rattle.kb_term.specs.Rule.{Rule}
use Rattle.kb_term.specs.Substitution.{Matches}
use Rattle.kb_match.specs.Fitting.{Fits, FitEach}
use Rattle.kb_match.proofs.FittingLaws.{fits_from_match}
use Rattle.kb_rewrite.specs.declared.fingerprint.Fingerprint.{Fingerprint}
use Rattle.kb_rewrite.specs.Search.{IsRootRedex}
use Rattle.kb_rewrite.specs.Fingerprints.{mark_of, argument_of, three_marks, marks_of, packed, known_of, IsFingerprint, MayFit, AreFingerprints}

-- an argument by its place in the list
pub argument_at : (f : ℕ) (us : List Tree) (k : ℕ) → argument_of (apply f (trees_of us)) k ≡ get_or us k (variable 0)
argument_at f [] k = refl
argument_at f (u ∷ us) zero = refl
argument_at f (u ∷ us) (suc k) = argument_at f us k

pub argument_none : (f : ℕ) (us : List Tree) (k : ℕ) → length us ≤ k → argument_of (apply f (trees_of us)) k ≡ variable 0
argument_none f [] k h = refl
argument_none f (u ∷ us) zero h = absurd (omega (arith, h))
argument_none f (u ∷ us) (suc k) h = argument_none f us k (omega (arith, h))

-- the arguments of a pattern that fits
fit_behind : (ps ts : Trees) (k : ℕ) → FitEach ps ts → Fits (get_or (list_of ps) k (variable 0)) (get_or (list_of ts) k (variable 0))
fit_behind no_trees ts k h = tt
fit_behind (more_trees p ps) no_trees k h = absurd h
fit_behind (more_trees p ps) (more_trees t ts) zero h = h.0
fit_behind (more_trees p ps) (more_trees t ts) (suc k) h = fit_behind ps ts k h.1

argument_fits : (p t : Tree) (k : ℕ) → Fits p t → Fits (argument_of p k) (argument_of t k)
argument_fits (variable n) t k h = tt
argument_fits (apply f ps) (variable n) k h = absurd h
argument_fits (apply f ps) (apply g ts) k h = fit_behind ps ts k h.1

-- marks of a pattern beside those of a term: each is 0 or the term's
abbrev Admitted : List ℕ → List ℕ → Type 0
Admitted [] [] = ⊤
Admitted [] (s ∷ ss) = ⊥
Admitted (m ∷ ms) [] = ⊥
Admitted (m ∷ ms) (s ∷ ss) = (s < 256) × ((m ≡ 0) ⊎ (m ≡ s)) × Admitted ms ss

mark_below : (t : Tree) → mark_of t < 256
mark_below (variable n) = omega arith
mark_below (apply f ts) = omega arith

mark_admitted : (p t : Tree) → Fits p t → (mark_of p ≡ 0) ⊎ (mark_of p ≡ mark_of t)
mark_admitted (variable n) t h = inl refl
mark_admitted (apply f ps) (variable n) h = absurd h
mark_admitted (apply f ps) (apply g ts) h = inr (ap (λ n. (n + 1) % 256) h.0)

one_more : (p t : Tree) (ms ss : List ℕ) → Fits p t → Admitted ms ss → Admitted (mark_of p ∷ ms) (mark_of t ∷ ss)
one_more p t ms ss h rest = (mark_below t, mark_admitted p t h, rest)

three_more : (p t : Tree) (ms ss : List ℕ) → Fits p t → Admitted ms ss → Admitted (three_marks p ++ ms) (three_marks t ++ ss)
three_more p t ms ss h rest =
    let second = one_more (argument_of p 1) (argument_of t 1) ms ss (argument_fits p t 1 h) rest in
    let first = one_more (argument_of p 0) (argument_of t 0) (mark_of (argument_of p 1) ∷ ms) (mark_of (argument_of t 1) ∷ ss) (argument_fits p t 0 h) second in
    one_more p t (mark_of (argument_of p 0) ∷ mark_of (argument_of p 1) ∷ ms) (mark_of (argument_of t 0) ∷ mark_of (argument_of t 1) ∷ ss) h first

marks_admitted : (p t : Tree) → Fits p t → Admitted (marks_of p) (marks_of t)
marks_admitted p t h =
    let second = three_more (argument_of p 1) (argument_of t 1) [] [] (argument_fits p t 1 h) tt in
    let first = three_more (argument_of p 0) (argument_of t 0) (three_marks (argument_of p 1)) (three_marks (argument_of t 1)) (argument_fits p t 0 h) second in
    one_more p t (three_marks (argument_of p 0) ++ three_marks (argument_of p 1)) (three_marks (argument_of t 0) ++ three_marks (argument_of t 1)) h first

-- the known marks of the term are those of the pattern
known_below : (m : ℕ) → known_of m < 256
known_below zero = omega arith
known_below (suc m) = omega arith

mark_masked : (m s : ℕ) → s < 256 → (m ≡ 0) ⊎ (m ≡ s) → bit_and s (known_of m) ≡ m
mark_masked zero s l h = omega (arith, and_le_r s 0)
mark_masked (suc m) s l h = ⊎_elim (λ e. absurd (omega (arith, e))) (λ e. and_mask s 8 ∙ mod_small ∙ sym e) h
  where
    mod_small : s % 2 ^ 8 ≡ s
    mod_small = omega (arith, l)

marks_masked : (ms ss : List ℕ) → Admitted ms ss → bit_and (packed ss) (packed (map known_of ms)) ≡ packed ms
marks_masked [] [] h = refl
marks_masked [] (s ∷ ss) h = absurd h
marks_masked (m ∷ ms) [] h = absurd h
marks_masked (m ∷ ms) (s ∷ ss) h =
    and_block 8 (packed ss) (packed (map known_of ms)) s (known_of m) h.0 (known_below m) ∙ ap₂ (λ x y. x * 256 + y) (marks_masked ms ss h.2) (mark_masked m s h.0 h.1)

-- a rule whose left side matches is one that may fit
pub match_may_fit : (rules : List Rule) (prints : List Fingerprint) (i : ℕ) (rule : Rule) (t : Tree) (top : ℕ) → AreFingerprints rules prints → slice_get rules i ≡ Some rule → top ≡ packed (marks_of t) → Matches rule.left t → MayFit prints i top
match_may_fit rules prints i rule t top are there is h print e =
    let f = are i print rule e there in
    ap₂ bit_and is f.known ∙ marks_masked (marks_of rule.left) (marks_of t) (marks_admitted rule.left t (fits_from_match rule.left t h)) ∙ sym f.marks

-- a rule that may not fit doesn't apply
pub not_admitted_none : (rules inside : List Rule) (strict_only : Bool) (whole u : Tree) (prints : List Fingerprint) (i top : ℕ) → inside ≡ rules → AreFingerprints inside prints → top ≡ packed (marks_of u) → ¬ MayFit prints i top → ¬ IsRootRedex rules strict_only whole u i
not_admitted_none rules inside strict_only whole u prints i top same are is none (rule, there, (match, strict)) =
    none (match_may_fit rules prints i rule u top (subst (λ (rs : List Rule). AreFingerprints rs prints) same are) there is match)

-- no fingerprint, and one more
pub prints_none : (rules : List Rule) → AreFingerprints rules []
prints_none rules i print rule e d = absurd (cc)

appended : (prints : List Fingerprint) (p q : Fingerprint) (j : ℕ) → ¬ (j ≡ length prints) → slice_get (prints ++ p ∷ []) j ≡ Some q → slice_get prints j ≡ Some q
appended [] p q zero h e = absurd (h refl)
appended [] p q (suc j) h e = absurd (cc)
appended (x ∷ prints) p q zero h e = e
appended (x ∷ prints) p q (suc j) h e = appended prints p q j (λ d. h (ap suc d)) e

last_is : (prints : List Fingerprint) (p q : Fingerprint) → slice_get (prints ++ p ∷ []) (length prints) ≡ Some q → p ≡ q
last_is [] p q e = same_Some _ _ e
last_is (x ∷ prints) p q e = last_is prints p q e

pub prints_more : (rules : List Rule) (prints : List Fingerprint) (i : ℕ) (print : Fingerprint) (rule : Rule) → length prints ≡ i → slice_get rules i ≡ Some rule → IsFingerprint rule.left print → AreFingerprints rules prints → AreFingerprints rules (prints ++ print ∷ [])
prints_more rules prints i print rule many there is are j q r e d = ⊎_elim (λ s. here s) (λ n. are j q r (appended prints print q j n e) d) (cases_eq j (length prints))
  where
    here : j ≡ length prints → IsFingerprint r.left q
    here s =
        let one : print ≡ q = last_is prints print q (subst (λ n. slice_get (prints ++ print ∷ []) n ≡ Some q) s e) in
        let own : rule ≡ r = same_Some _ _ (sym there ∙ ap (slice_get rules) (sym (s ∙ many)) ∙ d) in
        subst (λ (p : Fingerprint). IsFingerprint r.left p) one (subst (λ (x : Rule). IsFingerprint x.left print) own is)
