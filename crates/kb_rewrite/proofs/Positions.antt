-- What holds at some position, argument by argument.
use Rattle.std.proofs.Common.{ℕ, zero, suc, ◌<◌, ◌≡◌, refl, sym, ap, ◌∙◌, arith, subst, List, [], ◌∷◌, length, get_or, Some, None}
use Rattle.std.specs.Prelude.{option_and_then, Bool, true, false}
use Rattle.std.proofs.lemmas.Bool.{false≢true}
use Rattle.std.proofs.lemmas.Option.{same_Some}
use Rattle.kb_term.specs.Tree.{Tree, variable, apply, trees_of}
use Rattle.kb_term.specs.Position.{argument, subtree_at}
use Rattle.kb_term.specs.Substitution.{Matches}
use Rattle.kb_rewrite.specs.NormalForm.{Encompasses}

-- the argument with a number from 1
pub argument-get : (us : List Tree) (k : ℕ) → k < length us → argument (trees_of us) (suc k) ≡ Some (get_or us k (variable 0))
argument-get [] k h = absurd (omega (arith, h))
argument-get (u ∷ us) zero h = refl
argument-get (u ∷ us) (suc k) h = argument-get us k (omega (arith, h))

-- a position in an argument
pub subtree-in : (f : ℕ) (us : List Tree) (k : ℕ) (p : List ℕ) → k < length us → subtree_at (apply f (trees_of us)) (suc k ∷ p) ≡ subtree_at (get_or us k (variable 0)) p
subtree-in f us k p h = ap (option_and_then (λ t. subtree_at t p)) (argument-get us k h)

argument-of : (us : List Tree) (i : ℕ) (t : Tree) → argument (trees_of us) i ≡ Some t → (k : ℕ) × (k < length us) × (i ≡ suc k)
argument-of us zero t e = absurd (none us e)
  where
    none : (us : List Tree) → ¬ (argument (trees_of us) 0 ≡ Some t)
    none [] e = cc
    none (u ∷ us) e = cc
argument-of [] (suc i) t e = absurd (cc)
argument-of (u ∷ us) (suc zero) t e = (0, omega arith, refl)
argument-of (u ∷ us) (suc (suc i)) t e =
    let r = argument-of us (suc i) t e in
    (suc r.0, omega (arith, r.1), ap suc r.2)

-- a position below the root is in an argument
pub subtree-below : (f : ℕ) (us : List Tree) (i : ℕ) (p : List ℕ) (u : Tree) → subtree_at (apply f (trees_of us)) (i ∷ p) ≡ Some u → (k : ℕ) × (k < length us) × (i ≡ suc k) × (subtree_at (get_or us k (variable 0)) p ≡ Some u)
subtree-below f us i p u e = go (argument (trees_of us) i) refl e
  where
    go : (o : _) → argument (trees_of us) i ≡ o → option_and_then (λ t. subtree_at t p) o ≡ Some u → (k : ℕ) × (k < length us) × (i ≡ suc k) × (subtree_at (get_or us k (variable 0)) p ≡ Some u)
    go None d e = absurd (cc)
    go (Some t) d e =
        let r = argument-of us i t d in
        (r.0, r.1, r.2, sym (subtree-in f us r.0 p r.1) ∙ subst (λ j. subtree_at (apply f (trees_of us)) (j ∷ p) ≡ Some u) r.2 (ap (option_and_then (λ t. subtree_at t p)) d ∙ e))

-- the pattern matches at the root
pub encompasses_root : (t s : Tree) → Matches s t → Encompasses t s
encompasses_root t s m = ([], (t, refl, m))

pub encompasses_variable : (n : ℕ) (s : Tree) → Encompasses (variable n) s → Matches s (variable n)
encompasses_variable n s ([], (u, e, m)) = subst (Matches s) (sym (same_Some _ _ e)) m
encompasses_variable n s (i ∷ p, (u, e, m)) = absurd (cc)

-- the pattern matches in an argument
pub encompasses_in : (f : ℕ) (us : List Tree) (k : ℕ) (s : Tree) → k < length us → Encompasses (get_or us k (variable 0)) s → Encompasses (apply f (trees_of us)) s
encompasses_in f us k s h (p, (u, e, m)) = (suc k ∷ p, (u, subtree-in f us k p h ∙ e, m))

-- it matches neither at the root nor in an argument
pub encompasses_none : (f : ℕ) (us : List Tree) (s : Tree) → ¬ Matches s (apply f (trees_of us)) → ((k : ℕ) → k < length us → ¬ Encompasses (get_or us k (variable 0)) s) → ¬ Encompasses (apply f (trees_of us)) s
encompasses_none f us s root inside ([], (u, e, m)) = root (subst (Matches s) (sym (same_Some _ _ e)) m)
encompasses_none f us s root inside (i ∷ p, (u, e, m)) =
    let r = subtree-below f us i p u e in
    inside r.0 r.1 (p, (u, r.3, m))

-- the same for an equal term
pub matches_same : (s : Tree) {t u : Tree} → t ≡ u → Matches s t → Matches s u
matches_same s e m = subst (Matches s) e m

pub encompasses_same : (s : Tree) {t u : Tree} → t ≡ u → Encompasses t s → Encompasses u s
encompasses_same s e m = subst (λ v. Encompasses v s) e m

pub false_true : {b : Bool} → b ≡ false → b ≡ true → ⊥
false_true e d = false≢true (sym e ∙ d)
