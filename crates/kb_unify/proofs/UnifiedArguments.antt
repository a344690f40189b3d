-- Terms that differ in a symbol or in a count of arguments.
use Rattle.std.proofs.Common.{ℕ, zero, suc, ◌<◌, ◌≡◌, refl, ap, arith, subst, List, [], ◌∷◌, length, get_or}
use Rattle.kb_term.specs.Tree.{Tree, variable, apply, trees_of}
use Rattle.kb_term.specs.Substitution.{instances, instance}
use Rattle.kb_term.proofs.Trees.{apply-inj, more_trees-inj}
use Rattle.kb_unify.specs.Unifier.{IsUnifiable}

same_length : (m : ℕ → Tree) (ss ts : List Tree) → instances m (trees_of ss) ≡ instances m (trees_of ts) → length ss ≡ length ts
same_length m [] [] e = refl
same_length m [] (t ∷ ts) e = absurd (cc)
same_length m (s ∷ ss) [] e = absurd (cc)
same_length m (s ∷ ss) (t ∷ ts) e = ap suc (same_length m ss ts (more_trees-inj e).1)

same_at : (m : ℕ → Tree) (ss ts : List Tree) (i : ℕ) → i < length ss → instances m (trees_of ss) ≡ instances m (trees_of ts) → instance m (get_or ss i (variable 0)) ≡ instance m (get_or ts i (variable 0))
same_at m [] ts i h e = absurd (omega (arith, h))
same_at m (s ∷ ss) [] i h e = absurd (cc)
same_at m (s ∷ ss) (t ∷ ts) zero h e = (more_trees-inj e).0
same_at m (s ∷ ss) (t ∷ ts) (suc i) h e = same_at m ss ts i (omega (arith, h)) (more_trees-inj e).1

-- applications that something unifies are of one symbol to as many arguments, each of which it unifies too
pub unifiable_symbols : (f g : ℕ) (ss ts : List Tree) → IsUnifiable (apply f (trees_of ss)) (apply g (trees_of ts)) → (f ≡ g) × (length ss ≡ length ts)
unifiable_symbols f g ss ts (m, e) = let parts = apply-inj e in (parts.0, same_length m ss ts parts.1)

pub unifiable_arguments : (f g : ℕ) (ss ts : List Tree) (i : ℕ) → i < length ss → IsUnifiable (apply f (trees_of ss)) (apply g (trees_of ts)) → IsUnifiable (get_or ss i (variable 0)) (get_or ts i (variable 0))
unifiable_arguments f g ss ts i h (m, e) = (m, same_at m ss ts i h (apply-inj e).1)

pub unifiable_same : {s t u v : Tree} → s ≡ u → t ≡ v → IsUnifiable s t → IsUnifiable u v
unifiable_same {s} {t} {u} {v} d e h = subst (λ x. IsUnifiable x v) d (subst (IsUnifiable s) e h)
