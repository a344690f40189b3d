-- Terms in which each part that is not well formed gives way to a variable, so that proofs stay among well-formed terms.
use Rattle.std.proofs.Common.{ℕ, zero, suc, ◌≡◌, ◌⊎◌, inl, inr, refl, sym, ap, ap₂, ◌∙◌, subst, length, Option, Some, None, option_map, slice_get, ⊎_elim}
use Rattle.std.proofs.lemmas.Bool.{cases_eq}
use Rattle.kb_term.specs.Tree.{Tree, variable, apply, Trees, no_trees, more_trees, list_of}
use Rattle.kb_term.specs.Substitution.{instance, instances}
use Rattle.kb_term.specs.Rule.{Rule, reversed}
use Rattle.kb_term.specs.Signature.{Signature, SymbolEntry, HasArity, IsWellFormed, AreWellFormed}
use Rattle.kb_term.proofs.Relation.{Steps, Reaches, EitherWay}
use Rattle.kb_term.proofs.Steps.{Step, StepIn, at_root, inside, here, there}
use Rattle.kb_laws.proofs.Confluence.{Within}
use Rattle.kb_laws.proofs.Conversion.{Either}

some_decides : (o : Option ℕ) (n : ℕ) → (o ≡ Some n) ⊎ (o ≡ Some n → ⊥)
some_decides None n = inr (λ e. cc)
some_decides (Some m) n = ⊎_elim (λ e. inl (ap Some e)) (λ d. inr (λ e. d (cc))) (cases_eq m n)

pub has_arity : (g : Signature) (f n : ℕ) → HasArity g f n ⊎ (HasArity g f n → ⊥)
has_arity g f n = some_decides (option_map (λ (h : SymbolEntry). h.arity) (slice_get g f)) n

-- the application where the symbol takes so many arguments, else variable 0
abbrev kept : {P : Type 0} → P ⊎ (P → ⊥) → ℕ → Trees → Tree
kept (inl h) f ts = apply f ts
kept (inr h) f ts = variable 0

abbrev mutual
  pub clean : Signature → Tree → Tree
  clean g (variable n) = variable n
  clean g (apply f ts) = kept (has_arity g f (length (list_of ts))) f (cleans g ts)

  pub cleans : Signature → Trees → Trees
  cleans g no_trees = no_trees
  cleans g (more_trees t ts) = more_trees (clean g t) (cleans g ts)

length-cleans : (g : Signature) (ts : Trees) → length (list_of (cleans g ts)) ≡ length (list_of ts)
length-cleans g no_trees = refl
length-cleans g (more_trees t ts) = ap suc (length-cleans g ts)

kept_well : (g : Signature) (f n : ℕ) (d : HasArity g f n ⊎ (HasArity g f n → ⊥)) (ts : Trees) → length (list_of ts) ≡ n → AreWellFormed g ts → IsWellFormed g (kept d f ts)
kept_well g f n (inl h) ts e w = (subst (HasArity g f) (sym e) h, w)
kept_well g f n (inr h) ts e w = tt

mutual
  pub clean_well : (g : Signature) (t : Tree) → IsWellFormed g (clean g t)
  clean_well g (variable n) = tt
  clean_well g (apply f ts) = kept_well g f (length (list_of ts)) (has_arity g f (length (list_of ts))) (cleans g ts) (length-cleans g ts) (cleans_well g ts)

  cleans_well : (g : Signature) (ts : Trees) → AreWellFormed g (cleans g ts)
  cleans_well g no_trees = tt
  cleans_well g (more_trees t ts) = (clean_well g t, cleans_well g ts)

kept_all : {P : Type 0} (d : P ⊎ (P → ⊥)) (f : ℕ) (ts : Trees) → P → kept d f ts ≡ apply f ts
kept_all (inl h) f ts p = refl
kept_all (inr h) f ts p = absurd (h p)

pub length-instances : (m : ℕ → Tree) (ts : Trees) → length (list_of (instances m ts)) ≡ length (list_of ts)
length-instances m no_trees = refl
length-instances m (more_trees t ts) = ap suc (length-instances m ts)

-- cleaning an instance of a well-formed term
mutual
  clean-instance : (g : Signature) (m : ℕ → Tree) (t : Tree) → IsWellFormed g t → clean g (instance m t) ≡ instance (λ x. clean g (m x)) t
  clean-instance g m (variable n) w = refl
  clean-instance g m (apply f ts) w =
      kept_all (has_arity g f (length (list_of (instances m ts)))) f (cleans g (instances m ts)) (subst (HasArity g f) (sym (length-instances m ts)) w.0) ∙ ap (apply f) (cleans-instances g m ts w.1)

  cleans-instances : (g : Signature) (m : ℕ → Tree) (ts : Trees) → AreWellFormed g ts → cleans g (instances m ts) ≡ instances (λ x. clean g (m x)) ts
  cleans-instances g m no_trees w = refl
  cleans-instances g m (more_trees t ts) w = ap₂ more_trees (clean-instance g m t w.0) (cleans-instances g m ts w.1)

mutual
  pub clean_same : (g : Signature) (t : Tree) → IsWellFormed g t → clean g t ≡ t
  clean_same g (variable n) w = refl
  clean_same g (apply f ts) w = kept_all (has_arity g f (length (list_of ts))) f (cleans g ts) w.0 ∙ ap (apply f) (cleans_same g ts w.1)

  cleans_same : (g : Signature) (ts : Trees) → AreWellFormed g ts → cleans g ts ≡ ts
  cleans_same g no_trees w = refl
  cleans_same g (more_trees t ts) w = ap₂ more_trees (clean_same g t w.0) (cleans_same g ts w.1)

-- both sides are well formed
pub record AreSidesWellFormed (g : Signature) (r : Rule) : Type 0 where
  pub left : IsWellFormed g r.left
  pub right : IsWellFormed g r.right

step_in_length : {P : Rule → Type 0} {ts us : Trees} → StepIn P ts us → length (list_of us) ≡ length (list_of ts)
step_in_length (here h) = refl
step_in_length (there h) = ap suc (step_in_length h)

kept_step : (P : Rule → Type 0) {Q : Type 0} (d : Q ⊎ (Q → ⊥)) (f : ℕ) (ts us : Trees) → StepIn P ts us ⊎ (ts ≡ us) → Step P (kept d f ts) (kept d f us) ⊎ (kept d f ts ≡ kept d f us)
kept_step P (inl h) f ts us (inl k) = inl (inside k)
kept_step P (inl h) f ts us (inr e) = inr (ap (apply f) e)
kept_step P (inr h) f ts us k = inr refl

-- a step between cleaned terms, or none
mutual
  pub clean_step : (g : Signature) (P : Rule → Type 0) → ((r : Rule) → P r → AreSidesWellFormed g r) → {s t : Tree} → Step P s t → Step P (clean g s) (clean g t) ⊎ (clean g s ≡ clean g t)
  clean_step g P well (at_root (r, m, i, e, d)) = inl (at_root (r, (λ x. clean g (m x)), i, ap (clean g) e ∙ clean-instance g m r.left (well r i).left, ap (clean g) d ∙ clean-instance g m r.right (well r i).right))
  clean_step g P well (inside {f = f} {ts = ts} {us = us} h) =
      subst (λ n. Step P (clean g (apply f ts)) (kept (has_arity g f n) f (cleans g us)) ⊎ (clean g (apply f ts) ≡ kept (has_arity g f n) f (cleans g us))) (sym (step_in_length h))
      (kept_step P (has_arity g f (length (list_of ts))) f (cleans g ts) (cleans g us) (clean_step_in g P well h))

  clean_step_in : (g : Signature) (P : Rule → Type 0) → ((r : Rule) → P r → AreSidesWellFormed g r) → {ts us : Trees} → StepIn P ts us → StepIn P (cleans g ts) (cleans g us) ⊎ (cleans g ts ≡ cleans g us)
  clean_step_in g P well (here {ts = ts} h) = ⊎_elim (λ k. inl (here k)) (λ e. inr (ap (λ x. more_trees x (cleans g ts)) e)) (clean_step g P well h)
  clean_step_in g P well (there {t = t} h) = ⊎_elim (λ k. inl (there k)) (λ e. inr (ap (more_trees (clean g t)) e)) (clean_step_in g P well h)

-- a step by rules in either direction is a step in either direction
mutual
  pub either_way : (P : Rule → Type 0) (Q : Rule → Type 0) → ((r : Rule) → Q r → Either P r) → {s t : Tree} → Step Q s t → EitherWay (Step P) s t
  either_way P Q h (at_root (r, m, i, e, d)) = ⊎_elim (λ j. inl (at_root (r, m, j, e, d))) (λ j. inr (at_root (reversed r, m, j, d, e))) (h r i)
  either_way P Q h (inside k) = ⊎_elim (λ j. inl (inside j)) (λ j. inr (inside j)) (either_way_in P Q h k)

  either_way_in : (P : Rule → Type 0) (Q : Rule → Type 0) → ((r : Rule) → Q r → Either P r) → {ts us : Trees} → StepIn Q ts us → EitherWay (StepIn P) ts us
  either_way_in P Q h (here k) = ⊎_elim (λ j. inl (here j)) (λ j. inr (here j)) (either_way P Q h k)
  either_way_in P Q h (there k) = ⊎_elim (λ j. inl (there j)) (λ j. inr (there j)) (either_way_in P Q h k)

-- chains in either direction between well-formed terms go on well-formed terms
pub chain_well : (g : Signature) (P : Rule → Type 0) → ((r : Rule) → P r → AreSidesWellFormed g r) → (n : ℕ) (s t : Tree) → Steps (Step (Either P)) n s t → Reaches (Within (IsWellFormed g) (Step P)) (clean g s) (clean g t)
chain_well g P well zero s t e = (0, ap (clean g) e)
chain_well g P well (suc n) s t (u, h, c) = go (clean_step g (Either P) (λ r i. both r i) h) (chain_well g P well n u t c)
  where
    both : (r : Rule) → Either P r → AreSidesWellFormed g r
    both r (inl i) = well r i
    both r (inr i) = record { left = (well (reversed r) i).right; right = (well (reversed r) i).left }

    go : Step (Either P) (clean g s) (clean g u) ⊎ (clean g s ≡ clean g u) → Reaches (Within (IsWellFormed g) (Step P)) (clean g u) (clean g t) → Reaches (Within (IsWellFormed g) (Step P)) (clean g s) (clean g t)
    go (inl k) (i, d) = (suc i, (clean g u, (clean_well g u, either_way P (Either P) (λ r j. j) k), d))
    go (inr e) d = subst (λ x. Reaches (Within (IsWellFormed g) (Step P)) x (clean g t)) (sym e) d
