-- Replacing is kept under substitutions.
use Rattle.std.proofs.Common.{ℕ, zero, suc, ◌≡◌, refl, ap, ◌∙◌, List, [], ◌∷◌, Some, option_map}
use Rattle.kb_lemmas.proofs.Options.{some_of_map}
use Rattle.kb_term.specs.Tree.{Tree, variable, apply, Trees, no_trees, more_trees}
use Rattle.kb_term.specs.Substitution.{instance, instances}
use Rattle.kb_term.proofs.Subterms.{replace_at, replace_in}

replace_at_all : (s v : Tree) → replace_at s [] v ≡ Some v
replace_at_all (variable n) v = refl
replace_at_all (apply f ts) v = refl

mutual
  -- replacing is kept under substitutions
  pub replace-instance : (j : ℕ → Tree) (s : Tree) (p : List ℕ) (v t : Tree) → replace_at s p v ≡ Some t → replace_at (instance j s) p (instance j v) ≡ Some (instance j t)
  replace-instance j (variable n) [] v t e = let q : v ≡ t = cc in replace_at_all (j n) (instance j v) ∙ ap (λ x. Some (instance j x)) q
  replace-instance j (variable n) (k ∷ p) v t e = absurd (cc)
  replace-instance j (apply f ss) [] v t e = let q : v ≡ t = cc in ap (λ x. Some (instance j x)) q
  replace-instance j (apply f ss) (k ∷ p) v t e =
      let h = some_of_map (apply f) (replace_in ss k p v) t e in
      ap (option_map (apply f)) (replace_in-instance j ss k p v h.0 h.1) ∙ ap (λ x. Some (instance j x)) h.2

  replace_in-instance : (j : ℕ → Tree) (ss : Trees) (k : ℕ) (p : List ℕ) (v : Tree) (ts : Trees) → replace_in ss k p v ≡ Some ts → replace_in (instances j ss) k p (instance j v) ≡ Some (instances j ts)
  replace_in-instance j no_trees k p v ts e = absurd (cc)
  replace_in-instance j (more_trees s ss) zero p v ts e = absurd (cc)
  replace_in-instance j (more_trees s ss) (suc zero) p v ts e =
      let h = some_of_map (λ x. more_trees x ss) (replace_at s p v) ts e in
      ap (option_map (λ x. more_trees x (instances j ss))) (replace-instance j s p v h.0 h.1) ∙ ap (λ x. Some (instances j x)) h.2
  replace_in-instance j (more_trees s ss) (suc (suc k)) p v ts e =
      let h = some_of_map (more_trees s) (replace_in ss (suc k) p v) ts e in
      ap (option_map (more_trees (instance j s))) (replace_in-instance j ss (suc k) p v h.0 h.1) ∙ ap (λ x. Some (instances j x)) h.2
