-- Instances of terms: one substitution after another, and substitutions that agree on a term's variables.
use Rattle.std.proofs.Common.{ℕ, List, [], ◌∷◌, ◌≡◌, ◌⊎◌, inl, inr, refl, ap, ap₂, subst, ⊎_elim}
use Rattle.std.specs.Prelude.{map}
use Rattle.std.proofs.lemmas.Bool.{cases_eq}
use Rattle.kb_term.specs.Tree.{Tree, variable, apply, Trees, no_trees, more_trees, trees_of}
use Rattle.kb_term.specs.View.{tree_of}
use Rattle.kb_term.specs.declared.term.Term.{Term}
use Rattle.kb_term.specs.Substitution.{instance, instances}
use Rattle.kb_term.specs.Rule.{Rule}
use Rattle.kb_term.proofs.Steps.{Occurs, OccursIn}

mutual
  pub instance-instance : (j m : ℕ → Tree) (t : Tree) → instance j (instance m t) ≡ instance (λ x. instance j (m x)) t
  instance-instance j m (variable n) = refl
  instance-instance j m (apply f ts) = ap (apply f) (instances-instances j m ts)

  instances-instances : (j m : ℕ → Tree) (ts : Trees) → instances j (instances m ts) ≡ instances (λ x. instance j (m x)) ts
  instances-instances j m no_trees = refl
  instances-instances j m (more_trees t ts) = ap₂ more_trees (instance-instance j m t) (instances-instances j m ts)

-- the substitution that gives each variable itself
mutual
  pub instance-variable : (t : Tree) → instance variable t ≡ t
  instance-variable (variable n) = refl
  instance-variable (apply f ts) = ap (apply f) (instances-variable ts)

  instances-variable : (ts : Trees) → instances variable ts ≡ ts
  instances-variable no_trees = refl
  instances-variable (more_trees t ts) = ap₂ more_trees (instance-variable t) (instances-variable ts)

-- substitutions that give one instance of a term agree on its variables
mutual
  pub agree_at : (m k : ℕ → Tree) (t : Tree) → instance m t ≡ instance k t → (x : ℕ) → Occurs x t → m x ≡ k x
  agree_at m k (variable n) e x o = subst (λ y. m y ≡ k y) o e
  agree_at m k (apply f ts) e x o = agree_in m k ts (cc) x o

  agree_in : (m k : ℕ → Tree) (ts : Trees) → instances m ts ≡ instances k ts → (x : ℕ) → OccursIn x ts → m x ≡ k x
  agree_in m k no_trees e x o = absurd o
  agree_in m k (more_trees t ts) e x (inl o) = agree_at m k t (cc) x o
  agree_in m k (more_trees t ts) e x (inr o) = agree_in m k ts (cc) x o

mutual
  pub instance-agree : (m k : ℕ → Tree) (t : Tree) → ((x : ℕ) → Occurs x t → m x ≡ k x) → instance m t ≡ instance k t
  instance-agree m k (variable n) h = h n refl
  instance-agree m k (apply f ts) h = ap (apply f) (instances-agree m k ts h)

  instances-agree : (m k : ℕ → Tree) (ts : Trees) → ((x : ℕ) → OccursIn x ts → m x ≡ k x) → instances m ts ≡ instances k ts
  instances-agree m k no_trees h = refl
  instances-agree m k (more_trees t ts) h = ap₂ more_trees (instance-agree m k t (λ x o. h x (inl o))) (instances-agree m k ts (λ x o. h x (inr o)))

mutual
  pub trees_decide : (s t : Tree) → (s ≡ t) ⊎ (s ≡ t → ⊥)
  trees_decide (variable m) (variable n) = ⊎_elim (λ e. inl (ap variable e)) (λ d. inr (λ e. d (cc))) (cases_eq m n)
  trees_decide (variable m) (apply f ts) = inr (λ e. cc)
  trees_decide (apply f ss) (variable n) = inr (λ e. cc)
  trees_decide (apply f ss) (apply g ts) = both (cases_eq f g) (lists_decide ss ts)
    where
      both : {f g : ℕ} {ss ts : Trees} → (f ≡ g) ⊎ (f ≡ g → ⊥) → (ss ≡ ts) ⊎ (ss ≡ ts → ⊥) → (apply f ss ≡ apply g ts) ⊎ (apply f ss ≡ apply g ts → ⊥)
      both (inl p) (inl q) = inl (ap₂ apply p q)
      both (inl p) (inr q) = inr (λ e. q (cc))
      both (inr p) q = inr (λ e. p (cc))

  lists_decide : (ss ts : Trees) → (ss ≡ ts) ⊎ (ss ≡ ts → ⊥)
  lists_decide no_trees no_trees = inl refl
  lists_decide no_trees (more_trees t ts) = inr (λ e. cc)
  lists_decide (more_trees s ss) no_trees = inr (λ e. cc)
  lists_decide (more_trees s ss) (more_trees t ts) = both (trees_decide s t) (lists_decide ss ts)
    where
      both : {s t : Tree} {ss ts : Trees} → (s ≡ t) ⊎ (s ≡ t → ⊥) → (ss ≡ ts) ⊎ (ss ≡ ts → ⊥) → (more_trees s ss ≡ more_trees t ts) ⊎ (more_trees s ss ≡ more_trees t ts → ⊥)
      both (inl p) (inl q) = inl (ap₂ more_trees p q)
      both (inl p) (inr q) = inr (λ e. q (cc))
      both (inr p) q = inr (λ e. p (cc))

rule_eq : (A B : Rule) → A.left ≡ B.left → A.right ≡ B.right → A ≡ B
rule_eq A B p q = ap₂ (λ x y. record { left = x; right = y }) p q

pub rules_decide : (A B : Rule) → (A ≡ B) ⊎ (A ≡ B → ⊥)
rules_decide A B = both (trees_decide A.left B.left) (trees_decide A.right B.right)
  where
    both : (A.left ≡ B.left) ⊎ (A.left ≡ B.left → ⊥) → (A.right ≡ B.right) ⊎ (A.right ≡ B.right → ⊥) → (A ≡ B) ⊎ (A ≡ B → ⊥)
    both (inl p) (inl q) = inl (rule_eq A B p q)
    both (inl p) (inr q) = inr (λ e. q (ap (λ r. r.right) e))
    both (inr p) q = inr (λ e. p (ap (λ r. r.left) e))

pub instances-map : (m : ℕ → Tree) (ts : List Term) → instances m (trees_of (map tree_of ts)) ≡ trees_of (map (λ u. instance m (tree_of u)) ts)
instances-map m [] = refl
instances-map m (t ∷ ts) = ap (more_trees (instance m (tree_of t))) (instances-map m ts)
