-- Rewriting keeps terms well formed.
use Rattle.std.proofs.Common.{ℕ, suc, ◌≡◌, inl, inr, refl, sym, ap, ◌∙◌, subst, List}
use Rattle.kb_term.specs.Tree.{Tree, variable, apply, Trees, no_trees, more_trees}
use Rattle.kb_term.specs.Substitution.{instance, instances}
use Rattle.kb_term.specs.Rule.{Rule}
use Rattle.kb_term.proofs.Steps.{Occurs, OccursIn, trees_length, IsWellFormed, AreWellFormed, RootStep, Step, StepIn, at_root, inside, here, there}

pub length-instances : (m : ℕ → Tree) (ts : Trees) → trees_length (instances m ts) ≡ trees_length ts
length-instances m no_trees = refl
length-instances m (more_trees t ts) = ap suc (length-instances m ts)

mutual
  -- what a well-formed instance puts for a variable is well formed
  pub well_at : (a : ℕ → ℕ) (fs : List ℕ) (m : ℕ → Tree) (x : ℕ) (t : Tree) → Occurs x t → IsWellFormed a fs (instance m t) → IsWellFormed a fs (m x)
  well_at a fs m x (variable n) o w = subst (λ y. IsWellFormed a fs (m y)) o w
  well_at a fs m x (apply f ts) o w = well_in a fs m x ts o w.2

  well_in : (a : ℕ → ℕ) (fs : List ℕ) (m : ℕ → Tree) (x : ℕ) (ts : Trees) → OccursIn x ts → AreWellFormed a fs (instances m ts) → IsWellFormed a fs (m x)
  well_in a fs m x no_trees o w = absurd o
  well_in a fs m x (more_trees t ts) (inl o) w = well_at a fs m x t o w.0
  well_in a fs m x (more_trees t ts) (inr o) w = well_in a fs m x ts o w.1

mutual
  pub well-instance : (a : ℕ → ℕ) (fs : List ℕ) (m : ℕ → Tree) (t : Tree) → IsWellFormed a fs t → ((x : ℕ) → Occurs x t → IsWellFormed a fs (m x)) → IsWellFormed a fs (instance m t)
  well-instance a fs m (variable n) w h = h n refl
  well-instance a fs m (apply f ts) w h = (w.0, length-instances m ts ∙ w.1, well-instances a fs m ts w.2 h)

  well-instances : (a : ℕ → ℕ) (fs : List ℕ) (m : ℕ → Tree) (ts : Trees) → AreWellFormed a fs ts → ((x : ℕ) → OccursIn x ts → IsWellFormed a fs (m x)) → AreWellFormed a fs (instances m ts)
  well-instances a fs m no_trees w h = tt
  well-instances a fs m (more_trees t ts) w h = (well-instance a fs m t w.0 (λ x o. h x (inl o)), well-instances a fs m ts w.1 (λ x o. h x (inr o)))

-- a rule with a well-formed right side, whose variables stand in its left side
pub record IsSound (a : ℕ → ℕ) (fs : List ℕ) (r : Rule) : Type 0 where
  pub well : IsWellFormed a fs r.right
  pub holds : (x : ℕ) → Occurs x r.right → Occurs x r.left

root_well : (a : ℕ → ℕ) (fs : List ℕ) (rules : Rule → Type 0) → ((r : Rule) → rules r → IsSound a fs r) → (s t : Tree) → RootStep rules s t → IsWellFormed a fs s → IsWellFormed a fs t
root_well a fs rules all s t (r, m, in_rules, e, d) w =
    let h : IsSound a fs r = all r in_rules in
    let v : IsWellFormed a fs (instance m r.left) = subst (IsWellFormed a fs) e w in
    subst (IsWellFormed a fs) (sym d) (well-instance a fs m r.right h.well (λ x o. well_at a fs m x r.left (h.holds x o) v))

step_in_length : {rules : Rule → Type 0} {ts us : Trees} → StepIn rules ts us → trees_length us ≡ trees_length ts
step_in_length (here h) = refl
step_in_length (there h) = ap suc (step_in_length h)

mutual
  pub step_well : (a : ℕ → ℕ) (fs : List ℕ) (rules : Rule → Type 0) → ((r : Rule) → rules r → IsSound a fs r) → {s t : Tree} → Step rules s t → IsWellFormed a fs s → IsWellFormed a fs t
  step_well a fs rules all (at_root {s = s} {t = t} r) w = root_well a fs rules all s t r w
  step_well a fs rules all (inside h) w = (w.0, step_in_length h ∙ w.1, step_in_well a fs rules all h w.2)

  step_in_well : (a : ℕ → ℕ) (fs : List ℕ) (rules : Rule → Type 0) → ((r : Rule) → rules r → IsSound a fs r) → {ts us : Trees} → StepIn rules ts us → AreWellFormed a fs ts → AreWellFormed a fs us
  step_in_well a fs rules all (here h) w = (step_well a fs rules all h w.0, w.1)
  step_in_well a fs rules all (there h) w = (w.0, step_in_well a fs rules all h w.1)
