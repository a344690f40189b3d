-- Steps in arguments, and steps under a substitution.
use Rattle.std.proofs.Common.{ℕ, ap, ◌∙◌}
use Rattle.kb_term.specs.Tree.{Tree, variable, apply, Trees, no_trees, more_trees}
use Rattle.kb_term.specs.Substitution.{instance, instances}
use Rattle.kb_term.specs.Rule.{Rule}
use Rattle.kb_term.proofs.Relation.{Reaches, IsJoinable}
use Rattle.kb_term.proofs.Chains.{reaches_refl, reaches_one, reaches_trans, reaches_map}
use Rattle.kb_term.proofs.Steps.{Step, StepIn, at_root, inside, here, there}
use Rattle.kb_term.proofs.Instances.{instance-instance}

-- chains in an argument are chains of the whole
pub reaches_inside : (rules : Rule → Type 0) (f : ℕ) (ts us : Trees) → Reaches (StepIn rules) ts us → Reaches (Step rules) (apply f ts) (apply f us)
reaches_inside rules f ts us c = reaches_map (StepIn rules) (Step rules) (apply f) (λ s t h. reaches_one (Step rules) (apply f s) (apply f t) (inside h)) ts us c

pub reaches_here : (rules : Rule → Type 0) (t u : Tree) (ts : Trees) → Reaches (Step rules) t u → Reaches (StepIn rules) (more_trees t ts) (more_trees u ts)
reaches_here rules t u ts c = reaches_map (Step rules) (StepIn rules) (λ x. more_trees x ts) (λ s v h. reaches_one (StepIn rules) (more_trees s ts) (more_trees v ts) (here h)) t u c

pub reaches_there : (rules : Rule → Type 0) (t : Tree) (ts us : Trees) → Reaches (StepIn rules) ts us → Reaches (StepIn rules) (more_trees t ts) (more_trees t us)
reaches_there rules t ts us c = reaches_map (StepIn rules) (StepIn rules) (more_trees t) (λ s v h. reaches_one (StepIn rules) (more_trees t s) (more_trees t v) (there h)) ts us c

pub reaches_more : (rules : Rule → Type 0) (t u : Tree) (ts us : Trees) → Reaches (Step rules) t u → Reaches (StepIn rules) ts us → Reaches (StepIn rules) (more_trees t ts) (more_trees u us)
reaches_more rules t u ts us c d = reaches_trans (StepIn rules) (more_trees t ts) (more_trees u ts) (more_trees u us) (reaches_here rules t u ts c) (reaches_there rules u ts us d)

-- where a substitution's terms go on by chains, so do instances
mutual
  pub reaches-instance : (rules : Rule → Type 0) (m k : ℕ → Tree) → ((x : ℕ) → Reaches (Step rules) (m x) (k x)) → (t : Tree) → Reaches (Step rules) (instance m t) (instance k t)
  reaches-instance rules m k h (variable n) = h n
  reaches-instance rules m k h (apply f ts) = reaches_inside rules f (instances m ts) (instances k ts) (reaches-instances rules m k h ts)

  reaches-instances : (rules : Rule → Type 0) (m k : ℕ → Tree) → ((x : ℕ) → Reaches (Step rules) (m x) (k x)) → (ts : Trees) → Reaches (StepIn rules) (instances m ts) (instances k ts)
  reaches-instances rules m k h no_trees = reaches_refl (StepIn rules) no_trees
  reaches-instances rules m k h (more_trees t ts) = reaches_more rules (instance m t) (instance k t) (instances m ts) (instances k ts) (reaches-instance rules m k h t) (reaches-instances rules m k h ts)

-- steps are kept under substitutions
mutual
  pub step-instance : (rules : Rule → Type 0) (j : ℕ → Tree) {s t : Tree} → Step rules s t → Step rules (instance j s) (instance j t)
  step-instance rules j (at_root (r, m, i, e, d)) = at_root (r, (λ x. instance j (m x)), i, ap (instance j) e ∙ instance-instance j m r.left, ap (instance j) d ∙ instance-instance j m r.right)
  step-instance rules j (inside h) = inside (step_in-instance rules j h)

  step_in-instance : (rules : Rule → Type 0) (j : ℕ → Tree) {ss ts : Trees} → StepIn rules ss ts → StepIn rules (instances j ss) (instances j ts)
  step_in-instance rules j (here h) = here (step-instance rules j h)
  step_in-instance rules j (there h) = there (step_in-instance rules j h)

pub reaches_instance : (rules : Rule → Type 0) (j : ℕ → Tree) (s t : Tree) → Reaches (Step rules) s t → Reaches (Step rules) (instance j s) (instance j t)
reaches_instance rules j s t c = reaches_map (Step rules) (Step rules) (instance j) (λ x y h. reaches_one (Step rules) (instance j x) (instance j y) (step-instance rules j h)) s t c

pub joinable_instance : (rules : Rule → Type 0) (j : ℕ → Tree) (s t : Tree) → IsJoinable (Step rules) s t → IsJoinable (Step rules) (instance j s) (instance j t)
joinable_instance rules j s t (u, c, d) = (instance j u, reaches_instance rules j s u c, reaches_instance rules j t u d)
