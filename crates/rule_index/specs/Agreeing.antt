-- Terms that agree, and terms with a common instance.
use Rattle.std.specs.Prelude.{ℕ, ◌≡◌, ⊤}
use Rattle.kb_term.specs.Tree.{Tree, Trees, variable, apply, no_trees, more_trees}
use Rattle.kb_term.specs.Substitution.{instance}

-- where both terms have symbols they have the same; a variable of either stands for any term
abbrev mutual
  pub Agree : Tree → Tree → Type 0
  Agree (variable n) t = ⊤
  Agree (apply f ss) (variable n) = ⊤
  Agree (apply f ss) (apply g ts) = (f ≡ g) × AgreeEach ss ts

  pub AgreeEach : Trees → Trees → Type 0
  AgreeEach no_trees no_trees = ⊤
  AgreeEach no_trees (more_trees t ts) = ⊥
  AgreeEach (more_trees s ss) no_trees = ⊥
  AgreeEach (more_trees s ss) (more_trees t ts) = Agree s t × AgreeEach ss ts

-- some term is an instance of both: renamed apart, the terms unify
abbrev pub HaveCommonInstance : Tree → Tree → Type 0
HaveCommonInstance s t = (m k : ℕ → Tree) × (instance m s ≡ instance k t)
