-- The names that live after forks.
use Rattle.std.specs.Prelude.{List, [], ◌∷◌, true, ◌≡◌}
use Rattle.kb_label.specs.Names.{Name, root, has, relabel}

-- what forks of living processes make of the first process: the names that live
pub data IsForked : List Name → Type 0 where
  at_first : IsForked (root ∷ [])
  at_fork : (p : Name) (l : List Name) → IsForked l → has l p ≡ true → IsForked (relabel p l)

-- the names are those that live after a fork of p among the names before
pub record IsAfterFork (before : List Name) (p : Name) (after : List Name) : Type 0 where
  pub forked : IsForked before
  pub lives : has before p ≡ true
  pub names : after ≡ relabel p before
