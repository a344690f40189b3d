use Rattle.std.proofs.Common.{ℕ, ◌<◌, get_or}
use Rattle.kb_term.specs.View.{tree_of}
use Rattle.kb_rewrite.specs.Search.{IsRootRedex}
use Rattle.kb_rewrite.proofs.system.System.first_applying.Given as goal

-- none of the rules so far applies
abbrev pub invariant-loop-i : goal.invariant-loop-i
invariant-loop-i l = (j : ℕ) → j < l.i → ¬ IsRootRedex l.self l.strict_only (tree_of l.whole) (tree_of l.t) j

-- none of the candidates so far applies
abbrev pub invariant-loop-k : goal.invariant-loop-k
invariant-loop-k l = (m : ℕ) → m < l.k → ¬ IsRootRedex l.self l.strict_only (tree_of l.whole) (tree_of l.t) (get_or l.keys.items m 0)
