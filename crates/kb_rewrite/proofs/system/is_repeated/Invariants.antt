use Rattle.std.proofs.Common.{ℕ, ◌<◌, ◌≡◌, get_or, Some}
use Rattle.std.specs.Prelude.{slice_get}
use Rattle.kb_term.specs.Rule.{Rule}
use Rattle.kb_term.specs.View.{tree_of}
use Rattle.kb_rewrite.proofs.system.is_repeated.Given as goal

-- none of the candidates so far has the left side
abbrev pub invariant-loop-k : goal.invariant-loop-k
invariant-loop-k l = (m : ℕ) → m < l.k → (rule : Rule) → slice_get l.rules (get_or l.keys.items m 0) ≡ Some rule → ¬ (rule.left ≡ tree_of l.left)
