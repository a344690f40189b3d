use Rattle.std.proofs.Common.{ℕ, ◌≡◌, ◌+◌, ◌*◌, drop, map}
use Rattle.kb_term.specs.Tree.{tree_size, trees_of}
use Rattle.kb_term.specs.View.{tree_of}
use Rattle.kb_linear.specs.LinearOrder.{linear_value, weighted_sum}
use Rattle.kb_linear.specs.Limits.{interpretation_of}
use Rattle.kb_linear.specs.Forms.{form_value}
use Rattle.kb_linear.proofs.Values.{HasRoom}
use Rattle.kb_linear.proofs.form.LinearForm.+add.Given as goal

abbrev pub decreases-add : goal.decreases-add
decreases-add l = tree_size (tree_of l.t.now)

-- what is added and what is still to be added make the whole, and there is room for it
abbrev pub invariant-loop-j : goal.invariant-loop-j
invariant-loop-j l =
    ((a : ℕ → ℕ) → form_value l.self a + l.scale * weighted_sum (interpretation_of l.rows) a (trees_of (map tree_of (drop l.j l.items))) (drop l.j l.row.1.items) ≡ form_value l.fn.self a + l.scale * linear_value (interpretation_of l.rows) a (tree_of l.t))
    × HasRoom l.scale (form_value l.self (λ _. 1)) (trees_of (map tree_of (drop l.j l.items)))
