use Rattle.std.proofs.Common.{map, ◌+◌, ◌*◌}
use Rattle.kb_term.specs.Tree.{tree_size, trees_size, trees_of}
use Rattle.kb_term.specs.View.{tree_of}
use Rattle.kb_lpo.specs.PathOrder.{LpoGreater}
use Rattle.kb_lpo.specs.Agreeing.{Between, IsNoWitness}
use Rattle.kb_lpo.specs.Search.{numbers}
use Rattle.kb_lpo.proofs.order.+greater.Given as goal

abbrev pub decreases-greater : goal.decreases-greater
decreases-greater l = 2 * (tree_size (tree_of l.s.now) + tree_size (tree_of l.t.now))

abbrev pub decreases-is_above_each : goal.decreases-is_above_each
decreases-is_above_each l = 2 * (tree_size (tree_of l.s.now) + trees_size (trees_of (map tree_of l.ts.now))) + 1

abbrev pub decreases-is_reached : goal.decreases-is_reached
decreases-is_reached l = 2 * (trees_size (trees_of (map tree_of l.ss.now)) + tree_size (tree_of l.t.now)) + 1

-- the term is greater than those so far
abbrev pub invariant-is_above_each-loop-j : goal.invariant-is_above_each-loop-j
invariant-is_above_each-loop-j l = Between (λ u. LpoGreater (numbers l.symbols) (tree_of l.s) u) (map tree_of l.ts) l.from l.j

-- none so far is the other term or greater
abbrev pub invariant-is_reached-loop-k : goal.invariant-is_reached-loop-k
invariant-is_reached-loop-k l = Between (IsNoWitness (numbers l.symbols) (tree_of l.t)) (map tree_of l.ss) l.from l.k
