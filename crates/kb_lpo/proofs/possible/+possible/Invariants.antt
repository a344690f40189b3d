use Rattle.std.proofs.Common.{map, ◌+◌, ◌*◌, ℕ, List}
use Rattle.kb_term.specs.Tree.{tree_size, trees_size, trees_of}
use Rattle.kb_term.specs.View.{tree_of}
use Rattle.kb_lpo.specs.Agreeing.{Between, IsNoWitness}
use Rattle.kb_lpo.specs.Search.{Fits}
use Rattle.kb_lpo.proofs.possible.+possible.Given as goal

abbrev pub decreases-possible : goal.decreases-possible
decreases-possible l = 2 * (tree_size (tree_of l.s.now) + tree_size (tree_of l.t.now))

abbrev pub decreases-possible_each : goal.decreases-possible_each
decreases-possible_each l = 2 * (tree_size (tree_of l.s.now) + trees_size (trees_of (map tree_of l.ts.now))) + 1

abbrev pub decreases-first_witness : goal.decreases-first_witness
decreases-first_witness l = 2 * (trees_size (trees_of (map tree_of l.ss.now)) + tree_size (tree_of l.t.now)) + 1

-- under no precedence that fits is one so far the other term or greater
abbrev pub invariant-first_witness-loop-k : goal.invariant-first_witness-loop-k
invariant-first_witness-loop-k l = (prec : List ℕ) → Fits l.known prec → Between (IsNoWitness prec (tree_of l.t)) (map tree_of l.ss) l.from l.k
