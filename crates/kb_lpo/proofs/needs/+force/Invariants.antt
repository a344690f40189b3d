use Rattle.std.proofs.Common.{map, ◌+◌, ◌*◌, ◌≤◌, ◌⊎◌, ℕ, List}
use Rattle.std.specs.Prelude.{IsSomeAnd}
use Rattle.kb_term.specs.Tree.{tree_size, trees_size, trees_of}
use Rattle.kb_term.specs.View.{tree_of}
use Rattle.kb_lpo.specs.Agreeing.{HasWitness, IsAboveEach}
use Rattle.kb_lpo.specs.Search.{Fits}
use Rattle.kb_lpo.proofs.needs.+force.Given as goal

abbrev pub decreases-force : goal.decreases-force
decreases-force l = 4 * (tree_size (tree_of l.s.now) + tree_size (tree_of l.t.now))

abbrev pub decreases-force_each : goal.decreases-force_each
decreases-force_each l = 4 * (tree_size (tree_of l.s.now) + trees_size (trees_of (map tree_of l.ts.now))) + 1

abbrev pub decreases-force_witness : goal.decreases-force_witness
decreases-force_witness l = 4 * (trees_size (trees_of (map tree_of l.ss.now)) + tree_size (tree_of l.t.now)) + 2

abbrev pub decreases-force_possible : goal.decreases-force_possible
decreases-force_possible l = 4 * (tree_size (tree_of l.s.now) + tree_size (tree_of l.t.now)) + 1

abbrev pub decreases-force_above : goal.decreases-force_above
decreases-force_above l = 4 * (tree_size (tree_of l.s.now) + trees_size (trees_of (map tree_of l.ts.now))) + 2

abbrev pub decreases-force_below : goal.decreases-force_below
decreases-force_below l = 4 * (trees_size (trees_of (map tree_of l.ss.now)) + tree_size (tree_of l.t.now)) + 3

-- the precedences that have s above each and fitted still fit
abbrev pub invariant-force_each-loop-j : goal.invariant-force_each-loop-j
invariant-force_each-loop-j l = (prec : List ℕ) → IsSomeAnd l.fn.first (λ known. Fits known prec) → IsAboveEach prec (tree_of l.s) l.ts l.from → Fits l.more prec

-- the precedences in which one of the terms is the other or greater fit what is shared so far, or have such a term behind
abbrev pub invariant-force_witness-loop-k : goal.invariant-force_witness-loop-k
invariant-force_witness-loop-k l = (prec : List ℕ) → Fits l.known prec → HasWitness prec (tree_of l.t) (map tree_of l.ss) l.from → IsSomeAnd l.shared (λ more. Fits more prec) ⊎ ((l.from ≤ l.k) × HasWitness prec (tree_of l.t) (map tree_of l.ss) l.k)
