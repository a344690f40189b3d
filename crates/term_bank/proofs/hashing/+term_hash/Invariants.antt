use Rattle.std.proofs.Common.{◌≡◌, take}
use Rattle.std.specs.Prelude.{map}
use Rattle.kb_term.specs.Tree.{tree_depth}
use Rattle.kb_term.specs.View.{tree_of}
use Rattle.term_bank.proofs.Hashed.{list_hash}
use Rattle.term_bank.proofs.hashing.+term_hash.Given as goal

abbrev pub decreases-term_hash : goal.decreases-term_hash
decreases-term_hash l = tree_depth (tree_of l.t.now)

-- the arguments so far are mixed in
abbrev pub invariant-loop-i : goal.invariant-loop-i
invariant-loop-i l = l.hash ≡ list_hash (take l.i (map tree_of l.items)) l.initial.hash
