use Rattle.std.proofs.Common.{map, Contains}
use Rattle.kb_term.specs.Tree.{tree_size, symbols_of}
use Rattle.kb_term.specs.View.{tree_of}
use Rattle.kb_lpo.specs.Agreeing.{Between}
use Rattle.kb_lpo.proofs.order.+has_symbol.Given as goal

abbrev pub decreases-has_symbol : goal.decreases-has_symbol
decreases-has_symbol l = tree_size (tree_of l.t.now)

-- the symbol isn't in the arguments so far
abbrev pub invariant-loop-i : goal.invariant-loop-i
invariant-loop-i l = Between (λ u. ¬ Contains (symbols_of u) l.f.0) (map tree_of l.items) 0 l.i
