use Rattle.std.proofs.Common.{drop}
use Rattle.std.specs.Prelude.{◌↔◌}
use Rattle.kb_term.specs.Tree.{Tree}
use Rattle.kb_term.specs.View.{tree_of}
use Rattle.kb_decide.specs.Deciding.{Leads}
use Rattle.kb_decide.proofs.replaying.led.Given as goal

-- the lines lead to a term exactly where those that are left lead there from the term at hand
abbrev pub invariant-loop-line : goal.invariant-loop-line
invariant-loop-line l = (u : Tree) → Leads l.rules l.lines (tree_of l.t) u ↔ Leads l.rules (drop l.line-index l.lines) (tree_of l.term) u
