use Rattle.kb_term.specs.View.{tree_of}
use Rattle.kb_rewrite.proofs.Runs.{Run}
use Rattle.kb_rewrite.proofs.system.System.normal_form.Given as goal

-- so many steps lead to the term, and none of their results passes a limit
abbrev pub invariant-loop-count : goal.invariant-loop-count
invariant-loop-count l = Run l.self (tree_of l.t) (tree_of l.term) l.count
