use Rattle.std.proofs.Common.{◌≡◌, drop}
use Rattle.kb_term.specs.Substitution.{substitution_of}
use Rattle.kb_term.specs.View.{entries_of_list}
use Rattle.kb_term.proofs.subst.Subst.get.Given as goal

-- no entry so far is of the variable
abbrev pub invariant-loop-entry : goal.invariant-loop-entry
invariant-loop-entry l = substitution_of l.self l.n ≡ substitution_of (entries_of_list (drop l.entry-index l.entry-items)) l.n
