use Rattle.std.proofs.Common.{◌≡◌, ◌++◌, take}
use Rattle.kb_term.specs.Tree.{tree_depth}
use Rattle.kb_term.specs.View.{tree_of}
use Rattle.rule_index.proofs.Strings.{marks_row}
use Rattle.rule_index.proofs.mark.+push_marks.Given as goal

abbrev pub decreases-push_marks : goal.decreases-push_marks
decreases-push_marks l = tree_depth (tree_of l.t.now)

-- the marks of the arguments so far are there
abbrev pub invariant-loop-argument : goal.invariant-loop-argument
invariant-loop-argument l = l.marks.items ≡ l.initial.marks.items ++ marks_row (take l.argument-index l.arguments)
