use Rattle.std.proofs.Common.{◌≡◌, ◌++◌}
use Rattle.std.specs.Prelude.{take}
use Rattle.kb_term.specs.Tree.{tree_depth}
use Rattle.kb_term.specs.View.{tree_of}
use Rattle.kb_text.specs.Terms.{names_of, term_text, arguments_text}
use Rattle.kb_text.proofs.TextLaws.{opened_text, trees}
use Rattle.kb_text.proofs.text.+add_term.Given as goal

abbrev pub decreases-add_term : goal.decreases-add_term
decreases-add_term l = tree_depth (tree_of l.t.now)

-- the arguments so far were added behind the symbol
abbrev pub invariant-loop-i : goal.invariant-loop-i
invariant-loop-i l = record {
  added : l.out.items ≡ l.initial.out.items ++ opened_text (names_of l.signature) (trees (take l.i l.arguments));
  all : l.fn.out.items ++ term_text (names_of l.signature) (tree_of l.t) ≡ l.initial.out.items ++ arguments_text (names_of l.signature) (trees l.arguments);
}
