use Rattle.std.proofs.Common.{◌+◌, ◌*◌}
use Rattle.std.specs.Prelude.{map}
use Rattle.kb_term.specs.View.{tree_of}
use Rattle.kb_text.proofs.PartRead.{IsPartRead}
use Rattle.kb_text.proofs.read.+read.Given as goal

abbrev pub decreases-read_from : goal.decreases-read_from
decreases-read_from l = 2 * l.depth

abbrev pub decreases-read_arguments : goal.decreases-read_arguments
decreases-read_arguments l = 2 * l.depth + 1

-- the arguments so far were read
abbrev pub invariant-read_arguments-loop-i : goal.invariant-read_arguments-loop-i
invariant-read_arguments-loop-i l = IsPartRead l.signature l.depth l.arity l.text (map tree_of l.arguments.items) l.i l.at
