-- The overlap that a value of the program is.
use Rattle.std.specs.Prelude.{Result, Ok, Err}
use Rattle.kb_term.specs.Tree.{Tree}
use Rattle.kb_term.specs.View.{tree_of}
use Rattle.kb_term.specs.declared.term.Term.{Term}
use Rattle.kb_term.specs.declared.limit.Limit.{Limit}
use Rattle.kb_overlap.specs.Overlap.{Overlap}
use Rattle.kb_overlap.specs.declared.overlap.Overlap.{Overlap as OverlapValue}

-- two terms as trees, or the limit
abbrev pub sides_of : Result (Term × Term) Limit → Result (Tree × Tree) Limit
sides_of (Ok e) = Ok (tree_of e.0, tree_of e.1)
sides_of (Err limit) = Err limit

abbrev pub overlap_of : OverlapValue → Overlap
overlap_of o = record { position = o.position; sides = sides_of o.sides }
