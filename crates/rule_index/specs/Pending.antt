-- Terms that are still to be read.
use Rattle.std.specs.Prelude.{List, [], ◌++◌, map, replicate}
use Rattle.kb_term.specs.Tree.{Tree}
use Rattle.kb_term.specs.View.{tree_of}
use Rattle.rule_index.specs.declared.pending.Pending.{Pending, Nothing, Terms', Repeated'}

-- the terms in their order
abbrev pub pending : Pending → List Tree
pending Nothing = []
pending (Terms' terms p below) = map tree_of terms.now ++ pending below
pending (Repeated' t n p below) = replicate n (tree_of t.now) ++ pending below
