-- What a call answers that makes a term within the limits.
use Rattle.std.specs.Prelude.{◌≡◌, Some, None, Result, Ok, Err, ⊤}
use Rattle.kb_term.specs.Tree.{Tree}
use Rattle.kb_term.specs.Pair.{term_limit}
use Rattle.kb_term.specs.View.{tree_of}
use Rattle.kb_term.specs.declared.term.Term.{Term}
use Rattle.kb_term.specs.declared.fault.TermFault.{TermFault}
use Rattle.kb_term.specs.declared.fault.TermFault.TheVariants.{Large, Memory}

-- the term t, which passes no limit; the limit that t passes; or want of memory
abbrev pub IsLimitedAnswer : Tree → Result Term TermFault → Type 0
IsLimitedAnswer t (Ok u) = (tree_of u ≡ t) × (term_limit t ≡ None)
IsLimitedAnswer t (Err (Large limit)) = term_limit t ≡ Some limit
IsLimitedAnswer t (Err Memory) = ⊤
