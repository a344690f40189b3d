-- The arguments of a written term are less deep than the term, as a recursion over it needs.
use Rattle.std.specs.Prelude.{◌≤◌, max, List, [], ◌∷◌, map}
use Rattle.std.proofs.Common.{arith}
use denote.Param.Weighed.{most}
use Rattle.kb_text.specs.Problems.{depth_in}
use Rattle.kb_text.specs.WrittenFalls.{depth_in_all-of}
use Rattle.kb_text.specs.WrittenSizes.{list_depth_in}
use Rattle.kb_syntax.specs.Written.{written_of}
use Rattle.kb_syntax.specs.declared.written.WrittenTerm.{WrittenTerm}
use Rattle.kb_syntax.specs.declared.written.WrittenTerm.TheVariants.{Alone, Applied}
use Rattle.kb_syntax.specs.declared.written.WrittenTerms.TheDeep.{deep-WrittenTerm}

pub deep-WrittenTerm_le : (t : WrittenTerm) → deep-WrittenTerm t ≤ depth_in (written_of t)
deep-WrittenTerm_le (Alone name) = omega arith
deep-WrittenTerm_le (Applied name ts) = omega (arith, depth_in_all-of ts)

pub most_le-list_depth_in : (ts : List WrittenTerm) → max (most deep-WrittenTerm ts) 0 ≤ list_depth_in (map written_of ts)
most_le-list_depth_in [] = omega arith
most_le-list_depth_in (t ∷ ts) = omega (arith, deep-WrittenTerm_le t, most_le-list_depth_in ts)
