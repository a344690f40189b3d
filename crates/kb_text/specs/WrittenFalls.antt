-- The depth of arguments is that of their list, as a recursion over written terms needs.
use Rattle.std.specs.Prelude.{◌≡◌, max, List, [], ◌∷◌}
use Rattle.std.proofs.Common.{ap, refl}
use Rattle.kb_text.specs.Grammar.{Written}
use Rattle.kb_text.specs.Problems.{depth_in, depth_in_all}
use Rattle.kb_text.specs.Written.{arguments_of}
use Rattle.kb_text.specs.WrittenSizes.{list_depth_in}

pub depth_in_all-of : (ts : List Written) → depth_in_all (arguments_of ts) ≡ list_depth_in ts
depth_in_all-of [] = refl
depth_in_all-of (t ∷ ts) = ap (max (depth_in t)) (depth_in_all-of ts)
