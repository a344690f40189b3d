-- The number of a name is at most how many names there are.
use Rattle.std.proofs.Common.{arith, ◌≤◌, List, [], ◌∷◌, length}
use Rattle.kb_text.specs.Names.{Name, number_of}

pub number_of-le : (names : List Name) (name : Name) → number_of names name ≤ length names
number_of-le [] name = omega arith
number_of-le (x ∷ xs) name = grind (arith, number_of-le xs name)
