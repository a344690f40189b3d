-- The roots of left sides.
use Rattle.std.specs.Prelude.{◌%◌, ◌≡◌, true, false, get_or}
use Rattle.kb_term.specs.Tree.{Tree, variable, apply}
use Rattle.kb_rewrite.specs.declared.roots.Roots.{Roots}

-- the root of the term is noted: a variable as such, a symbol by its remainder
abbrev pub IsNoted : Roots → Tree → Type 0
IsNoted roots (variable n) = roots.variable ≡ true
IsNoted roots (apply f ts) = get_or roots.symbols (f % 32) false ≡ true
