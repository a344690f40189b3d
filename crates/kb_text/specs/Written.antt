-- What values of the program are in the grammar.
use Rattle.std.specs.Prelude.{List, [], ◌∷◌}
use Rattle.kb_text.specs.Grammar.{Written, Arguments, no_arguments, argument, Sign, by_arrow, by_equals}
use Rattle.kb_text.specs.declared.sign.Sign as sign
use Rattle.kb_text.specs.declared.sign.Sign.TheVariants.{Arrow, Equals}

-- a list as arguments
abbrev pub arguments_of : List Written → Arguments
arguments_of [] = no_arguments
arguments_of (t ∷ ts) = argument t (arguments_of ts)

-- how the sides of an equation are joined
abbrev pub sign_of : sign.Sign → Sign
sign_of Arrow = by_arrow
sign_of Equals = by_equals
