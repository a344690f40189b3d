-- Written terms as values of the program: what each is in the grammar.
use Rattle.kb_text.specs.Grammar.{Written, alone, applied, WrittenEquation}
use Rattle.kb_text.specs.Written.{arguments_of, sign_of}
use Rattle.kb_syntax.specs.declared.written.WrittenTerm.{WrittenTerm}
use Rattle.kb_syntax.specs.declared.written.WrittenTerm.TheVariants.{Alone, Applied}
use Rattle.kb_syntax.specs.declared.written.WrittenEquation as equation

-- the term of the grammar that a value of the program is
abbrev pub written_of : WrittenTerm → Written
written_of (Alone name) = alone name.now
written_of (Applied name ts) = applied name.now (arguments_of ts)

-- a written equation of the program
abbrev pub equation_of : equation.WrittenEquation → WrittenEquation
equation_of e = record { left = written_of e.left; sign = sign_of e.sign; right = written_of e.right }
