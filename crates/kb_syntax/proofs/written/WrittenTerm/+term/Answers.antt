use Rattle.std.proofs.Common.{arith, ap}
use Rattle.std.specs.Prelude.{map}
use Rattle.kb_term.specs.Tree.{apply}
use Rattle.kb_term.specs.View.{tree_of}
use Rattle.kb_text.specs.Names.{number_of}
use Rattle.kb_text.proofs.WrittenLists.{number_of-le}
use Rattle.kb_syntax.proofs.WrittenArguments.{terms-of}
use Rattle.kb_syntax.proofs.written.WrittenTerm.+term.Goals as goal

pub overflow_cast-result : goal.overflow_cast-result
overflow_cast-result t c = omega (arith, c.in-Some.ensures.1, number_of-le c.args.variables.now.found c.in-Alone.name.now, c.requires.variables)

pub overflow_cast-result-in-Alone : goal.overflow_cast-result-in-Alone
overflow_cast-result-in-Alone t c = omega (arith, c.number_of.ensures, number_of-le c.args.symbols.now c.in-Alone.name.now, c.requires.symbols)

pub overflow_cast-symbol : goal.overflow_cast-symbol
overflow_cast-symbol t c = omega (arith, c.number_of-in-Applied.ensures, number_of-le c.args.symbols.now c.in-Applied.name.now, c.requires.symbols)

pub loop-argument-init : goal.loop-argument-init
loop-argument-init t c = record {
  made = ap (map tree_of) c.in_ok-items-in-Applied.ensures.items;
  all = rw (c.in-Applied.is, ← c.arguments.view_is, c.deref-argument-items.ensures.value) (ap (apply (number_of c.args.symbols.now c.in-Applied.name.now)) (terms-of c.args.variables.now.found c.args.symbols.now c.arguments.inside.items.items));
}
