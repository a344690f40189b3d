use Rattle.std.proofs.Common.{◌≡◌}
use Rattle.std.specs.Prelude.{map, take}
use Rattle.kb_term.specs.Tree.{apply, trees_of}
use Rattle.kb_term.specs.View.{tree_of}
use Rattle.kb_text.specs.Names.{number_of}
use Rattle.kb_text.specs.Problems.{term_of}
use Rattle.kb_syntax.specs.Written.{written_of}
use Rattle.kb_syntax.proofs.written.WrittenTerm.+term.Given as goal

-- the arguments so far are made
abbrev pub invariant-loop-argument : goal.invariant-loop-argument
invariant-loop-argument l = record {
  made : map tree_of l.items.items ≡ map (λ u. term_of l.variables.found l.symbols (written_of u)) (take l.argument-index l.argument-items);
  all : term_of l.variables.found l.symbols (written_of l.self) ≡ apply (number_of l.symbols l.name.now) (trees_of (map (λ u. term_of l.variables.found l.symbols (written_of u)) l.argument-items));
}
