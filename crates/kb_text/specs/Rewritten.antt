-- Problems as the grammar writes them.
use Rattle.std.specs.Prelude.{List, [], ◌∷◌, map}
use Rattle.std.specs.List.{range_with_len}
use Rattle.kb_term.specs.Tree.{Tree, variable, apply, Trees, no_trees, more_trees}
use Rattle.kb_term.specs.Signature.{Problem}
use Rattle.kb_text.specs.Names.{Name}
use Rattle.kb_text.specs.Grammar.{Written, alone, applied, Arguments, no_arguments, argument, by_equals, WrittenEquation, Section, variables, rules}
use Rattle.kb_text.specs.Terms.{names_of, variable_text, symbol_text, most_variables}

-- a term by its names; a symbol of arity 0 stands alone
abbrev mutual
  pub written_term : List Name → Tree → Written
  written_term names (variable n) = alone (variable_text names n)
  written_term names (apply f no_trees) = alone (symbol_text names f)
  written_term names (apply f (more_trees t ts)) = applied (symbol_text names f) (argument (written_term names t) (written_terms names ts))

  pub written_terms : List Name → Trees → Arguments
  written_terms names no_trees = no_arguments
  written_terms names (more_trees t ts) = argument (written_term names t) (written_terms names ts)

abbrev pub written_equation : List Name → Tree × Tree → WrittenEquation
written_equation names e = record { left = written_term names e.0; sign = by_equals; right = written_term names e.1 }

-- a section of variables and one of rules
abbrev pub written_sections : Problem → List Section
written_sections p = let names = names_of p.signature in
    variables (map (variable_text names) (range_with_len 0 (most_variables p.equations))) ∷ rules (map (written_equation names) p.equations) ∷ []
