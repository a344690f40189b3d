use Rattle.std.proofs.Common.{◌≡◌}
use Rattle.std.specs.Prelude.{map, take}
use Rattle.kb_text.specs.Names.{firsts}
use Rattle.kb_text.specs.Problems.{variables_among, symbols_among}
use Rattle.kb_text.proofs.names.Names.split.Given as goal

-- the names so far are split
abbrev pub invariant-loop-name : goal.invariant-loop-name
invariant-loop-name l = record {
  found : l.found ≡ firsts (variables_among l.variables (map (λ n. n.items) (take l.name-index l.name-items)));
  symbols : l.symbols ≡ firsts (symbols_among l.variables (map (λ n. n.items) (take l.name-index l.name-items)));
  all : l.self ≡ map (λ n. n.items) l.name-items;
}
