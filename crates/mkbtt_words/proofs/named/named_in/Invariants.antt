use Rattle.std.proofs.Common.{◌≡◌, map, drop}
use Rattle.mkbtt_words.specs.Named.{named}
use Rattle.mkbtt_words.proofs.named.named_in.Given as goal

abbrev pub invariant-loop-entry : goal.invariant-loop-entry
invariant-loop-entry g l = named (map (λ m. (m.0.now, m.1)) l.table) l.name ≡ named (map (λ m. (m.0.now, m.1)) (drop l.entry-index l.table)) l.name
