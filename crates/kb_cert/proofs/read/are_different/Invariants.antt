use Rattle.std.proofs.Common.{ℕ, ◌<◌, ◌+◌, get_or, map, drop, Contains}
use Rattle.kb_term.specs.declared.term.Symbol.{Symbol}
use Rattle.kb_cert.proofs.read.are_different.Given as goal

abbrev pub invariant-loop-i : goal.invariant-loop-i
invariant-loop-i l = (k : ℕ) → k < l.i → ¬ Contains (map (λ (f : Symbol). f.0) (drop (k + 1) l.symbols)) (get_or (map (λ (f : Symbol). f.0) l.symbols) k 0)
