use Rattle.std.proofs.Common.{ℕ, ◌≡◌, ◌<◌}
use Rattle.kb_term.specs.Signature.{names_of, name_at}
use Rattle.kb_term.proofs.signature.Signature.symbol_named.Given as goal

-- none of the symbols so far has the name
abbrev pub invariant-loop-f : goal.invariant-loop-f
invariant-loop-f l = (k : ℕ) → k < l.f → ¬ (name_at (names_of l.self) k ≡ l.name)
