use Rattle.std.proofs.Common.{◌≡◌, ℕ, ◌<◌, get_or}
use Rattle.kb_text.proofs.IdentifierLaws.{Entry}
use Rattle.kb_report.proofs.symbols.is_new.Given as goal

-- the name differs from those that were looked at
abbrev pub invariant-loop-j : goal.invariant-loop-j
invariant-loop-j l = (j : ℕ) (d : Entry) → j < l.j → (get_or l.symbols j d).0.items ≡ (get_or l.symbols l.i d).0.items → ⊥
