use Rattle.std.proofs.Common.{◌≡◌, ℕ, ◌<◌, ◌≤◌, length, get_or}
use Rattle.kb_term.specs.Identifier.{IsIdentifier}
use Rattle.kb_text.proofs.IdentifierLaws.{Entry}
use Rattle.kb_report.proofs.symbols.are_names.Given as goal

-- the names so far are identifiers, short enough, and differ
abbrev pub invariant-loop-i : goal.invariant-loop-i
invariant-loop-i l = record {
  named : (k : ℕ) (d : Entry) → k < l.i → IsIdentifier (get_or l.symbols k d).0.items × (length (get_or l.symbols k d).0.items ≤ 64);
  differ : (j k : ℕ) (d : Entry) → j < k → k < l.i → (get_or l.symbols j d).0.items ≡ (get_or l.symbols k d).0.items → ⊥;
}
