use Rattle.std.proofs.Common.{◌≡◌, ◌==◌}
use Rattle.std.specs.Prelude.{drop}
use Rattle.std.specs.List.{slice_split}
use Rattle.kb_text.specs.Fields.{parts_with}
use Rattle.kb_text.proofs.line.parts_of.Given as goal

-- the parts so far, and what is left
abbrev pub invariant-loop-i : goal.invariant-loop-i
invariant-loop-i l = parts_with l.separator l.parts.items l.part.items (drop l.i l.text) ≡ slice_split (λ b. b == l.separator) l.text
