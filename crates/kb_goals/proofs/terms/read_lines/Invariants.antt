use Rattle.std.proofs.Common.{◌≡◌, length, map}
use Rattle.kb_term.specs.View.{tree_of}
use Rattle.kb_text.specs.Terms.{names_of, term_text}
use Rattle.kb_report.proofs.SectionLaws.{AreReadItems}
use Rattle.kb_goals.specs.Simplifying.{IsNumberedTerm}
use Rattle.kb_goals.proofs.terms.read_lines.Given as goal

-- the terms so far were read, and the next line begins at the place
abbrev pub invariant-loop-k : goal.invariant-loop-k
invariant-loop-k l = record {
  read : AreReadItems (IsNumberedTerm l.sig) (λ k. term_text (names_of l.sig)) l.text (map tree_of l.terms.items) l.at;
  count : length (map tree_of l.terms.items) ≡ l.k;
}
