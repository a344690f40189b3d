use Rattle.std.proofs.Common.{◌≡◌, length}
use Rattle.kb_term.specs.View.{equations_of_list}
use Rattle.kb_term.specs.Signature.{IsEquationWithinLimits}
use Rattle.kb_text.specs.Terms.{names_of}
use Rattle.kb_report.specs.SystemSections.{equation_body}
use Rattle.kb_report.proofs.SectionLaws.{AreReadItems}
use Rattle.kb_report.proofs.sides.read_equations.Given as goal

-- the equations so far were read, and the next line begins at the place
abbrev pub invariant-loop-k : goal.invariant-loop-k
invariant-loop-k l = record {
  read : AreReadItems (IsEquationWithinLimits l.sig) (λ k. equation_body (names_of l.sig)) l.text (equations_of_list l.equations.items) l.at;
  count : length (equations_of_list l.equations.items) ≡ l.k;
}
