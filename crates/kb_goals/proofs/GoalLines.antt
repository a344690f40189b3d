-- Goals as a kind of question.
use Rattle.std.proofs.Common.{refl, arith}
use Rattle.std.specs.Prelude.{codes}
use Rattle.kb_term.specs.Signature.{IsEquationWithinLimits}
use Rattle.kb_term.specs.Tree.{variable}
use Rattle.kb_report.specs.SystemSections.{equation_body}
use Rattle.kb_report.proofs.SidesRead.{some_equation}
use Rattle.kb_report.proofs.SystemForm.{equations_section}
use Rattle.kb_goals.proofs.Asked.{IsKind}

pub goals_kind : IsKind (codes "GOALS ") IsEquationWithinLimits equation_body
goals_kind = record {
  word_without = (refl, (refl, (refl, (refl, (refl, (refl, tt))))));
  section = λ sig i n l. equations_section sig i n (omega arith);
  some = (variable 0, variable 0);
  some_form = some_equation;
}
