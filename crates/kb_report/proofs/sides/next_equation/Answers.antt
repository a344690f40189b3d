use Rattle.std.proofs.Common.{drop}
use Rattle.kb_term.specs.Signature.{IsEquationWithinLimits}
use Rattle.kb_text.specs.Terms.{names_of}
use Rattle.kb_report.specs.SystemSections.{equation_body}
use Rattle.kb_report.proofs.SystemLines.{equation_without}
use Rattle.kb_report.proofs.ReadLines.{no_line_of, other_line}
use Rattle.kb_report.proofs.sides.next_equation.Goals as goal

pub returns-in_default-clause-read : goal.returns-in_default-clause-read
returns-in_default-clause-read c = let sig = c.args.sig.now in no_line_of (IsEquationWithinLimits sig) (equation_body (names_of sig)) c.args.text.now c.in_default.ensures.line

pub returns-in-None-clause-read : goal.returns-in-None-clause-read
returns-in-None-clause-read c =
    let sig = c.args.sig.now in
    other_line (IsEquationWithinLimits sig) (equation_body (names_of sig)) c.args.text.now c.in-Some.line.now (drop c.in-Some.size c.args.text.now) (equation_without sig c.requires.names) c.in-Some.ensures.line (rw c.in-None.is at c.in_ok-equation.ensures)
