use Rattle.std.proofs.Common.{arith, ◌+◌, ℕ, List, drop, length, sym, subst}
use Rattle.kb_term.specs.Signature.{Signature}
use Rattle.kb_term.specs.Tree.{Tree}
use Rattle.kb_term.specs.View.{equations_of_list}
use Rattle.kb_report.specs.Sections.{BeginsWith, IsSectionFault}
use Rattle.kb_report.specs.SystemSections.{CountedEquations, ProblemPart, Symbols}
use Rattle.kb_report.proofs.BothSections.{first_fault, read_both, second_fault}
use Rattle.kb_report.proofs.Reading.{handed_on}
use Rattle.kb_report.proofs.SystemForm.{symbols_section}
use Rattle.kb_report.proofs.SystemParts.{some_counted_equations}
use Rattle.kb_report.proofs.parts.read_problem.Goals as goal

pub returns-in_err-sig-clause-fault : goal.returns-in_err-sig-clause-fault
returns-in_err-sig-clause-fault c =
    let fault = c.in_err-sig.field-0.0 in
    handed_on (IsSectionFault ProblemPart c.args.text.now c.args.first) c.from_residual.result fault c.from_residual.ensures.0 c.from_residual.ensures.1 (first_fault Symbols CountedEquations c.args.text.now c.args.first symbols_section (λ sig xs s. some_counted_equations sig) fault c.in_err-sig.ensures.fault)

pub returns-in_err-equations-clause-fault : goal.returns-in_err-equations-clause-fault
returns-in_err-equations-clause-fault c =
    let fault = c.in_err-equations.field-0.0 in
    handed_on (IsSectionFault ProblemPart c.args.text.now c.args.first) c.from_residual-in_err-equations.result fault c.from_residual-in_err-equations.ensures.0 c.from_residual-in_err-equations.ensures.1
    (second_fault Symbols CountedEquations c.args.text.now c.split_at.result.1.now c.in_ok-sig.sig 1 c.in_ok-sig.line c.args.first (c.args.first + 1) symbols_section c.split_at.ensures.back (omega arith) c.in_ok-sig.ensures.read fault c.in_err-equations.ensures.fault)

pub returns-clause-read : goal.returns-clause-read
returns-clause-read c =
    let text = c.args.text.now in
    let lines = c.in_ok-equations.lines in
    let bytes : ℕ = c.in_ok-sig.line + c.in_ok-equations.size in
    let es = equations_of_list c.in_ok-equations.equations.items in
    let both = read_both Symbols CountedEquations text c.split_at.result.1.now c.in_ok-sig.sig (length es, es) 1 lines (1 + lines) c.in_ok-sig.line c.in_ok-equations.size bytes c.split_at.ensures.back (omega arith) (omega arith) c.in_ok-sig.ensures.read c.in_ok-equations.ensures.read in
    let signature = sym c.new.ensures.signature in
    let equations = sym c.new.ensures.equations in
    subst (λ (p : Signature × (ℕ × List (Tree × Tree))). BeginsWith ProblemPart text p (1 + lines) (drop bytes text)) (λ i. (signature i, (length (equations i), equations i))) both
