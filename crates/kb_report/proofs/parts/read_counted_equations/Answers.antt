use Rattle.std.proofs.Common.{arith, ◌+◌, ℕ, drop, sym, subst}
use Rattle.kb_term.specs.View.{equations_of_list}
use Rattle.kb_report.specs.Sections.{BeginsWith, IsSectionFault, Count}
use Rattle.kb_report.specs.SystemSections.{CountedEquations, Equations}
use Rattle.kb_report.proofs.BothSections.{first_fault, read_both, second_fault}
use Rattle.kb_report.proofs.Reading.{handed_on}
use Rattle.kb_report.proofs.SystemForm.{count_section, equations_without, equations_word}
use Rattle.kb_report.proofs.SystemParts.{some_equations}
use Rattle.kb_report.proofs.parts.read_counted_equations.Goals as goal

pub returns-in_err-count-clause-fault : goal.returns-in_err-count-clause-fault
returns-in_err-count-clause-fault c =
    let sig = c.args.sig.now in
    let fault = c.in_err-count.field-0.0 in
    handed_on (IsSectionFault (CountedEquations sig) c.args.text.now c.args.first) c.from_residual.result fault c.from_residual.ensures.0 c.from_residual.ensures.1 (first_fault (Count equations_word 256) (Equations sig) c.args.text.now c.args.first (count_section equations_word 256 (omega arith) equations_without) (λ n xs s. some_equations sig n) fault c.in_err-count.ensures.fault)

pub returns-in_err-equations-clause-fault : goal.returns-in_err-equations-clause-fault
returns-in_err-equations-clause-fault c =
    let sig = c.args.sig.now in
    let fault = c.in_err-equations.field-0.0 in
    handed_on (IsSectionFault (CountedEquations sig) c.args.text.now c.args.first) c.from_residual-in_err-equations.result fault c.from_residual-in_err-equations.ensures.0 c.from_residual-in_err-equations.ensures.1
    (second_fault (Count equations_word 256) (Equations sig) c.args.text.now c.split_at.result.1.now c.in_ok-count.count 1 c.in_ok-count.line c.args.first (c.args.first + 1) (count_section equations_word 256 (omega arith) equations_without) c.split_at.ensures.back (omega arith) c.in_ok-count.ensures.read fault c.in_err-equations.ensures.fault)

pub returns-clause-read : goal.returns-clause-read
returns-clause-read c =
    let sig = c.args.sig.now in
    let text = c.args.text.now in
    let count = c.in_ok-count.count in
    let bytes : ℕ = c.in_ok-count.line + c.in_ok-equations.size in
    let value = equations_of_list c.in_ok-equations.equations.items in
    let both = read_both (Count equations_word 256) (Equations sig) text c.split_at.result.1.now count value 1 count (1 + count) c.in_ok-count.line c.in_ok-equations.size bytes c.split_at.ensures.back (omega arith) (omega arith) c.in_ok-count.ensures.read c.in_ok-equations.ensures.read in
    subst (λ (n : ℕ). BeginsWith (CountedEquations sig) text (n, value) (1 + count) (drop bytes text)) (sym c.in_ok-equations.ensures.read.section.1) both
