use Rattle.std.proofs.Common.{arith, ◌+◌, ℕ, drop, sym, subst}
use Rattle.kb_report.specs.Sections.{BeginsWith, IsSectionFault, Count}
use Rattle.kb_report.specs.SystemSections.{CountedSteps, Steps}
use Rattle.kb_report.proofs.BothSections.{first_fault, read_both, second_fault}
use Rattle.kb_report.proofs.Reading.{handed_on}
use Rattle.kb_report.proofs.SystemForm.{count_section, trace_without, trace_word}
use Rattle.kb_report.proofs.SystemParts.{some_steps}
use Rattle.kb_report.proofs.parts.read_counted_steps.Goals as goal

pub returns-in_err-count-clause-fault : goal.returns-in_err-count-clause-fault
returns-in_err-count-clause-fault c =
    let sig = c.args.sig.now in
    let fault = c.in_err-count.field-0.0 in
    handed_on (IsSectionFault (CountedSteps sig) c.args.text.now c.args.first) c.from_residual.result fault c.from_residual.ensures.0 c.from_residual.ensures.1 (first_fault (Count trace_word 4096) (Steps sig) c.args.text.now c.args.first (count_section trace_word 4096 (omega arith) trace_without) (λ n xs s. some_steps sig n) fault c.in_err-count.ensures.fault)

pub returns-in_err-trace-clause-fault : goal.returns-in_err-trace-clause-fault
returns-in_err-trace-clause-fault c =
    let sig = c.args.sig.now in
    let fault = c.in_err-trace.field-0.0 in
    handed_on (IsSectionFault (CountedSteps sig) c.args.text.now c.args.first) c.from_residual-in_err-trace.result fault c.from_residual-in_err-trace.ensures.0 c.from_residual-in_err-trace.ensures.1
    (second_fault (Count trace_word 4096) (Steps sig) c.args.text.now c.split_at.result.1.now c.in_ok-count.count 1 c.in_ok-count.line c.args.first (c.args.first + 1) (count_section trace_word 4096 (omega arith) trace_without) c.split_at.ensures.back (omega arith) c.in_ok-count.ensures.read fault c.in_err-trace.ensures.fault)

pub returns-clause-read : goal.returns-clause-read
returns-clause-read c =
    let sig = c.args.sig.now in
    let text = c.args.text.now in
    let count = c.in_ok-count.count in
    let bytes : ℕ = c.in_ok-count.line + c.in_ok-trace.size in
    let value = c.in_ok-trace.trace in
    let both = read_both (Count trace_word 4096) (Steps sig) text c.split_at.result.1.now count value 1 count (1 + count) c.in_ok-count.line c.in_ok-trace.size bytes c.split_at.ensures.back (omega arith) (omega arith) c.in_ok-count.ensures.read c.in_ok-trace.ensures.read in
    subst (λ (n : ℕ). BeginsWith (CountedSteps sig) text (n, value) (1 + count) (drop bytes text)) (sym c.in_ok-trace.ensures.read.section.1) both
