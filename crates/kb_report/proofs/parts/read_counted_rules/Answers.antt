use Rattle.std.proofs.Common.{arith, ◌+◌, ℕ, drop, sym, subst}
use Rattle.kb_report.specs.Sections.{BeginsWith, IsSectionFault, Count}
use Rattle.kb_report.specs.SystemSections.{CountedRules, Rules}
use Rattle.kb_report.proofs.BothSections.{first_fault, read_both, second_fault}
use Rattle.kb_report.proofs.Reading.{handed_on}
use Rattle.kb_report.proofs.SystemForm.{count_section, rules_without, rules_word}
use Rattle.kb_report.proofs.SystemParts.{some_rules}
use Rattle.kb_report.proofs.parts.read_counted_rules.Goals as goal

pub returns-in_err-count-clause-fault : goal.returns-in_err-count-clause-fault
returns-in_err-count-clause-fault c =
    let sig = c.args.sig.now in
    let fault = c.in_err-count.field-0.0 in
    handed_on (IsSectionFault (CountedRules sig) c.args.text.now c.args.first) c.from_residual.result fault c.from_residual.ensures.0 c.from_residual.ensures.1 (first_fault (Count rules_word 4096) (Rules sig) c.args.text.now c.args.first (count_section rules_word 4096 (omega arith) rules_without) (λ n xs s. some_rules sig n) fault c.in_err-count.ensures.fault)

pub returns-in_err-rules-clause-fault : goal.returns-in_err-rules-clause-fault
returns-in_err-rules-clause-fault c =
    let sig = c.args.sig.now in
    let fault = c.in_err-rules.field-0.0 in
    handed_on (IsSectionFault (CountedRules sig) c.args.text.now c.args.first) c.from_residual-in_err-rules.result fault c.from_residual-in_err-rules.ensures.0 c.from_residual-in_err-rules.ensures.1
    (second_fault (Count rules_word 4096) (Rules sig) c.args.text.now c.split_at.result.1.now c.in_ok-count.count 1 c.in_ok-count.line c.args.first (c.args.first + 1) (count_section rules_word 4096 (omega arith) rules_without) c.split_at.ensures.back (omega arith) c.in_ok-count.ensures.read fault c.in_err-rules.ensures.fault)

pub returns-clause-read : goal.returns-clause-read
returns-clause-read c =
    let sig = c.args.sig.now in
    let text = c.args.text.now in
    let count = c.in_ok-count.count in
    let bytes : ℕ = c.in_ok-count.line + c.in_ok-rules.size in
    let value = c.in_ok-rules.rules.items in
    let both = read_both (Count rules_word 4096) (Rules sig) text c.split_at.result.1.now count value 1 count (1 + count) c.in_ok-count.line c.in_ok-rules.size bytes c.split_at.ensures.back (omega arith) (omega arith) c.in_ok-count.ensures.read c.in_ok-rules.ensures.read in
    subst (λ (n : ℕ). BeginsWith (CountedRules sig) text (n, value) (1 + count) (drop bytes text)) (sym c.in_ok-rules.ensures.read.section.1) both
