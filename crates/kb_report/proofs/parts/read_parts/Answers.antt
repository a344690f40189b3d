use Rattle.std.proofs.Common.{arith, ◌+◌, length}
use Rattle.kb_report.specs.Sections.{IsSectionFault}
use Rattle.kb_report.specs.SystemSections.{ConstraintPart, CountedConstraints, CountedRules, CountedSteps, Order, OrderPart, RulePart}
use Rattle.kb_report.proofs.BothSections.{first_fault, read_both, second_fault}
use Rattle.kb_report.proofs.Reading.{handed_on}
use Rattle.kb_report.proofs.SystemForm.{order_section}
use Rattle.kb_report.proofs.SystemParts.{counted_constraints_section, counted_rules_section, some_constraint_part, some_counted_steps, some_order_part}
use Rattle.kb_report.proofs.parts.read_parts.Goals as goal

pub returns-in_err-rules-clause-fault : goal.returns-in_err-rules-clause-fault
returns-in_err-rules-clause-fault c =
    let v = c.args.version in
    let sig = c.args.sig.now in
    let names = c.names_are_identifiers.ensures.kept in
    let text = c.args.text.now in
    let fault = c.in_err-rules.field-0.0 in
    handed_on (IsSectionFault (RulePart v sig) text c.args.first) c.from_residual.result fault c.from_residual.ensures.0 c.from_residual.ensures.1 (first_fault (CountedRules sig) (λ rs. ConstraintPart v sig) text c.args.first (counted_rules_section sig names) (λ rs xs s. some_constraint_part v sig) fault c.in_err-rules.ensures.fault)

pub returns-in_err-constraints-clause-fault : goal.returns-in_err-constraints-clause-fault
returns-in_err-constraints-clause-fault c =
    let v = c.args.version in
    let sig = c.args.sig.now in
    let names = c.names_are_identifiers.ensures.kept in
    let text = c.args.text.now in
    let t1 = c.split_at.result.1.now in
    let rs = c.in_ok-rules.rules.items in
    let at1 = c.args.first + c.in_ok-rules.rule_lines in
    let fault = c.in_err-constraints.field-0.0 in
    let here = first_fault (CountedConstraints v sig) (λ cs. OrderPart sig) t1 at1 (counted_constraints_section v sig names) (λ cs xs s. some_order_part sig) fault c.in_err-constraints.ensures.fault in
    handed_on (IsSectionFault (RulePart v sig) text c.args.first) c.from_residual-in_err-constraints.result fault c.from_residual-in_err-constraints.ensures.0 c.from_residual-in_err-constraints.ensures.1
    (second_fault (CountedRules sig) (λ rs. ConstraintPart v sig) text t1 (length rs, rs) c.in_ok-rules.rule_lines c.in_ok-rules.rule_size c.args.first at1 (counted_rules_section sig names) c.split_at.ensures.back (omega arith) c.in_ok-rules.ensures.read fault here)

pub returns-in_err-cert-clause-fault : goal.returns-in_err-cert-clause-fault
returns-in_err-cert-clause-fault c =
    let v = c.args.version in
    let sig = c.args.sig.now in
    let names = c.names_are_identifiers.ensures.kept in
    let text = c.args.text.now in
    let t1 = c.split_at.result.1.now in
    let rs = c.in_ok-rules.rules.items in
    let at1 = c.args.first + c.in_ok-rules.rule_lines in
    let t2 = c.split_at-2.result.1.now in
    let cs = c.in_ok-constraints.constraints.items in
    let at2 = at1 + c.in_ok-constraints.lines in
    let fault = c.in_err-cert.field-0.0 in
    let here = first_fault (Order sig) (λ cert. CountedSteps sig) t2 at2 (order_section sig names) (λ cert xs s. some_counted_steps sig) fault c.in_err-cert.ensures.fault in
    let behind_rules = second_fault (CountedConstraints v sig) (λ cs. OrderPart sig) t1 t2 (length cs, cs) c.in_ok-constraints.lines c.in_ok-constraints.size at1 at2 (counted_constraints_section v sig names) c.split_at-2.ensures.back (omega arith) c.in_ok-constraints.ensures.read fault here in
    handed_on (IsSectionFault (RulePart v sig) text c.args.first) c.from_residual-in_err-cert.result fault c.from_residual-in_err-cert.ensures.0 c.from_residual-in_err-cert.ensures.1
    (second_fault (CountedRules sig) (λ rs. ConstraintPart v sig) text t1 (length rs, rs) c.in_ok-rules.rule_lines c.in_ok-rules.rule_size c.args.first at1 (counted_rules_section sig names) c.split_at.ensures.back (omega arith) c.in_ok-rules.ensures.read fault behind_rules)

pub returns-in_err-trace-clause-fault : goal.returns-in_err-trace-clause-fault
returns-in_err-trace-clause-fault c =
    let v = c.args.version in
    let sig = c.args.sig.now in
    let names = c.names_are_identifiers.ensures.kept in
    let text = c.args.text.now in
    let t1 = c.split_at.result.1.now in
    let rs = c.in_ok-rules.rules.items in
    let at1 = c.args.first + c.in_ok-rules.rule_lines in
    let t2 = c.split_at-2.result.1.now in
    let cs = c.in_ok-constraints.constraints.items in
    let at2 = at1 + c.in_ok-constraints.lines in
    let fault = c.in_err-trace.field-0.0 in
    let here = second_fault (Order sig) (λ cert. CountedSteps sig) t2 c.split_at-3.result.1.now c.in_ok-cert.cert 1 c.in_ok-cert.line at2 (at2 + 1) (order_section sig names) c.split_at-3.ensures.back (omega arith) c.in_ok-cert.ensures.read fault c.in_err-trace.ensures.fault in
    let behind_rules = second_fault (CountedConstraints v sig) (λ cs. OrderPart sig) t1 t2 (length cs, cs) c.in_ok-constraints.lines c.in_ok-constraints.size at1 at2 (counted_constraints_section v sig names) c.split_at-2.ensures.back (omega arith) c.in_ok-constraints.ensures.read fault here in
    handed_on (IsSectionFault (RulePart v sig) text c.args.first) c.from_residual-in_err-trace.result fault c.from_residual-in_err-trace.ensures.0 c.from_residual-in_err-trace.ensures.1
    (second_fault (CountedRules sig) (λ rs. ConstraintPart v sig) text t1 (length rs, rs) c.in_ok-rules.rule_lines c.in_ok-rules.rule_size c.args.first at1 (counted_rules_section sig names) c.split_at.ensures.back (omega arith) c.in_ok-rules.ensures.read fault behind_rules)

pub returns-clause-read : goal.returns-clause-read
returns-clause-read c =
    let v = c.args.version in
    let sig = c.args.sig.now in
    let text = c.args.text.now in
    let t1 = c.split_at.result.1.now in
    let t2 = c.split_at-2.result.1.now in
    let rs = c.in_ok-rules.rules.items in
    let cs = c.in_ok-constraints.constraints.items in
    let cert = c.in_ok-cert.cert in
    let ts = c.in_ok-trace.trace in
    let rule_lines = c.in_ok-rules.rule_lines in
    let lines = c.in_ok-constraints.lines in
    let step_lines = c.in_ok-trace.step_lines in
    let rule_size = c.in_ok-rules.rule_size in
    let size = c.in_ok-constraints.size in
    let line = c.in_ok-cert.line in
    let step_size = c.in_ok-trace.step_size in
    let order = read_both (Order sig) (λ cert. CountedSteps sig) t2 c.split_at-3.result.1.now cert (length ts, ts) 1 step_lines (1 + step_lines) line step_size (line + step_size) c.split_at-3.ensures.back (omega arith) (omega arith) c.in_ok-cert.ensures.read c.in_ok-trace.ensures.read in
    let constraints = read_both (CountedConstraints v sig) (λ cs. OrderPart sig) t1 t2 (length cs, cs) (cert, (length ts, ts)) lines (1 + step_lines) (lines + (1 + step_lines)) size (line + step_size) (size + (line + step_size)) c.split_at-2.ensures.back (omega arith) (omega arith) c.in_ok-constraints.ensures.read order in
    read_both (CountedRules sig) (λ rs. ConstraintPart v sig) text t1 (length rs, rs) ((length cs, cs), (cert, (length ts, ts))) rule_lines (lines + (1 + step_lines)) (rule_lines + lines + 1 + step_lines) rule_size (size + (line + step_size)) (rule_size + size + line + step_size) c.split_at.ensures.back (omega arith) (omega arith) c.in_ok-rules.ensures.read constraints
