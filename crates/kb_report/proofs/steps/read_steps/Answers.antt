use Rattle.std.proofs.Common.{arith, subst}
use Rattle.kb_text.specs.Fields.{IsTextFault}
use Rattle.kb_text.specs.declared.fault.TextFault.{TextFault}
use Rattle.kb_trace.specs.TraceText.{IsTraceText}
use Rattle.kb_report.proofs.StepsRead.{steps_read, steps_short, bad_step, steps_bad}
use Rattle.kb_report.proofs.steps.read_steps.Goals as goal

pub returns-then-found-count-clause-fault : goal.returns-then-found-count-clause-fault
returns-then-found-count-clause-fault c =
    let r = c.in-Ok.ensures.read in
    steps_short c.args.sig.now c.requires.names c.args.text.now c.split_at.result.0.now c.args.count c.front_of-found.result.0 c.front_of-found.result.1 c.args.first c.in-Ok.trace c.front_of-found.ensures c.split_at.ensures.front r.0 r.1 (omega arith)

pub returns-else-found-count-clause-read : goal.returns-else-found-count-clause-read
returns-else-found-count-clause-read c =
    let r = c.in-Ok.ensures.read in
    steps_read c.args.sig.now c.requires.names c.args.text.now c.split_at.result.0.now c.args.count c.front_of-found.result.0 c.front_of-found.result.1 c.in-Ok.trace c.front_of-found.ensures c.split_at.ensures.front r.0 r.1 (omega arith)

pub overflow_add-result-in-Err-BadText : goal.overflow_add-result-in-Err-BadText
overflow_add-result-in-Err-BadText c =
    let b = bad_step c.args.sig.now c.requires.names c.args.text.now c.split_at.result.0.now c.args.count c.front_of-found.result.0 c.front_of-found.result.1 c.in-Err-BadText.number c.requires.count c.front_of-found.ensures c.split_at.ensures.front (subst {A = TextFault} (IsTextFault (IsTraceText c.args.sig.now) c.split_at.result.0.now) c.in-Err-BadText.field-0-is c.in-Err-BadText.ensures.fault) in
    let f = c.front_of-found.ensures in
    omega (arith, b.few, f.few, c.requires.count, c.requires.first)

pub returns-in-Err-BadText-clause-fault : goal.returns-in-Err-BadText-clause-fault
returns-in-Err-BadText-clause-fault c =
    let f = c.front_of-found.ensures in
    steps_bad c.args.sig.now c.requires.names c.args.text.now c.args.count c.front_of-found.result.0 c.front_of-found.result.1 c.args.first c.in-Err-BadText.number c.requires.count f.few
    (bad_step c.args.sig.now c.requires.names c.args.text.now c.split_at.result.0.now c.args.count c.front_of-found.result.0 c.front_of-found.result.1 c.in-Err-BadText.number c.requires.count f c.split_at.ensures.front (subst {A = TextFault} (IsTextFault (IsTraceText c.args.sig.now) c.split_at.result.0.now) c.in-Err-BadText.field-0-is c.in-Err-BadText.ensures.fault))
