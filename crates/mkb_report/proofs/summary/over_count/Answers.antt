use Rattle.std.proofs.Common.{◌∙◌, sym, arith, true, false}
use Rattle.mkb_model.specs.Plain.{is_over}
use Rattle.mkb_report.proofs.Counted.{counted_next, few_counted}
use Rattle.mkb_report.proofs.summary.over_count.Goals as goal
use Rattle.mkb_report.proofs.summary.over_count.Goals.{then-is_over, else-is_over}

pub overflow_add-count : goal.overflow_add-count
overflow_add-count c = omega (arith, c.loop-i.invariant, few_counted (is_over c.args.state.now) c.processes-processes.result.now c.loop-i.i, c.loop-i-test.true)

pub loop-i-preserved : goal.loop-i-preserved
loop-i-preserved c =
    let F = is_over c.args.state.now in
    let ps = c.processes-processes.result.now in
    let p = c.index-processes-i.result in
    let i = c.loop-i.i in
    elim c.if-is_over.branch [
      | then-is_over w ↦ omega (arith, w.count-is, c.loop-i.invariant, counted_next F ps i p true c.loop-i-test.true c.index-processes-i.is (sym c.is_over.ensures ∙ w.if-is_over.true))
      | else-is_over w ↦ omega (arith, w.count-is, c.loop-i.invariant, counted_next F ps i p false c.loop-i-test.true c.index-processes-i.is (sym c.is_over.ensures ∙ w.if-is_over.false))
    ]
