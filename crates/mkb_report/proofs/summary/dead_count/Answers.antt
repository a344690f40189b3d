use Rattle.std.proofs.Common.{◌∙◌, ap, arith, true, false, Some}
use Rattle.mkb_report.proofs.Counted.{dead_next, dead_few}
use Rattle.mkb_report.proofs.summary.dead_count.Goals as goal
use Rattle.mkb_report.proofs.summary.dead_count.Goals.{then-is_dead, else-is_dead}

pub overflow_add-count : goal.overflow_add-count
overflow_add-count c = omega (arith, c.loop-i.invariant, dead_few c.args.table.now c.loop-i.i, c.loop-i-test.true, c.len-i-end.ensures.most)

pub loop-i-preserved : goal.loop-i-preserved
loop-i-preserved c =
    let xs = c.args.table.now in
    let log = c.args.log.now in
    let i = c.loop-i.i in
    elim c.if-is_dead.branch [
      | then-is_dead w ↦ omega (arith, w.count-is, c.loop-i.invariant, dead_next xs i log true (c.is_dead.ensures ∙ ap Some w.if-is_dead.true))
      | else-is_dead w ↦ omega (arith, w.count-is, c.loop-i.invariant, dead_next xs i log false (c.is_dead.ensures ∙ ap Some w.if-is_dead.false))
    ]
