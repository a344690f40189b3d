use Rattle.std.proofs.Common.{◌+◌, drop, refl, Some, ◌∙◌}
use Rattle.mkb_board.specs.Working.{processes_in}
use Rattle.mkb_board.proofs.Placing.{names_from}
use Rattle.mkb_board.proofs.Sleepers.{greater_taken, turned_cmp, IsStep}
use Rattle.mkb_board.proofs.settling.greatest_working.Goals as goal

pub loop-i-preserved : goal.loop-i-preserved
loop-i-preserved c =
    let b = c.args.state.now in
    let l = c.args.working.now in
    let it = c.index-working-i.result in
    let left = drop c.loop-i.i (processes_in l) in
    let others = drop (c.loop-i.i + 1) (processes_in l) in
    let step : IsStep b (turned_cmp b) left others c.loop-i.best (Some c.greater.result) =
    greater_taken b it.process left others (names_from l c.loop-i.i it c.loop-i-test.true c.index-working-i.is) c.loop-i.best (Some c.greater.result) c.with_cost.result c.greater.result c.loop-i.invariant.priced c.with_cost.ensures.cost c.with_cost.ensures.process c.greater.ensures refl in
    record { pick = step.pick ∙ c.loop-i.invariant.pick; priced = step.priced }
