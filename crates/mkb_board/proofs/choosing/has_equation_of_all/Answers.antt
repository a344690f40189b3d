use Rattle.std.proofs.Common.{◌<◌, length, arith, sym, ◌∙◌}
use Rattle.mkb_model.specs.Plain.{is_equation}
use Rattle.mkb_board.proofs.Picking.{filter_on}
use Rattle.mkb_board.proofs.choosing.has_equation_of_all.Goals as goal

pub loop-n-preserved : goal.loop-n-preserved
loop-n-preserved c =
    let b = c.args.state.now in
    let there : c.loop-n.n < length b.nodes = omega arith in
    c.loop-n.invariant ∙ filter_on (is_equation b c.args.p.now) c.loop-n.n (length b.nodes) there (sym c.is_equation.ensures ∙ c.if-is_equation.false)
