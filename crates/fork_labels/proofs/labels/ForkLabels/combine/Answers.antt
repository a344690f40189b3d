use Rattle.std.proofs.Common.{length, ap, sym, ◌∙◌, arith}
use Rattle.fork_labels.proofs.SetIn.{length-result_of}
use Rattle.fork_labels.proofs.labels.ForkLabels.combine.Goals as goal

pub invariant_of-self : goal.invariant_of-self
invariant_of-self c =
    let long = length-result_of c.args.op c.at_end-places.result c.at_end.result (c.at_end-places.ensures.count ∙ sym c.at_end.ensures.count) in
    omega (arith, ap length c.combine.ensures, long, c.at_end-places.ensures.count)

pub returns-clause-under : goal.returns-clause-under
returns-clause-under c =
    let long = length-result_of c.args.op c.at_end-places.result c.at_end.result (c.at_end-places.ensures.count ∙ sym c.at_end.ensures.count) in
    (omega (arith, ap length c.combine.ensures, long, c.at_end-places.ensures.count), omega (arith, ap length c.combine.ensures, long, c.at_end-places.ensures.count))
