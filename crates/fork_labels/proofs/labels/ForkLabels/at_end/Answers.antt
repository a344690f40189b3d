use Rattle.std.proofs.Common.{◌<◌, ◌-◌, length, ap, ◌∙◌, arith}
use Rattle.std.proofs.lemmas.List.{take_rest}
use Rattle.fork_labels.specs.Places.{with_forks}
use Rattle.fork_labels.proofs.Relabelled.{length-at_end}
use Rattle.fork_labels.proofs.Stands.{late, early}
use Rattle.fork_labels.proofs.labels.ForkLabels.at_end.Goals as goal

pub returns-then-forks-len-clause-set : goal.returns-then-forks-len-clause-set
returns-then-forks-len-clause-set c =
    late c.args.log.now c.forks-forks.result.now c.args.self.now c.copy-set.result c.truncate.new.self c.forks-forks.ensures.forks (c.copy-set.ensures ∙ c.self.view_is)
    (omega (arith, c.if-forks-len.true, c.len-len.ensures.count, ap length c.self.view_is)) c.truncate.ensures

pub returns-clause-set : goal.returns-clause-set
returns-clause-set c =
    early c.args.log.now c.forks-forks.result.now c.args.self.now c.copy-set.result c.push_forks.new.set c.len-len.result c.forks-forks.ensures.forks (c.copy-set.ensures ∙ c.self.view_is)
    (c.len-len.ensures.count ∙ ap length c.self.view_is) c.if-forks-len.false
    (c.push_forks.ensures ∙ ap (with_forks c.copy-set.result) (take_rest c.forks-forks.result.now (c.len-len.result - 1)))

pub returns-clause-count : goal.returns-clause-count
returns-clause-count c =
    let some : 0 < length c.args.self.now = omega (arith, c.self.invariant, ap length c.self.view_is) in
    ap length (returns-clause-set c) ∙ length-at_end c.args.log.now c.args.self.now some
