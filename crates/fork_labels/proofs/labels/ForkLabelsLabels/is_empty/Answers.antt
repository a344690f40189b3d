use Rattle.std.proofs.Common.{◌<◌, ◌≤◌, ◌+◌, length, sym, ap, ◌∙◌, arith}
use Rattle.fork_labels.specs.Sets.{none_in}
use Rattle.fork_labels.proofs.Stands.{stands-empty, none-at_end}
use Rattle.fork_labels.proofs.labels.ForkLabelsLabels.is_empty.Goals as goal

pub returns-then-forks-len : goal.returns-then-forks-len
returns-then-forks-len c = c.is_none.ensures ∙ ap none_in c.at_end.ensures.set ∙ stands-empty c.args.log.now c.at_end.ensures.log c.args.self.now c.at_end.ensures.some

pub returns : goal.returns
returns c =
    let some : 0 < length c.args.self.now = omega (arith, c.self.invariant, ap length c.self.view_is) in
    let under : length c.args.self.now ≤ length c.args.log.now + 1 = omega (arith, c.if-forks-len.false, c.len.ensures.count, ap length c.self.view_is, ap length c.forks.ensures.forks) in
    c.is_none-2.ensures ∙ ap none_in c.self.view_is ∙ sym (none-at_end c.args.log.now c.args.self.now under) ∙ stands-empty c.args.log.now c.forks.ensures.log c.args.self.now some
