use Rattle.std.proofs.Common.{◌<◌, ◌≤◌, List, Bool, false, length, get_or, ap, sym, ◌∙◌, arith}
use Rattle.std.proofs.lemmas.List.{get_or_past}
use Rattle.fork_labels.specs.Places.{at_end}
use Rattle.fork_labels.proofs.Relabelled.{length-at_end}
use Rattle.fork_labels.proofs.Stands.{climb, climbed, fork_below}
use Rattle.fork_labels.proofs.labels.ForkLabels.has_place.Goals as goal

pub returns-then-forks-place-clause-place : goal.returns-then-forks-place-clause-place
returns-then-forks-place-clause-place c =
    let some : 0 < length c.args.self.now = omega (arith, c.self.invariant, ap length c.self.view_is) in
    sym (get_or_past (at_end c.args.forks.now c.args.self.now) c.args.place false (omega (arith, length-at_end c.args.forks.now c.args.self.now some, c.if-forks-place.true)))

pub loop-origin-smaller : goal.loop-origin-smaller
loop-origin-smaller c =
    fork_below c.args.forks.now c.loop-origin.origin c.requires (omega (arith, c.self.invariant, c.len-len.ensures.count, c.loop-origin-test.true)) c.loop-origin.invariant.0

pub loop-origin-preserved : goal.loop-origin-preserved
loop-origin-preserved c =
    let fs = c.args.forks.now in
    let at = c.loop-origin.origin in
    let some : 0 < length c.args.self.now = omega (arith, c.self.invariant, ap length c.self.view_is) in
    let past : length c.args.self.now ≤ at = omega (arith, ap length c.self.view_is, c.len-len.ensures.count, c.loop-origin-test.true) in
    let below = fork_below fs at c.requires (omega (arith, some, past)) c.loop-origin.invariant.0 in
    (omega (arith, below, c.loop-origin.invariant.0), sym (climb fs c.args.self.now at c.requires some past c.loop-origin.invariant.0) ∙ c.loop-origin.invariant.1)

pub returns-clause-place : goal.returns-clause-place
returns-clause-place c =
    let within : c.loop-origin.origin < length c.args.self.now = omega (arith, ap length c.self.view_is, c.len-len.ensures.count, c.loop-origin-test.false) in
    c.has.ensures
    ∙ ap (λ (l : List Bool). get_or l c.loop-origin.origin false) c.self.view_is
    ∙ sym (climbed c.args.forks.now c.args.self.now c.loop-origin.origin within c.loop-origin.invariant.0)
    ∙ c.loop-origin.invariant.1
