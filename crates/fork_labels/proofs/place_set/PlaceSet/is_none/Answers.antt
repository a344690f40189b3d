use Rattle.std.proofs.Common.{sym, ap, ◌∙◌, arith}
use Rattle.fork_labels.specs.Sets.{none_in}
use Rattle.fork_labels.proofs.Clear.{none_of_words, some_of_bit}
use Rattle.fork_labels.proofs.place_set.PlaceSet.is_none.Goals as goal

pub returns-then-has_bit : goal.returns-then-has_bit
returns-then-has_bit c =
    sym (some_of_bit c.self.inside.words c.self.inside.len c.loop-k.k c.loop-k-test.true c.self.invariant.1 (c.has_bit.ensures.some c.if-has_bit.true)) ∙ ap none_in c.self.view_is

pub returns : goal.returns
returns c =
    sym (none_of_words c.self.inside.words c.self.inside.len c.self.invariant.0 (λ k h. c.loop-k.invariant k (omega (arith, h, c.loop-k-test.false)))) ∙ ap none_in c.self.view_is
