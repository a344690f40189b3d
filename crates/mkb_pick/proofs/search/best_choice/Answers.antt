use Rattle.std.proofs.Common.{arith, subst}
use Rattle.mkb_pick.specs.Firsts.{IsChoice}
use Rattle.mkb_pick.proofs.search.best_choice.Goals as goal

pub returns : goal.returns
returns c =
    let q = c.args.queue.now in
    subst (λ k. IsChoice q c.args.flight.now k c.loop-place.best) (omega (arith, c.requires.beside, q.entries.ok.0, c.len-place-end.ensures, c.loop-place.auto, c.loop-place-test.false)) c.loop-place.invariant
