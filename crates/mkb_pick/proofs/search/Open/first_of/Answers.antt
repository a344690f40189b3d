use Rattle.std.proofs.Common.{arith}
use Rattle.mkb_pick.specs.Runs.{Holds, IsFilled, Precedes}
use Rattle.mkb_pick.specs.Firsts.{IsOffer}
use Rattle.mkb_pick.proofs.Rising.{first_found, none_found}
use Rattle.mkb_pick.proofs.search.Open.first_of.Goals as goal

pub returns-then-has : goal.returns-then-has
unfolding Holds IsFilled Precedes
returns-then-has c =
    let open' = c.args.self.now in
    first_found (IsOffer open'.flight.now open'.process.now open'.low open'.high) c.as_slice-keys.result.now c.args.run.now.keys.items c.as_slice-keys.ensures.value c.requires.0 c.loop-key.key-index (omega arith) c.loop-key.invariant (c.has.ensures.0 c.if-has.true)

pub returns : goal.returns
unfolding Holds IsFilled Precedes
returns c =
    let open' = c.args.self.now in
    none_found (IsOffer open'.flight.now open'.process.now open'.low open'.high) c.as_slice-keys.result.now c.args.run.now.keys.items c.as_slice-keys.ensures.value c.loop-key.key-index (omega arith) c.loop-key.invariant
