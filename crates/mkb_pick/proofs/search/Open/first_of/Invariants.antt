use Rattle.mkb_pick.specs.Firsts.{IsOffer}
use Rattle.mkb_pick.proofs.Rising.{NoneBefore}
use Rattle.mkb_pick.proofs.search.Open.first_of.Given as goal

-- none so far is looked for
abbrev pub invariant-loop-key : goal.invariant-loop-key
invariant-loop-key l = NoneBefore (IsOffer l.self.flight.now l.self.process.now l.self.low l.self.high) l.keys l.key-index
