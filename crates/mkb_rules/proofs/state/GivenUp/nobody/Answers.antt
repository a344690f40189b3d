use Rattle.std.proofs.Common.{[]}
use Rattle.mkb_rules.specs.Parts.{given_up}
use Rattle.mkb_rules.proofs.state.GivenUp.nobody.Goals as goal

pub returns : goal.returns
returns c = λ i. given_up (c.new.ensures [] i) (c.new-2.ensures [] i) (c.new-3.ensures [] i) (c.new-4.ensures [] i) (c.new-5.ensures [] i) (c.new-6.ensures [] i)
