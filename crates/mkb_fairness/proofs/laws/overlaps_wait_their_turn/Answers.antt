use Rattle.mkb_fairness.proofs.FewPairs.{few_pairs}
use Rattle.mkb_fairness.proofs.Lighter.{taken_lighter}
use Rattle.mkb_fairness.proofs.Once.{taken_once}
use Rattle.mkb_fairness.proofs.Bounded.{taken_few}
use Rattle.mkb_fairness.proofs.laws.overlaps_wait_their_turn.Goals as goal

pub returns-clause-few : goal.returns-clause-few
returns-clause-few c = few_pairs

pub returns-clause-lighter : goal.returns-clause-lighter
returns-clause-lighter c = taken_lighter

pub returns-clause-once : goal.returns-clause-once
returns-clause-once c = taken_once

pub returns-clause-bounded : goal.returns-clause-bounded
returns-clause-bounded c = λ P n stretch earlier b p a d waits size within. taken_few P n stretch earlier b p a d size within waits
