use Rattle.mkb_rules.proofs.Listing.{none_listed}
use Rattle.mkb_rules.proofs.marks.Marks.new.Goals as goal

pub invariant_of-result : goal.invariant_of-result
invariant_of-result c = none_listed c.new.result.items c.new-2.result.items c.new.ensures.items c.new-2.ensures.items
