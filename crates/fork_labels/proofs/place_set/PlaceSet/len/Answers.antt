use Rattle.std.proofs.Common.{length, sym, ap, ◌∙◌}
use Rattle.fork_labels.proofs.SetIn.{length-set_in}
use Rattle.fork_labels.proofs.place_set.PlaceSet.len.Goals as goal

pub returns-clause-count : goal.returns-clause-count
returns-clause-count c = sym (length-set_in c.self.inside.words c.self.inside.len) ∙ ap length c.self.view_is
