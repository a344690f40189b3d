use Rattle.kb_label.proofs.Sets.{same_names}
use Rattle.kb_label.proofs.laws.ordered_names_are_told_by_members.Goals as goal

pub returns : goal.returns
returns c = same_names
