use Rattle.kb_label.proofs.Searched.{search-place}
use Rattle.kb_label.proofs.list_labels.place_of.Goals as goal

pub returns : goal.returns
returns c = search-place c.args.names.now c.args.name.now c.requires c.binary_search.result c.binary_search.ensures.bound c.binary_search.ensures.position
