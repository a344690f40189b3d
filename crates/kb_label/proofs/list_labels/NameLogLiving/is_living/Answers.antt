use Rattle.kb_label.proofs.Forked.{leaves-forked}
use Rattle.kb_label.proofs.list_labels.NameLogLiving.is_living.Goals as goal

pub place_of-requires : goal.place_of-requires
place_of-requires c = rw c.as_slice.ensures.value (leaves-forked c.self.inside.names.items c.self.invariant.0).in_order
