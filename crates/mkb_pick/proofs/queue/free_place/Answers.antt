use Rattle.std.specs.Prelude.{Err}
use Rattle.kb_label.specs.NameOrder.{name_cmp-equal}
use Rattle.kb_label.proofs.Searched.{search-absent}
use Rattle.mkb_pick.proofs.queue.free_place.Goals as goal

pub returns-in-Ok-clause-added : goal.returns-in-Ok-clause-added
returns-in-Ok-clause-added c = absurd (c.requires.free (c.in-Ok.place, c.in-Ok.ensures.bound, name_cmp-equal _ _ (c.in-Ok.ensures.ok c.args.name.now)))

pub returns-in-Err-clause-added : goal.returns-in-Err-clause-added
returns-in-Err-clause-added c = search-absent c.args.names.now c.args.name.now c.requires.in_order (Err c.in-Err.place) c.in-Err.ensures.bound c.in-Err.ensures.position
