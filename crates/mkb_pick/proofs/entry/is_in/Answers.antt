use Rattle.mkb_pick.specs.Tasks.{IsAgenda}
use Rattle.mkb_pick.proofs.Tasks.{key_there}
use Rattle.mkb_pick.proofs.entry.is_in.Goals as goal

pub returns : goal.returns
unfolding IsAgenda
returns c =
    let there = key_there c.args.tasks.now c.requires c.args.task.now c.key.result c.key.ensures in
    (λ h. there.0 (c.has.ensures.0 h), λ h. c.has.ensures.1 (there.1 h))
