use Rattle.mkb_pick.proofs.Marked.{told_copied}
use Rattle.mkb_pick.proofs.Tallied.{tally_same}
use Rattle.mkb_pick.proofs.changes.twin_of.Goals as goal

pub returns-clause-sound : goal.returns-clause-sound
returns-clause-sound c =
    let e = c.args.entry.now in
    let now = c.copy_tasks.result in (
      c.copy_tasks.ensures.agenda,
      told_copied e.marks c.copy.result e.tasks now c.copy.ensures c.copy_tasks.ensures.tasks c.requires.sound.1,
      tally_same e.tally e.tasks now c.copy_tasks.ensures.copied c.requires.sound.2,
    )
