use Rattle.std.proofs.Common.{sym, ap, ◌∙◌}
use Rattle.std.specs.Prelude.{min, ◌^◌, ◌-◌}
use Rattle.mkb_pick.specs.Trees.{count}
use Rattle.mkb_pick.specs.declared.queue.Entry.{Entry}
use Rattle.mkb_pick.proofs.Replaced.{only_entry}
use Rattle.mkb_pick.proofs.queue.Queue.count_of.Goals as goal

pub returns-in-Some : goal.returns-in-Some
returns-in-Some c e h =
    let at = c.in-Some.ensures in
    let d : Entry = c.index.result.now in
    c.count.ensures ∙ ap (λ (x : Entry). min (count x.tasks) (2 ^ 64 - 1)) (sym (only_entry c.args.self.now c.requires.queue c.args.name.now d e (c.in-Some.place, (at.0, at.1, sym c.index.ensures)) h))
