use Rattle.std.proofs.Common.{ℕ, sym}
use Rattle.mkb_pick.specs.declared.queue.Entry.{Entry}
use Rattle.mkb_pick.specs.Tasks.{Has}
use Rattle.mkb_pick.specs.Marks.{reducing}
use Rattle.mkb_pick.proofs.Replaced.{found_with, none_with}
use Rattle.mkb_pick.proofs.queue.Queue.is_reducing.Goals as goal

pub returns-in-Some : goal.returns-in-Some
returns-in-Some c =
    let at = c.in-Some.ensures in
    let e : Entry = c.index.result.now in
    let f = λ (w : ℕ). found_with c.args.self.now c.requires c.args.name.now e (c.in-Some.place, (at.0, at.1, sym c.index.ensures)) (λ x. Has x.tasks (reducing c.args.n.0 w)) in
    (λ h. let k = c.is_reducing.ensures.0 h in (k.0, (f k.0).1 k.1), λ h. c.is_reducing.ensures.1 (h.0, (f h.0).0 h.1))

pub returns-in-None : goal.returns-in-None
returns-in-None c = (λ h. absurd (cc), λ h. absurd (none_with c.args.self.now c.args.name.now c.in-None.ensures (λ x. Has x.tasks (reducing c.args.n.0 h.0)) h.1))
