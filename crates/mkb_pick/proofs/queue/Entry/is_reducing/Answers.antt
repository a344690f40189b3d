use Rattle.mkb_pick.proofs.Marked.{reducing_key}
use Rattle.mkb_pick.proofs.queue.Entry.is_reducing.Goals as goal

pub returns-in-Unknown : goal.returns-in-Unknown
returns-in-Unknown c =
    let there = reducing_key c.args.self.now.tasks c.args.n in
    (λ h. there.0 (c.has_reducing.ensures.0 h), λ h. c.has_reducing.ensures.1 (there.1 h))
