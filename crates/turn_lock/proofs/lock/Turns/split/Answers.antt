use Rattle.std.proofs.Common.{rules, ap, sym, ◌∙◌}
use Rattle.turn_lock.proofs.Keeps.{splits}
use Rattle.turn_lock.proofs.lock.Turns.split.Goals as goal

pub split_seat-place-requires : goal.split_seat-place-requires
split_seat-place-requires g c =
    let same = ap (λ x. x.lock) c.seat.view_is ∙ (c.requires.lock.0 ∙ sym (ap (λ x. x.lock) c.self.view_is)) in
    (same, search rules, splits _ _ _ _ _ _ _ _ (ap (λ x. x.view.worker) c.seat.view_is ∙ c.requires.first))
