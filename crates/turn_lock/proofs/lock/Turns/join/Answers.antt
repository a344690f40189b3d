use Rattle.std.proofs.Common.{rules, ap, sym, ◌∙◌}
use Rattle.turn_lock.specs.Places.{IsPlace, IsLater, GoesOn, IsSeatOf, Locked, Sitting, sees}
use Rattle.turn_lock.proofs.Keeps.{joins}
use Rattle.turn_lock.proofs.lock.Turns.join.Goals as goal

pub join_seat-requires : goal.join_seat-requires
join_seat-requires g c =
    let turns = ap (λ x. x.lock) c.self.view_is in
    let same = ap (λ x. x.lock) c.seat.view_is ∙ (c.requires.lock.0 ∙ sym turns) in
    let same' = ap (λ x. x.lock) c.other.view_is ∙ (c.requires.other.0 ∙ sym turns) in
    let rests = ap (λ x. x.view.holds) c.other.view_is ∙ c.requires.rests in (
      same,
      same',
      c.other.invariant.4 ∙ ap Rattle.turn_lock.specs.Places.slots_of rests,
      search rules,
      joins _ _ _ _ _ _ _ _ _ _ (ap (λ x. x.view.worker) c.seat.view_is ∙ c.requires.first) c.other.invariant.1 rests,
    )
