use Rattle.std.proofs.Common.{rules, ◌/◌, ◌≤◌, length, ap, sym, ◌∙◌, subst}
use Rattle.turn_lock.proofs.Entries.{half_of, starts_length}
use Rattle.turn_lock.proofs.Keeps.{looks}
use Rattle.turn_lock.proofs.lock.Turns.seen.Goals as goal

pub load-found-requires : goal.load-found-requires
load-found-requires g c =
    let same = ap (λ x. x.lock) c.seat.view_is ∙ (c.requires.lock.0 ∙ sym (ap (λ x. x.lock) c.self.view_is)) in
    (same, search rules, looks _ _ _ _ _ _ _ _ _ c.seat.invariant.1)

pub returns-clause-least : goal.returns-clause-least
returns-clause-least g c =
    let told = c.load-found.ensures.2 in
    subst (λ s. length s.view.seen ≤ c.load-found.result / 2) c.seat.view_is
    (subst (λ n. length c.seat.inside.place.me.0.seen ≤ n) (sym (half_of c.load-found.result (length told.0) told.5)) (starts_length told.0 c.seat.inside.place.me.0.seen told.2))
