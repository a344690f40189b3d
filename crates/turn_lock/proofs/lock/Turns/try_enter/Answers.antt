use Rattle.std.proofs.Common.{rules, ◌∷◌, Some, refl, ap, sym, ◌∙◌}
use Rattle.turn_lock.proofs.Keeps.{tries}
use Rattle.atomic_table.specs.Table.{rest}
use Rattle.turn_lock.proofs.lock.Turns.try_enter.Goals as goal

pub compare_exchange-found-requires : goal.compare_exchange-found-requires
compare_exchange-found-requires g c =
    let same = ap (λ x. x.lock) c.seat.view_is ∙ (c.requires.lock.0 ∙ sym (ap (λ x. x.lock) c.self.view_is)) in
    (same, search rules, tries _ _ _ _ _ _ _ _ _ _ _ (search rules) refl c.seat.invariant.1)

pub exchange-requires : goal.exchange-requires
exchange-requires g c =
    let same = ap (λ x. x.lock) c.seat.view_is ∙ (c.requires.lock.0 ∙ sym (ap (λ x. x.lock) c.self.view_is)) in
    let hit = c.compare_exchange-found.ensures.2.0 c.if-found-free.false in
    (c.compare_exchange-found.ensures.0 ∙ same, (Some hit.0, ap (λ m. m.1) hit.1 ∙ ap (λ m. (0, Some hit.0) ∷ rest m.1) (sym hit.1)))
