use Rattle.std.proofs.Common.{rules, ◌*◌, ◌<◌, false, length, Some, ap, sym, ◌∙◌, subst}
use Rattle.turn_lock.specs.Turn.{seeing}
use Rattle.turn_lock.specs.Places.{GoesOn, sees, slots_of}
use Rattle.turn_lock.proofs.Keeps.{releases}
use Rattle.atomic_table.specs.Table.{rest}
use Rattle.turn_lock.proofs.lock.Turns.leave.Goals as goal

pub store-requires : goal.store-requires
store-requires g c =
    let lock = ap (λ x. x.lock) c.self.view_is in
    let same = ap (λ x. x.lock) c.seat.view_is ∙ (c.requires.lock.0 ∙ sym lock) in
    let holds = ap (λ x. x.view.holds) c.seat.view_is ∙ c.requires.turn in
    let of_problem = ap (λ x. x.view.problem) c.seat.view_is ∙ (c.requires.lock.1 ∙ ap Some (sym c.requires.fits.0)) in
    let of_budget = ap (λ x. x.view.budget) c.seat.view_is ∙ (c.requires.lock.2 ∙ sym c.requires.fits.1) in
    let mine = subst (λ s. GoesOn g.T.Turned.worker s (g.T.Counted.entries c.args.value)) (sym c.seat.view_is) c.requires.mine in (
      c.exchange-away.ensures.0 ∙ same,
      search rules,
      releases _ _ _ _ _ _ _ _ _ _ _ _ mine.0 _ c.exchange-away.ensures.3 (ap (λ n. 2 * n) c.count-count.ensures.count) c.seat.invariant.1 holds (of_problem, of_budget) mine.1 mine.2 c.count-count.ensures.few,
    )

pub invariant_of-seat : goal.invariant_of-seat
invariant_of-seat g c =
    let told = c.store.ensures.2 c.args.value (rest c.seat.inside.place.me.1) (ap (λ m. m.1) c.exchange-away.ensures.3) in
    let view = ap (λ m. m.0) told ∙ ap (λ m. seeing m.0 (g.T.Counted.entries c.args.value) false) c.exchange-away.ensures.3 in
    let holds = ap (λ x. x.view.holds) c.seat.view_is ∙ c.requires.turn in
    let slots = ap (λ m. m.1) told ∙ (ap rest c.seat.invariant.4 ∙ ap (λ b. rest (slots_of b)) holds) in (
      ap (λ v. v.worker) view ∙ c.seat.invariant.0,
      subst (λ n. 0 < n) (sym (ap (λ v. v.worker) view)) c.seat.invariant.1,
      ap (λ v. length v.seen) view ∙ sym c.count-count.ensures.count,
      ap (λ v. v.drawn) view ∙ c.seat.invariant.3,
      slots ∙ sym (ap (λ v. slots_of v.holds) view),
    )

pub returns : goal.returns
returns g c =
    let told = c.store.ensures.2 c.args.value (rest c.seat.inside.place.me.1) (ap (λ m. m.1) c.exchange-away.ensures.3) in
    let view = ap (λ m. m.0) told ∙ ap (λ m. seeing m.0 (g.T.Counted.entries c.args.value) false) c.exchange-away.ensures.3 in
    let lock = c.store.ensures.0 ∙ c.exchange-away.ensures.0 in
    record { seat = (λ i. record { lock = lock i; view = view i }) ∙ ap (λ s. sees s (g.T.Counted.entries c.args.value) false) c.seat.view_is }
