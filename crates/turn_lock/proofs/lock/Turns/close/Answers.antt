use Rattle.std.proofs.Common.{◌≡◌, refl, ap, sym, ◌∙◌, subst}
use Rattle.turn_lock.specs.Places.{AllJoined, IsWhole}
use Rattle.turn_lock.proofs.Keeps.{closes}
use mathlib.Core.Option.{some-injective}
use Rattle.std.specs.Option.{IsSome}
use Rattle.std.proofs.lemmas.Option.{same_Some}
use Rattle.turn_lock.proofs.lock.Turns.close.Goals as goal

pub unwrap-value-requires : goal.unwrap-value-requires
unwrap-value-requires g c =
    let one = ap (λ x. x.view.worker) c.seat.view_is ∙ c.requires.first in
    let rests = ap (λ x. x.view.holds) c.seat.view_is ∙ c.requires.rests in
    let end = closes _ _ _ _ _ _ _ _ _ _ one rests (subst AllJoined (sym c.seat.view_is) c.requires.all) c.close_with-closed.ensures.values.2 in
    subst IsSome (sym (some-injective _ _ (sym c.take.ensures.value ∙ end.1))) refl

pub returns-clause-fits : goal.returns-clause-fits
returns-clause-fits g c =
    let one = ap (λ x. x.view.worker) c.seat.view_is ∙ c.requires.first in
    let rests = ap (λ x. x.view.holds) c.seat.view_is ∙ c.requires.rests in
    let end = closes _ _ _ _ _ _ _ _ _ _ one rests (subst AllJoined (sym c.seat.view_is) c.requires.all) c.close_with-closed.ensures.values.2 in
    let same : c.unwrap-value.result ≡ end.0 = same_Some _ _ (sym c.unwrap-value.ensures ∙ some-injective _ _ (sym c.take.ensures.value ∙ end.1)) in
    (ap g.T.Turned.problem same ∙ (end.2.of_problem ∙ ap (λ x. x.problem) c.self.view_is), ap g.T.Turned.budget same ∙ (end.2.of_budget ∙ ap (λ x. x.budget) c.self.view_is))

pub returns-clause-whole : goal.returns-clause-whole
returns-clause-whole g c =
    let one = ap (λ x. x.view.worker) c.seat.view_is ∙ c.requires.first in
    let rests = ap (λ x. x.view.holds) c.seat.view_is ∙ c.requires.rests in
    let end = closes _ _ _ _ _ _ _ _ _ _ one rests (subst AllJoined (sym c.seat.view_is) c.requires.all) c.close_with-closed.ensures.values.2 in
    let same : c.unwrap-value.result ≡ end.0 = same_Some _ _ (sym c.unwrap-value.ensures ∙ some-injective _ _ (sym c.take.ensures.value ∙ end.1)) in
    let e = end.2 in
    subst (λ s. IsWhole g.T.Turned.worker s (g.T.Counted.entries c.unwrap-value.result)) c.seat.view_is
    (subst (λ x. IsWhole g.T.Turned.worker (record { lock = c.seat.inside.place.table_id; view = c.seat.inside.place.me.0 }) (g.T.Counted.entries x)) (sym same)
    (record { first = (e.begins, e.mine); joined = e.joined; numbered = e.numbered }))
