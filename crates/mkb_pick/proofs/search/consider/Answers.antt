use Rattle.std.proofs.Common.{rules, ℕ, ◌≡◌, ◌∙◌, ◌<◌, ◌≤◌, ◌↔◌, inl, inr, refl, sym, true, false}
use Rattle.std.specs.Prelude.{MatchOption, Option, Some, None, IsTrue}
use Rattle.std.proofs.lemmas.Bool.{cases_lt}
use Rattle.mkb_pick.specs.declared.search.Choice.{Choice}
use Rattle.mkb_pick.specs.declared.queue.Entry.{Entry}
use Rattle.mkb_pick.proofs.Seats.{item_at}
use Rattle.mkb_pick.proofs.Firsts.{choice_stays, choice_made}
use Rattle.mkb_pick.proofs.search.consider.Goals as goal

-- what is not cheaper costs as much as the choice, or more
dearer : (best : Option Choice) (cost : ℕ) → MatchOption best (IsTrue false) (λ c. IsTrue false ↔ (cost < c.cost)) → MatchOption best ⊥ (λ c. c.cost ≤ cost)
dearer None cost h = absurd (cc)
dearer (Some c) cost h =
    elim (cases_lt cost c.cost) [
      | inl b ↦ let t = h.1 b in absurd (cc)
      | inr b ↦ b
    ]

-- what is cheaper costs less than the choice
cheaper : (best : Option Choice) (cost : ℕ) → MatchOption best (IsTrue true) (λ c. IsTrue true ↔ (cost < c.cost)) → MatchOption best Unit (λ c. cost < c.cost)
cheaper None cost h = tt
cheaper (Some c) cost h = h.0 refl

pub returns-then-entry : goal.returns-then-entry
returns-then-entry c =
    let q = c.args.queue.now in
    let n = item_at q.names.items c.args.place c.requires.within in
    let e : Entry = c.index-entry.result.now in
    choice_stays q c.requires.queue c.args.flight.now c.args.place n.0 e (c.requires.within, n.1, sym c.index-entry.ensures) c.args.best.now c.requires.so_far (λ r. let t : true ≡ false = sym c.if-entry.true ∙ r.0 in absurd (cc))

pub returns-then-not-is_cheaper : goal.returns-then-not-is_cheaper
returns-then-not-is_cheaper c =
    let q = c.args.queue.now in
    let n = item_at q.names.items c.args.place c.requires.within in
    let e : Entry = c.index-entry.result.now in
    choice_stays q c.requires.queue c.args.flight.now c.args.place n.0 e (c.requires.within, n.1, sym c.index-entry.ensures) c.args.best.now c.requires.so_far (λ r. dearer c.args.best.now e.cost c.if-not-is_cheaper.ensures)

pub returns-in_default : goal.returns-in_default
returns-in_default c =
    let q = c.args.queue.now in
    let n = c.index.result.now in
    let e : Entry = c.index-entry.result.now in
    choice_stays q c.requires.queue c.args.flight.now c.args.place n e (c.requires.within, sym c.index.ensures, sym c.index-entry.ensures) c.args.best.now c.requires.so_far (λ r. absurd (c.in_default.ensures r.1.0 r.1.1 r.1.2))

pub returns : goal.returns
returns c =
    let q = c.args.queue.now in
    let n = c.index.result.now in
    let e : Entry = c.index-entry.result.now in
    let awake : e.resting ≡ false = search rules in
    choice_made q c.requires.queue c.args.flight.now c.args.place n e (c.requires.within, sym c.index.ensures, sym c.index-entry.ensures) c.args.best.now c.requires.so_far (cheaper c.args.best.now e.cost c.if-not-is_cheaper.ensures) awake c.in-Some.task c.in-Some.ensures
