-- The room of a journal: only a take needs more.
use Rattle.std.proofs.Common.{ℕ, ◌+◌, ◌≤◌, ◌≡◌, ◌∙◌, refl, ap, arith, List, [], ◌∷◌, ◌++◌, length, length-append, filter, Contains, Bool, true, false, ◌||◌}
use Rattle.std.specs.Prelude.{Result, Ok, Err, IfOk, OnErr, if◌then◌else◌}
use Rattle.mkb_model.specs.Plain.{Plain}
use Rattle.mkb_model.specs.Effects.{effect, effect_entry}
use Rattle.mkb_model.specs.Journals.{is_halt, landed}
use Rattle.mkb_model.specs.declared.proposed.Proposed.{Proposed}
use Rattle.mkb_model.specs.declared.entry.Ticket.{Ticket}
use Rattle.mkb_model.specs.declared.entry.Entry.{Entry}
use Rattle.mkb_model.specs.declared.entry.Entry.TheVariants.{Commit, Drop, Abandon, Halt}
use Rattle.mkb_model.proofs.tickets.NoClash.{effect_flight}
use Rattle.mkb_board.specs.Boards.{Seen, IsLegalBoard, has_halt}
use Rattle.mkb_board.specs.Takes.{IsTakenBy, IsFinishedBy, take_entry}
use Rattle.mkb_board.specs.declared.answers.Taken.{Taken}
use Rattle.mkb_board.specs.declared.answers.Taken.TheVariants.{Job as TakenJob, Idle, Over, Halted}
use Rattle.mkb_board.specs.declared.answers.Finished.{Finished}
use Rattle.mkb_board.specs.declared.answers.Finished.TheVariants.{Ended, Dropped, Committed}
use Rattle.mkb_board.proofs.Growing.{halts_more, loses_one, is_other, not_other, owed_fewer}
use Rattle.work_crew.specs.Room.{room_of}
use Rattle.work_crew.specs.Together.{halted}
use Rattle.work_crew.proofs.Turns.{opened}

same_room : (old new : Seen) → new ≡ old → room_of new ≡ room_of old
same_room old new e = ap room_of e

-- before any entry there is room for a halt
pub room_opened : (s : Seen) → IsLegalBoard s → s.journal ≡ [] → room_of s ≤ 1
room_opened s legal e =
    let flight : length s.plain.flight ≡ 0 = ap length (opened s legal e).grounded in
    let journal : length s.journal ≡ 0 = ap length e in
    let halts : has_halt s.journal ≡ false = ap has_halt e in
    rw halts (omega (arith, flight, journal))

-- a take needs room for its entry and for the end of the ticket
pub room_taken : (old new : Seen) (w : ℕ) (a : Taken) → IsTakenBy old new w a → room_of new ≤ room_of old + 2
room_taken old new w (TakenJob t s) h =
    let flight : length new.plain.flight ≡ length old.plain.flight + 1 = ap (λ (z : Plain). length z.flight) h.flies ∙ length-append old.plain.flight (t ∷ []) in
    let journal : length new.journal ≡ length old.journal + 1 = ap length h.entered ∙ length-append old.journal (take_entry t ∷ []) in
    let before : has_halt old.journal ≡ false = h.no_halt in
    let after : has_halt new.journal ≡ false = ap has_halt h.entered ∙ halts_more old.journal (take_entry t) ∙ ap (λ z. z || false) before in
    rw (before, after) (omega (arith, flight, journal))
room_taken old new w (Idle n) h = omega (arith, same_room old new h.0)
room_taken old new w (Over v) h = omega (arith, same_room old new h.0)
room_taken old new w Halted h = omega (arith, same_room old new h.0)

same_halts : (J : List Entry) (e : Entry) → is_halt e ≡ false → has_halt (J ++ e ∷ []) ≡ has_halt J
same_halts J e h = halts_more J e ∙ ap (λ z. has_halt J || z) h ∙ go (has_halt J)
  where
    go : (b : Bool) → (b || false) ≡ b
    go true = refl
    go false = refl

-- the entry that ends a ticket has its room already
pub room_landed : (old new : Seen) (e : Entry) (t : Ticket) (c : Plain) → Contains old.plain.flight t → is_halt e ≡ false → c.flight ≡ old.plain.flight → new.plain ≡ landed t.number c → new.journal ≡ old.journal ++ e ∷ [] → room_of new ≤ room_of old
room_landed old new e t c i other same lands entered =
    let fewer = loses_one (is_other t.number) old.plain.flight t i (not_other t t.number refl) in
    let flight : length new.plain.flight ≡ length (filter (is_other t.number) old.plain.flight) = ap (λ (z : Plain). length z.flight) lands ∙ ap (λ (ts : List Ticket). length (filter (is_other t.number) ts)) same in
    let journal : length new.journal ≡ length old.journal + 1 = ap length entered ∙ length-append old.journal (e ∷ []) in
    let halts : has_halt new.journal ≡ has_halt old.journal = ap has_halt entered ∙ same_halts old.journal e other in
    let less = owed_fewer (length new.plain.flight) (length old.plain.flight) (has_halt old.journal) (omega (arith, fewer, flight)) in
    rw halts (omega (arith, journal, less))

room_finished : (old new : Seen) (t : Ticket) (x : Proposed) (f : Finished) → Contains old.plain.flight t → IsFinishedBy old new t x f → room_of new ≤ room_of old
room_finished old new t x (Ended v) i h = omega (arith, same_room old new h.0)
room_finished old new t x (Dropped p) i h = room_landed old new (Drop t.worker t.number p) t old.plain i refl refl h.3 h.4
room_finished old new t x (Committed a) i h = room_landed old new (Commit t.worker t.number (effect_entry old.plain x)) t (effect old.plain x) i refl (effect_flight old.plain x) h.3 h.4

-- and so has a halt
pub room_halted : (old new : Seen) → new.plain ≡ old.plain → new.journal ≡ halted old.journal → room_of new ≤ room_of old
room_halted old new p h = go (has_halt old.journal) refl h
  where
    flight : length new.plain.flight ≡ length old.plain.flight
    flight = ap (λ (z : Plain). length z.flight) p

    go : (b : Bool) → has_halt old.journal ≡ b → new.journal ≡ (if b then old.journal else old.journal ++ Halt ∷ []) → room_of new ≤ room_of old
    go true q e =
        let halts : has_halt new.journal ≡ true = ap has_halt e ∙ q in
        let journal : length new.journal ≡ length old.journal = ap length e in
        rw (q, halts) (omega (arith, journal, flight))
    go false q e =
        let halts : has_halt new.journal ≡ true = ap has_halt e ∙ halts_more old.journal Halt ∙ ap (λ z. z || true) q in
        let journal : length new.journal ≡ length old.journal + 1 = ap length e ∙ length-append old.journal (Halt ∷ []) in
        rw (q, halts) (omega (arith, journal, flight))

-- a finish needs no room, whatever its answer
pub room_ended : (old new : Seen) (t : Ticket) (x : Proposed) (r : Result Finished (Ticket × Proposed)) → Contains old.plain.flight t → IfOk r (IsFinishedBy old new t x) → OnErr r (new ≡ old) → room_of new ≤ room_of old
room_ended old new t x (Ok f) i ok err = room_finished old new t x f i ok
room_ended old new t x (Err e) i ok err = omega (arith, same_room old new err)

-- nor does giving a ticket back
pub room_given_back : (old mid new : Seen) (t : Ticket) → Contains old.plain.flight t → mid.plain ≡ landed t.number old.plain → mid.journal ≡ old.journal ++ Abandon t.worker t.number ∷ [] → new.plain ≡ mid.plain → new.journal ≡ halted mid.journal → room_of new ≤ room_of old
room_given_back old mid new t i lands entered p h = omega (arith, room_landed old mid (Abandon t.worker t.number) t old.plain i refl refl lands entered, room_halted mid new p h)
