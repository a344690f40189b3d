-- A round, step by step.
use Rattle.std.proofs.Common.{ℕ, zero, suc, ◌+◌, ◌<◌, ◌≤◌, ◌≡◌, ◌≢◌, refl, sym, ap, ap₂, ◌∙◌, subst, arith, All, List, [], ◌∷◌, ◌++◌, Contains, length, map, filter, drop, get_or, not, ◌==◌, ◌&&◌, ◌||◌, Bool, true, false, Option, Some, None, Ok, Err, ◌⊎◌, ⊎_elim}
use Rattle.std.specs.Prelude.{IsSome, IsTrue, IsFalse, IfOk, OnOk, OnErr, Result, is_err, nat_lt, slice_get, if◌then◌else◌}
use Rattle.std.specs.Option.{option_map_or}
use Rattle.std.proofs.Math.Seq.{drop-cons}
use Rattle.std.proofs.lemmas.List.{length-map, map-append}
use Rattle.std.proofs.lemmas.List.Elements.{All-append, Contains-get_or}
use Rattle.std.proofs.lemmas.Option.{slice_get-get_or}
use Rattle.std.proofs.lemmas.Bool.{lt-ltb, le-ltb}
use Rattle.std.proofs.Math.Bool.{or-true}
use Rattle.kb_lemmas.proofs.Membership.{contains_first, all_none, all_one, all_rest}
use Rattle.kb_lemmas.proofs.Options.{none_some}
use Rattle.kb_node.specs.declared.job.Job.{Job}
use Rattle.kb_jobs.specs.declared.working.Snapshot.{Snapshot}
use Rattle.kb_jobs.specs.Working.{IsReadable, ProposesBy}
use Rattle.mkb_model.specs.Plain.{Plain}
use Rattle.mkb_model.specs.DueJobs.{first_job}
use Rattle.mkb_model.specs.Effects.{effect, effect_entry}
use Rattle.mkb_model.specs.Sleeping.{no_members}
use Rattle.mkb_model.specs.Verdicts.{verdict}
use Rattle.mkb_model.specs.Journals.{Move, takes, ends, move_of, is_take, tickets, Follows, IsFinishing, IsFirstJob, landed}
use Rattle.mkb_model.specs.declared.proposed.Proposed.{Proposed}
use Rattle.mkb_model.specs.declared.entry.Ticket.{Ticket}
use Rattle.mkb_model.specs.declared.entry.Entry.{Entry}
use Rattle.mkb_model.specs.declared.entry.Entry.TheVariants.{Take, Commit, Drop, Abandon}
use Rattle.mkb_model.proofs.tickets.NoClash.{effect_flight}
use Rattle.mkb_model.proofs.labels.LivingNames.{effect_setting, flight_numbered}
use Rattle.mkb_board.specs.Boards.{Seen, IsLegalBoard, has_halt, takes_in}
use Rattle.mkb_board.specs.Held.{IsHeld}
use Rattle.mkb_board.specs.Takes.{TakesJob, IsTakenBy, IsFinishedBy, take_entry}
use Rattle.mkb_board.specs.declared.answers.Taken.TheVariants.{Job as TakenJob}
use Rattle.mkb_board.specs.declared.answers.Finished.{Finished}
use Rattle.mkb_board.specs.declared.answers.Finished.TheVariants.{Ended, Dropped, Committed}
use Rattle.mkb_board.proofs.Ends.{finishing}
use Rattle.mkb_board.proofs.Growing.{takes_of, halts_of}
use Rattle.mkb_board.proofs.Held.{held_taken, held_after_take, held_after_finish, held_proposes}
use Rattle.work_crew.specs.Alone.{IsSameRun}
use Rattle.work_crew.specs.Together.{IsEnded}
use Rattle.work_crew.specs.declared.shared.Assignment.{Assignment}
use Rattle.kb_io.specs.declared.gate.Moment.{Moment}
use Rattle.mkb_rounds.specs.Rounds.{first_number, is_taking, newest_is_take, next_job, max_tickets, round_move}
use Rattle.mkb_rounds.specs.Playing.{AreInHand, IsBetweenRounds, IsByRounds, IsEndingRound, IsLeftWith, IsTakingRound, tickets_of}
use Rattle.mkb_rounds.specs.Outcomes.{AreReadable, AreRight}
use Rattle.mkb_rounds.specs.declared.stealing.Outcome.{Outcome}
use Rattle.mkb_rounds.proofs.Lists.{if_both, if_first_off, if_second_off, if_same, all_in, all_first, all_map, Differ, differ_first, lands_first}
use Rattle.mkb_rounds.proofs.Going.{legal_by, legal_grown, one_more, not_halted}

-- ---- taking

none_in_hand : (s : Seen) → s.plain.flight ≡ [] → AreInHand s []
none_in_hand s e = record { flight = e; held = all_none (λ (a : Assignment). IsHeld s a.ticket a.snapshot) }

-- a round begins
pub begins : (s : Seen) → IsBetweenRounds s → verdict s.plain ≡ None → IsTakingRound s []
begins s h v =
    let e = h.grounded v in
    record {
      so_far = h.so_far;
      undecided = v;
      unhalted = not_halted s h.so_far;
      taking = ap (λ (z : List Ticket). no_members z || newest_is_take h.so_far.moments) e;
      in_hand = none_in_hand s e;
    }

same_taken : (old new : Seen) (w : ℕ) (t : Ticket) (snapshot : Snapshot) → TakesJob old new w t snapshot → IsSameRun old new
same_taken old new w t snapshot h = record { problem = ap (λ (z : Plain). z.problem) h.flies; settings = ap (λ (z : Plain). z.settings) h.flies }

module _ (old new : Seen) (round : List Assignment) (t : Ticket) (snapshot : Snapshot) (m : Moment) (h : IsTakingRound old round) (takes_it : TakesJob old new 1 t snapshot) (few : length round < 8) where
  few_flying : length old.plain.flight < 8
  few_flying = let e = ap length h.in_hand.flight ∙ length-map round (λ (a : Assignment). a.ticket) in omega (arith, e, few)

  next : next_job h.so_far.moments old.plain ≡ Some t.job
  next = if_both (is_taking h.so_far.moments old.plain) (nat_lt (length old.plain.flight) max_tickets) (first_job old.plain) None h.taking (lt-ltb (length old.plain.flight) 8 few_flying) ∙ takes_it.first

  number : t.number ≡ tickets h.so_far.moments + 1
  number = takes_it.number_is ∙ ap (λ (z : ℕ). z + 1) (sym (takes_of h.so_far.moments ∙ ap takes_in h.so_far.journal))

  move : move_of (take_entry t) ≡ round_move h.so_far.moments old.plain
  move = ap₂ (λ (w n : ℕ). takes w n t.job) takes_it.worker_is number ∙ ap (λ (o : Option Job). option_map_or (takes 1 (tickets h.so_far.moments + 1)) o (ends (first_number old.plain.flight))) (sym next)

  follows : Follows IsFirstJob h.so_far.moments old.plain (take_entry t) new.plain
  follows = record {
    no_verdict = takes_it.no_verdict;
    no_halt = halts_of h.so_far.moments ∙ ap has_halt h.so_far.journal ∙ takes_it.no_halt;
    worker_least = omega (arith, takes_it.worker_is);
    worker_most = omega (arith, takes_it.worker_is);
    next_number = number;
    picked = takes_it.first;
    leads_to = takes_it.flies;
  }

  abbrev one_take : IsByRounds new
  one_take = one_more old new (take_entry t) h.so_far follows (same_taken old new 1 t snapshot takes_it) takes_it.entered move

  -- a round takes one ticket more
  pub takes_more : IsTakingRound new (round ++ record { ticket = t; snapshot = snapshot; moment = m } ∷ [])
  takes_more = record {
    so_far = one_take;
    unhalted = not_halted new one_take;
    undecided = subst {A = Plain} (λ (z : Plain). verdict z ≡ None) (sym takes_it.flies) takes_it.no_verdict;
    taking = or-true (no_members new.plain.flight);
    in_hand = record {
      flight = ap (λ (z : Plain). z.flight) takes_it.flies ∙ ap (λ (ts : List Ticket). ts ++ t ∷ []) h.in_hand.flight ∙ sym (map-append (λ (a : Assignment). a.ticket) round (record { ticket = t; snapshot = snapshot; moment = m } ∷ []));
      held = All-append (λ (a : Assignment). IsHeld new a.ticket a.snapshot) round (record { ticket = t; snapshot = snapshot; moment = m } ∷ [])
          (all_map (λ (a : Assignment). IsHeld old a.ticket a.snapshot) (λ (a : Assignment). IsHeld new a.ticket a.snapshot) round (λ a k. held_after_take old new 1 (TakenJob t snapshot) a.ticket a.snapshot takes_it k) h.in_hand.held)
          (all_one (λ (a : Assignment). IsHeld new a.ticket a.snapshot) (record { ticket = t; snapshot = snapshot; moment = m }) (held_taken old new 1 t snapshot (legal_by old h.so_far) takes_it));
    };
  }

-- a round that is full takes no more
pub full : (s : Seen) (round : List Assignment) → IsTakingRound s round → 8 ≤ length round → IsEndingRound s round
full s round h l =
    let e = ap length h.in_hand.flight ∙ length-map round (λ (a : Assignment). a.ticket) in
    record {
      so_far = h.so_far;
      no_more = λ v some. if_second_off (is_taking h.so_far.moments s.plain) (nat_lt (length s.plain.flight) max_tickets) (first_job s.plain) None (le-ltb (length s.plain.flight) 8 (omega (arith, e, l)));
      in_hand = h.in_hand;
    }

-- where there is no first job it takes no more
pub idle : (old new : Seen) (round : List Assignment) → IsTakingRound old round → new ≡ old → first_job old.plain ≡ None → IsEndingRound new round
idle old new round h e f = subst {A = Seen} (λ z. IsEndingRound z round) (sym e) (record {
  so_far = h.so_far;
  no_more = λ v some. if_same (is_taking h.so_far.moments old.plain && nat_lt (length old.plain.flight) max_tickets) (first_job old.plain) None f;
  in_hand = h.in_hand;
})

-- ---- ending

-- the tickets have different numbers
pub differ : (s : Seen) (ts : List Ticket) → IsLegalBoard s → s.plain.flight ≡ ts → Differ ts
differ s ts legal e = subst {A = List Ticket} Differ e (flight_numbered IsFirstJob s.plain.problem s.plain.settings legal.after.0 s.plain legal.after.2).distinct

-- where the first ticket lands the others stay in flight
pub landed_first : (s : Seen) (c new : Plain) (t : Ticket) (ts : List Ticket) → IsLegalBoard s → s.plain.flight ≡ t ∷ ts → c.flight ≡ s.plain.flight → new ≡ landed t.number c → new.flight ≡ ts
landed_first s c new t ts legal e f lands = ap (λ (z : Plain). z.flight) lands ∙ ap (filter (λ (x : Ticket). not (x.number == t.number))) (f ∙ e) ∙ lands_first t ts (differ s (t ∷ ts) legal e)

some_left : (rest : List Assignment) → rest ≢ [] → no_members (tickets_of rest) ≡ false
some_left [] h = absurd (h refl)
some_left (a ∷ rest) h = refl

-- what holds of the tickets
of_tickets : (P : Ticket → Type 0) (rest : List Assignment) → All P (tickets_of rest) → All (λ (u : Assignment). P u.ticket) rest
of_tickets P [] h i d l = absurd (omega (arith, l))
of_tickets P (a ∷ rest) h zero d l = all_first P a.ticket (tickets_of rest) h
of_tickets P (a ∷ rest) h (suc i) d l = of_tickets P rest (all_rest P a.ticket (tickets_of rest) h) i d (omega (arith, l))

module _ (old new : Seen) (a : Assignment) (rest : List Assignment) (h : IsEndingRound old (a ∷ rest)) (undecided : verdict old.plain ≡ None) where
  before : IsLegalBoard old
  before = legal_by old h.so_far

  held : IsHeld old a.ticket a.snapshot
  held = all_first (λ (u : Assignment). IsHeld old u.ticket u.snapshot) a rest h.in_hand.held

  finishes : (x : Proposed) → ProposesBy a.snapshot x → IsFinishing h.so_far.moments old.plain a.ticket.worker a.ticket.number a.ticket.job x
  finishes x p = finishing old a.ticket x undecided held.flying (held_proposes old a.ticket a.snapshot x held p) h.so_far.moments h.so_far.journal h.so_far.run

  end_move : ends a.ticket.number ≡ round_move h.so_far.moments old.plain
  end_move =
      ap (λ (ts : List Ticket). ends (first_number ts)) (sym h.in_hand.flight)
      ∙ ap (λ (o : Option Job). option_map_or (takes 1 (tickets h.so_far.moments + 1)) o (ends (first_number old.plain.flight))) (sym (h.no_more undecided (λ e. cc)))

  others : All (λ (u : Assignment). u.ticket.number ≢ a.ticket.number) rest
  others i d l e =
      let k = differ_first a.ticket (tickets_of rest) (differ old (a.ticket ∷ tickets_of rest) before h.in_hand.flight) in
      of_tickets (λ (u : Ticket). a.ticket.number ≢ u.number) rest k i d l (sym e)

  ended_by : (e : Entry) (c : Plain) (x : Proposed) (f : Finished) → IsFinishedBy old new a.ticket x f → Follows IsFirstJob h.so_far.moments old.plain e new.plain → move_of e ≡ ends a.ticket.number → is_take e ≡ false → c.flight ≡ old.plain.flight → c.problem ≡ old.plain.problem → c.settings ≡ old.plain.settings
      → new.plain ≡ landed a.ticket.number c → new.journal ≡ old.journal ++ e ∷ [] → IsEndingRound new rest × IsSameRun old new
  ended_by e c x f by follows m no_take flight problem settings lands entered =
      let same : IsSameRun old new = record { problem = ap (λ (z : Plain). z.problem) lands ∙ problem; settings = ap (λ (z : Plain). z.settings) lands ∙ settings } in
      let left : new.plain.flight ≡ tickets_of rest = landed_first old c new.plain a.ticket (tickets_of rest) before h.in_hand.flight flight lands in (
        record {
          so_far = one_more old new e h.so_far follows same entered (m ∙ end_move);
          no_more = λ v some. if_first_off (no_members new.plain.flight || is_take e) (nat_lt (length new.plain.flight) max_tickets) (first_job new.plain) None
              (ap₂ (λ (p q : Bool). p || q) (ap no_members left ∙ some_left rest some) no_take);
          in_hand = record {
            flight = left;
            held = λ i d l. held_after_finish old new a.ticket x f _ _ by (others i d l) (all_rest (λ (u : Assignment). IsHeld old u.ticket u.snapshot) a rest h.in_hand.held i d l);
          };
        },
        same,
      )

  ended_as : (x : Proposed) (f : Finished) → ProposesBy a.snapshot x → IsFinishedBy old new a.ticket x f → IsEndingRound new rest × IsSameRun old new
  ended_as x (Ended v) p r = none_some (sym undecided ∙ r.1)
  ended_as x (Dropped n) p r =
      let follows : Follows IsFirstJob h.so_far.moments old.plain (Drop a.ticket.worker a.ticket.number n) new.plain = record { job = a.ticket.job; proposal = x; finishing = finishes x p; idle = r.1; names_process = r.2; leads_to = r.3 } in
      ended_by (Drop a.ticket.worker a.ticket.number n) old.plain x (Dropped n) r follows refl refl refl refl refl r.3 r.4
  ended_as x (Committed b) p r =
      let follows : Follows IsFirstJob h.so_far.moments old.plain (Commit a.ticket.worker a.ticket.number (effect_entry old.plain x)) new.plain = record { job = a.ticket.job; proposal = x; finishing = finishes x p; acts = r.1; names_effect = refl; leads_to = r.3 } in
      ended_by (Commit a.ticket.worker a.ticket.number (effect_entry old.plain x)) (effect old.plain x) x (Committed b) r follows refl refl (effect_flight old.plain x) (effect_setting old.plain x).0 (effect_setting old.plain x).1 r.3 r.4

-- a ticket of the round is ended
pub ends_one : (old new : Seen) (a : Assignment) (rest : List Assignment) → IsEndingRound old (a ∷ rest) → verdict old.plain ≡ None → IsEnded old new a → IsEndingRound new rest × IsSameRun old new
ends_one old new a rest h undecided e = ended_as old new a rest h undecided e.proposal e.answer e.proposed e.finished

-- ---- by places

-- the tickets from one place on: this one, and those from the next place on
pub drop_next : (round : List Assignment) (i : ℕ) (a : Assignment) → i < length round → a ≡ get_or round i a → drop i round ≡ a ∷ drop (i + 1) round
drop_next round i a room is =
    let n : suc i ≡ i + 1 = omega arith in
    drop-cons round i a room ∙ ap (λ (y : Assignment). y ∷ drop (suc i) round) (sym is) ∙ ap (λ (m : ℕ). a ∷ drop m round) n

pub drop_past : (round : List Assignment) (i : ℕ) → length round ≤ i → drop i round ≡ []
drop_past [] zero l = refl
drop_past [] (suc i) l = refl
drop_past (a ∷ round) zero l = absurd (omega (arith, l))
drop_past (a ∷ round) (suc i) l = drop_past round i (omega (arith, l))

-- the ticket at a place is in flight
pub flying_at : (s : Seen) (round : List Assignment) (i : ℕ) (a : Assignment) → i < length round → a ≡ get_or round i a → IsLeftWith s (drop i round) → Contains s.plain.flight a.ticket
flying_at s round i a room is h = subst {A = List Ticket} (λ ts. Contains ts a.ticket) (sym (h.flight ∙ ap tickets_of (drop_next round i a room is))) (contains_first a.ticket (tickets_of (drop (i + 1) round)))

-- the first of the tickets in flight is given back
pub gives_one : (start old new : Seen) (round : List Assignment) (i : ℕ) (a : Assignment) → i < length round → a ≡ get_or round i a → IsLeftWith old (drop i round) × IsSameRun start old
    → new.plain ≡ landed a.ticket.number old.plain → new.journal ≡ old.journal ++ Abandon a.ticket.worker a.ticket.number ∷ [] → IsLeftWith new (drop (i + 1) round) × IsSameRun start new
gives_one start old new round i a room is (h, same) lands entered =
    let flight : old.plain.flight ≡ a.ticket ∷ tickets_of (drop (i + 1) round) = h.flight ∙ ap tickets_of (drop_next round i a room is) in
    let flying = flying_at old round i a room is h in (
      record {
        legal = legal_grown old new (Abandon a.ticket.worker a.ticket.number) h.legal (λ ms j run. record { job = a.ticket.job; flying = flying; leads_to = lands }) entered;
        undecided = subst {A = Plain} (λ (z : Plain). verdict z ≡ None) (sym lands) h.undecided;
        flight = landed_first old old.plain new.plain a.ticket (tickets_of (drop (i + 1) round)) h.legal flight refl lands;
      },
      record { problem = ap (λ (z : Plain). z.problem) lands ∙ same.problem; settings = ap (λ (z : Plain). z.settings) lands ∙ same.settings },
    )

-- the ticket at a place is ended
pub ends_at : (start old new : Seen) (round : List Assignment) (i : ℕ) (a : Assignment) → i < length round → a ≡ get_or round i a → IsEndingRound old (drop i round) → IsSameRun start old → verdict old.plain ≡ None → IsEnded old new a
    → IsEndingRound new (drop (i + 1) round) × IsSameRun start new
ends_at start old new round i a room is h same undecided e =
    let r = ends_one old new a (drop (i + 1) round) (subst {A = List Assignment} (IsEndingRound old) (drop_next round i a room is) h) undecided e in
    (r.0, record { problem = r.1.problem ∙ same.problem; settings = r.1.settings ∙ same.settings })

-- it is held before
pub held_at : (s : Seen) (round : List Assignment) (i : ℕ) (a : Assignment) → i < length round → a ≡ get_or round i a → IsEndingRound s (drop i round) → IsHeld s a.ticket a.snapshot
held_at s round i a room is h = all_first (λ (u : Assignment). IsHeld s u.ticket u.snapshot) a (drop (i + 1) round) (subst {A = List Assignment} (IsEndingRound s) (drop_next round i a room is) h).in_hand.held

-- nothing is left in flight
pub gives_past : (s : Seen) (round : List Assignment) (i : ℕ) → length round ≤ i → IsLeftWith s (drop i round) → IsLeftWith s []
gives_past s round i l h = subst {A = List Assignment} (IsLeftWith s) (drop_past round i l) h

-- ---- broken off

pub left_ending : (s : Seen) (rest : List Assignment) → IsEndingRound s rest → verdict s.plain ≡ None → IsLeftWith s rest
left_ending s rest h v = record { legal = legal_by s h.so_far; undecided = v; flight = h.in_hand.flight }

-- each job may read its snapshot
pub readable : (s : Seen) (round : List Assignment) → AreInHand s round → AreReadable round
readable s round h = all_map (λ (a : Assignment). IsHeld s a.ticket a.snapshot) (λ (a : Assignment). IsReadable a.snapshot) round (λ a k. k.readable) h.held

-- ---- answers that failed or didn't

pub on_ok : {A E P : Type 0} (r : Result A E) → is_err r ≡ false → OnOk r P → P
on_ok (Ok x) e h = h
on_ok (Err x) e h = absurd (cc)

pub on_err : {A E P : Type 0} (r : Result A E) → is_err r ≡ true → OnErr r P → P
on_err (Ok x) e h = absurd (cc)
on_err (Err x) e h = h

pub not_false : (b : Bool) → not b ≡ false → b ≡ true
not_false true e = refl
not_false false e = absurd (cc)

-- ---- outcomes

-- those that are left are right
pub right_kept : (round : List Assignment) (old new : List Outcome) → AreRight round old → ((o : Outcome) → Contains new o → Contains old o) → AreRight round new
right_kept round old new h kept i d l = all_in (λ (o : Outcome). (a : Assignment) → slice_get round o.place ≡ Some a → IfOk o.worked (ProposesBy a.snapshot)) old (get_or new i d) h (kept (get_or new i d) (Contains-get_or new i d l))

-- those of two threads are right
pub right_joined : (round : List Assignment) (mine others all : List Outcome) → AreRight round mine → AreRight round others → (all ≡ mine ++ others) ⊎ (all ≡ mine) → AreRight round all
right_joined round mine others all h k e = ⊎_elim
    (λ p. subst {A = List Outcome} (AreRight round) (sym p) (All-append (λ (o : Outcome). (a : Assignment) → slice_get round o.place ≡ Some a → IfOk o.worked (ProposesBy a.snapshot)) mine others h k))
    (λ p. subst {A = List Outcome} (AreRight round) (sym p) h)
    e

-- a ticket at a place is found there
pub at_place : (round : List Assignment) (i : ℕ) (a : Assignment) → i < length round → a ≡ get_or round i a → slice_get round i ≡ Some a
at_place round i a room is = slice_get-get_or round i a room ∙ ap Some (sym is)

same_assignment : (a b : Assignment) → Some a ≡ Some b → a ≡ b
same_assignment a b e = cc e

-- and no other one
pub one_at_place : (round : List Assignment) (i : ℕ) (a b : Assignment) → i < length round → a ≡ get_or round i a → slice_get round i ≡ Some b → a ≡ b
one_at_place round i a b room is found = same_assignment a b (sym (at_place round i a room is) ∙ found)
