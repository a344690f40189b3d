-- Why an entry with a line can't be made, and what stays held where one is.
use Rattle.std.proofs.Common.{ℕ, ◌+◌, ◌-◌, ◌≡◌, ◌≢◌, ◌<◌, length-append, take, get_or, ◌==◌, ⊎_elim, refl, sym, ap, ap₂, ◌∙◌, subst, arith, List, [], ◌∷◌, ◌++◌, map, filter, length, not, Some, None, Bool, true, false, Contains, Result, Ok, Err}
use Rattle.std.specs.Prelude.{IfOk, IsTrue, IsFalse, ◌↔◌, if◌then◌else◌, nat_lt}
use Rattle.std.proofs.lemmas.Bool.Decides.{nat_tests}
use Rattle.std.proofs.lemmas.Bool.{false≢true, lt-ltb}
use Rattle.std.proofs.lemmas.List.{map-append, take_more}
use Rattle.std.proofs.lemmas.List.Elements.{Contains-append_left, Contains-append_right, Contains-push_cases}
use Rattle.kb_lemmas.proofs.Numbers.{lt_itself}
use Rattle.kb_lemmas.proofs.Membership.{contains_first, contains_mapped, contains_map, none_in}
use Rattle.kb_term.specs.Signature.{Problem, IsWithinLimits}
use Rattle.kb_term.specs.declared.memory.Memory.{Memory}
use Rattle.kb_label.specs.Names.{Name}
use Rattle.kb_label.specs.declared.verdict.Verdict.{Verdict}
use Rattle.kb_node.specs.declared.job.Job.{Job}
use Rattle.kb_node.specs.declared.job.Job.TheVariants.{Reduce, Orient, Overlap, Close}
use Rattle.kb_jobs.specs.declared.working.Snapshot.{Snapshot}
use Rattle.mkb_model.specs.Plain.{Plain, PlainNode}
use Rattle.mkb_model.specs.Effects.{effect_entry}
use Rattle.mkb_model.specs.Verdicts.{verdict}
use Rattle.mkb_model.specs.Journals.{After, Follows, IsFirstJob, IsTaking, Moment, ends, journal_of, landed, move_of, opening}
use Rattle.mkb_model.specs.DueJobs.{first_job}
use Rattle.mkb_model.specs.declared.proposed.Proposed.{Proposed}
use Rattle.mkb_model.specs.declared.proposed.Proposed.TheVariants as proposals
use Rattle.mkb_model.specs.declared.entry.Effect.{Effect}
use Rattle.mkb_model.specs.declared.entry.Effect.TheVariants as effects
use Rattle.mkb_model.specs.declared.entry.Ticket.{Ticket}
use Rattle.mkb_model.specs.declared.entry.Entry.{Entry}
use Rattle.mkb_model.specs.declared.entry.Entry.TheVariants as entries
use Rattle.mkb_model.specs.declared.settings.Settings.{Settings}
use Rattle.mkb_model.proofs.Lists.{filter_in, in_filter}
use Rattle.mkb_model.proofs.tickets.NoClash.{effect_flight}
use Rattle.mkb_model.proofs.labels.LivingNames.{effect_setting}
use Rattle.mkb_model.proofs.journals.OneRun.{after_once}
use Rattle.mkb_board.specs.Boards.{Seen, IsLegalBoard, has_halt, takes_in}
use Rattle.mkb_board.specs.Takes.{TakesJob, IsTakenBy, IsFinishedBy, take_entry}
use Rattle.mkb_board.specs.Held.{IsHeld}
use Rattle.mkb_board.specs.declared.answers.Taken.{Taken}
use Rattle.mkb_board.specs.declared.answers.Taken.TheVariants.{Job as TakenJob, Idle, Over as TakenOver, Halted}
use Rattle.mkb_board.specs.declared.answers.Finished.{Finished}
use Rattle.mkb_board.specs.declared.answers.Finished.TheVariants.{Ended, Dropped, Committed}
use Rattle.mkb_board.proofs.Growing.{grown, takes_of, halts_of}
use Rattle.mkb_board.proofs.Held.{held_taken, held_after_take, held_on, other_number}
use Rattle.kb_journal.specs.declared.entry_line.EntryLine.{EntryLine}
use Rattle.kb_journal.specs.declared.entry_line.EntryLine.TheVariants.{TakeReduce, TakeOrient, TakeOverlap, TakeClose, Facts, Rewrite, Oriented, Fork, Refused, Deduced, Unjoined, Closed, Over, Drop, Abandon, Halt}
use Rattle.kb_journal.specs.declared.replaying.Hand.{Hand}
use Rattle.kb_journal.specs.EntryLines.{line_of}
use Rattle.kb_journal.specs.Journals.{Journal, journal_of_board}
use Rattle.kb_journal.specs.LineMoves.{IsTakeBy, IsEndOf, IsAbandonOf}
use Rattle.kb_journal.specs.Replays.{CannotMake, HasLines, HoldAll, IsAt, IsBadEntry, IsMadeOrNot, Makes, tickets_of}
use Rattle.kb_journal.proofs.LinesOfRuns.{last_of, same_next, same_lines, lines_grow, lines_shorter}

-- ---- what the entry of a line is

made_no_take : (xs : List PlainNode) (v w t : ℕ) (x : Proposed) → IsTakeBy v (line_of xs (entries.Commit w t (effects.Made x))) → ⊥
made_no_take xs v w t (proposals.Facts fs) h = h
made_no_take xs v w t (proposals.Rewrite n u at a found s) h = h
made_no_take xs v w t (proposals.One p n d c) h = h
made_no_take xs v w t (proposals.Both p n c0 c1) h = h
made_no_take xs v w t (proposals.Refuse p n) h = h
made_no_take xs v w t (proposals.Deduce a c pairs) h = h
made_no_take xs v w t (proposals.Unjoined p pairs) h = h
made_no_take xs v w t (proposals.Closed p) h = h
made_no_take xs v w t (proposals.Limit j cause) h = h

-- a take by the worker
record IsTakeEntry (v : ℕ) (e : Entry) : Type 0 where
  ticket : ℕ
  job : Job
  entry_is : e ≡ entries.Take v ticket job

take_entry_of : (v w t : ℕ) (j : Job) → w ≡ v → IsTakeEntry v (entries.Take w t j)
take_entry_of v w t j e = record { ticket = t; job = j; entry_is = ap (λ z. entries.Take z t j) e }

is_take_entry : (xs : List PlainNode) (v : ℕ) (e : Entry) → IsTakeBy v (line_of xs e) → IsTakeEntry v e
is_take_entry xs v (entries.Take w t (Reduce p n)) h = take_entry_of v w t (Reduce p n) h
is_take_entry xs v (entries.Take w t (Orient p n)) h = take_entry_of v w t (Orient p n) h
is_take_entry xs v (entries.Take w t (Overlap p a b)) h = take_entry_of v w t (Overlap p a b) h
is_take_entry xs v (entries.Take w t (Close p)) h = take_entry_of v w t (Close p) h
is_take_entry xs v (entries.Commit w t (effects.Over r)) h = absurd h
is_take_entry xs v (entries.Commit w t (effects.Made x)) h = absurd (made_no_take xs v w t x h)
is_take_entry xs v (entries.Drop w t p) h = absurd h
is_take_entry xs v (entries.Abandon w t) h = absurd h
is_take_entry xs v entries.Halt h = absurd h

-- a commit or a drop of the ticket
data IsEndEntry (n : ℕ) (e : Entry) : Type 0 where
  committed : (w : ℕ) (f : Effect) → e ≡ entries.Commit w n f → IsEndEntry n e
  dropped : (w : ℕ) (p : Name) → e ≡ entries.Drop w n p → IsEndEntry n e

made_end : (xs : List PlainNode) (n w t : ℕ) (x : Proposed) → IsEndOf n (line_of xs (entries.Commit w t (effects.Made x))) → t ≡ n
made_end xs n w t (proposals.Facts fs) h = h
made_end xs n w t (proposals.Rewrite m u at a found s) h = h
made_end xs n w t (proposals.One p m d c) h = h
made_end xs n w t (proposals.Both p m c0 c1) h = h
made_end xs n w t (proposals.Refuse p m) h = h
made_end xs n w t (proposals.Deduce a c pairs) h = h
made_end xs n w t (proposals.Unjoined p pairs) h = h
made_end xs n w t (proposals.Closed p) h = h
made_end xs n w t (proposals.Limit j cause) h = h

is_end_entry : (xs : List PlainNode) (n : ℕ) (e : Entry) → IsEndOf n (line_of xs e) → IsEndEntry n e
is_end_entry xs n (entries.Take w t (Reduce p m)) h = absurd h
is_end_entry xs n (entries.Take w t (Orient p m)) h = absurd h
is_end_entry xs n (entries.Take w t (Overlap p a b)) h = absurd h
is_end_entry xs n (entries.Take w t (Close p)) h = absurd h
is_end_entry xs n (entries.Commit w t (effects.Over r)) h = committed w (effects.Over r) (ap (λ z. entries.Commit w z (effects.Over r)) h)
is_end_entry xs n (entries.Commit w t (effects.Made x)) h = committed w (effects.Made x) (ap (λ z. entries.Commit w z (effects.Made x)) (made_end xs n w t x h))
is_end_entry xs n (entries.Drop w t p) h = dropped w p (ap (λ z. entries.Drop w z p) h)
is_end_entry xs n (entries.Abandon w t) h = absurd h
is_end_entry xs n entries.Halt h = absurd h

-- an abandon of the ticket
record IsAbandonEntry (n : ℕ) (e : Entry) : Type 0 where
  worker : ℕ
  entry_is : e ≡ entries.Abandon worker n

made_no_abandon : (xs : List PlainNode) (n w t : ℕ) (x : Proposed) → IsAbandonOf n (line_of xs (entries.Commit w t (effects.Made x))) → ⊥
made_no_abandon xs v w t (proposals.Facts fs) h = h
made_no_abandon xs v w t (proposals.Rewrite n u at a found s) h = h
made_no_abandon xs v w t (proposals.One p n d c) h = h
made_no_abandon xs v w t (proposals.Both p n c0 c1) h = h
made_no_abandon xs v w t (proposals.Refuse p n) h = h
made_no_abandon xs v w t (proposals.Deduce a c pairs) h = h
made_no_abandon xs v w t (proposals.Unjoined p pairs) h = h
made_no_abandon xs v w t (proposals.Closed p) h = h
made_no_abandon xs v w t (proposals.Limit j cause) h = h

is_abandon_entry : (xs : List PlainNode) (n : ℕ) (e : Entry) → IsAbandonOf n (line_of xs e) → IsAbandonEntry n e
is_abandon_entry xs n (entries.Take w t (Reduce p m)) h = absurd h
is_abandon_entry xs n (entries.Take w t (Orient p m)) h = absurd h
is_abandon_entry xs n (entries.Take w t (Overlap p a b)) h = absurd h
is_abandon_entry xs n (entries.Take w t (Close p)) h = absurd h
is_abandon_entry xs n (entries.Commit w t (effects.Over r)) h = absurd h
is_abandon_entry xs n (entries.Commit w t (effects.Made x)) h = absurd (made_no_abandon xs n w t x h)
is_abandon_entry xs n (entries.Drop w t p) h = absurd h
is_abandon_entry xs n (entries.Abandon w t) h = record { worker = w; entry_is = ap (λ z. entries.Abandon w z) h }
is_abandon_entry xs n entries.Halt h = absurd h

made_no_halt : (xs : List PlainNode) (w t : ℕ) (x : Proposed) → line_of xs (entries.Commit w t (effects.Made x)) ≡ Halt → ⊥
made_no_halt xs w t (proposals.Facts fs) h = absurd (cc)
made_no_halt xs w t (proposals.Rewrite n u at a found s) h = absurd (cc)
made_no_halt xs w t (proposals.One p n d c) h = absurd (cc)
made_no_halt xs w t (proposals.Both p n c0 c1) h = absurd (cc)
made_no_halt xs w t (proposals.Refuse p n) h = absurd (cc)
made_no_halt xs w t (proposals.Deduce a c pairs) h = absurd (cc)
made_no_halt xs w t (proposals.Unjoined p pairs) h = absurd (cc)
made_no_halt xs w t (proposals.Closed p) h = absurd (cc)
made_no_halt xs w t (proposals.Limit j cause) h = absurd (cc)

is_halt_entry : (xs : List PlainNode) (e : Entry) → line_of xs e ≡ Halt → e ≡ entries.Halt
is_halt_entry xs (entries.Take w t (Reduce p m)) h = absurd (cc)
is_halt_entry xs (entries.Take w t (Orient p m)) h = absurd (cc)
is_halt_entry xs (entries.Take w t (Overlap p a b)) h = absurd (cc)
is_halt_entry xs (entries.Take w t (Close p)) h = absurd (cc)
is_halt_entry xs (entries.Commit w t (effects.Over r)) h = absurd (cc)
is_halt_entry xs (entries.Commit w t (effects.Made x)) h = absurd (made_no_halt xs w t x h)
is_halt_entry xs (entries.Drop w t p) h = absurd (cc)
is_halt_entry xs (entries.Abandon w t) h = absurd (cc)
is_halt_entry xs entries.Halt h = refl

-- ---- what follows on a legal board

module _ (b : Seen) (legal : IsLegalBoard b) where
  -- an entry that may follow on the board
  record MayFollow (e : Entry) (c : Plain) : Type 0 where
    past : List Moment
    journal : journal_of past ≡ b.journal
    follows : Follows IsFirstJob past b.plain e c

  may_follow : (e : Entry) (c : Plain) → After b.plain.problem b.plain.settings (b.journal ++ e ∷ []) c → MayFollow e c
  may_follow e c a =
      let last = last_of b.plain.problem b.plain.settings legal.within b.journal e c a in
      let same : last.board ≡ b.plain = after_once b.plain.problem b.plain.settings b.journal last.board b.plain (last.past, last.journal, last.run) legal.after in
      record { past = last.past; journal = last.journal; follows = subst {A = Plain} (λ z. Follows IsFirstJob last.past z e c) same last.follows }

  -- a take that may follow
  record MayTake (v : ℕ) (e : Entry) : Type 0 where
    ticket : ℕ
    job : Job
    entry_is : e ≡ entries.Take v ticket job
    no_verdict : verdict b.plain ≡ None
    no_halt : IsFalse (has_halt b.journal)
    next_number : ticket ≡ takes_in b.journal + 1
    first : first_job b.plain ≡ Some job

  may_take : (v : ℕ) (l : EntryLine) (e : Entry) (c : Plain) → IsTakeBy v l → After b.plain.problem b.plain.settings (b.journal ++ e ∷ []) c → line_of c.nodes e ≡ l → MayTake v e
  may_take v l e c t a is =
      let k = is_take_entry c.nodes v e (subst {A = EntryLine} (IsTakeBy v) (sym is) t) in
      let f = may_follow e c a in
      let taking : IsTaking IsFirstJob f.past b.plain v k.ticket k.job c = subst {A = Entry} (λ z. Follows IsFirstJob f.past b.plain z c) k.entry_is f.follows in
      record {
        ticket = k.ticket;
        job = k.job;
        entry_is = k.entry_is;
        no_verdict = taking.no_verdict;
        no_halt = sym (halts_of f.past ∙ ap has_halt f.journal) ∙ taking.no_halt;
        next_number = taking.next_number ∙ ap (λ z. z + 1) (takes_of f.past ∙ ap takes_in f.journal);
        first = taking.picked;
      }

  -- an end of a ticket that may follow
  record MayEnd (n : ℕ) : Type 0 where
    worker : ℕ
    job : Job
    flying : Contains b.plain.flight (record { number = n; worker = worker; job = job })
    no_verdict : verdict b.plain ≡ None

  may_end : (n : ℕ) (l : EntryLine) (e : Entry) (c : Plain) → IsEndOf n l → After b.plain.problem b.plain.settings (b.journal ++ e ∷ []) c → line_of c.nodes e ≡ l → MayEnd n × (move_of e ≡ ends n)
  may_end n l e c t a is = go (is_end_entry c.nodes n e (subst {A = EntryLine} (IsEndOf n) (sym is) t)) (may_follow e c a)
    where
      go : IsEndEntry n e → MayFollow e c → MayEnd n × (move_of e ≡ ends n)
      go (committed w f i) m =
          let k = subst {A = Entry} (λ z. Follows IsFirstJob m.past b.plain z c) i m.follows in
          (record { worker = w; job = k.job; flying = k.finishing.flying; no_verdict = k.finishing.no_verdict }, ap move_of i)
      go (dropped w p i) m =
          let k = subst {A = Entry} (λ z. Follows IsFirstJob m.past b.plain z c) i m.follows in
          (record { worker = w; job = k.job; flying = k.finishing.flying; no_verdict = k.finishing.no_verdict }, ap move_of i)

-- ---- why no entry has the line

module _ (old : Seen) (l : EntryLine) (legal : IsLegalBoard old) where
  -- a take that is not that of the first job under the next number
  pub no_take : (new : Seen) (v : ℕ) (t : Ticket) (s : Snapshot) → IsTakeBy v l → TakesJob old new v t s → ¬ (line_of new.plain.nodes (take_entry t) ≡ l) → CannotMake old l
  no_take new v t s k h differs e c a is =
      let m = may_take old legal v l e c k a is in
      let number : m.ticket ≡ t.number = m.next_number ∙ sym h.number_is in
      let jobs : Some m.job ≡ Some t.job = sym m.first ∙ h.first in
      let job : m.job ≡ t.job = cc in
      let same : e ≡ take_entry t = m.entry_is ∙ ap₂ (λ z j. entries.Take v z j) number job ∙ ap (λ z. entries.Take z t.number t.job) (sym h.worker_is) in
      differs (take_line_on old.plain.nodes new.plain.nodes c.nodes t ∙ ap (line_of c.nodes) (sym same) ∙ is)
    where
      take_line_on : (xs ys zs : List PlainNode) (t : Ticket) → line_of ys (take_entry t) ≡ line_of zs (take_entry t)
      take_line_on xs ys zs t = refl

  -- a take where none is given
  pub none_taken : (new : Seen) (v : ℕ) (a : Taken) → IsTakeBy v l → IsTakenBy old new v a → ((t : Ticket) (s : Snapshot) → ¬ (a ≡ TakenJob t s)) → CannotMake old l
  none_taken new v (TakenJob t s) k h never e c a is = never t s refl
  none_taken new v (Idle n) k h never e c a is = let m = may_take old legal v l e c k a is in absurd (let z = h.3 in let y = m.first in cc)
  none_taken new v (TakenOver w) k h never e c a is = let m = may_take old legal v l e c k a is in absurd (let z = h.1 in let y = m.no_verdict in cc)
  none_taken new v Halted k h never e c a is = let m = may_take old legal v l e c k a is in absurd (let z = h.2 in let y = m.no_halt in cc)

  -- an end of a ticket that is not in flight
  pub no_ticket : (n : ℕ) (hands : List Hand) → IsEndOf n l → HoldAll old hands → ((t : Ticket) → Contains (tickets_of hands) t → ¬ (t.number ≡ n)) → CannotMake old l
  no_ticket n hands k h none e c a is =
      let m = (may_end old legal n l e c k a is).0 in
      let t : Ticket = record { number = n; worker = m.worker; job = m.job } in
      none t (h.whole t m.flying) refl

  -- an end where a verdict stands
  pub no_end_by : (n : ℕ) (v : Verdict) → IsEndOf n l → verdict old.plain ≡ Some v → CannotMake old l
  no_end_by n v k s e c a is = let m = (may_end old legal n l e c k a is).0 in absurd (let y = m.no_verdict in cc)

  -- an end that is not that which the ticket's proposal gives
  pub no_other_end : (n : ℕ) (f : Entry) (new : Seen) → IsEndOf n l → After old.plain.problem old.plain.settings (old.journal ++ f ∷ []) new.plain → move_of f ≡ ends n → ¬ (line_of new.plain.nodes f ≡ l) → CannotMake old l
  no_other_end n f new k made moves differs e c a is =
      let m = (may_end old legal n l e c k a is).1 in
      let same = same_next old.plain.problem old.plain.settings legal.within old.journal e f c new.plain a made (m ∙ sym moves) in
      differs (ap (λ z. line_of new.plain.nodes z) (sym same.0) ∙ ap (λ (z : Plain). line_of z.nodes e) (sym same.1) ∙ is)

  -- an abandon of a ticket that is not in flight
  pub no_abandon : (n : ℕ) (hands : List Hand) → IsAbandonOf n l → HoldAll old hands → ((t : Ticket) → Contains (tickets_of hands) t → ¬ (t.number ≡ n)) → CannotMake old l
  no_abandon n hands k h none e c a is =
      let i = is_abandon_entry c.nodes n e (subst {A = EntryLine} (IsAbandonOf n) (sym is) k) in
      let m = may_follow old legal e c a in
      let f = subst {A = Entry} (λ z. Follows IsFirstJob m.past old.plain z c) i.entry_is m.follows in
      let t : Ticket = record { number = n; worker = i.worker; job = f.job } in
      none t (h.whole t f.flying) refl

  -- a second halt
  pub no_halt : l ≡ Halt → IsTrue (has_halt old.journal) → CannotMake old l
  no_halt k halted e c a is =
      let i = is_halt_entry c.nodes e (is ∙ k) in
      let m = may_follow old legal e c a in
      let f = subst {A = Entry} (λ z. Follows IsFirstJob m.past old.plain z c) i m.follows in
      absurd (let y = sym (halts_of m.past ∙ ap has_halt m.journal) ∙ f.0 in cc)

-- ---- what stays held

hand_of : (hs : List Hand) (t : Ticket) → Contains (tickets_of hs) t → (h : Hand) × Contains hs h × (h.ticket ≡ t)
hand_of hs t i = contains_mapped (λ (h : Hand). h.ticket) hs t i

pub hold_taken : (old new : Seen) (hs : List Hand) (w : ℕ) (t : Ticket) (s : Snapshot) → HoldAll old hs → IsLegalBoard new → TakesJob old new w t s → HoldAll new (hs ++ record { ticket = t; snapshot = s } ∷ [])
hold_taken old new hs w t s h legal k = record {
  legal = legal;
  each = λ g i. ⊎_elim (λ j. held_after_take old new w (TakenJob t s) g.ticket g.snapshot k (h.each g j)) (λ e. subst {A = Hand} (λ z. IsHeld new z.ticket z.snapshot) e (held_taken old new w t s h.legal k)) (Contains-push_cases hs (record { ticket = t; snapshot = s }) g i);
  whole = λ u i. ⊎_elim
      (λ j. subst {A = List Ticket} (λ ts. Contains ts u) (sym (map-append (λ (z : Hand). z.ticket) hs (record { ticket = t; snapshot = s } ∷ []))) (Contains-append_left (tickets_of hs) (t ∷ []) u (h.whole u j)))
      (λ e. subst {A = List Ticket} (λ ts. Contains ts u) (sym (map-append (λ (z : Hand). z.ticket) hs (record { ticket = t; snapshot = s } ∷ []))) (Contains-append_right (tickets_of hs) (t ∷ []) u (subst {A = Ticket} (Contains (t ∷ [])) e (contains_first t []))))
      (Contains-push_cases old.plain.flight t u (subst {A = Plain} (λ z. Contains z.flight u) k.flies i));
}

pub hold_ended : (old new : Seen) (hs : List Hand) (n : ℕ) → HoldAll old hs → IsLegalBoard new → ((u : Ticket) (r : Snapshot) → u.number ≢ n → IsHeld old u r → IsHeld new u r) → new.plain.flight ≡ filter (λ (x : Ticket). not (x.number == n)) old.plain.flight
    → HoldAll new (filter (λ (g : Hand). not (g.ticket.number == n)) hs)
hold_ended old new hs n h legal stays flight = record {
  legal = legal;
  each = λ g i. (let k = filter_in (λ (z : Hand). not (z.ticket.number == n)) hs g i in stays g.ticket g.snapshot (differs g.ticket.number n k.1) (h.each g k.0));
  whole = λ u i.
      let k = filter_in (λ (x : Ticket). not (x.number == n)) old.plain.flight u (subst {A = List Ticket} (λ ts. Contains ts u) flight i) in
      let g = hand_of hs u (h.whole u k.0) in
      let stays_in = in_filter (λ (z : Hand). not (z.ticket.number == n)) hs g.0 g.1 (ap (λ (z : Ticket). not (z.number == n)) g.2 ∙ k.1) in
      subst {A = Ticket} (Contains (tickets_of (filter (λ (z : Hand). not (z.ticket.number == n)) hs))) g.2 (contains_map (λ (z : Hand). z.ticket) (filter (λ (z : Hand). not (z.ticket.number == n)) hs) g.0 stays_in);
}
  where
    differs : (m n : ℕ) → not (m == n) ≡ true → m ≢ n
    differs m n h e = grind (arith, nat_tests, h, e)

-- ---- what an end leaves

-- a commit or a drop of the ticket was entered, and the ticket is no more in flight
pub record EndMade (old new : Seen) (t : Ticket) : Type 0 where
  pub entry : Entry
  pub entered : new.journal ≡ old.journal ++ entry ∷ []
  pub moves : move_of entry ≡ ends t.number
  pub flight : new.plain.flight ≡ filter (λ (x : Ticket). not (x.number == t.number)) old.plain.flight
  pub problem_is : new.plain.problem ≡ old.plain.problem
  pub settings_are : new.plain.settings ≡ old.plain.settings

pub end_made : (old new : Seen) (t : Ticket) (x : Proposed) (f : Finished) → IsFinishedBy old new t x f → ((v : Verdict) → ¬ (f ≡ Ended v)) → EndMade old new t
end_made old new t x (Ended v) h never = absurd (never v refl)
end_made old new t x (Dropped p) h never = record {
  entry = entries.Drop t.worker t.number p;
  entered = h.4;
  moves = refl;
  flight = ap (λ (z : Plain). z.flight) h.3;
  problem_is = ap (λ (z : Plain). z.problem) h.3;
  settings_are = ap (λ (z : Plain). z.settings) h.3;
}
end_made old new t x (Committed a) h never = record {
  entry = entries.Commit t.worker t.number (effect_entry old.plain x);
  entered = h.4;
  moves = refl;
  flight = ap (λ (z : Plain). z.flight) h.3 ∙ ap (filter (λ (z : Ticket). not (z.number == t.number))) (effect_flight old.plain x);
  problem_is = ap (λ (z : Plain). z.problem) h.3 ∙ (effect_setting old.plain x).0;
  settings_are = ap (λ (z : Plain). z.settings) h.3 ∙ (effect_setting old.plain x).1;
}

-- the legal board after one entry more
pub after_made : (old new : Seen) (e : Entry) → IsLegalBoard new → new.journal ≡ old.journal ++ e ∷ [] → new.plain.problem ≡ old.plain.problem → new.plain.settings ≡ old.plain.settings → After old.plain.problem old.plain.settings (old.journal ++ e ∷ []) new.plain
after_made old new e legal entered problem settings =
    subst {A = Problem} (λ p. After p old.plain.settings (old.journal ++ e ∷ []) new.plain) problem
    (subst {A = Settings} (λ s. After new.plain.problem s (old.journal ++ e ∷ []) new.plain) settings (subst {A = List Entry} (λ J. After new.plain.problem new.plain.settings J new.plain) entered legal.after))

-- what the last entry's line says of an end
pub end_or_not : (old new : Seen) (hs hands : List Hand) (l : EntryLine) (t : Ticket) (n : ℕ) (same : Bool) → HoldAll old hs → IsLegalBoard new → IsEndOf n l → t.number ≡ n → EndMade old new t → ((u : Ticket) (r : Snapshot) → u.number ≢ t.number → IsHeld old u r → IsHeld new u r)
    → hands ≡ filter (λ (g : Hand). not (g.ticket.number == n)) hs → ((front : List Entry) (e : Entry) → new.journal ≡ front ++ e ∷ [] → IsTrue same ↔ (line_of new.plain.nodes e ≡ l)) → IsMadeOrNot old new hands l same
end_or_not old new hs hands l t n true h legal k is m stays go last = (
  record { entry = m.entry; entered = m.entered; line_is = (last old.journal m.entry m.entered).0 refl; problem_is = m.problem_is; settings_are = m.settings_are },
  subst {A = List Hand} (HoldAll new) (sym go) (hold_ended old new hs n h legal (λ u r d. stays u r (λ e. d (e ∙ is))) (m.flight ∙ ap (λ z. filter (λ (x : Ticket). not (x.number == z)) old.plain.flight) is)),
)
end_or_not old new hs hands l t n false h legal k is m stays go last =
    no_other_end old l h.legal n m.entry new k (after_made old new m.entry legal m.entered m.problem_is m.settings_are) (m.moves ∙ ap ends is) (λ e. false≢true ((last old.journal m.entry m.entered).1 e))

-- what the last entry's line says of a take
pub take_or_not : (old new : Seen) (hs hands : List Hand) (l : EntryLine) (w : ℕ) (t : Ticket) (s : Snapshot) (same : Bool) → HoldAll old hs → IsLegalBoard new → IsTakeBy w l → TakesJob old new w t s
    → hands ≡ hs ++ record { ticket = t; snapshot = s } ∷ [] → ((front : List Entry) (e : Entry) → new.journal ≡ front ++ e ∷ [] → IsTrue same ↔ (line_of new.plain.nodes e ≡ l)) → IsMadeOrNot old new hands l same
take_or_not old new hs hands l w t s true h legal k taken go last = (
  record { entry = take_entry t; entered = taken.entered; line_is = (last old.journal (take_entry t) taken.entered).0 refl; problem_is = ap (λ (z : Plain). z.problem) taken.flies; settings_are = ap (λ (z : Plain). z.settings) taken.flies },
  subst {A = List Hand} (HoldAll new) (sym go) (hold_taken old new hs w t s h legal taken),
)
take_or_not old new hs hands l w t s false h legal k taken go last = no_take old l h.legal new w t s k taken (λ e. false≢true ((last old.journal (take_entry t) taken.entered).1 e))

-- the same of what comes with want of memory
pub end_told : (old new : Seen) (hs hands : List Hand) (l : EntryLine) (t : Ticket) (n : ℕ) (r : Result Bool Memory) → HoldAll old hs → IsLegalBoard new → IsEndOf n l → t.number ≡ n → EndMade old new t → ((u : Ticket) (s : Snapshot) → u.number ≢ t.number → IsHeld old u s → IsHeld new u s)
    → hands ≡ filter (λ (g : Hand). not (g.ticket.number == n)) hs → IfOk r (λ same. (front : List Entry) (e : Entry) → new.journal ≡ front ++ e ∷ [] → IsTrue same ↔ (line_of new.plain.nodes e ≡ l)) → IfOk r (IsMadeOrNot old new hands l)
end_told old new hs hands l t n (Ok same) h legal k is m stays go last = end_or_not old new hs hands l t n same h legal k is m stays go last
end_told old new hs hands l t n (Err f) h legal k is m stays go last = tt

pub take_told : (old new : Seen) (hs hands : List Hand) (l : EntryLine) (w : ℕ) (t : Ticket) (s : Snapshot) (r : Result Bool Memory) → HoldAll old hs → IsLegalBoard new → IsTakeBy w l → TakesJob old new w t s
    → hands ≡ hs ++ record { ticket = t; snapshot = s } ∷ [] → IfOk r (λ same. (front : List Entry) (e : Entry) → new.journal ≡ front ++ e ∷ [] → IsTrue same ↔ (line_of new.plain.nodes e ≡ l)) → IfOk r (IsMadeOrNot old new hands l)
take_told old new hs hands l w t s (Ok same) h legal k taken go last = take_or_not old new hs hands l w t s same h legal k taken go last
take_told old new hs hands l w t s (Err f) h legal k taken go last = tt

-- an abandon is made where the ticket is in flight
pub abandon_made : (old new : Seen) (hs hands : List Hand) (l : EntryLine) (g : Hand) (n : ℕ) → HoldAll old hs → IsAbandonOf n l → Contains hs g → g.ticket.number ≡ n → new.plain ≡ landed g.ticket.number old.plain → new.journal ≡ old.journal ++ entries.Abandon g.ticket.worker g.ticket.number ∷ []
    → hands ≡ filter (λ (h : Hand). not (h.ticket.number == n)) hs → Makes old new l × HoldAll new hands
abandon_made old new hs hands l g n h k i is plain entered go =
    let flying = (h.each g i).flying in
    let grows = grown old (entries.Abandon g.ticket.worker g.ticket.number) (landed g.ticket.number old.plain) h.legal (λ ms j run. record { job = g.ticket.job; flying = flying; leads_to = refl }) in
    let seen_is : new ≡ record { plain = landed g.ticket.number old.plain; journal = old.journal ++ entries.Abandon g.ticket.worker g.ticket.number ∷ [] } = λ z. record { plain = plain z; journal = entered z } in
    let legal = subst {A = Seen} IsLegalBoard (sym seen_is) grows in
    let problem = ap (λ (z : Plain). z.problem) plain in
    let settings = ap (λ (z : Plain). z.settings) plain in
    let flight = ap (λ (z : Plain). z.flight) plain in (
      record { entry = entries.Abandon g.ticket.worker g.ticket.number; entered = entered; line_is = abandon_line l k is; problem_is = problem; settings_are = settings },
      subst {A = List Hand} (HoldAll new) (sym go) (hold_ended old new hs n h legal
          (λ u r d held. held_on old new (entries.Abandon g.ticket.worker g.ticket.number ∷ []) u r held entered problem settings
          (subst {A = List Ticket} (λ ts. Contains ts u) (sym flight) (in_filter (λ (x : Ticket). not (x.number == g.ticket.number)) old.plain.flight u held.flying (other_number u.number g.ticket.number (λ e. d (e ∙ is))))))
          (flight ∙ ap (λ z. filter (λ (x : Ticket). not (x.number == z)) old.plain.flight) is)),
    )
  where
    abandon_line : (l : EntryLine) → IsAbandonOf n l → g.ticket.number ≡ n → Abandon g.ticket.number ≡ l
    abandon_line (Abandon t) k e = ap Abandon (e ∙ sym k)
    abandon_line (TakeReduce w t p m) k e = absurd k
    abandon_line (TakeOrient w t p m) k e = absurd k
    abandon_line (TakeOverlap w t p a b) k e = absurd k
    abandon_line (TakeClose w t p) k e = absurd k
    abandon_line (Facts t m) k e = absurd k
    abandon_line (Rewrite t m) k e = absurd k
    abandon_line (Oriented t d) k e = absurd k
    abandon_line (Fork t) k e = absurd k
    abandon_line (Refused t) k e = absurd k
    abandon_line (Deduced t m) k e = absurd k
    abandon_line (Unjoined t m) k e = absurd k
    abandon_line (Closed t) k e = absurd k
    abandon_line (Over t r) k e = absurd k
    abandon_line (Drop t p) k e = absurd k
    abandon_line Halt k e = absurd k

-- a halt is made where none was
pub halt_made : (old new : Seen) (hs : List Hand) (l : EntryLine) → HoldAll old hs → IsLegalBoard new → l ≡ Halt → new.plain ≡ old.plain → new.journal ≡ old.journal ++ entries.Halt ∷ [] → Makes old new l × HoldAll new hs
halt_made old new hs l h legal k plain entered =
    let problem = ap (λ (z : Plain). z.problem) plain in
    let settings = ap (λ (z : Plain). z.settings) plain in
    let flight = ap (λ (z : Plain). z.flight) plain in (
      record { entry = entries.Halt; entered = entered; line_is = sym k; problem_is = problem; settings_are = settings },
      record {
        legal = legal;
        each = λ g i. (let held = h.each g i in held_on old new (entries.Halt ∷ []) g.ticket g.snapshot held entered problem settings (subst {A = List Ticket} (λ ts. Contains ts g.ticket) (sym flight) held.flying));
        whole = λ u i. h.whole u (subst {A = List Ticket} (λ ts. Contains ts u) flight i);
      },
    )

-- whether a halt was made shows in the number of entries
pub halt_or_not : (old new : Seen) (hs : List Hand) (l : EntryLine) (grew : Bool) → HoldAll old hs → IsLegalBoard new → l ≡ Halt → new.plain ≡ old.plain → new.journal ≡ (if has_halt old.journal then old.journal else old.journal ++ entries.Halt ∷ []) → grew ≡ nat_lt (length old.journal) (length new.journal) → IsMadeOrNot old new hs l grew
halt_or_not old new hs l grew h legal k plain entered is = go (has_halt old.journal) refl
  where
    go : (b : Bool) → has_halt old.journal ≡ b → IsMadeOrNot old new hs l grew
    go true e =
        let same : new.journal ≡ old.journal = entered ∙ ap (λ b. if b then old.journal else old.journal ++ entries.Halt ∷ []) e in
        let flat : grew ≡ false = is ∙ ap (λ (J : List Entry). nat_lt (length old.journal) (length J)) same ∙ lt_itself (length old.journal) in
        subst {A = Bool} (IsMadeOrNot old new hs l) (sym flat) (no_halt old l h.legal k e)
    go false e =
        let more : new.journal ≡ old.journal ++ entries.Halt ∷ [] = entered ∙ ap (λ b. if b then old.journal else old.journal ++ entries.Halt ∷ []) e in
        let yes : grew ≡ true = is ∙ ap (λ (J : List Entry). nat_lt (length old.journal) (length J)) more ∙ lt-ltb (length old.journal) (length (old.journal ++ entries.Halt ∷ [])) (omega (arith, length-append old.journal (entries.Halt ∷ []))) in
        subst {A = Bool} (IsMadeOrNot old new hs l) (sym yes) (halt_made old new hs l h legal k plain more)

-- ---- the whole

-- no entry of a replay was made yet
pub start_held : (b : Seen) (P : Problem) (s : Settings) → IsWithinLimits P → b.plain ≡ opening P s → b.journal ≡ [] → HoldAll b [] × IsAt (record { problem = P; settings = s; lines = [] }) b []
start_held b P s within plain journal =
    let problem : b.plain.problem ≡ P = ap (λ (z : Plain). z.problem) plain in
    let settings : b.plain.settings ≡ s = ap (λ (z : Plain). z.settings) plain in
    let after : After P s b.journal b.plain = ([], sym journal, plain) in (
      record {
        legal = record {
          within = subst {A = Problem} IsWithinLimits (sym problem) within;
          after = subst {A = Problem} (λ p. After p b.plain.settings b.journal b.plain) (sym problem) (subst {A = Settings} (λ z. After P z b.journal b.plain) (sym settings) after);
        };
        each = λ g i. none_in i;
        whole = λ t i. none_in (subst {A = List Ticket} (λ ts. Contains ts t) (ap (λ (z : Plain). z.flight) plain) i);
      },
      record { problem_is = problem; settings_are = settings; has = record { after = after; lines_are = ap (map (line_of b.plain.nodes)) journal } },
    )

pub start_at : (b : Seen) (j : Journal) (p : Problem) (hs : List Hand) → p ≡ j.problem → IsWithinLimits j.problem → b.plain ≡ opening p j.settings → b.journal ≡ [] → hs ≡ [] → HoldAll b hs × IsAt j b []
start_at b j p hs e within plain journal none =
    let r = start_held b j.problem j.settings within (plain ∙ ap (λ z. opening z j.settings) e) journal in
    (subst {A = List Hand} (HoldAll b) (sym none) r.0, record { problem_is = r.1.problem_is; settings_are = r.1.settings_are; has = r.1.has })

-- one entry more was made
pub more_made : (old new : Seen) (P : Problem) (s : Settings) (ls : List EntryLine) (l : EntryLine) (hands : List Hand) → IsWithinLimits P → old.plain.problem ≡ P → old.plain.settings ≡ s → HasLines P s ls old.journal old.plain → Makes old new l → HoldAll new hands → HasLines P s (ls ++ l ∷ []) new.journal new.plain
more_made old new P s ls l hands within problem settings h m held =
    subst {A = List Entry} (λ J. HasLines P s (ls ++ l ∷ []) J new.plain) (sym m.entered)
    (lines_grow P s within ls l old.journal m.entry old.plain new.plain h
    (subst {A = Problem} (λ p. After p s (old.journal ++ m.entry ∷ []) new.plain) problem (subst {A = Settings} (λ z. After old.plain.problem z (old.journal ++ m.entry ∷ []) new.plain) settings (after_made old new m.entry held.legal m.entered m.problem_is m.settings_are)))
    m.line_is)

-- the board that made it follows the journal one line more
pub is_at_more : (old new : Seen) (j : Journal) (k : ℕ) (l : EntryLine) (hands : List Hand) → IsWithinLimits j.problem → k < length j.lines → get_or j.lines k l ≡ l → IsAt j old (take k j.lines) → Makes old new l → HoldAll new hands → IsAt j new (take (k + 1) j.lines)
is_at_more old new j k l hands within low at i m held =
    let more : take k j.lines ++ l ∷ [] ≡ take (k + 1) j.lines = ap (λ z. take k j.lines ++ z ∷ []) (sym at) ∙ sym (take_more j.lines k l low) in
    record {
      problem_is = m.problem_is ∙ i.problem_is;
      settings_are = m.settings_are ∙ i.settings_are;
      has = subst {A = List EntryLine} (λ ls. HasLines j.problem j.settings ls new.journal new.plain) more (more_made old new j.problem j.settings (take k j.lines) l hands within i.problem_is i.settings_are i.has m held);
    }

-- no board makes the next entry
pub bad_entry : (old : Seen) (j : Journal) (k : ℕ) (l : EntryLine) → IsWithinLimits j.problem → old.plain.problem ≡ j.problem → old.plain.settings ≡ j.settings → HasLines j.problem j.settings (take k j.lines) old.journal old.plain → k < length j.lines → get_or j.lines k l ≡ l → CannotMake old l → IsBadEntry j (k + 1)
bad_entry old j k l within problem settings h low at never =
    let before : k + 1 - 1 ≡ k = omega arith in
    record {
      from_one = omega arith;
      within = omega arith;
      before = (old.journal, old.plain, subst {A = ℕ} (λ n. HasLines j.problem j.settings (take n j.lines) old.journal old.plain) (sym before) h);
      with_it = λ made.
          let more : take (k + 1) j.lines ≡ take k j.lines ++ l ∷ [] = take_more j.lines k l low ∙ ap (λ z. take k j.lines ++ z ∷ []) at in
          let s = lines_shorter j.problem j.settings within (take k j.lines) l made.0 made.1 (subst {A = List EntryLine} (λ ls. HasLines j.problem j.settings ls made.0 made.1) more made.2) in
          let one = same_lines j.problem j.settings within (take k j.lines) s.journal old.journal s.board old.plain s.has h in
          never s.entry made.1
          (subst {A = Problem} (λ p. After p old.plain.settings (old.journal ++ s.entry ∷ []) made.1) (sym problem) (subst {A = Settings} (λ z. After j.problem z (old.journal ++ s.entry ∷ []) made.1) (sym settings)
          (subst {A = List Entry} (λ J. After j.problem j.settings (J ++ s.entry ∷ []) made.1) one.0 s.after)))
          s.line_is;
    }

pub bad_at : (old : Seen) (j : Journal) (k : ℕ) (l : EntryLine) → IsWithinLimits j.problem → k < length j.lines → get_or j.lines k l ≡ l → IsAt j old (take k j.lines) → CannotMake old l → IsBadEntry j (k + 1)
bad_at old j k l within low at i never = bad_entry old j k l within i.problem_is i.settings_are i.has low at never

-- a board that follows all lines has the journal
pub at_end : (b : Seen) (j : Journal) → IsAt j b j.lines → journal_of_board b ≡ j
at_end b j i =
    let problem = i.problem_is in
    let settings = i.settings_are in
    let lines = i.has.lines_are in
    λ n. record { problem = problem n; settings = settings n; lines = lines n }
