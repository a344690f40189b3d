-- In a possible run each process that is closed or being closed is at rest, and a closed one has no job of its own in flight.
use Rattle.mkb_model.specs.Sleeping.{settle}
use Rattle.std.proofs.Common.{ℕ, ◌≡◌, ◌≢◌, ◌⊎◌, inl, inr, refl, sym, ap, ◌∙◌, subst, List, [], ◌∷◌, filter, Contains, true, false, not, ◌==◌, Option, Some, None, ⊎_elim}
use Rattle.std.specs.Prelude.{IsFalse}
use Rattle.std.specs.List.{list_any}
use Rattle.std.specs.Option.{option_map_or}
use Rattle.std.proofs.lemmas.List.Elements.{Contains-append_cases}
use Rattle.std.proofs.lemmas.Bool.{or_cases}
use Rattle.kb_lemmas.proofs.Membership.{contains_cases, none_in}
use Rattle.kb_lemmas.proofs.Booleans.{and_gives_left, and_gives_right}
use Rattle.kb_term.specs.Signature.{Problem}
use Rattle.kb_label.specs.Names.{Name, has, name_eq}
use Rattle.kb_label.specs.declared.verdict.Reason.{Reason}
use Rattle.kb_label.proofs.Members.{has-add, name_eq-eq}
use Rattle.kb_label.proofs.Sets.{relabel-absent}
use Rattle.kb_node.specs.declared.job.Job.{Job}
use Rattle.kb_node.specs.declared.job.Job.TheVariants.{Reduce, Orient, Overlap, Close}
use Rattle.kb_node.specs.declared.node.LabelKind.TheVariants.{E, X}
use Rattle.mkb_model.specs.Jobs.{process_of}
use Rattle.mkb_model.specs.Plain.{Plain, is_equation, is_over, label}
use Rattle.mkb_model.specs.DueJobs.{is_due, is_work_due, is_close_due, is_working, work_of}
use Rattle.mkb_model.specs.Effects.{applied, effect, limit_of, give_up, effect_label, counted, is_dropped}
use Rattle.mkb_model.specs.Proposals.{Proposes}
use Rattle.mkb_model.specs.Invariants.{FlightIsClear, FactsHold, AreApart, ClosedIsAtRest}
use Rattle.mkb_model.specs.Journals.{Moment, Follows, IsPossibleRun, IsFreeJob, in_flight, landed}
use Rattle.mkb_model.specs.Ready.{KeepsPairs}
use Rattle.mkb_model.specs.declared.proposed.Proposed.{Proposed}
use Rattle.mkb_model.specs.declared.proposed.Proposed.TheVariants.{Facts, Rewrite, One, Both, Refuse, Deduce, Unjoined, Closed, Limit}
use Rattle.mkb_model.specs.declared.entry.Ticket.{Ticket}
use Rattle.mkb_model.specs.declared.entry.Entry.{Entry}
use Rattle.mkb_model.specs.declared.entry.Entry.TheVariants.{Take, Commit, Drop, Abandon, Halt}
use Rattle.mkb_model.proofs.Lists.{clash, decide, not_true, any_none}
use Rattle.mkb_model.proofs.tickets.NoClash.{effect_flight, flight_clear}
use Rattle.mkb_model.proofs.labels.LivingNames.{living_forked}
use Rattle.mkb_model.proofs.nodes.DistinctPairs.{pairs_stay}
use Rattle.mkb_model.proofs.runs.KnownFacts.{facts_hold}
use Rattle.mkb_model.proofs.tickets.InFlight.{is_own, own_of, owners_differ, OwnersLive, owners_live, not_landed, free_due, taken_free}
use Rattle.mkb_model.proofs.labels.LivingLabels.{IsLabelled, labelled_run}
use Rattle.mkb_model.proofs.commits.Bystanders.{IsUnmoved, unmoved_effect}
use Rattle.mkb_model.proofs.closing.LeftAlone.{Rests, rests_from, rests_to, rests_unmoved, rest_unnamed, known_job}
use Rattle.mkb_model.specs.declared.settings.Settings.{Settings}

-- who is closed or being closed is at rest, and who is closed has no job of its own in flight
pub record IsResting (b : Plain) : Type 0 where
  pub closed : (p : Name) → has b.closed p ≡ true → Rests b p
  pub closing : (t : Ticket) (p : Name) → Contains b.flight t → t.job ≡ Close p → Rests b p
  pub no_own : (p : Name) → has b.closed p ≡ true → (t : Ticket) → Contains b.flight t → is_own t.job ≡ true → process_of t.job ≢ p

-- ---- takes

-- what is closed for a process that may be closed
pub due_rests : (b : Plain) (p : Name) → is_due b (Close p) ≡ true → Rests b p × (has b.closed p ≡ false)
due_rests b p h =
    let w = and_gives_left (is_working b p) (is_close_due b p) h in
    let c = and_gives_right (is_working b p) (is_close_due b p) h in (
      rests_from b p (record {
        not_over = not_true (and_gives_right (has b.living p) (not (is_over b p)) w);
        no_work = any_none (is_work_due b) (work_of b p) (not_true (and_gives_left (not (list_any (is_work_due b) (work_of b p))) (not (has b.closed p)) c));
      }),
      not_true (and_gives_right (not (list_any (is_work_due b) (work_of b p))) (not (has b.closed p)) c),
    )

-- no own job of a closed process may be taken
not_due : (b : Plain) (j : Job) → is_due b j ≡ true → is_own j ≡ true → has b.closed (process_of j) ≡ true → Rests b (process_of j) → ⊥
not_due b (Orient p n) h own c r =
    let k = and_gives_right (is_working b p) (is_work_due b (Orient p n)) h in
    clash (r.refused n.0 (and_gives_left (is_equation b p n.0) (not (has (label b n.0 X) p)) k)) (not_true (and_gives_right (is_equation b p n.0) (not (has (label b n.0 X) p)) k))
not_due b (Close p) h own c r = clash c (due_rests b p h).1
not_due b (Reduce p n) h own c r = clash own refl
not_due b (Overlap p a e) h own c r = clash own refl

resting_taken : (b : Plain) (w t : ℕ) (j : Job) → IsFreeJob b j → IsResting b → IsResting (in_flight w t j b)
resting_taken b w t j free h = record {
  closed = λ p c. again p (h.closed p c);
  closing = λ u p i e. again p (⊎_elim (λ k. h.closing u p k e) (λ k. ⊎_elim (λ q. (due_rests b p (subst {A = Job} (λ z. is_due b z ≡ true) (ap (λ (z : Ticket). z.job) q ∙ e) due)).0) (λ q. none_in q) (contains_cases new [] u k)) (Contains-append_cases b.flight (new ∷ []) u i));
  no_own = λ p c u i own. ⊎_elim (λ k. h.no_own p c u k own)
      (λ k e. ⊎_elim (λ q. let f : j ≡ u.job = ap (λ (z : Ticket). z.job) q in not_due b j due (subst {A = Job} (λ z. is_own z ≡ true) (sym f) own) (subst {A = Name} (λ z. has b.closed z ≡ true) (sym (ap process_of f ∙ e)) c) (subst {A = Name} (Rests b) (sym (ap process_of f ∙ e)) (h.closed p c))) (λ q. none_in q) (contains_cases new [] u k))
      (Contains-append_cases b.flight (new ∷ []) u i);
}
  where
    new : Ticket
    new = record { number = t; worker = w; job = j }

    due : is_due b j ≡ true
    due = (free_due b j free).3

    again : (p : Name) → Rests b p → Rests (in_flight w t j b) p
    again p r = record { not_over = r.not_over; reduced = r.reduced; refused = r.refused; overlapped = r.overlapped }

-- ---- commits

-- a closing alone proposes that the process is closed
pub closing_job : (b : Plain) (j : Job) (q : Name) → Proposes b j (Closed q) → j ≡ Close q
closing_job b (Close p) q h = ap Close (sym h.0)
closing_job b (Reduce p n) q h = absurd h
closing_job b (Orient p n) q h = absurd h
closing_job b (Overlap p a c) q h = absurd h

-- a closed process is forked
abbrev pub IsForkOfClosed : Plain → Proposed → Type 0
IsForkOfClosed b (Both q n c0 c1) = has b.closed q ≡ true
IsForkOfClosed b x = ⊥

-- the proposal closes the process, and leaves it at rest
abbrev pub Closes : Plain → Proposed → Plain → Name → Type 0
Closes b x c p = (x ≡ Closed p) × (Rests b p → Rests c p)

applied_closed : (b : Plain) (x : Proposed) (p : Name) → has (applied b x).closed p ≡ true → (has b.closed p ≡ true) ⊎ (Closes b x (settle (counted (applied b x))) p ⊎ IsForkOfClosed b x)
applied_closed b (Both q n c0 c1) p h = ⊎_elim (λ e. inr (inr e)) (λ e. inl (subst {A = List Name} (λ l. has l p ≡ true) (relabel-absent q b.closed e) h)) (decide (has b.closed q))
applied_closed b (Closed q) p h = ⊎_elim (λ e. inr (inl (ap Closed (sym (name_eq-eq p q e)), λ r. record { not_over = r.not_over; reduced = r.reduced; refused = r.refused; overlapped = r.overlapped }))) (λ e. inl e) (or_cases (name_eq p q) (has b.closed p) (sym (has-add q b.closed p) ∙ h))
applied_closed b (Facts fs) p h = inl h
applied_closed b (Rewrite n w at a kind t) p h = inl h
applied_closed b (One q n d c) p h = inl h
applied_closed b (Refuse q n) p h = inl h
applied_closed b (Deduce a c ds) p h = inl h
applied_closed b (Unjoined q ds) p h = inl h
applied_closed b (Limit j cause) p h = inl h

pub effect_closed : (b : Plain) (x : Proposed) (p : Name) → has (effect b x).closed p ≡ true → (has b.closed p ≡ true) ⊎ (Closes b x (effect b x) p ⊎ IsForkOfClosed b x)
effect_closed b x p = go (limit_of b x)
  where
    go : (o : Option Reason) → has (option_map_or (λ r. give_up r (effect_label b x) b) o (applied b x)).closed p ≡ true → (has b.closed p ≡ true) ⊎ (Closes b x (settle (counted (option_map_or (λ r. give_up r (effect_label b x) b) o (applied b x)))) p ⊎ IsForkOfClosed b x)
    go None h = applied_closed b x p h
    go (Some r) h = inl h

rests_landed : (t : ℕ) (b : Plain) (p : Name) → Rests b p → Rests (landed t b) p
rests_landed t b p r = record { not_over = r.not_over; reduced = r.reduced; refused = r.refused; overlapped = r.overlapped }

-- what a commit needs of the board
pub record Stands (b : Plain) : Type 0 where
  pub clear : FlightIsClear b
  pub apart : AreApart b.living
  pub facts : FactsHold b
  pub owners : OwnersLive b
  pub labelled : IsLabelled b

module _ (before b : Plain) (w t : ℕ) (j : Job) (x : Proposed) (proposed : Proposes before j x) (free : IsFreeJob before j) (keeps : KeepsPairs before.nodes b.nodes) (flying : Contains b.flight (record { number = t; worker = w; job = j })) (acts : IsFalse (is_dropped b x)) (s : Stands b) (h : IsResting b) where
  -- a process at rest that has no part in the job
  pub stays : (p : Name) → Rests b p → has b.living p ≡ true → (is_own j ≡ true → process_of j ≢ p) → IsUnmoved b (effect b x) p
  stays p rest lives away =
      let d = free_due before j free in
      unmoved_effect b x p acts (rest_unnamed before b j x p proposed (known_job before d.0 d.0 j d.2 d.3) keeps s.facts rest away) s.apart (λ q n e. (s.labelled.nodes n E).lives q e) lives

  closed_stays : (p : Name) → has b.closed p ≡ true → Rests (effect b x) p
  closed_stays p c = rests_unmoved b (effect b x) p (stays p (h.closed p c) (s.labelled.closed.lives p c) (λ own. h.no_own p c (record { number = t; worker = w; job = j }) flying own)) (h.closed p c)

  pub not_forked : (y : Proposed) → Proposes before j y → ¬ IsForkOfClosed b y
  not_forked (Both q n c0 c1) k c = let o = own_of before j (Both q n c0 c1) k in h.no_own q c (record { number = t; worker = w; job = j }) flying o.0 o.1
  not_forked (Facts fs) k c = c
  not_forked (Rewrite n w at a kind u) k c = c
  not_forked (One q n d e) k c = c
  not_forked (Refuse q n) k c = c
  not_forked (Deduce a e ds) k c = c
  not_forked (Unjoined q ds) k c = c
  not_forked (Closed q) k c = c
  not_forked (Limit i cause) k c = c

  closes : (p : Name) → x ≡ Closed p → j ≡ Close p
  closes p e = closing_job before j p (subst {A = Proposed} (Proposes before j) e proposed)

  resting_commit : IsResting (landed t (effect b x))
  resting_commit = record {
    closed = λ p c. rests_landed t (effect b x) p (⊎_elim (λ k. closed_stays p k) (λ k. ⊎_elim (λ e. e.1 (h.closing (record { number = t; worker = w; job = j }) p flying (closes p e.0))) (λ e. absurd (not_forked x proposed e)) k) (effect_closed b x p c));
    closing = λ u p i e.
        let k = before_landing u i in
        let own : is_own u.job ≡ true = subst {A = Job} (λ z. is_own z ≡ true) (sym e) refl in
        let rest = h.closing u p k.0 e in
        rests_landed t (effect b x) p (rests_unmoved b (effect b x) p (stays p rest (subst {A = Job} (λ z. has b.living (process_of z) ≡ true) e (s.owners u k.0 own)) (λ o q. owners_differ b s.clear (record { number = t; worker = w; job = j }) u flying k.0 (λ n. k.1 (sym n)) o own (q ∙ sym (ap process_of e)))) rest);
    no_own = λ p c u i own.
        let k = before_landing u i in
        ⊎_elim (λ l. h.no_own p l u k.0 own)
        (λ l. ⊎_elim (λ e q. let f = closes p e.0 in owners_differ b s.clear (record { number = t; worker = w; job = j }) u flying k.0 (λ n. k.1 (sym n)) (subst {A = Job} (λ z. is_own z ≡ true) (sym f) refl) own (ap process_of f ∙ sym q)) (λ e. absurd (not_forked x proposed e)) l)
        (effect_closed b x p c);
  }
    where
      before_landing : (u : Ticket) → Contains (landed t (effect b x)).flight u → Contains b.flight u × (u.number ≢ t)
      before_landing u i = not_landed t b.flight u (subst {A = List Ticket} (λ ts. Contains (filter (λ (x : Ticket). not (x.number == t)) ts) u) (effect_flight b x) i)

resting_landed : (t : ℕ) (b : Plain) → IsResting b → IsResting (landed t b)
resting_landed t b h = record {
  closed = λ p c. rests_landed t b p (h.closed p c);
  closing = λ u p i e. rests_landed t b p (h.closing u p (not_landed t b.flight u i).0 e);
  no_own = λ p c u i own. h.no_own p c u (not_landed t b.flight u i).0 own;
}

-- ---- runs

pub stands_run : (P : Problem) (n : Settings) (ms : List Moment) (c : Plain) → IsPossibleRun P n ms c → Stands c
stands_run P n ms c run = record { clear = flight_clear P n ms c run; apart = (living_forked IsFreeJob P n ms c run).apart; facts = facts_hold IsFreeJob P n ms c run; owners = owners_live P n ms c run; labelled = labelled_run P n ms c run }

resting_follow : (P : Problem) (n : Settings) (past : List Moment) (b : Plain) (e : Entry) (c : Plain) → IsPossibleRun P n past b → Follows IsFreeJob past b e c → IsResting b → IsResting c
resting_follow P n past b (Take w t j) c run f h = subst {A = Plain} IsResting (sym f.leads_to) (resting_taken b w t j f.picked h)
resting_follow P n past b (Commit w t e) c run f h = subst {A = Plain} IsResting (sym f.leads_to)
    (resting_commit f.finishing.before b w t f.job f.proposal f.finishing.proposed (taken_free P n past b run f.finishing.before w t f.job f.finishing.taken).0
    (pairs_stay IsFreeJob P n past b run (record { board = f.finishing.before; entry = Take w t f.job }) f.finishing.taken) f.finishing.flying f.acts (stands_run P n past b run) h)
resting_follow P n past b (Drop w t p) c run f h = subst {A = Plain} IsResting (sym f.leads_to) (resting_landed t b h)
resting_follow P n past b (Abandon w t) c run f h = subst {A = Plain} IsResting (sym f.leads_to) (resting_landed t b h)
resting_follow P n past b Halt c run f h = subst {A = Plain} IsResting (sym f.1) h

pub resting_run : (P : Problem) (n : Settings) (ms : List Moment) (c : Plain) → IsPossibleRun P n ms c → IsResting c
resting_run P n [] c run = subst {A = Plain} IsResting (sym run) (record { closed = λ p e. clash e refl; closing = λ u p i. none_in i; no_own = λ p e. clash e refl })
resting_run P n (m ∷ ms) c (run, f) = resting_follow P n ms m.board m.entry c run f (resting_run P n ms m.board run)

-- as it is stated
pub closed_rests : (P : Problem) (n : Settings) (ms : List Moment) (c : Plain) → IsPossibleRun P n ms c → (p : Name) → ClosedIsAtRest c p
closed_rests P n ms c run p = record {
  closed = λ k. rests_to c p (h.closed p k);
  closing = λ f. rests_to c p (h.closing f.0 p f.1 f.2);
  no_orient = λ k n f. h.no_own p k f.0 f.1 (subst {A = Job} (λ z. is_own z ≡ true) (sym f.2) refl) (ap process_of f.2);
  no_close = λ k f. h.no_own p k f.0 f.1 (subst {A = Job} (λ z. is_own z ≡ true) (sym f.2) refl) (ap process_of f.2);
}
  where
    h : IsResting c
    h = resting_run P n ms c run
