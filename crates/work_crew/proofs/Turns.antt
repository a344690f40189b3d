-- One worker's turns: what holds after each.
use Rattle.std.proofs.Common.{ℕ, ◌+◌, ◌≤◌, ◌≡◌, ◌≢◌, ◌⊎◌, inl, inr, ◌∙◌, refl, sym, ap, subst, arith, append_assoc, List, [], ◌∷◌, ◌++◌, Contains, Bool, true, false, not, ◌==◌, ◌||◌, filter, eq-eqb, None, Ok, Err}
use Rattle.std.specs.Prelude.{IsTrue, IsFalse, IsSome, is_err, Result, OnOk, OnErr, if◌then◌else◌}
use Rattle.std.proofs.lemmas.List.{append-nil}
use Rattle.std.proofs.lemmas.List.Elements.{All-append, Contains-append_right}
use Rattle.kb_lemmas.proofs.Membership.{contains_first, none_in}
use Rattle.kb_lemmas.proofs.Options.{none_some}
use Rattle.kb_term.specs.Signature.{Problem}
use Rattle.kb_term.specs.declared.memory.Memory.{Memory}
use Rattle.kb_node.specs.declared.job.Job.{Job}
use Rattle.kb_jobs.specs.Working.{ProposesBy}
use Rattle.kb_jobs.proofs.TakenLaws.{work_taken}
use Rattle.kb_jobs.specs.declared.working.Snapshot.{Snapshot}
use Rattle.mkb_model.specs.Plain.{Plain}
use Rattle.mkb_model.specs.Effects.{effect, is_dropped}
use Rattle.mkb_model.specs.Jobs.{process_of}
use Rattle.mkb_model.specs.Tickets.{CommitCameSince}
use Rattle.mkb_model.specs.Verdicts.{verdict}
use Rattle.mkb_model.specs.Proposals.{Proposes}
use Rattle.mkb_model.specs.Journals.{After, Alone, Moment, IsRun, IsTaking, IsFirstJob, IsDropping, journal_of, landed, takes_in_turn, is_end_of, tickets, worker_of}
use Rattle.mkb_model.specs.declared.proposed.Proposed.{Proposed}
use Rattle.mkb_model.specs.declared.entry.Ticket.{Ticket}
use Rattle.mkb_model.specs.declared.entry.Entry.{Entry}
use Rattle.mkb_model.specs.declared.entry.Entry.TheVariants.{Take, Commit, Drop, Abandon, Halt}
use Rattle.mkb_model.proofs.tickets.NoClash.{effect_flight}
use Rattle.mkb_model.proofs.labels.LivingNames.{effect_setting, within_budget}
use Rattle.mkb_model.proofs.runs.Meanings.{budget_left}
use Rattle.mkb_model.proofs.runs.Selections.{legal-possible}
use Rattle.mkb_model.proofs.tickets.InFlight.{taken_free}
use Rattle.mkb_model.proofs.tickets.Drops.{drops_follow_commits}
use Rattle.mkb_board.specs.Boards.{Seen, has_halt, takes_in, IsLegalBoard}
use Rattle.mkb_board.specs.Takes.{IsProposalOf, IsFinishedBy, take_entry}
use Rattle.mkb_board.specs.declared.answers.Finished.{Finished}
use Rattle.mkb_board.specs.declared.answers.Finished.TheVariants.{Ended, Dropped, Committed}
use Rattle.mkb_board.proofs.Growing.{halts_more, halts_of, takes_of}
use Rattle.turn_lock.specs.Turn.{IsFrom}
use Rattle.work_crew.proofs.Growing.{none_from, one_from}
use Rattle.work_crew.specs.Alone.{IsInTurn, IsSameRun, IsStopped, IsJustTaken, CommitsOnce, EndsAlone}
use Rattle.mkb_model.specs.declared.settings.Settings.{Settings}

-- one turn more: a take by worker 1 and the end of its ticket
pub turn_more : (J : List Entry) (t : ℕ) (j : Job) (e : Entry) → IsTrue (takes_in_turn J) → is_end_of t e ≡ true → IsTrue (takes_in_turn ((J ++ Take 1 t j ∷ []) ++ e ∷ []))
turn_more [] t j e h k = grind (arith, k)
turn_more (Take w s i ∷ []) t j e h k = absurd (cc)
turn_more (Take w s i ∷ d ∷ J) t j e h k = grind (arith, h, turn_more J t j e)
turn_more (Commit w s i ∷ J) t j e h k = absurd (cc)
turn_more (Drop w s i ∷ J) t j e h k = absurd (cc)
turn_more (Abandon w s ∷ J) t j e h k = absurd (cc)
turn_more (Halt ∷ J) t j e h k = absurd (cc)

-- a ticket more or less in flight makes no other run
pub unchanged_by : (old new : Seen) (n : ℕ) → new.plain ≡ landed n old.plain → IsSameRun old new
unchanged_by old new n e = record { problem = ap (λ (z : Plain). z.problem) e; settings = ap (λ (z : Plain). z.settings) e }

-- ---- a ticket that was just taken

same_landed : (n w : ℕ) (j : Job) → filter (λ (x : Ticket). not (x.number == n)) (record { number = n; worker = w; job = j } ∷ []) ≡ []
same_landed n w j = let e = eq-eqb n n refl in grind (arith, e)

module _ (s : Seen) (t : Ticket) (snapshot : Snapshot) (h : IsJustTaken s t snapshot) where
  -- its ticket alone is in flight
  pub flight_is : s.plain.flight ≡ t ∷ []
  flight_is = ap (λ (z : Plain). z.flight) h.takes.flies ∙ ap (λ (ts : List Ticket). ts ++ t ∷ []) h.in_turn.grounded

  pub flying : Contains s.plain.flight t
  flying = subst {A = List Ticket} (λ ts. Contains ts t) (sym flight_is) (contains_first t [])

  pub no_verdict : verdict s.plain ≡ None
  no_verdict = subst {A = Plain} (λ z. verdict z ≡ None) (sym h.takes.flies) h.takes.no_verdict

  pub same_run : IsSameRun h.before s
  same_run = record { problem = ap (λ (z : Plain). z.problem) h.takes.flies; settings = ap (λ (z : Plain). z.settings) h.takes.flies }

  -- what its job proposes by the snapshot may end it
  pub proposal_of : (x : Proposed) → Proposes h.before.plain t.job x → IsProposalOf s t x
  proposal_of x p = (
    h.before.plain,
    record {
      earlier = h.before.journal;
      later = [];
      parts = h.takes.entered;
      after = subst {A = Plain} (λ z. After z.problem z.settings h.before.journal h.before.plain) (sym h.takes.flies) h.legal.after;
    },
    p,
  )

  proposes : (x : Proposed) → ProposesBy snapshot x → Proposes h.before.plain t.job x
  proposes x p = subst {A = Job} (λ j. Proposes h.before.plain j x) h.takes.job_is (work_taken h.before.plain snapshot x h.takes.reads p)

  -- so may what its worker proposes
  pub worked : (x : Proposed) → ProposesBy snapshot x → IsProposalOf s t x
  worked x p = proposal_of x (proposes x p)

  -- the entries so far, of one worker
  of_one_more : (e : Entry) → worker_of e ≡ 1 → IsFrom worker_of 1 (s.journal ++ e ∷ [])
  of_one_more e k = All-append (λ (x : Entry). (worker_of x ≡ 1) ⊎ (worker_of x ≡ 0)) s.journal (e ∷ [])
      (subst {A = List Entry} (IsFrom worker_of 1) (sym h.takes.entered) (All-append (λ (x : Entry). (worker_of x ≡ 1) ⊎ (worker_of x ≡ 0)) h.before.journal (take_entry t ∷ []) h.in_turn.of_one (one_from 1 (take_entry t) (inl h.takes.worker_is))))
      (one_from 1 e (inl k))

  no_halt_taken : IsFalse (has_halt s.journal)
  no_halt_taken = ap has_halt h.takes.entered ∙ halts_more h.before.journal (take_entry t) ∙ ap (λ z. z || false) h.in_turn.no_halt

  -- where it is given back nothing is in flight
  pub given_back : (new : Seen) → new.plain ≡ landed t.number s.plain → new.journal ≡ s.journal ++ Abandon t.worker t.number ∷ [] → IsStopped new
  given_back new e entered = record {
    at_rest = record {
      no_verdict = subst {A = Plain} (λ z. verdict z ≡ None) (sym e) no_verdict;
      grounded = ap (λ (z : Plain). z.flight) e ∙ ap (filter (λ (x : Ticket). not (x.number == t.number))) flight_is ∙ same_landed t.number t.worker t.job;
    };
    no_halt = ap has_halt entered ∙ halts_more s.journal (Abandon t.worker t.number) ∙ ap (λ z. z || false) no_halt_taken;
    by_one = record {
      of_one = subst {A = List Entry} (IsFrom worker_of 1) (sym entered) (of_one_more (Abandon t.worker t.number) h.takes.worker_is);
      turns = h.before.journal;
      in_turn = h.in_turn.in_turn;
      last = Take 1 t.number t.job ∷ Abandon 1 t.number ∷ [];
      given_back = inr (t.number, t.job, refl);
      parts = entered ∙ ap (λ (J : List Entry). J ++ Abandon t.worker t.number ∷ []) h.takes.entered ∙ append_assoc h.before.journal (take_entry t ∷ []) (Abandon t.worker t.number ∷ [])
          ∙ ap (λ w. h.before.journal ++ Take w t.number t.job ∷ Abandon w t.number ∷ []) h.takes.worker_is;
    };
  }

  no_halt_more : (e : Entry) (J : List Entry) → J ≡ s.journal ++ e ∷ [] → is_end_of t.number e ≡ true → IsFalse (has_halt J)
  no_halt_more (Commit w n i) J e k = ap has_halt e ∙ halts_more s.journal (Commit w n i) ∙ ap (λ z. z || false) (ap has_halt h.takes.entered ∙ halts_more h.before.journal (take_entry t) ∙ ap (λ z. z || false) h.in_turn.no_halt)
  no_halt_more (Drop w n i) J e k = ap has_halt e ∙ halts_more s.journal (Drop w n i) ∙ ap (λ z. z || false) (ap has_halt h.takes.entered ∙ halts_more h.before.journal (take_entry t) ∙ ap (λ z. z || false) h.in_turn.no_halt)
  no_halt_more (Take w n i) J e k = absurd (cc)
  no_halt_more (Abandon w n) J e k = absurd (cc)
  no_halt_more Halt J e k = absurd (cc)

  ended : (e : Entry) (c : Plain) (new : Seen) → is_end_of t.number e ≡ true → worker_of e ≡ t.worker → c.flight ≡ s.plain.flight → c.problem ≡ s.plain.problem → c.settings ≡ s.plain.settings → new.plain ≡ landed t.number c → new.journal ≡ s.journal ++ e ∷ [] → IsInTurn new × IsSameRun s new
  ended e c new k own f p b lands entered = (
    record {
      grounded = ap (λ (z : Plain). z.flight) lands ∙ ap (filter (λ (x : Ticket). not (x.number == t.number))) (f ∙ flight_is) ∙ same_landed t.number t.worker t.job;
      no_halt = no_halt_more e new.journal entered k;
      in_turn = subst {A = List Entry} (λ J. IsTrue (takes_in_turn J)) (sym (entered ∙ ap (λ (J : List Entry). J ++ e ∷ []) (h.takes.entered ∙ ap (λ w. h.before.journal ++ Take w t.number t.job ∷ []) h.takes.worker_is))) (turn_more h.before.journal t.number t.job e h.in_turn.in_turn k);
      of_one = subst {A = List Entry} (IsFrom worker_of 1) (sym entered) (of_one_more e (own ∙ h.takes.worker_is));
    },
    record { problem = ap (λ (z : Plain). z.problem) lands ∙ p; settings = ap (λ (z : Plain). z.settings) lands ∙ b },
  )

  -- after its end nothing is in flight again
  pub finished : (new : Seen) (x : Proposed) (f : Finished) → IsFinishedBy s new t x f → IsInTurn new × IsSameRun s new
  finished new x (Ended v) r = none_some (sym no_verdict ∙ r.1)
  finished new x (Dropped p) r = ended (Drop t.worker t.number p) s.plain new (eq-eqb t.number t.number refl) refl refl refl refl r.3 r.4
  finished new x (Committed a) r = ended (Commit t.worker t.number _) (effect s.plain x) new (eq-eqb t.number t.number refl) refl (effect_flight s.plain x) (effect_setting s.plain x).0 (effect_setting s.plain x).1 r.3 r.4

  -- the moment of the take
  abbrev taking : Moment
  taking = record { board = h.before.plain; entry = take_entry t }

  taken : IsTaking IsFirstJob h.legal.after.0 h.before.plain t.worker t.number t.job s.plain
  taken = record {
    no_verdict = h.takes.no_verdict;
    no_halt = halts_of h.legal.after.0 ∙ ap has_halt h.legal.after.1 ∙ h.takes.no_halt;
    worker_least = subst {A = ℕ} (λ w. 1 ≤ w) (sym h.takes.worker_is) (omega arith);
    worker_most = subst {A = ℕ} (λ w. w ≤ 16) (sym h.takes.worker_is) (omega arith);
    next_number = number;
    picked = h.takes.first;
    leads_to = h.takes.flies;
  }
    where
      number : t.number ≡ tickets h.legal.after.0 + 1
      number = h.takes.number_is ∙ ap (λ z. z + 1) (sym (takes_of h.legal.after.0 ∙ ap takes_in h.legal.after.1))

  -- nothing was committed since the take, so what its job proposes acts
  never_dropped : (x : Proposed) → Proposes h.before.plain t.job x → is_dropped s.plain x ≡ true → ⊥
  never_dropped x p idle = go c.later c.parts c.after
    where
      drop : IsDropping (taking ∷ h.legal.after.0) s.plain t.worker t.number (process_of t.job) (landed t.number s.plain)
      drop = record {
        job = t.job;
        proposal = x;
        finishing = record { no_verdict = no_verdict; flying = flying; before = h.before.plain; taken = contains_first taking h.legal.after.0; proposed = p };
        idle = idle;
        names_process = refl;
        leads_to = refl;
      }

      c : CommitCameSince (taking ∷ h.legal.after.0) h.before.plain t.worker t.number t.job
      c = drops_follow_commits h.before.plain.problem h.before.plain.settings (taking ∷ h.legal.after.0) s.plain t.worker t.number (process_of t.job) (landed t.number s.plain)
          (legal-possible h.before.plain.problem h.before.plain.settings (taking ∷ h.legal.after.0) s.plain (h.legal.after.2, taken)) drop

      go : (later : List Moment) → (taking ∷ h.legal.after.0) ≡ later ++ taking ∷ c.earlier → Contains later c.commit → ⊥
      go [] q i = none_in i
      go (m ∷ later) q i =
          let rest : h.legal.after.0 ≡ later ++ taking ∷ c.earlier = cc in
          let here : Contains h.legal.after.0 taking = subst {A = List Moment} (λ ms. Contains ms taking) (sym rest) (Contains-append_right later (taking ∷ c.earlier) taking (contains_first taking c.earlier)) in
          let most = (taken_free h.before.plain.problem h.before.plain.settings h.legal.after.0 h.before.plain (legal-possible h.before.plain.problem h.before.plain.settings h.legal.after.0 h.before.plain h.legal.after.2) h.before.plain t.worker t.number t.job here).1 in
          let number = taken.next_number in
          omega (arith, most, number)

  -- before the take a commit was left in the budget
  commit_left : s.plain.commits + 1 ≤ s.plain.settings.budget
  commit_left =
      let w = (within_budget IsFirstJob h.before.plain.problem h.before.plain.settings h.legal.after.0 h.before.plain h.legal.after.2).commits in
      let left : h.before.plain.commits ≢ h.before.plain.settings.budget = budget_left h.before.plain h.takes.no_verdict in
      subst {A = Plain} (λ z. z.commits + 1 ≤ z.settings.budget) (sym h.takes.flies) (omega (arith, w, left))

  -- its end is one commit more
  pub commits_once : (new : Seen) (x : Proposed) (f : Finished) → ProposesBy snapshot x → IsFinishedBy s new t x f → CommitsOnce s new
  commits_once new x (Ended v) p r = none_some (sym no_verdict ∙ r.1)
  commits_once new x (Dropped q) p r = absurd (never_dropped x (proposes x p) r.1)
  commits_once new x (Committed a) p r = record {
    more = more;
    within = subst {A = ℕ} (λ k. k ≤ new.plain.settings.budget) (sym more) (subst {A = Settings} (λ n. s.plain.commits + 1 ≤ n.budget) (sym (ap (λ (z : Plain). z.settings) r.3 ∙ (effect_setting s.plain x).1)) commit_left);
  }
    where
      more : new.plain.commits ≡ s.plain.commits + 1
      more = ap (λ (z : Plain). z.commits) r.3 ∙ (effect_setting s.plain x).2

-- where no ticket is in flight the work may stop at once
pub stopped : (s : Seen) → IsInTurn s → verdict s.plain ≡ None → IsStopped s
stopped s h none = record {
  at_rest = record { no_verdict = none; grounded = h.grounded };
  no_halt = h.no_halt;
  by_one = record { of_one = h.of_one; turns = s.journal; in_turn = h.in_turn; last = []; given_back = inl refl; parts = sym (append-nil s.journal) };
}

-- ---- the first and the last board

-- where the journal is empty nothing is in flight
pub opened : (s : Seen) → IsLegalBoard s → s.journal ≡ [] → IsInTurn s
opened s legal e = record {
  grounded = go legal.after.0 (legal.after.1 ∙ e) legal.after.2;
  no_halt = ap has_halt e;
  in_turn = ap takes_in_turn e;
  of_one = subst {A = List Entry} (IsFrom worker_of 1) (sym e) (none_from 1);
}
  where
    some_entry : (J : List Entry) (x : Entry) → J ++ x ∷ [] ≡ [] → ⊥
    some_entry [] x q = cc
    some_entry (y ∷ J) x q = cc

    go : (ms : List Moment) → journal_of ms ≡ [] → IsRun s.plain.problem s.plain.settings ms s.plain → s.plain.flight ≡ []
    go [] q r = ap (λ (z : Plain). z.flight) r
    go (m ∷ ms) q r = absurd (some_entry (journal_of ms) m.entry q)

-- after it a halt was made
pub halt_made : (J K : List Entry) → K ≡ (if has_halt J then J else J ++ Halt ∷ []) → IsTrue (has_halt K)
halt_made J K e = go (has_halt J) refl (ap has_halt e)
  where
    go : (b : Bool) → has_halt J ≡ b → has_halt K ≡ has_halt (if b then J else J ++ Halt ∷ []) → has_halt K ≡ true
    go true h k = k ∙ h
    go false h k = k ∙ halts_more J Halt ∙ ap (λ z. z || true) h

-- the last call answered that there is no memory
pub broken_off : (old mid end : Seen) (out : Bool) (r : Result (Unit {0}) Memory) → IsSameRun old mid → OnErr r (IsStopped mid) → is_err r ≡ out → out ≡ true → end.plain ≡ mid.plain → end.journal ≡ (if has_halt mid.journal then mid.journal else mid.journal ++ Halt ∷ []) → EndsAlone old.plain.problem old.plain.settings (record { board = end; out_of_memory = out })
broken_off old mid end out r same err is true_out e halted = (
  λ q. (let clash : true ≡ false = sym true_out ∙ q in absurd (cc)),
  λ q. record {
    problem = ap (λ (z : Plain). z.problem) e ∙ same.problem;
    settings = ap (λ (z : Plain). z.settings) e ∙ same.settings;
    at_rest = record {
      no_verdict = subst {A = Plain} (λ z. verdict z ≡ None) (sym e) stop.at_rest.no_verdict;
      grounded = ap (λ (z : Plain). z.flight) e ∙ stop.at_rest.grounded;
    };
    entries = mid.journal;
    by_one = stop.by_one;
    halted = halted ∙ ap (λ (b : Bool). if b then mid.journal else mid.journal ++ Halt ∷ []) stop.no_halt;
  },
)
  where
    go : (r : Result (Unit {0}) Memory) → is_err r ≡ true → OnErr r (IsStopped mid) → IsStopped mid
    go (Ok x) k h = absurd (cc)
    go (Err x) k h = h

    stop : IsStopped mid
    stop = go r (is ∙ true_out) err

-- where a verdict stands each ticket was ended
pub all_ended : (old mid end : Seen) (out : Bool) (r : Result (Unit {0}) Memory) → IsSameRun old mid → OnOk r (IsInTurn mid) → OnOk r (IsSome (verdict mid.plain)) → is_err r ≡ out → out ≡ false → end ≡ mid → IsLegalBoard end → EndsAlone old.plain.problem old.plain.settings (record { board = end; out_of_memory = out })
all_ended old mid end out r same ok over is false_out e legal = (
  λ q. alone (go r (is ∙ false_out) ok over),
  λ q. (let clash : true ≡ false = sym q ∙ false_out in absurd (cc)),
)
  where
    go : (r : Result (Unit {0}) Memory) → is_err r ≡ false → OnOk r (IsInTurn mid) → OnOk r (IsSome (verdict mid.plain)) → IsInTurn mid × IsSome (verdict mid.plain)
    go (Ok x) k h o = (h, o)
    go (Err x) k h o = absurd (cc)

    alone : IsInTurn mid × IsSome (verdict mid.plain) → Alone old.plain.problem old.plain.settings end.journal end.plain
    alone h = record {
      legal = subst {A = Problem} (λ p. After p old.plain.settings end.journal end.plain) (ap (λ (z : Seen). z.plain.problem) e ∙ same.problem)
          (subst {A = Settings} (λ n. After end.plain.problem n end.journal end.plain) (ap (λ (z : Seen). z.plain.settings) e ∙ same.settings) legal.after);
      in_turn = subst {A = Seen} (λ z. IsTrue (takes_in_turn z.journal)) (sym e) h.0.in_turn;
      ended = subst {A = Seen} (λ z. IsSome (verdict z.plain)) (sym e) h.1;
    }
