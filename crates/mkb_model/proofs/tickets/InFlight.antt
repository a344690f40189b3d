-- Tickets in flight: their takes were due; who orients or closes lives; two such tickets are of different processes.
use Rattle.std.proofs.Common.{ℕ, suc, ◌≤◌, ◌<◌, ◌≡◌, ◌≢◌, ◌⊎◌, inl, inr, refl, sym, ap, ◌∙◌, subst, arith, List, [], ◌∷◌, ◌++◌, filter, length, Contains, Bool, true, false, cond, not, ◌==◌, get_or, Option, Some, None, ⊎_elim}
use Rattle.std.specs.Prelude.{⊤, AllPairs, IsFalse}
use Rattle.std.specs.Option.{option_map_or}
use Rattle.std.proofs.lemmas.Bool.{eq-eqb}
use Rattle.std.proofs.lemmas.List.{get_or_default}
use Rattle.std.proofs.lemmas.List.Elements.{Contains-append_cases}
use Rattle.kb_lemmas.proofs.Membership.{contains_cases, none_in, contains_flat_map_back}
use Rattle.kb_lemmas.proofs.Booleans.{and_gives_left}
use Rattle.kb_term.specs.Signature.{Problem}
use Rattle.kb_label.specs.Names.{Name, has, name_eq}
use Rattle.kb_label.proofs.Members.{name_eq-eq, name_eq-refl}
use Rattle.kb_label.specs.declared.verdict.Reason.{Reason}
use Rattle.kb_node.specs.declared.job.Job.{Job}
use Rattle.kb_node.specs.declared.job.Job.TheVariants.{Reduce, Orient, Overlap, Close}
use Rattle.mkb_model.specs.Jobs.{clashes, process_of, is_free}
use Rattle.mkb_model.specs.Plain.{Plain, is_over}
use Rattle.mkb_model.specs.DueJobs.{awake, is_due, is_work_due, is_close_due, is_working, work_of, due_jobs_of, due_jobs, flying_jobs}
use Rattle.mkb_model.specs.Effects.{applied, effect, limit_of, give_up, effect_label}
use Rattle.mkb_model.specs.Proposals.{Proposes}
use Rattle.mkb_model.specs.Invariants.{FlightIsClear}
use Rattle.mkb_model.specs.Journals.{Moment, Follows, IsPossibleRun, IsFreeJob, tickets, is_take}
use Rattle.mkb_model.specs.declared.proposed.Proposed.{Proposed}
use Rattle.mkb_model.specs.declared.proposed.Proposed.TheVariants.{Facts, Rewrite, One, Both, Refuse, Deduce, Unjoined, Closed, Limit}
use Rattle.mkb_model.specs.declared.entry.Ticket.{Ticket}
use Rattle.mkb_model.specs.declared.entry.Entry.{Entry}
use Rattle.mkb_model.specs.declared.entry.Entry.TheVariants.{Take, Commit, Drop, Abandon, Halt}
use Rattle.mkb_model.proofs.Lists.{clash, false_unless, filter_in, equal_or_more, not_true}
use Rattle.mkb_model.proofs.commits.Roles.{below}
use Rattle.mkb_model.proofs.tickets.NoClash.{effect_flight, flight_clear}
use Rattle.mkb_model.proofs.labels.NameLists.{other_lives}
use Rattle.mkb_model.proofs.runs.Endings.{has_in}
use Rattle.mkb_model.specs.declared.settings.Settings.{Settings}

-- ---- a process's own jobs

-- the job is an orienting or a closing
abbrev pub is_own : Job → Bool
is_own (Reduce p n) = false
is_own (Orient p n) = true
is_own (Overlap p a c) = false
is_own (Close p) = true

own_clash : (i j : Job) → is_own i ≡ true → is_own j ≡ true → clashes i j ≡ name_eq (process_of i) (process_of j)
own_clash (Orient p n) (Orient q m) h k = refl
own_clash (Orient p n) (Close q) h k = refl
own_clash (Close p) (Orient q m) h k = refl
own_clash (Close p) (Close q) h k = refl
own_clash (Reduce p n) j h k = clash h refl
own_clash (Overlap p a c) j h k = clash h refl
own_clash i (Reduce q m) h k = clash k refl
own_clash i (Overlap q a c) h k = clash k refl

-- of two tickets one does not clash with the other
pub two_clear : (ts : List Ticket) → AllPairs (λ (t u : Ticket). IsFalse (clashes u.job t.job)) ts → (t u : Ticket) → Contains ts t → Contains ts u → t.number ≢ u.number → (clashes u.job t.job ≡ false) ⊎ (clashes t.job u.job ≡ false)
two_clear ts clear t u i k d = ⊎_elim (λ l. inl (earlier t u i k l)) (λ l. ⊎_elim (λ e. absurd (d (ap (λ (z : Ticket). z.number) (same e)))) (λ m. inr (earlier u t k i (omega (arith, m)))) (equal_or_more k.0 i.0 l)) (below i.0 k.0)
  where
    earlier : (t u : Ticket) (i : Contains ts t) (k : Contains ts u) → i.0 < k.0 → clashes u.job t.job ≡ false
    earlier t u i k l = subst {A = Ticket} (λ z. clashes z.job t.job ≡ false) (get_or_default ts k.0 t u k.1 ∙ k.2) (subst {A = Ticket} (λ z. clashes (get_or ts k.0 t).job z.job ≡ false) i.2 (clear i.0 k.0 t l k.1))

    same : k.0 ≡ i.0 → t ≡ u
    same e = sym i.2 ∙ ap (λ n. get_or ts n t) (sym e) ∙ get_or_default ts k.0 t u k.1 ∙ k.2

-- two tickets of own jobs are of different processes
pub owners_differ : (b : Plain) → FlightIsClear b → (t u : Ticket) → Contains b.flight t → Contains b.flight u → t.number ≢ u.number → is_own t.job ≡ true → is_own u.job ≡ true → process_of t.job ≢ process_of u.job
owners_differ b clear t u i k d ht hu e = ⊎_elim
    (λ c. clash (subst {A = Name} (λ z. name_eq (process_of u.job) z ≡ true) (sym e) (name_eq-refl (process_of u.job))) (sym (own_clash u.job t.job hu ht) ∙ c))
    (λ c. clash (subst {A = Name} (λ z. name_eq (process_of t.job) z ≡ true) e (name_eq-refl (process_of t.job))) (sym (own_clash t.job u.job ht hu) ∙ c))
    (two_clear b.flight clear t u i k d)

-- ---- takes

-- a job that may be taken is one of the work or the closing of a living process, and due
pub free_due : (b : Plain) (j : Job) → IsFreeJob b j → (p : Name) × (has b.living p ≡ true) × Contains (work_of b p ++ Close p ∷ []) j × (is_due b j ≡ true)
free_due b j free =
    let f = filter_in (is_free (flying_jobs b)) (due_jobs b) j free in
    let r = contains_flat_map_back (due_jobs_of b) (awake b) j f.0 in
    let d = filter_in (is_due b) (work_of b r.0 ++ Close r.0 ∷ []) j r.2 in
    (r.0, has_in b.living r.0 (filter_in (λ q. not (has b.asleep q)) b.living r.0 r.1).0, d.0, d.1)

pub due_working : (b : Plain) (j : Job) → is_due b j ≡ true → is_working b (process_of j) ≡ true
due_working b (Reduce p n) h = and_gives_left (is_working b p) (is_work_due b (Reduce p n)) h
due_working b (Orient p n) h = and_gives_left (is_working b p) (is_work_due b (Orient p n)) h
due_working b (Overlap p a c) h = and_gives_left (is_working b p) (is_work_due b (Overlap p a c)) h
due_working b (Close p) h = and_gives_left (is_working b p) (is_close_due b p) h

pub free_lives : (b : Plain) (j : Job) → IsFreeJob b j → has b.living (process_of j) ≡ true
free_lives b j free = and_gives_left (has b.living (process_of j)) (not (is_over b (process_of j))) (due_working b j (free_due b j free).3)

more_tickets : (m : Moment) (ms : List Moment) → tickets ms ≤ tickets (m ∷ ms)
more_tickets m ms = go (is_take m.entry)
  where
    go : (x : Bool) → length (filter (λ (m : Moment). is_take m.entry) ms) ≤ length (cond x (m ∷ filter (λ (m : Moment). is_take m.entry) ms) (filter (λ (m : Moment). is_take m.entry) ms))
    go true = omega arith
    go false = omega arith

-- each take was of a job that might be taken, and its number is at most the takes so far
pub taken_free : (P : Problem) (n : Settings) (ms : List Moment) (c : Plain) → IsPossibleRun P n ms c → (before : Plain) (w t : ℕ) (j : Job) → Contains ms (record { board = before; entry = Take w t j }) → IsFreeJob before j × (t ≤ tickets ms)
taken_free P n [] c run before w t j i = none_in i
taken_free P n (m ∷ ms) c (run, f) before w t j i = ⊎_elim now (λ k. let r = taken_free P n ms m.board run before w t j k in (r.0, let l = more_tickets m ms in omega (arith, l, r.1))) (contains_cases m ms (record { board = before; entry = Take w t j }) i)
  where
    at : Follows IsFreeJob ms before (Take w t j) c → IsFreeJob before j × (t ≤ suc (tickets ms))
    at f = (f.picked, let e = f.next_number in omega (arith, e))

    now : m ≡ record { board = before; entry = Take w t j } → IsFreeJob before j × (t ≤ tickets (m ∷ ms))
    now e =
        let r = at (subst {A = Moment} (λ z. Follows IsFreeJob ms z.board z.entry c) e f) in
        (r.0, subst {A = Moment} (λ z. t ≤ tickets (z ∷ ms)) (sym e) r.1)

-- ---- what is proposed for one process

-- what is proposed for one process alone is of its own job
abbrev pub IsOwnOf : Proposed → Job → Type 0
IsOwnOf (One p n d c) j = (is_own j ≡ true) × (process_of j ≡ p)
IsOwnOf (Both p n c0 c1) j = (is_own j ≡ true) × (process_of j ≡ p)
IsOwnOf (Refuse p n) j = (is_own j ≡ true) × (process_of j ≡ p)
IsOwnOf (Unjoined p ds) j = (is_own j ≡ true) × (process_of j ≡ p)
IsOwnOf (Closed p) j = (is_own j ≡ true) × (process_of j ≡ p)
IsOwnOf (Limit i cause) j = i ≡ j
IsOwnOf x j = ⊤

pub own_of : (b : Plain) (j : Job) (x : Proposed) → Proposes b j x → IsOwnOf x j
own_of b j (Facts fs) h = tt
own_of b j (Rewrite n w at a kind t) h = tt
own_of b j (Deduce a c ds) h = tt
own_of b (Orient p n) (One q m d c) h = (refl, sym h.0)
own_of b (Orient p n) (Both q m c0 c1) h = (refl, sym h.0)
own_of b (Orient p n) (Refuse q m) h = (refl, sym h.0)
own_of b (Close p) (Unjoined q ds) h = (refl, sym h.0)
own_of b (Close p) (Closed q) h = (refl, sym h.0)
own_of b (Reduce p n) (Limit i cause) h = h.0
own_of b (Overlap p a c) (Limit i cause) h = h.0
own_of b (Close p) (Limit i cause) h = h.0
own_of b (Orient p n) (Limit i cause) h = absurd h
own_of b (Reduce p n) (One q m d c) h = absurd h
own_of b (Overlap p a e) (One q m d c) h = absurd h
own_of b (Close p) (One q m d c) h = absurd h
own_of b (Reduce p n) (Both q m c0 c1) h = absurd h
own_of b (Overlap p a e) (Both q m c0 c1) h = absurd h
own_of b (Close p) (Both q m c0 c1) h = absurd h
own_of b (Reduce p n) (Refuse q m) h = absurd h
own_of b (Overlap p a e) (Refuse q m) h = absurd h
own_of b (Close p) (Refuse q m) h = absurd h
own_of b (Reduce p n) (Unjoined q ds) h = absurd h
own_of b (Orient p n) (Unjoined q ds) h = absurd h
own_of b (Overlap p a e) (Unjoined q ds) h = absurd h
own_of b (Reduce p n) (Closed q) h = absurd h
own_of b (Orient p n) (Closed q) h = absurd h
own_of b (Overlap p a e) (Closed q) h = absurd h

-- ---- owners live

-- each process that orients or closes lives
abbrev pub OwnersLive : Plain → Type 0
OwnersLive b = (t : Ticket) → Contains b.flight t → is_own t.job ≡ true → has b.living (process_of t.job) ≡ true

-- the process is not forked by the proposal
abbrev pub IsUnforked : Proposed → Name → Type 0
IsUnforked (Both q n c0 c1) p = p ≢ q
IsUnforked x p = ⊤

pub unlike : (p q : Name) → p ≢ q → name_eq p q ≡ false
unlike p q d = false_unless (name_eq p q) (λ e. d (name_eq-eq p q e))

applied_lives : (b : Plain) (x : Proposed) (p : Name) → IsUnforked x p → has b.living p ≡ true → has (applied b x).living p ≡ true
applied_lives b (Both q n c0 c1) p d h = other_lives q p b.living (unlike p q d) h
applied_lives b (Facts fs) p d h = h
applied_lives b (Rewrite n w at a kind t) p d h = h
applied_lives b (One q n e c) p d h = h
applied_lives b (Refuse q n) p d h = h
applied_lives b (Deduce a c ds) p d h = h
applied_lives b (Unjoined q ds) p d h = h
applied_lives b (Closed q) p d h = h
applied_lives b (Limit j cause) p d h = h

-- who is not forked lives on
pub effect_lives : (b : Plain) (x : Proposed) (p : Name) → IsUnforked x p → has b.living p ≡ true → has (effect b x).living p ≡ true
effect_lives b x p d h = go (limit_of b x)
  where
    go : (o : Option Reason) → has (option_map_or (λ r. give_up r (effect_label b x) b) o (applied b x)).living p ≡ true
    go None = applied_lives b x p d h
    go (Some r) = h

-- a ticket that does not land is another one, and was in flight
pub not_landed : (t : ℕ) (ts : List Ticket) (u : Ticket) → Contains (filter (λ (x : Ticket). not (x.number == t)) ts) u → Contains ts u × (u.number ≢ t)
not_landed t ts u i = let f = filter_in (λ (x : Ticket). not (x.number == t)) ts u i in (f.0, λ e. clash (eq-eqb u.number t e) (not_true f.1))

-- another process with an own job in flight is not named by what an own job proposes
pub unforked : (before b : Plain) (t u : Ticket) (x : Proposed) → Proposes before t.job x → FlightIsClear b → Contains b.flight t → Contains b.flight u → u.number ≢ t.number → is_own u.job ≡ true → IsUnforked x (process_of u.job)
unforked before b t u (Both q n c0 c1) h clear i k d own =
    let o = own_of before t.job (Both q n c0 c1) h in
    λ e. owners_differ b clear u t k i d own o.0 (e ∙ sym o.1)
unforked before b t u (Facts fs) h clear i k d own = tt
unforked before b t u (Rewrite n w at a kind r) h clear i k d own = tt
unforked before b t u (One q n e c) h clear i k d own = tt
unforked before b t u (Refuse q n) h clear i k d own = tt
unforked before b t u (Deduce a c ds) h clear i k d own = tt
unforked before b t u (Unjoined q ds) h clear i k d own = tt
unforked before b t u (Closed q) h clear i k d own = tt
unforked before b t u (Limit j cause) h clear i k d own = tt

owners_fewer : (t : ℕ) (b c : Plain) → c.flight ≡ filter (λ (x : Ticket). not (x.number == t)) b.flight → c.living ≡ b.living → OwnersLive b → OwnersLive c
owners_fewer t b c e l h u i own = subst {A = List Name} (λ z. has z (process_of u.job) ≡ true) (sym l) (h u (not_landed t b.flight u (subst {A = List Ticket} (λ ts. Contains ts u) e i)).0 own)

owners_follow : (past : List Moment) (b : Plain) (e : Entry) (c : Plain) → Follows IsFreeJob past b e c → FlightIsClear b → OwnersLive b → OwnersLive c
owners_follow past b (Take w t j) c f clear h = subst {A = Plain} OwnersLive (sym f.leads_to) (λ u i own. ⊎_elim (λ k. h u k own) (λ k. ⊎_elim (λ e. subst {A = Ticket} (λ z. has b.living (process_of z.job) ≡ true) e (free_lives b j f.picked)) (λ q. none_in q) (contains_cases (record { number = t; worker = w; job = j }) [] u k)) (Contains-append_cases b.flight (record { number = t; worker = w; job = j } ∷ []) u i))
owners_follow past b (Commit w t e) c f clear h = λ u i own.
    let k = not_landed t b.flight u (subst {A = List Ticket} (λ ts. Contains ts u) (ap (λ (z : Plain). z.flight) f.leads_to ∙ ap (filter (λ (x : Ticket). not (x.number == t))) (effect_flight b f.proposal)) i) in
    subst {A = List Name} (λ z. has z (process_of u.job) ≡ true) (sym (ap (λ (z : Plain). z.living) f.leads_to))
    (effect_lives b f.proposal (process_of u.job) (unforked f.finishing.before b (record { number = t; worker = w; job = f.job }) u f.proposal f.finishing.proposed clear f.finishing.flying k.0 k.1 own) (h u k.0 own))
owners_follow past b (Drop w t p) c f clear h = owners_fewer t b c (ap (λ (z : Plain). z.flight) f.leads_to) (ap (λ (z : Plain). z.living) f.leads_to) h
owners_follow past b (Abandon w t) c f clear h = owners_fewer t b c (ap (λ (z : Plain). z.flight) f.leads_to) (ap (λ (z : Plain). z.living) f.leads_to) h
owners_follow past b Halt c f clear h = subst {A = Plain} OwnersLive (sym f.1) h

-- in a possible run each process that orients or closes lives
pub owners_live : (P : Problem) (n : Settings) (ms : List Moment) (c : Plain) → IsPossibleRun P n ms c → OwnersLive c
owners_live P n [] c run = subst {A = Plain} OwnersLive (sym run) (λ u i own. none_in i)
owners_live P n (m ∷ ms) c (run, f) = owners_follow ms m.board m.entry c f (flight_clear P n ms m.board run) (owners_live P n ms m.board run)
