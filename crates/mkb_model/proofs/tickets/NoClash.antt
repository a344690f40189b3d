-- No two tickets in flight clash.
use Rattle.std.proofs.Common.{ℕ, ◌≡◌, refl, sym, subst, arith, List, [], ◌∷◌, filter, not, ◌==◌, get_or, Option, Some, None}
use Rattle.std.specs.Prelude.{IsFalse, AllPairs}
use Rattle.std.specs.Option.{option_map_or}
use Rattle.std.proofs.lemmas.List.Kept.{AllPairs-filter}
use Rattle.std.proofs.lemmas.List.Quantifiers.{all_pairs_push}
use Rattle.std.proofs.lemmas.List.Elements.{Contains-get_or}
use Rattle.kb_lemmas.proofs.Membership.{contains_map}
use Rattle.kb_term.specs.Signature.{Problem}
use Rattle.mkb_model.specs.Jobs.{clashes, is_free}
use Rattle.mkb_model.specs.Plain.{Plain}
use Rattle.mkb_model.specs.DueJobs.{flying_jobs, due_jobs}
use Rattle.mkb_model.specs.Effects.{applied, effect, limit_of, give_up, effect_label}
use Rattle.mkb_model.specs.Invariants.{FlightIsClear}
use Rattle.mkb_model.specs.Journals.{Moment, Follows, IsPossibleRun, IsFreeJob, in_flight}
use Rattle.kb_label.specs.declared.verdict.Reason.{Reason}
use Rattle.kb_node.specs.declared.job.Job.{Job}
use Rattle.mkb_model.specs.declared.proposed.Proposed.{Proposed}
use Rattle.mkb_model.specs.declared.proposed.Proposed.TheVariants.{Facts, Rewrite, One, Both, Refuse, Deduce, Unjoined, Closed, Limit}
use Rattle.mkb_model.specs.declared.entry.Ticket.{Ticket}
use Rattle.mkb_model.specs.declared.entry.Entry.{Entry}
use Rattle.mkb_model.specs.declared.entry.Entry.TheVariants.{Take, Commit, Drop, Abandon, Halt}
use Rattle.mkb_model.proofs.Lists.{filter_in, any_none, not_true}
use Rattle.mkb_model.specs.declared.settings.Settings.{Settings}

applied_flight : (b : Plain) (x : Proposed) → (applied b x).flight ≡ b.flight
applied_flight b (Facts fs) = refl
applied_flight b (Rewrite n w at a kind t) = refl
applied_flight b (One p n d c) = refl
applied_flight b (Both p n c0 c1) = refl
applied_flight b (Refuse p n) = refl
applied_flight b (Deduce a c ds) = refl
applied_flight b (Unjoined p ds) = refl
applied_flight b (Closed p) = refl
applied_flight b (Limit j cause) = refl

-- a commit's effect leaves the flight as it is
pub effect_flight : (b : Plain) (x : Proposed) → (effect b x).flight ≡ b.flight
effect_flight b x = go (limit_of b x)
  where
    go : (o : Option Reason) → (option_map_or (λ r. give_up r (effect_label b x) b) o (applied b x)).flight ≡ b.flight
    go None = applied_flight b x
    go (Some r) = refl

abbrev Clear : List Ticket → Type 0
Clear ts = AllPairs (λ (t u : Ticket). IsFalse (clashes u.job t.job)) ts

clear_landed : (t : ℕ) (ts : List Ticket) → Clear ts → Clear (filter (λ (x : Ticket). not (x.number == t)) ts)
clear_landed t ts h = AllPairs-filter (λ (t u : Ticket). IsFalse (clashes u.job t.job)) (λ (x : Ticket). not (x.number == t)) ts h

clear_taken : (b : Plain) (w t : ℕ) (j : Job) → IsFreeJob b j → FlightIsClear b → FlightIsClear (in_flight w t j b)
clear_taken b w t j free h = all_pairs_push (λ (t u : Ticket). IsFalse (clashes u.job t.job)) b.flight (record { number = t; worker = w; job = j }) h
    (λ k d l. any_none (clashes j) (flying_jobs b) (not_true (filter_in (is_free (flying_jobs b)) (due_jobs b) j free).1) (get_or b.flight k d).job (contains_map (λ (t : Ticket). t.job) b.flight (get_or b.flight k d) (Contains-get_or b.flight k d l)))

clear_follow : (past : List Moment) (b : Plain) (e : Entry) (c : Plain) → Follows IsFreeJob past b e c → FlightIsClear b → FlightIsClear c
clear_follow past b (Take w t j) c f h = subst {A = Plain} FlightIsClear (sym f.leads_to) (clear_taken b w t j f.picked h)
clear_follow past b (Commit w t e) c f h = subst {A = Plain} FlightIsClear (sym f.leads_to) (clear_landed t (effect b f.proposal).flight (subst {A = List Ticket} Clear (sym (effect_flight b f.proposal)) h))
clear_follow past b (Drop w t p) c f h = subst {A = Plain} FlightIsClear (sym f.leads_to) (clear_landed t b.flight h)
clear_follow past b (Abandon w t) c f h = subst {A = Plain} FlightIsClear (sym f.leads_to) (clear_landed t b.flight h)
clear_follow past b Halt c f h = subst {A = Plain} FlightIsClear (sym f.1) h

-- in a possible run no two tickets in flight clash
pub flight_clear : (P : Problem) (n : Settings) (ms : List Moment) (c : Plain) → IsPossibleRun P n ms c → FlightIsClear c
flight_clear P n [] c run = subst {A = Plain} FlightIsClear (sym run) (λ i j d h l. absurd (omega (arith, l)))
flight_clear P n (m ∷ ms) c (run, f) = clear_follow ms m.board m.entry c f (flight_clear P n ms m.board run)
