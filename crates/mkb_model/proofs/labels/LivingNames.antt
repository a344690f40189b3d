-- The living names are what forks make of the first, and at most 1,024; tickets are numbered; the commits stay within the budget.
use Rattle.std.proofs.Common.{ℕ, suc, ◌+◌, ◌≤◌, ◌≡◌, ◌≢◌, refl, sym, ap, ◌∙◌, subst, arith, List, [], ◌∷◌, ◌++◌, filter, length, Contains, Bool, true, false, not, ◌==◌, get_or, Option, Some, None, ⊎_elim}
use Rattle.std.specs.Prelude.{AllPairs, nat_le}
use Rattle.std.specs.Option.{option_map_or}
use Rattle.std.proofs.lemmas.Bool.{leb-false}
use Rattle.std.proofs.lemmas.List.Kept.{AllPairs-filter}
use Rattle.std.proofs.lemmas.List.Quantifiers.{all_pairs_push}
use Rattle.std.proofs.lemmas.List.Elements.{Contains-get_or, Contains-append_cases}
use Rattle.kb_lemmas.proofs.Membership.{contains_cases, none_in}
use Rattle.kb_lemmas.proofs.Options.{none_some}
use Rattle.kb_term.specs.Signature.{Problem}
use Rattle.kb_label.specs.Names.{Name, has, relabel}
use Rattle.kb_label.specs.Forks.{IsForked, at_first, at_fork}
use Rattle.kb_label.specs.declared.verdict.Reason.{Reason}
use Rattle.kb_label.specs.declared.verdict.Reason.TheVariants.{Processes, Nodes}
use Rattle.kb_label.proofs.Forked.{leaves-forked, length-relabel}
use Rattle.kb_label.proofs.Sets.{relabel-absent}
use Rattle.kb_node.specs.declared.job.Job.{Job}
use Rattle.kb_cert.specs.Family.{family}
use Rattle.mkb_model.specs.Plain.{Plain, orders_of}
use Rattle.mkb_model.specs.Effects.{applied, effect, limit_of, give_up, effect_label, first_some, some_if, is_full, most_living}
use Rattle.mkb_model.specs.Invariants.{LivingIsForked, FlightIsNumbered, IsWithinBudget}
use Rattle.mkb_model.specs.Journals.{Moment, Follows, IsRunBy, tickets}
use Rattle.mkb_model.specs.declared.proposed.Proposed.{Proposed}
use Rattle.mkb_model.specs.declared.proposed.Proposed.TheVariants.{Facts, Rewrite, One, Both, Refuse, Deduce, Unjoined, Closed, Limit}
use Rattle.mkb_model.specs.declared.entry.Ticket.{Ticket}
use Rattle.mkb_model.specs.declared.entry.Entry.{Entry}
use Rattle.mkb_model.specs.declared.entry.Entry.TheVariants.{Take, Commit, Drop, Abandon, Halt}
use Rattle.mkb_model.proofs.Lists.{filter_in, equal_or_more}
use Rattle.mkb_model.proofs.tickets.NoClash.{effect_flight}
use Rattle.mkb_model.proofs.runs.Meanings.{budget_left}
use Rattle.mkb_model.specs.declared.settings.Settings.{Settings}

-- ---- living names

abbrev AreFew : List Name → Type 0
AreFew l = IsForked l × (length l ≤ most_living)

no_test : (r : Reason) (c : Bool) (os : List (Option Reason)) → first_some (some_if c r ∷ os) ≡ None → c ≡ false
no_test r true os h = none_some (sym h)
no_test r false os h = refl

-- a fork that comes to no limit finds room
forked_few : (p : Name) (l : List Name) → nat_le most_living (length l) ≡ false → AreFew l → AreFew (relabel p l)
forked_few p l room few = go (has l p) refl
  where
    go : (b : Bool) → has l p ≡ b → AreFew (relabel p l)
    go true e = (at_fork p l few.0 e, let k = leb-false most_living (length l) room in omega (arith, k, length-relabel p l e (leaves-forked l few.0)))
    go false e = subst {A = List Name} AreFew (sym (relabel-absent p l e)) few

applied_few : (b : Plain) (x : Proposed) → limit_of b x ≡ None → AreFew b.living → AreFew (applied b x).living
applied_few b (Both p n c0 c1) room few = forked_few p b.living (no_test Processes (nat_le most_living (length b.living)) (some_if (is_full b (Both p n c0 c1)) Nodes ∷ []) room) few
applied_few b (Facts fs) room few = few
applied_few b (Rewrite n w at a kind t) room few = few
applied_few b (One p n d c) room few = few
applied_few b (Refuse p n) room few = few
applied_few b (Deduce a c ds) room few = few
applied_few b (Unjoined p ds) room few = few
applied_few b (Closed p) room few = few
applied_few b (Limit j cause) room few = few

effect_few : (b : Plain) (x : Proposed) → AreFew b.living → AreFew (effect b x).living
effect_few b x few = go (limit_of b x) refl
  where
    go : (o : Option Reason) → limit_of b x ≡ o → AreFew (option_map_or (λ r. give_up r (effect_label b x) b) o (applied b x)).living
    go None e = applied_few b x e few
    go (Some r) e = few

few_follow : (May : Plain → Job → Type 0) (past : List Moment) (b : Plain) (e : Entry) (c : Plain) → Follows May past b e c → AreFew b.living → AreFew c.living
few_follow May past b (Take w t j) c f h = subst {A = Plain} (λ z. AreFew z.living) (sym f.leads_to) h
few_follow May past b (Commit w t e) c f h = subst {A = Plain} (λ z. AreFew z.living) (sym f.leads_to) (effect_few b f.proposal h)
few_follow May past b (Drop w t p) c f h = subst {A = Plain} (λ z. AreFew z.living) (sym f.leads_to) h
few_follow May past b (Abandon w t) c f h = subst {A = Plain} (λ z. AreFew z.living) (sym f.leads_to) h
few_follow May past b Halt c f h = subst {A = Plain} (λ z. AreFew z.living) (sym f.1) h

few_run : (May : Plain → Job → Type 0) (P : Problem) (n : Settings) (ms : List Moment) (c : Plain) → IsRunBy May P n ms c → AreFew c.living
few_run May P n [] c run = subst {A = Plain} (λ z. AreFew z.living) (sym run) (at_first, omega arith)
few_run May P n (m ∷ ms) c (run, f) = few_follow May ms m.board m.entry c f (few_run May P n ms m.board run)

-- the living names of a board of a run are what forks make of the first one
pub living_forked : (May : Plain → Job → Type 0) (P : Problem) (n : Settings) (ms : List Moment) (c : Plain) → IsRunBy May P n ms c → LivingIsForked c
living_forked May P n ms c run =
    let few = few_run May P n ms c run in
    record { forked = few.0; apart = (leaves-forked c.living few.0).apart; few = few.1 }

-- ---- tickets

abbrev Differ : Ticket → Ticket → Type 0
Differ t u = t.number ≢ u.number

fewer : (taken t : ℕ) (b c : Plain) → c.flight ≡ filter (λ (x : Ticket). not (x.number == t)) b.flight → FlightIsNumbered taken b → FlightIsNumbered taken c
fewer taken t b c e h = record {
  distinct = subst {A = List Ticket} (AllPairs Differ) (sym e) (AllPairs-filter Differ (λ (x : Ticket). not (x.number == t)) b.flight h.distinct);
  numbers = λ u i. h.numbers u (filter_in (λ (x : Ticket). not (x.number == t)) b.flight u (subst {A = List Ticket} (λ ts. Contains ts u) e i)).0;
}

one_more : (taken w t : ℕ) (j : Job) (b c : Plain) → t ≡ taken + 1 → c.flight ≡ b.flight ++ record { number = t; worker = w; job = j } ∷ [] → FlightIsNumbered taken b → FlightIsNumbered (suc taken) c
one_more taken w t j b c next e h = record {
  distinct = subst {A = List Ticket} (AllPairs Differ) (sym e) (all_pairs_push Differ b.flight new h.distinct (λ k d l q. let r = (h.numbers (get_or b.flight k d) (Contains-get_or b.flight k d l)).1 in omega (arith, r, q, next)));
  numbers = λ u i. ⊎_elim (λ k. let r = h.numbers u k in (r.0, omega (arith, r.1)))
      (λ k. ⊎_elim (λ q. let r : t ≡ u.number = ap (λ (z : Ticket). z.number) q in (omega (arith, r, next), omega (arith, r, next))) (λ q. none_in q) (contains_cases new [] u k))
      (Contains-append_cases b.flight (new ∷ []) u (subst {A = List Ticket} (λ ts. Contains ts u) e i));
}
  where
    new : Ticket
    new = record { number = t; worker = w; job = j }

numbered_follow : (May : Plain → Job → Type 0) (past : List Moment) (b : Plain) (e : Entry) (c : Plain) → Follows May past b e c → FlightIsNumbered (tickets past) b → FlightIsNumbered (tickets (record { board = b; entry = e } ∷ past)) c
numbered_follow May past b (Take w t j) c f h = one_more (tickets past) w t j b c f.next_number (ap (λ (z : Plain). z.flight) f.leads_to) h
numbered_follow May past b (Commit w t e) c f h = fewer (tickets past) t b c (ap (λ (z : Plain). z.flight) f.leads_to ∙ ap (filter (λ (x : Ticket). not (x.number == t))) (effect_flight b f.proposal)) h
numbered_follow May past b (Drop w t p) c f h = fewer (tickets past) t b c (ap (λ (z : Plain). z.flight) f.leads_to) h
numbered_follow May past b (Abandon w t) c f h = fewer (tickets past) t b c (ap (λ (z : Plain). z.flight) f.leads_to) h
numbered_follow May past b Halt c f h = subst {A = Plain} (FlightIsNumbered (tickets past)) (sym f.1) h

-- the tickets in flight have different numbers, none above the number of takes
pub flight_numbered : (May : Plain → Job → Type 0) (P : Problem) (n : Settings) (ms : List Moment) (c : Plain) → IsRunBy May P n ms c → FlightIsNumbered (tickets ms) c
flight_numbered May P n [] c run = subst {A = Plain} (FlightIsNumbered 0) (sym run) (record { distinct = λ i j d h l. absurd (omega (arith, l)); numbers = λ u i. none_in i })
flight_numbered May P n (m ∷ ms) c (run, f) = numbered_follow May ms m.board m.entry c f (flight_numbered May P n ms m.board run)

-- ---- the problem, the settings and the commits

abbrev HaveSameSetting : Plain → Plain → Type 0
HaveSameSetting b c = (c.problem ≡ b.problem) × (c.settings ≡ b.settings) × (c.commits ≡ b.commits)

applied_setting : (b : Plain) (x : Proposed) → HaveSameSetting b (applied b x)
applied_setting b (Facts fs) = (refl, refl, refl)
applied_setting b (Rewrite n w at a kind t) = (refl, refl, refl)
applied_setting b (One p n d c) = (refl, refl, refl)
applied_setting b (Both p n c0 c1) = (refl, refl, refl)
applied_setting b (Refuse p n) = (refl, refl, refl)
applied_setting b (Deduce a c ds) = (refl, refl, refl)
applied_setting b (Unjoined p ds) = (refl, refl, refl)
applied_setting b (Closed p) = (refl, refl, refl)
applied_setting b (Limit j cause) = (refl, refl, refl)

pub effect_setting : (b : Plain) (x : Proposed) → ((effect b x).problem ≡ b.problem) × ((effect b x).settings ≡ b.settings) × ((effect b x).commits ≡ b.commits + 1)
effect_setting b x = let k = go (limit_of b x) in (k.0, k.1, ap (λ m. m + 1) k.2)
  where
    go : (o : Option Reason) → HaveSameSetting b (option_map_or (λ r. give_up r (effect_label b x) b) o (applied b x))
    go None = applied_setting b x
    go (Some r) = (refl, refl, refl)

budget_follow : (May : Plain → Job → Type 0) (P : Problem) (n : Settings) (past : List Moment) (b : Plain) (e : Entry) (c : Plain) → Follows May past b e c → IsWithinBudget P n b → IsWithinBudget P n c
budget_follow May P n past b (Take w t j) c f h = subst {A = Plain} (IsWithinBudget P n) (sym f.leads_to) (record { problem = h.problem; settings = h.settings; commits = h.commits })
budget_follow May P n past b (Commit w t e) c f h = subst {A = Plain} (IsWithinBudget P n) (sym f.leads_to) (record {
  problem = k.0 ∙ h.problem;
  settings = k.1 ∙ h.settings;
  commits = ⊎_elim (λ q. absurd (budget_left b f.finishing.no_verdict (q ∙ sym (ap (λ (z : Settings). z.budget) h.settings)))) (λ l. subst {A = ℕ} (λ m. m ≤ n.budget) (sym k.2) l) (equal_or_more b.commits n.budget h.commits);
})
  where
    k : ((effect b f.proposal).problem ≡ b.problem) × ((effect b f.proposal).settings ≡ b.settings) × ((effect b f.proposal).commits ≡ b.commits + 1)
    k = effect_setting b f.proposal
budget_follow May P n past b (Drop w t p) c f h = subst {A = Plain} (IsWithinBudget P n) (sym f.leads_to) (record { problem = h.problem; settings = h.settings; commits = h.commits })
budget_follow May P n past b (Abandon w t) c f h = subst {A = Plain} (IsWithinBudget P n) (sym f.leads_to) (record { problem = h.problem; settings = h.settings; commits = h.commits })
budget_follow May P n past b Halt c f h = subst {A = Plain} (IsWithinBudget P n) (sym f.1) h

-- each board of a run is of the problem and the settings, and its commits are within it
pub within_budget : (May : Plain → Job → Type 0) (P : Problem) (n : Settings) (ms : List Moment) (c : Plain) → IsRunBy May P n ms c → IsWithinBudget P n c
within_budget May P n [] c run = subst {A = Plain} (IsWithinBudget P n) (sym run) (record { problem = refl; settings = refl; commits = omega arith })
within_budget May P n (m ∷ ms) c (run, f) = budget_follow May P n ms m.board m.entry c f (within_budget May P n ms m.board run)

-- each board of a run searches the orders of its settings' family
pub run_orders : (May : Plain → Job → Type 0) (P : Problem) (n : Settings) (ms : List Moment) (c : Plain) → IsRunBy May P n ms c → orders_of c ≡ family n.family P.signature
run_orders May P n ms c run = let w = within_budget May P n ms c run in λ i. family (w.settings i).family (w.problem i).signature
