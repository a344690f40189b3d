-- The turns of one worker: each take is made with nothing in flight, and the next entry ends its ticket.
use Rattle.std.proofs.Common.{ℕ, ◌≡◌, refl, sym, ap, ◌∙◌, subst, List, [], ◌∷◌, ◌++◌, filter, Contains, true, cond, not, ◌&&◌, ◌==◌, Some, None, eqb-true, eq-eqb, ⊎_elim}
use Rattle.std.proofs.lemmas.Bool.{and_from}
use Rattle.kb_lemmas.proofs.Membership.{contains_cases, none_in}
use Rattle.kb_lemmas.proofs.Options.{none_some}
use Rattle.kb_lemmas.proofs.Booleans.{and_gives_left, and_gives_right}
use Rattle.kb_term.specs.Signature.{Problem}
use Rattle.kb_node.specs.declared.job.Job.{Job}
use Rattle.mkb_model.specs.Plain.{Plain}
use Rattle.mkb_model.specs.Journals.{Moment, Follows, IsRun, IsFirstJob, is_end_of, journal_of, takes_in_turn}
use Rattle.mkb_model.specs.declared.settings.Settings.{Settings}
use Rattle.mkb_model.specs.declared.entry.Ticket.{Ticket}
use Rattle.mkb_model.specs.declared.entry.Entry.{Entry}
use Rattle.mkb_model.specs.declared.entry.Entry.TheVariants.{Take, Commit, Drop, Abandon, Halt}
use Rattle.mkb_model.proofs.Lists.{clash}
use Rattle.mkb_model.proofs.tickets.NoClash.{effect_flight}
use Rattle.mkb_fairness.specs.Fairness.{taken_by}

-- ---- turns

-- the second entry ends the ticket that the first takes
abbrev pub IsTurn : Entry → Entry → Type 0
IsTurn (Take w t j) e = is_end_of t e ≡ true
IsTurn x e = ⊥

-- the moments, the newest first, make up turns
abbrev pub AreTurns : List Moment → Type 0
AreTurns [] = Unit {0}
AreTurns (m ∷ []) = ⊥
AreTurns (m ∷ k ∷ ms) = IsTurn k.entry m.entry × AreTurns ms

lone : {A : Type 0} (y : Entry) → takes_in_turn (y ∷ []) ≡ true → A
lone (Take w t j) h = clash h refl
lone (Commit w t e) h = clash h refl
lone (Drop w t p) h = clash h refl
lone (Abandon w t) h = clash h refl
lone Halt h = clash h refl

last_turn : (J : List Entry) (x y : Entry) → takes_in_turn ((J ++ x ∷ []) ++ y ∷ []) ≡ true → (takes_in_turn J ≡ true) × IsTurn x y
last_turn [] (Take w t j) y h = (refl, and_gives_left (is_end_of t y) (takes_in_turn []) (and_gives_right (w == 1) (is_end_of t y && takes_in_turn []) h))
last_turn [] (Commit w t e) y h = clash h refl
last_turn [] (Drop w t p) y h = clash h refl
last_turn [] (Abandon w t) y h = clash h refl
last_turn [] Halt y h = clash h refl
last_turn (Take w t j ∷ e ∷ J) x y h =
    let K : List Entry = (J ++ x ∷ []) ++ y ∷ [] in
    let k = and_gives_right (w == 1) (is_end_of t e && takes_in_turn K) h in
    let r = last_turn J x y (and_gives_right (is_end_of t e) (takes_in_turn K) k) in
    (and_from (w == 1) (is_end_of t e && takes_in_turn J) (and_gives_left (w == 1) (is_end_of t e && takes_in_turn K) h) (and_from (is_end_of t e) (takes_in_turn J) (and_gives_left (is_end_of t e) (takes_in_turn K) k) r.0), r.1)
last_turn (Take w t j ∷ []) x y h = lone y (and_gives_right (is_end_of t x) (takes_in_turn (y ∷ [])) (and_gives_right (w == 1) (is_end_of t x && takes_in_turn (y ∷ [])) h))
last_turn (Commit w t e ∷ J) x y h = clash h refl
last_turn (Drop w t p ∷ J) x y h = clash h refl
last_turn (Abandon w t ∷ J) x y h = clash h refl
last_turn (Halt ∷ J) x y h = clash h refl

-- moments whose journal is in turn make up turns
pub turns : (ms : List Moment) → takes_in_turn (journal_of ms) ≡ true → AreTurns ms
turns [] h = tt
turns (m ∷ []) h = lone m.entry h
turns (m ∷ k ∷ ms) h = let r = last_turn (journal_of ms) k.entry m.entry h in (r.1, turns ms r.0)

-- what ends a turn takes nothing
pub ended : (x y : Entry) → IsTurn x y → taken_by y ≡ None
ended (Take w t j) (Commit v s e) h = refl
ended (Take w t j) (Drop v s p) h = refl
ended (Take w t j) (Take v s i) h = clash h refl
ended (Take w t j) (Abandon v s) h = refl
ended (Take w t j) Halt h = refl
ended (Commit w t e) y h = absurd h
ended (Drop w t p) y h = absurd h
ended (Abandon w t) y h = absurd h
ended Halt y h = absurd h

-- the newest entry of some turns takes nothing
pub newest_ended : (m : Moment) (ms : List Moment) → AreTurns (m ∷ ms) → taken_by m.entry ≡ None
newest_ended m [] h = absurd h
newest_ended m (k ∷ ms) h = ended k.entry m.entry h.0

-- ---- nothing in flight

landed_one : (s : ℕ) (u : Ticket) → (s == u.number) ≡ true → filter (λ (x : Ticket). not (x.number == s)) (u ∷ []) ≡ []
landed_one s u h = ap (λ z. cond (not z) (u ∷ []) []) (eq-eqb u.number s (sym (eqb-true s u.number h)))

turn_lands : (past : List Moment) (b : Plain) (x : Entry) (c : Plain) (y : Entry) (d : Plain) → IsTurn x y → Follows IsFirstJob past b x c → Follows IsFirstJob (record { board = b; entry = x } ∷ past) c y d → b.flight ≡ [] → d.flight ≡ []
turn_lands past b (Take w t j) c (Commit v s e) d turn f g h =
    ap (λ (z : Plain). z.flight) g.leads_to
    ∙ ap (filter (λ (x : Ticket). not (x.number == s))) (effect_flight c g.proposal ∙ ap (λ (z : Plain). z.flight) f.leads_to ∙ ap (λ (ts : List Ticket). ts ++ record { number = t; worker = w; job = j } ∷ []) h)
    ∙ landed_one s (record { number = t; worker = w; job = j }) turn
turn_lands past b (Take w t j) c (Drop v s p) d turn f g h =
    ap (λ (z : Plain). z.flight) g.leads_to
    ∙ ap (filter (λ (x : Ticket). not (x.number == s))) (ap (λ (z : Plain). z.flight) f.leads_to ∙ ap (λ (ts : List Ticket). ts ++ record { number = t; worker = w; job = j } ∷ []) h)
    ∙ landed_one s (record { number = t; worker = w; job = j }) turn
turn_lands past b (Take w t j) c (Take v s i) d turn f g h = clash turn refl
turn_lands past b (Take w t j) c (Abandon v s) d turn f g h = clash turn refl
turn_lands past b (Take w t j) c Halt d turn f g h = clash turn refl
turn_lands past b (Commit w t e) c y d turn f g h = absurd turn
turn_lands past b (Drop w t p) c y d turn f g h = absurd turn
turn_lands past b (Abandon w t) c y d turn f g h = absurd turn
turn_lands past b Halt c y d turn f g h = absurd turn

-- after whole turns nothing is in flight
none_flies : (P : Problem) (n : Settings) (ms : List Moment) (b : Plain) → IsRun P n ms b → AreTurns ms → b.flight ≡ []
none_flies P n [] b run whole = ap (λ (z : Plain). z.flight) run
none_flies P n (m ∷ []) b run whole = absurd whole
none_flies P n (m ∷ k ∷ ms) b ((run, f), g) (turn, whole) = turn_lands ms k.board k.entry m.board m.entry b turn f g (none_flies P n ms k.board run whole)

-- ---- takes

-- the job was taken on this board of a run, as the first and with nothing in flight
pub record IsTakenOn (P : Problem) (n : Settings) (b : Plain) (j : Job) : Type 0 where
  pub past : List Moment
  pub run : IsRun P n past b
  pub first : IsFirstJob b j
  pub none_in_flight : b.flight ≡ []

picked : (past : List Moment) (b : Plain) (x : Entry) (c : Plain) (j : Job) → Follows IsFirstJob past b x c → taken_by x ≡ Some j → IsFirstJob b j
picked past b (Take w t i) c j f e = f.picked ∙ e
picked past b (Commit w t x) c j f e = none_some e
picked past b (Drop w t p) c j f e = none_some e
picked past b (Abandon w t) c j f e = none_some e
picked past b Halt c j f e = none_some e

-- each take of a run in turns
pub taken_on : (P : Problem) (n : Settings) (ms : List Moment) (b : Plain) → IsRun P n ms b → AreTurns ms → (m : Moment) → Contains ms m → (j : Job) → taken_by m.entry ≡ Some j → IsTakenOn P n m.board j
taken_on P n [] b run whole m i j e = none_in i
taken_on P n (l ∷ []) b run whole m i j e = absurd whole
taken_on P n (l ∷ k ∷ ms) b ((run, f), g) (turn, whole) m i j e = ⊎_elim
    (λ q. none_some (sym (ended k.entry l.entry turn) ∙ ap (λ (z : Moment). taken_by z.entry) q ∙ e))
    (λ c. ⊎_elim
    (λ q. subst {A = Moment} (λ z. IsTakenOn P n z.board j) q (record {
      past = ms;
      run = run;
      first = picked ms k.board k.entry l.board j f (ap (λ (z : Moment). taken_by z.entry) q ∙ e);
      none_in_flight = none_flies P n ms k.board run whole;
    }))
    (λ d. taken_on P n ms k.board run whole m d j e)
    (contains_cases k ms m c))
    (contains_cases l (k ∷ ms) m i)
