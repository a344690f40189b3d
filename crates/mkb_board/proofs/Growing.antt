-- A legal board and its journal with one entry more.
use Rattle.std.proofs.Common.{ℕ, ◌+◌, ◌≡◌, refl, sym, ap, ◌∙◌, subst, arith, List, [], ◌∷◌, ◌++◌, length, filter, Bool, true, false, ◌||◌, cond, Some, None}
use Rattle.std.specs.List.{list_any}
use Rattle.std.proofs.lemmas.List.{length-append}
use Rattle.std.proofs.lemmas.List.Elements.{filter-append}
use Rattle.kb_term.specs.Signature.{Problem, IsWithinLimits}
use Rattle.mkb_model.specs.Plain.{Plain}
use Rattle.mkb_model.specs.Journals.{Moment, Follows, IsRun, IsFirstJob, After, journal_of, tickets, is_take, is_halt, is_halted}
use Rattle.mkb_model.specs.declared.entry.Entry.{Entry}
use Rattle.mkb_model.proofs.labels.LivingNames.{within_budget}
use Rattle.mkb_model.specs.Journals.{landed, in_flight}
use Rattle.mkb_model.specs.DueJobs.{first_job}
use Rattle.mkb_model.specs.Verdicts.{verdict}
use Rattle.kb_node.specs.declared.job.Job.{Job}
use Rattle.mkb_model.specs.declared.entry.Entry.TheVariants.{Take, Abandon, Halt}
use Rattle.mkb_model.specs.declared.entry.Ticket.{Ticket}
use Rattle.std.specs.Prelude.{Contains, Result, IsOk, is_ok}
use Rattle.std.proofs.Common.{◌≤◌, not, ◌==◌, ⊎_elim}
use Rattle.std.proofs.lemmas.Bool.{eq-eqb}
use Rattle.kb_lemmas.proofs.Lists.{filter_less}
use Rattle.kb_lemmas.proofs.Membership.{contains_cases, none_in}
use Rattle.mkb_board.specs.Boards.{Seen, seen, IsLegalBoard, IsBoard, takes_in, has_halt, drops_in, is_drop, owed}
use Rattle.mkb_model.specs.declared.settings.Settings.{Settings}

-- one where the test holds
abbrev pub one_if : Bool → ℕ
one_if b = cond b 1 0

count_more : {A : Type 0} (test : A → Bool) (xs : List A) (x : A) → length (filter test (xs ++ x ∷ [])) ≡ length (filter test xs) + one_if (test x)
count_more test xs x = ap length (filter-append test xs (x ∷ [])) ∙ length-append (filter test xs) (filter test (x ∷ [])) ∙ ap (λ z. length (filter test xs) + z) (last (test x) refl)
  where
    last : (b : Bool) → test x ≡ b → length (filter test (x ∷ [])) ≡ one_if (test x)
    last true e = grind (arith, e)
    last false e = grind (arith, e)

any_more : {A : Type 0} (test : A → Bool) (xs : List A) (x : A) → list_any test (xs ++ x ∷ []) ≡ (list_any test xs || test x)
any_more test [] x = grind arith
any_more test (y ∷ ys) x = grind (arith, any_more test ys x)

pub takes_more : (J : List Entry) (e : Entry) → takes_in (J ++ e ∷ []) ≡ takes_in J + one_if (is_take e)
takes_more J e = count_more is_take J e

pub drops_more : (J : List Entry) (e : Entry) → drops_in (J ++ e ∷ []) ≡ drops_in J + one_if (is_drop e)
drops_more J e = count_more is_drop J e

pub halts_more : (J : List Entry) (e : Entry) → has_halt (J ++ e ∷ []) ≡ (has_halt J || is_halt e)
halts_more J e = any_more is_halt J e

-- the tickets of a run are those that its journal takes
pub takes_of : (ms : List Moment) → tickets ms ≡ takes_in (journal_of ms)
takes_of [] = refl
takes_of (m ∷ ms) = first (is_take m.entry) refl ∙ sym (takes_more (journal_of ms) m.entry ∙ ap (λ z. z + one_if (is_take m.entry)) (sym (takes_of ms)))
  where
    first : (b : Bool) → is_take m.entry ≡ b → tickets (m ∷ ms) ≡ tickets ms + one_if (is_take m.entry)
    first true e = grind (arith, e)
    first false e = grind (arith, e)

-- a run has a halt where its journal has one
pub halts_of : (ms : List Moment) → is_halted ms ≡ has_halt (journal_of ms)
halts_of [] = refl
halts_of (m ∷ ms) = grind (arith, halts_more (journal_of ms) m.entry, halts_of ms)

-- one entry more that follows leads to a legal board
pub grown : (s : Seen) (e : Entry) (c : Plain) → IsLegalBoard s → ((ms : List Moment) → journal_of ms ≡ s.journal → IsRun s.plain.problem s.plain.settings ms s.plain → Follows IsFirstJob ms s.plain e c) → IsLegalBoard (record { plain = c; journal = s.journal ++ e ∷ [] })
grown s e c legal follows =
    let ms = legal.after.0 in
    let m : Moment = record { board = s.plain; entry = e } in
    let run : IsRun s.plain.problem s.plain.settings (m ∷ ms) c = (legal.after.2, follows ms legal.after.1 legal.after.2) in
    let w = within_budget IsFirstJob s.plain.problem s.plain.settings (m ∷ ms) c run in
    let J = s.journal ++ e ∷ [] in
    let after : After s.plain.problem s.plain.settings J c = (m ∷ ms, ap (λ z. z ++ e ∷ []) legal.after.1, run) in
    record {
      within = subst {A = Problem} IsWithinLimits (sym w.problem) legal.within;
      after = subst {A = Problem} (λ z. After z c.settings J c) (sym w.problem) (subst {A = Settings} (λ z. After s.plain.problem z J c) (sym w.settings) after);
    }

-- the numbers after one entry more
pub board_grown : (s : Seen) (e : Entry) (c : Plain) (taken dropped : ℕ) (halted : Bool) → IsBoard s taken dropped halted → IsLegalBoard (record { plain = c; journal = s.journal ++ e ∷ [] })
    → IsBoard (record { plain = c; journal = s.journal ++ e ∷ [] }) (taken + one_if (is_take e)) (dropped + one_if (is_drop e)) (halted || is_halt e)
board_grown s e c taken dropped halted h legal = record {
  legal = legal;
  taken_is = ap (λ z. z + one_if (is_take e)) h.taken_is ∙ sym (takes_more s.journal e);
  dropped_is = ap (λ z. z + one_if (is_drop e)) h.dropped_is ∙ sym (drops_more s.journal e);
  halted_is = ap (λ z. z || is_halt e) h.halted_is ∙ sym (halts_more s.journal e);
}

-- the board after a halt
pub halt_board : (state : Plain) (flight : List Ticket) (J K : List Entry) (taken dropped : ℕ) → IsBoard (seen state flight J) taken dropped false → K ≡ J ++ Halt ∷ [] → IsBoard (seen state flight K) taken dropped true
halt_board state flight J K taken dropped h e =
    let s = seen state flight J in
    let legal = grown s Halt s.plain h.legal (λ ms j run. (halts_of ms ∙ ap has_halt j ∙ sym h.halted_is, refl)) in
    let b = board_grown s Halt s.plain taken dropped false h legal in
    subst {A = List Entry} (λ z. IsBoard (seen state flight z) taken dropped true) (sym e) (record { legal = b.legal; taken_is = omega (arith, b.taken_is); dropped_is = omega (arith, b.dropped_is); halted_is = b.halted_is })

-- the board after a ticket was given back
pub abandon_board : (state : Plain) (flight fewer : List Ticket) (J K : List Entry) (taken dropped : ℕ) (halted : Bool) (t : Ticket) → IsBoard (seen state flight J) taken dropped halted → Contains flight t
    → record state { flight = fewer } ≡ landed t.number (record state { flight = flight }) → K ≡ J ++ Abandon t.worker t.number ∷ [] → IsBoard (seen state fewer K) taken dropped halted
abandon_board state flight fewer J K taken dropped halted t h flying lands e =
    let s = seen state flight J in
    let entry : Entry = Abandon t.worker t.number in
    let legal = grown s entry (record state { flight = fewer }) h.legal (λ ms j run. record { job = t.job; flying = flying; leads_to = lands }) in
    let b = board_grown s entry (record state { flight = fewer }) taken dropped halted h legal in
    subst {A = List Entry} (λ z. IsBoard (seen state fewer z) taken dropped halted) (sym e) (record { legal = b.legal; taken_is = omega (arith, b.taken_is); dropped_is = omega (arith, b.dropped_is); halted_is = same halted (has_halt (J ++ entry ∷ [])) b.halted_is })
  where
    same : (x y : Bool) → (x || false) ≡ y → x ≡ y
    same true y q = q
    same false y q = q

-- what a push leaves that doesn't fail
pub after_push : {T E A : Type 0} (r : Result T E) (x y z : A) → IsOk r → z ≡ cond (is_ok r) x y → z ≡ x
after_push r x y z h e = e ∙ ap (λ b. cond b x y) h

-- ---- landing

-- a list loses what the test refuses
pub loses_one : {A : Type 0} (test : A → Bool) (xs : List A) (y : A) → Contains xs y → test y ≡ false → length (filter test xs) + 1 ≤ length xs
loses_one test [] y i f = none_in i
loses_one {A} test (x ∷ xs) y i f = ⊎_elim
    (λ e. let g : test x ≡ false = ap test e ∙ f in let h : length (filter test (x ∷ xs)) ≡ length (filter test xs) = grind (arith, g) in omega (arith, h, filter_less test xs))
    (λ k. go (test x) refl (loses_one test xs y k f))
    (contains_cases x xs y i)
  where
    go : (b : Bool) → test x ≡ b → length (filter test xs) + 1 ≤ length xs → length (filter test (x ∷ xs)) + 1 ≤ length (x ∷ xs)
    go true e r = let h : length (filter test (x ∷ xs)) ≡ length (filter test xs) + 1 = grind (arith, e) in omega (arith, h, r)
    go false e r = let h : length (filter test (x ∷ xs)) ≡ length (filter test xs) = grind (arith, e) in omega (arith, h, r)

abbrev pub is_other : ℕ → Ticket → Bool
is_other n t = not (t.number == n)

pub not_other : (t : Ticket) (n : ℕ) → t.number ≡ n → is_other n t ≡ false
not_other t n e = ap not (eq-eqb t.number n e)

-- ---- room

pub owed_less : (flight : ℕ) (halted : Bool) → flight ≤ owed flight halted
owed_less flight true = omega arith
owed_less flight false = omega arith

pub owed_fewer : (fewer flight : ℕ) (halted : Bool) → fewer + 1 ≤ flight → owed fewer halted + 1 ≤ owed flight halted
owed_fewer fewer flight true h = h
owed_fewer fewer flight false h = omega (arith, h)

-- ---- takes

-- the board after a take of the first job
pub take_board : (state : Plain) (flight more : List Ticket) (J K : List Entry) (taken dropped worker : ℕ) (j : Job) → IsBoard (seen state flight J) taken dropped false → 1 ≤ worker → worker ≤ 16 → verdict (record state { flight = flight }) ≡ None
    → first_job (record state { flight = flight }) ≡ Some j → more ≡ flight ++ record { number = taken + 1; worker = worker; job = j } ∷ [] → K ≡ J ++ Take worker (taken + 1) j ∷ [] → IsBoard (seen state more K) (taken + 1) dropped false
take_board state flight more J K taken dropped worker j h least most none first m k =
    let s = seen state flight J in
    let entry : Entry = Take worker (taken + 1) j in
    let c : Plain = in_flight worker (taken + 1) j s.plain in
    let legal = grown s entry c h.legal (λ ms q run. record {
      no_verdict = none;
      no_halt = halts_of ms ∙ ap has_halt q ∙ sym h.halted_is;
      worker_least = least;
      worker_most = most;
      next_number = ap (λ z. z + 1) (h.taken_is ∙ sym (takes_of ms ∙ ap takes_in q));
      picked = first;
      leads_to = refl;
    }) in
    let b = board_grown s entry c taken dropped false h legal in
    subst {A = List Ticket} (λ ts. IsBoard (seen state ts K) (taken + 1) dropped false) (sym m) (subst {A = List Entry} (λ z. IsBoard (record { plain = c; journal = z }) (taken + 1) dropped false) (sym k) (record { legal = b.legal; taken_is = omega (arith, b.taken_is); dropped_is = omega (arith, b.dropped_is); halted_is = b.halted_is }))
