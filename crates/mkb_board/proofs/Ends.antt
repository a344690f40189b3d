-- A legal board after a ticket ended.
use Rattle.mkb_board.proofs.Asleep.{settled_flying}
use Rattle.mkb_model.specs.Sleeping.{settle}
use Rattle.std.proofs.Common.{ℕ, ◌+◌, ◌≡◌, refl, sym, ap, ◌∙◌, subst, arith, List, [], ◌∷◌, ◌++◌, Contains, Bool, true, false, ◌||◌, Option, Some, None, ap₂, filter, not, ◌==◌}
use Rattle.std.specs.Prelude.{IsFalse, IsTrue}
use Rattle.std.proofs.lemmas.List.{same_from_push}
use Rattle.std.specs.Option.{option_map_or}
use Rattle.kb_lemmas.proofs.Membership.{contains_behind, contains_first}
use Rattle.kb_term.specs.Signature.{Problem}
use Rattle.kb_label.specs.Names.{Name}
use Rattle.kb_label.specs.declared.verdict.Reason.{Reason}
use Rattle.mkb_model.specs.Jobs.{process_of}
use Rattle.mkb_model.specs.Plain.{Plain}
use Rattle.mkb_model.specs.Effects.{applied, effect, effect_label, effect_entry, limit_of, is_dropped, give_up, counted, acted}
use Rattle.mkb_model.specs.Verdicts.{verdict}
use Rattle.mkb_model.specs.Journals.{Moment, IsRun, After, IsFinishing, journal_of, landed}
use Rattle.mkb_model.specs.declared.proposed.Proposed.{Proposed}
use Rattle.kb_node.specs.declared.job.Job.TheVariants.{Reduce, Orient, Overlap, Close}
use Rattle.mkb_model.specs.declared.proposed.Proposed.TheVariants.{Facts, Rewrite, One, Both, Refuse, Deduce, Unjoined, Closed, Limit}
use Rattle.mkb_model.specs.declared.entry.Ticket.{Ticket}
use Rattle.mkb_model.specs.declared.entry.Effect.TheVariants.{Over, Made}
use Rattle.mkb_model.specs.declared.entry.Entry.{Entry}
use Rattle.mkb_model.specs.declared.entry.Entry.TheVariants.{Commit, Drop}
use Rattle.mkb_model.proofs.journals.OneRun.{after_once}
use Rattle.mkb_board.specs.Boards.{Seen, seen, IsBoard, has_halt}
use Rattle.mkb_board.specs.Takes.{IsTakenOn, IsProposalOf, take_entry}
use Rattle.mkb_board.proofs.Growing.{grown, board_grown}
use Rattle.mkb_model.specs.declared.settings.Settings.{Settings}

-- ---- the moment of a take

pub last_of : {A : Type 0} (x : A) (xs : List A) → (init : List A) × (last : A) × (x ∷ xs ≡ init ++ last ∷ [])
last_of x [] = ([], x, refl)
last_of x (y ∷ ys) = let r = last_of y ys in (x ∷ r.0, r.1, ap (x ∷◌) r.2)

pub regroup : {A : Type 0} (xs : List A) (x : A) (ys : List A) (y : A) → xs ++ x ∷ (ys ++ y ∷ []) ≡ (xs ++ x ∷ ys) ++ y ∷ []
regroup [] x ys y = refl
regroup (z ∷ xs) x ys y = ap (z ∷◌) (regroup xs x ys y)

pub not_nil : {A : Type 0} (xs : List A) (x : A) (ys : List A) {Q : Type 0} → [] ≡ xs ++ x ∷ ys → Q
not_nil [] x ys e = absurd (cc)
not_nil (y ∷ xs) x ys e = absurd (cc)

-- the moment of an entry of the journal
entry_moment : (P : Problem) (n : Settings) (ms : List Moment) (c : Plain) → IsRun P n ms c → (earlier : List Entry) (e : Entry) (later : List Entry) → journal_of ms ≡ earlier ++ e ∷ later → (m : Moment) × Contains ms m × (m.entry ≡ e) × After P n earlier m.board
entry_moment P n [] c run earlier e later h = not_nil earlier e later h
entry_moment P n (m ∷ ms) c run earlier e [] h = let k = same_from_push (journal_of ms) earlier m.entry e h in (m, contains_first m ms, k.1, (ms, k.0, run.0))
entry_moment P n (m ∷ ms) c run earlier e (l ∷ ls) h =
    let r = last_of l ls in
    let k = same_from_push (journal_of ms) (earlier ++ e ∷ r.0) m.entry r.1 (h ∙ ap (λ z. earlier ++ e ∷ z) r.2 ∙ regroup earlier e r.0 r.1) in
    let i = entry_moment P n ms m.board run.0 earlier e r.0 k.0 in
    (i.0, contains_behind m ms i.0 i.1, i.2, i.3)

-- the take of a ticket is a moment of the run
pub taken_moment : (s : Seen) (t : Ticket) (before : Plain) → IsTakenOn s t before → (ms : List Moment) → journal_of ms ≡ s.journal → IsRun s.plain.problem s.plain.settings ms s.plain → Contains ms (record { board = before; entry = take_entry t })
taken_moment s t before h ms j run =
    let i = entry_moment s.plain.problem s.plain.settings ms s.plain run h.earlier (take_entry t) h.later (j ∙ h.parts) in
    let b = after_once s.plain.problem s.plain.settings h.earlier i.0.board before i.3 h.after in
    subst {A = Plain} (λ z. Contains ms (record { board = z; entry = take_entry t })) b (subst {A = Entry} (λ z. Contains ms (record { board = i.0.board; entry = z })) i.2 i.1)

-- the ticket and its proposal may be finished
pub finishing : (s : Seen) (t : Ticket) (x : Proposed) → verdict s.plain ≡ None → Contains s.plain.flight t → IsProposalOf s t x → (ms : List Moment) → journal_of ms ≡ s.journal → IsRun s.plain.problem s.plain.settings ms s.plain → IsFinishing ms s.plain t.worker t.number t.job x
finishing s t x none flying (before, taken, proposed) ms j run = record { no_verdict = none; flying = flying; before = before; taken = taken_moment s t before taken ms j run; proposed = proposed }

-- ---- effects don't read the flight

pub limit_flying : (b : Plain) (f : List Ticket) (x : Proposed) → limit_of (record b { flight = f }) x ≡ limit_of b x
limit_flying b f (Facts fs) = refl
limit_flying b f (Rewrite n w at a found t) = refl
limit_flying b f (One p n d c) = refl
limit_flying b f (Both p n c0 c1) = refl
limit_flying b f (Refuse p n) = refl
limit_flying b f (Deduce a c pairs) = refl
limit_flying b f (Unjoined p pairs) = refl
limit_flying b f (Closed p) = refl
limit_flying b f (Limit j cause) = refl

pub dropped_flying : (b : Plain) (f : List Ticket) (x : Proposed) → is_dropped (record b { flight = f }) x ≡ is_dropped b x
dropped_flying b f (Facts fs) = refl
dropped_flying b f (Rewrite n w at a found t) = refl
dropped_flying b f (One p n d c) = refl
dropped_flying b f (Both p n c0 c1) = refl
dropped_flying b f (Refuse p n) = refl
dropped_flying b f (Deduce a c pairs) = refl
dropped_flying b f (Unjoined p pairs) = refl
dropped_flying b f (Closed p) = refl
dropped_flying b f (Limit (Reduce p n) cause) = refl
dropped_flying b f (Limit (Orient p n) cause) = refl
dropped_flying b f (Limit (Overlap p a c) cause) = refl
dropped_flying b f (Limit (Close p) cause) = refl

pub label_flying : (b : Plain) (f : List Ticket) (x : Proposed) → effect_label (record b { flight = f }) x ≡ effect_label b x
label_flying b f (Facts fs) = refl
label_flying b f (Rewrite n w at a found t) = refl
label_flying b f (One p n d c) = refl
label_flying b f (Both p n c0 c1) = refl
label_flying b f (Refuse p n) = refl
label_flying b f (Deduce a c pairs) = refl
label_flying b f (Unjoined p pairs) = refl
label_flying b f (Closed p) = refl
label_flying b f (Limit (Reduce p n) cause) = refl
label_flying b f (Limit (Orient p n) cause) = refl
label_flying b f (Limit (Overlap p a c) cause) = refl
label_flying b f (Limit (Close p) cause) = refl

applied_flying : (b : Plain) (f : List Ticket) (x : Proposed) → applied (record b { flight = f }) x ≡ record (applied b x) { flight = f }
applied_flying b f (Facts fs) = refl
applied_flying b f (Rewrite n w at a found t) = refl
applied_flying b f (One p n d c) = refl
applied_flying b f (Both p n c0 c1) = refl
applied_flying b f (Refuse p n) = refl
applied_flying b f (Deduce a c pairs) = refl
applied_flying b f (Unjoined p pairs) = refl
applied_flying b f (Closed p) = refl
applied_flying b f (Limit j cause) = refl

pub acted_flying : (b : Plain) (f : List Ticket) (x : Proposed) → acted (record b { flight = f }) x ≡ record (acted b x) { flight = f }
acted_flying b f x = ap (λ o. counted (option_map_or (λ r. give_up r (effect_label (record b { flight = f }) x) (record b { flight = f })) o (applied (record b { flight = f }) x))) (limit_flying b f x) ∙ go (limit_of b x)
  where
    go : (o : Option Reason) → counted (option_map_or (λ r. give_up r (effect_label (record b { flight = f }) x) (record b { flight = f })) o (applied (record b { flight = f }) x)) ≡ record (counted (option_map_or (λ r. give_up r (effect_label b x) b) o (applied b x))) { flight = f }
    go None = ap counted (applied_flying b f x)
    go (Some r) = ap (λ (l : List Name). counted (give_up r l (record b { flight = f }))) (label_flying b f x)

pub effect_flying : (b : Plain) (f : List Ticket) (x : Proposed) → effect (record b { flight = f }) x ≡ record (effect b x) { flight = f }
effect_flying b f x = ap settle (acted_flying b f x) ∙ ap (λ (l : List Name). record (acted b x) { flight = f; asleep = l }) (settled_flying (acted b x) f)

-- the board after a commit, where the state is that after the effect
pub lands : (state new : Plain) (flight fewer : List Ticket) (x : Proposed) (n : ℕ) → new ≡ effect state x → fewer ≡ filter (λ (t : Ticket). not (t.number == n)) flight → record new { flight = fewer } ≡ landed n (effect (record state { flight = flight }) x)
lands state new flight fewer x n e f =
    ap₂ (λ (z : Plain) (ts : List Ticket). record z { flight = ts }) e f ∙ sym (ap (landed n) (effect_flying state flight x))

pub entry_flying : (b : Plain) (f : List Ticket) (x : Proposed) → effect_entry (record b { flight = f }) x ≡ effect_entry b x
entry_flying b f x = ap (λ (o : Option Reason). option_map_or Over o (Made x)) (limit_flying b f x)

-- ---- the board after a drop and after a commit

same : (x y : Bool) → (x || false) ≡ y → x ≡ y
same true y q = q
same false y q = q

pub drop_board : (state : Plain) (flight fewer : List Ticket) (J K : List Entry) (taken dropped : ℕ) (halted : Bool) (t : Ticket) (x : Proposed) → IsBoard (seen state flight J) taken dropped halted → verdict (record state { flight = flight }) ≡ None → Contains flight t
    → IsProposalOf (seen state flight J) t x → IsTrue (is_dropped (record state { flight = flight }) x) → record state { flight = fewer } ≡ landed t.number (record state { flight = flight }) → K ≡ J ++ Drop t.worker t.number (process_of t.job) ∷ [] → IsBoard (seen state fewer K) taken (dropped + 1) halted
drop_board state flight fewer J K taken dropped halted t x h none flying proposal idle lands e =
    let s = seen state flight J in
    let entry : Entry = Drop t.worker t.number (process_of t.job) in
    let legal = grown s entry (record state { flight = fewer }) h.legal (λ ms j run. record { job = t.job; proposal = x; finishing = finishing s t x none flying proposal ms j run; idle = idle; names_process = refl; leads_to = lands }) in
    let b = board_grown s entry (record state { flight = fewer }) taken dropped halted h legal in
    subst {A = List Entry} (λ z. IsBoard (seen state fewer z) taken (dropped + 1) halted) (sym e) (record { legal = b.legal; taken_is = omega (arith, b.taken_is); dropped_is = omega (arith, b.dropped_is); halted_is = same halted (has_halt (J ++ entry ∷ [])) b.halted_is })

pub commit_board : (state new : Plain) (flight fewer : List Ticket) (J K : List Entry) (taken dropped : ℕ) (halted : Bool) (t : Ticket) (x : Proposed) → IsBoard (seen state flight J) taken dropped halted → verdict (record state { flight = flight }) ≡ None → Contains flight t
    → IsProposalOf (seen state flight J) t x → IsFalse (is_dropped (record state { flight = flight }) x) → record new { flight = fewer } ≡ landed t.number (effect (record state { flight = flight }) x)
    → K ≡ J ++ Commit t.worker t.number (effect_entry (record state { flight = flight }) x) ∷ [] → IsBoard (seen new fewer K) taken dropped halted
commit_board state new flight fewer J K taken dropped halted t x h none flying proposal acts lands e =
    let s = seen state flight J in
    let entry : Entry = Commit t.worker t.number (effect_entry s.plain x) in
    let c : Plain = record new { flight = fewer } in
    let legal = grown s entry c h.legal (λ ms j run. record { job = t.job; proposal = x; finishing = finishing s t x none flying proposal ms j run; acts = acts; names_effect = refl; leads_to = lands }) in
    let b = board_grown s entry c taken dropped halted h legal in
    subst {A = List Entry} (λ z. IsBoard (seen new fewer z) taken dropped halted) (sym e) (record { legal = b.legal; taken_is = omega (arith, b.taken_is); dropped_is = omega (arith, b.dropped_is); halted_is = same halted (has_halt (J ++ entry ∷ [])) b.halted_is })
