-- A held ticket stays held while others make entries.
use Rattle.std.proofs.Common.{ℕ, ◌≡◌, ◌≢◌, ◌==◌, refl, sym, ap, ◌∙◌, subst, arith, append_assoc, List, [], ◌∷◌, ◌++◌, Contains, Bool, true, false, not}
use Rattle.std.proofs.lemmas.Bool.Decides.{nat_tests}
use Rattle.std.proofs.lemmas.List.{append-nil, append_cancel_left, same_from_push}
use Rattle.std.proofs.lemmas.List.Elements.{Contains-append_left, filter-append}
use Rattle.kb_lemmas.proofs.Lists.{no_end}
use Rattle.kb_term.specs.Signature.{Problem}
use Rattle.kb_jobs.specs.declared.working.Snapshot.{Snapshot}
use Rattle.kb_node.specs.declared.job.Job.{Job}
use Rattle.mkb_model.specs.Plain.{Plain}
use Rattle.mkb_model.specs.Effects.{effect}
use Rattle.mkb_model.specs.Journals.{Moment, Follows, IsRun, IsFirstJob, After, journal_of, landed, own, worker_of}
use Rattle.mkb_model.specs.declared.entry.Ticket.{Ticket}
use Rattle.mkb_model.specs.declared.entry.Entry.{Entry}
use Rattle.mkb_model.specs.declared.entry.Entry.TheVariants.{Take, Commit, Drop, Abandon, Halt}
use Rattle.mkb_model.proofs.Lists.{in_filter}
use Rattle.mkb_model.proofs.tickets.NoClash.{effect_flight}
use Rattle.mkb_model.proofs.labels.LivingNames.{flight_numbered}
use Rattle.mkb_model.proofs.journals.OneRun.{after_once, ticket_once}
use Rattle.mkb_board.specs.Boards.{Seen, IsLegalBoard}
use Rattle.mkb_board.specs.Held.{IsHeld}
use Rattle.mkb_board.proofs.Ends.{last_of, not_nil}
use Rattle.mkb_board.proofs.Held.{held_on, other_number}
use Rattle.mkb_model.specs.declared.settings.Settings.{Settings}

-- the last entry is of another, and so are those before it
own_last : (xs : List Entry) (x : Entry) (w : ℕ) → own (xs ++ x ∷ []) w ≡ [] → (own xs w ≡ []) × (worker_of x ≢ w)
own_last xs x w e = go (worker_of x == w) refl
  where
    parts : own xs w ++ own (x ∷ []) w ≡ []
    parts = sym (filter-append (λ (z : Entry). worker_of z == w) xs (x ∷ [])) ∙ e

    go : (b : Bool) → (worker_of x == w) ≡ b → (own xs w ≡ []) × (worker_of x ≢ w)
    go true q = no_end (own xs w) x (ap (λ (l : List Entry). own xs w ++ l) (sym (rw q refl)) ∙ parts)
    go false q = (sym (append-nil (own xs w)) ∙ ap (λ (l : List Entry). own xs w ++ l) (sym (rw q refl)) ∙ parts, λ k. absurd (grind (arith, nat_tests, q, k)))

module _ (P : Problem) (n : Settings) (u : Ticket) where
  -- the ticket that another worker ends is another
  stays : (past : List Moment) (b : Plain) → IsRun P n past b → Contains b.flight u → (w t : ℕ) (j : Job) → Contains b.flight (record { number = t; worker = w; job = j }) → w ≢ u.worker → (c d : Plain) → d.flight ≡ b.flight → c ≡ landed t d → Contains c.flight u
  stays past b run i w t j k other c d same e =
      let differ : u.number ≢ t = λ q. other (sym (ap (λ (z : Ticket). z.worker) (ticket_once b.flight (flight_numbered IsFirstJob P n past b run).distinct u (record { number = t; worker = w; job = j }) i k q))) in
      subst {A = Plain} (λ z. Contains z.flight u) (sym e)
      (in_filter (λ (x : Ticket). not (x.number == t)) d.flight u (subst {A = List Ticket} (λ ts. Contains ts u) (sym same) i) (other_number u.number t differ))

  -- it stays in flight over an entry of another
  follows : (past : List Moment) (b : Plain) (e : Entry) (c : Plain) → IsRun P n past b → Follows IsFirstJob past b e c → worker_of e ≢ u.worker → Contains b.flight u → Contains c.flight u
  follows past b (Take w t j) c run f other i = subst {A = Plain} (λ z. Contains z.flight u) (sym f.leads_to) (Contains-append_left b.flight (record { number = t; worker = w; job = j } ∷ []) u i)
  follows past b (Commit w t e) c run f other i = stays past b run i w t f.job f.finishing.flying other c (effect b f.proposal) (effect_flight b f.proposal) f.leads_to
  follows past b (Drop w t p) c run f other i = stays past b run i w t f.job f.finishing.flying other c b refl f.leads_to
  follows past b (Abandon w t) c run f other i = stays past b run i w t f.job f.flying other c b refl f.leads_to
  follows past b Halt c run f other i = subst {A = Plain} (λ z. Contains z.flight u) (sym f.1) i

  -- and over many
  flies_on : (ms : List Moment) (c : Plain) → IsRun P n ms c → (J more : List Entry) (b : Plain) → journal_of ms ≡ J ++ more → After P n J b → own more u.worker ≡ [] → Contains b.flight u → Contains c.flight u
  flies_on ms c run J [] b e before others i = subst {A = Plain} (λ z. Contains z.flight u) (after_once P n J b c before (ms, e ∙ append-nil J, run)) i
  flies_on [] c run J (l ∷ ls) b e before others i = not_nil J l ls e
  flies_on (m ∷ ms) c run J (l ∷ ls) b e before others i =
      let r = last_of l ls in
      let k = same_from_push (journal_of ms) (J ++ r.0) m.entry r.1 (e ∙ ap (λ (z : List Entry). J ++ z) r.2 ∙ sym (append_assoc J r.0 (r.1 ∷ []))) in
      let o = own_last r.0 r.1 u.worker (ap (λ (z : List Entry). own z u.worker) (sym r.2) ∙ others) in
      follows ms m.board m.entry c run.0 run.1 (λ q. o.1 (ap worker_of (sym k.1) ∙ q)) (flies_on ms m.board run.0 J r.0 b k.0 before o.0 i)

-- a held ticket stays held while others make entries
pub held_of_others : (old new : Seen) (more : List Entry) (u : Ticket) (r : Snapshot) → IsLegalBoard old → IsLegalBoard new → IsHeld old u r → new.journal ≡ old.journal ++ more → new.plain.problem ≡ old.plain.problem → new.plain.settings ≡ old.plain.settings → own new.journal u.worker ≡ own old.journal u.worker → IsHeld new u r
held_of_others old new more u r before after h j p n others =
    let w = u.worker in
    let run = after.after in
    let none : own more w ≡ [] = append_cancel_left (own old.journal w) (own more w) [] (sym (filter-append (λ (z : Entry). worker_of z == w) old.journal more) ∙ ap (λ (z : List Entry). own z w) (sym j) ∙ others ∙ sym (append-nil (own old.journal w))) in
    let started : After new.plain.problem new.plain.settings old.journal old.plain =
    subst {A = Problem} (λ z. After z new.plain.settings old.journal old.plain) (sym p) (subst {A = Settings} (λ z. After old.plain.problem z old.journal old.plain) (sym n) before.after) in
    held_on old new more u r h j p n (flies_on new.plain.problem new.plain.settings u run.0 new.plain run.2 old.journal more old.plain (run.1 ∙ j) started none h.flying)
