-- Boards that go on by the entries of one worker.
use Rattle.std.proofs.Common.{ℕ, zero, suc, ◌≡◌, ◌⊎◌, ◌∙◌, refl, sym, ap, arith, append_assoc, inl, inr, List, [], ◌∷◌, ◌++◌, Bool, true, false}
use Rattle.std.specs.Prelude.{Result, Ok, Err, IfOk, OnErr, if◌then◌else◌}
use Rattle.std.proofs.lemmas.List.{append-nil}
use Rattle.std.proofs.lemmas.List.Elements.{All-append}
use Rattle.turn_lock.specs.Turn.{IsFrom}
use Rattle.mkb_model.specs.Plain.{Plain}
use Rattle.mkb_model.specs.Effects.{effect_entry}
use Rattle.mkb_model.specs.Journals.{landed, worker_of}
use Rattle.mkb_model.specs.declared.proposed.Proposed.{Proposed}
use Rattle.mkb_model.specs.declared.entry.Ticket.{Ticket}
use Rattle.mkb_model.specs.declared.entry.Entry.{Entry}
use Rattle.mkb_model.specs.declared.entry.Entry.TheVariants.{Commit, Drop, Abandon, Halt}
use Rattle.mkb_model.proofs.labels.LivingNames.{effect_setting}
use Rattle.mkb_board.specs.Boards.{Seen, has_halt}
use Rattle.mkb_board.specs.Takes.{IsTakenBy, IsFinishedBy, take_entry}
use Rattle.mkb_board.specs.declared.answers.Taken.{Taken}
use Rattle.mkb_board.specs.declared.answers.Taken.TheVariants.{Job as TakenJob, Idle, Over, Halted}
use Rattle.mkb_board.specs.declared.answers.Finished.{Finished}
use Rattle.mkb_board.specs.declared.answers.Finished.TheVariants.{Ended, Dropped, Committed}
use Rattle.work_crew.specs.Alone.{IsSameRun}
use Rattle.work_crew.specs.Together.{Grows, IsGivenBack, halted}

pub none_from : (w : ℕ) → IsFrom worker_of w []
none_from w n d l = absurd (omega (arith, l))

pub one_from : (w : ℕ) (e : Entry) → (worker_of e ≡ w) ⊎ (worker_of e ≡ 0) → IsFrom worker_of w (e ∷ [])
one_from w e h zero d l = h
one_from w e h (suc n) d l = absurd (omega (arith, l))

pub grows_none : (w : ℕ) (old new : Seen) → new ≡ old → Grows w old new
grows_none w old new e = ([], ap (λ (s : Seen). s.journal) e ∙ sym (append-nil old.journal), none_from w)

grows_one : (w : ℕ) (e : Entry) (old new : Seen) → worker_of e ≡ w → new.journal ≡ old.journal ++ e ∷ [] → Grows w old new
grows_one w e old new h k = (e ∷ [], k, one_from w e (inl h))

-- twice
pub grows_on : (w : ℕ) (old mid new : Seen) → Grows w old mid → Grows w mid new → Grows w old new
grows_on w old mid new (xs, e, f) (ys, k, g) = (xs ++ ys, k ∙ ap (λ (z : List Entry). z ++ ys) e ∙ append_assoc old.journal xs ys, All-append (λ (x : Entry). (worker_of x ≡ w) ⊎ (worker_of x ≡ 0)) xs ys f g)

pub same_none : (old new : Seen) → new.plain ≡ old.plain → IsSameRun old new
same_none old new e = record { problem = ap (λ (z : Plain). z.problem) e; settings = ap (λ (z : Plain). z.settings) e }

pub same_landed : (old new : Seen) (n : ℕ) → new.plain ≡ landed n old.plain → IsSameRun old new
same_landed old new n e = record { problem = ap (λ (z : Plain). z.problem) e; settings = ap (λ (z : Plain). z.settings) e }

-- by a take
pub grows_taken : (old new : Seen) (w : ℕ) (a : Taken) → IsTakenBy old new w a → Grows w old new × IsSameRun old new
grows_taken old new w (TakenJob t s) h = (grows_one w (take_entry t) old new h.worker_is h.entered, record { problem = ap (λ (z : Plain). z.problem) h.flies; settings = ap (λ (z : Plain). z.settings) h.flies })
grows_taken old new w (Idle n) h = (grows_none w old new h.0, same_none old new (ap (λ (s : Seen). s.plain) h.0))
grows_taken old new w (Over v) h = (grows_none w old new h.0, same_none old new (ap (λ (s : Seen). s.plain) h.0))
grows_taken old new w Halted h = (grows_none w old new h.0, same_none old new (ap (λ (s : Seen). s.plain) h.0))

-- by the end of a ticket
grows_finished : (old new : Seen) (t : Ticket) (x : Proposed) (f : Finished) → IsFinishedBy old new t x f → Grows t.worker old new × IsSameRun old new
grows_finished old new t x (Ended v) h = (grows_none t.worker old new h.0, same_none old new (ap (λ (s : Seen). s.plain) h.0))
grows_finished old new t x (Dropped p) h = (grows_one t.worker (Drop t.worker t.number p) old new refl h.4, same_landed old new t.number h.3)
grows_finished old new t x (Committed a) h = (
  grows_one t.worker (Commit t.worker t.number (effect_entry old.plain x)) old new refl h.4,
  record { problem = ap (λ (z : Plain). z.problem) h.3 ∙ (effect_setting old.plain x).0; settings = ap (λ (z : Plain). z.settings) h.3 ∙ (effect_setting old.plain x).1 },
)

-- by a halt
pub grows_halted : (w : ℕ) (old new : Seen) → new.journal ≡ halted old.journal → Grows w old new
grows_halted w old new h = go (has_halt old.journal) h
  where
    go : (b : Bool) → new.journal ≡ (if b then old.journal else old.journal ++ Halt ∷ []) → Grows w old new
    go true e = ([], e ∙ sym (append-nil old.journal), none_from w)
    go false e = (Halt ∷ [], e, one_from w Halt (inr refl))

-- where a ticket is given back
pub grows_given_back : (old new : Seen) (t : Ticket) → IsGivenBack old new t → Grows t.worker old new × IsSameRun old new
grows_given_back old new t h =
    let e = Abandon t.worker t.number in
    let mid : Seen = record { plain = old.plain; journal = old.journal ++ e ∷ [] } in
    (grows_on t.worker old mid new (grows_one t.worker e old mid refl refl) (grows_halted t.worker mid new h.journal), same_landed old new t.number h.plain)

-- what a finish leaves, whatever its answer
pub grows_ended : (old new : Seen) (t : Ticket) (x : Proposed) (r : Result Finished (Ticket × Proposed)) → IfOk r (IsFinishedBy old new t x) → OnErr r (new ≡ old) → Grows t.worker old new × IsSameRun old new
grows_ended old new t x (Ok f) ok err = grows_finished old new t x f ok
grows_ended old new t x (Err e) ok err = (grows_none t.worker old new err, same_none old new (ap (λ (s : Seen). s.plain) err))

-- a ticket is given back by an abandon and a halt
pub given_back : (old mid new : Seen) (t : Ticket) → mid.plain ≡ landed t.number old.plain → mid.journal ≡ old.journal ++ Abandon t.worker t.number ∷ [] → new.plain ≡ mid.plain → new.journal ≡ halted mid.journal → IsGivenBack old new t
given_back old mid new t lands entered p h = record { plain = p ∙ lands; journal = h ∙ ap halted entered }
