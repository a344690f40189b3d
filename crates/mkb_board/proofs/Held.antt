-- Held tickets stay held.
use Rattle.std.proofs.Common.{ℕ, ◌≡◌, ◌≢◌, ◌==◌, refl, sym, ap, ◌∙◌, subst, arith, append_assoc, List, [], ◌∷◌, ◌++◌, Contains, true, not}
use Rattle.std.proofs.lemmas.Bool.Decides.{nat_tests}
use Rattle.std.proofs.lemmas.List.Elements.{Contains-append_left, Contains-append_right}
use Rattle.kb_lemmas.proofs.Membership.{contains_first}
use Rattle.kb_term.specs.Signature.{Problem}
use Rattle.kb_node.specs.declared.job.Job.{Job}
use Rattle.kb_jobs.specs.Working.{ProposesBy}
use Rattle.kb_jobs.specs.declared.working.Snapshot.{Snapshot}
use Rattle.kb_jobs.proofs.TakenLaws.{work_taken}
use Rattle.mkb_model.specs.Plain.{Plain}
use Rattle.mkb_model.specs.Effects.{effect, effect_entry}
use Rattle.mkb_model.specs.Proposals.{Proposes}
use Rattle.mkb_model.specs.Journals.{After, IsFirstJob, landed}
use Rattle.mkb_model.specs.declared.proposed.Proposed.{Proposed}
use Rattle.mkb_model.specs.declared.entry.Ticket.{Ticket}
use Rattle.mkb_model.specs.declared.entry.Entry.{Entry}
use Rattle.mkb_model.specs.declared.entry.Entry.TheVariants.{Commit, Drop}
use Rattle.mkb_model.proofs.Lists.{in_filter}
use Rattle.mkb_model.proofs.tickets.NoClash.{effect_flight}
use Rattle.mkb_model.proofs.labels.LivingNames.{effect_setting, flight_numbered}
use Rattle.mkb_board.specs.Boards.{Seen, IsLegalBoard, takes_in}
use Rattle.mkb_board.specs.Takes.{TakesJob, IsTakenBy, IsFinishedBy, IsProposalOf, take_entry}
use Rattle.mkb_board.specs.Held.{IsHeld}
use Rattle.mkb_board.specs.declared.answers.Taken.{Taken}
use Rattle.mkb_board.specs.declared.answers.Taken.TheVariants.{Job as TakenJob, Idle, Over, Halted}
use Rattle.mkb_board.specs.declared.answers.Finished.{Finished}
use Rattle.mkb_board.specs.declared.answers.Finished.TheVariants.{Ended, Dropped, Committed}
use Rattle.mkb_board.proofs.Growing.{takes_of}
use Rattle.mkb_model.specs.declared.settings.Settings.{Settings}

-- a ticket that was taken is held
pub held_taken : (old new : Seen) (w : ℕ) (t : Ticket) (s : Snapshot) → IsLegalBoard old → TakesJob old new w t s → IsHeld new t s
held_taken old new w t s legal h = record {
  flying = subst {A = Plain} (λ (z : Plain). Contains z.flight t) (sym h.flies) (Contains-append_right old.plain.flight (t ∷ []) t (contains_first t []));
  before = old.plain;
  taken = record {
    earlier = old.journal;
    later = [];
    parts = h.entered;
    after = subst {A = Plain} (λ (z : Plain). After z.problem z.settings old.journal old.plain) (sym h.flies) legal.after;
  };
  job_is = h.job_is;
  reads = h.reads;
  readable = h.readable;
}

-- its number is that of none that was held
pub held_numbered : (old new : Seen) (w : ℕ) (t u : Ticket) (s r : Snapshot) → IsLegalBoard old → TakesJob old new w t s → IsHeld old u r → u.number ≢ t.number
held_numbered old new w t u s r legal h k e =
    let run = legal.after in
    let most = ((flight_numbered IsFirstJob old.plain.problem old.plain.settings run.0 old.plain run.2).numbers u k.flying).1 in
    let count = takes_of run.0 ∙ ap takes_in run.1 in
    absurd (omega (arith, most, count, h.number_is, e))

-- it stays held while it is in flight
pub held_on : (old new : Seen) (more : List Entry) (u : Ticket) (r : Snapshot) → IsHeld old u r → new.journal ≡ old.journal ++ more → new.plain.problem ≡ old.plain.problem → new.plain.settings ≡ old.plain.settings → Contains new.plain.flight u → IsHeld new u r
held_on old new more u r h j p n i = record {
  flying = i;
  before = h.before;
  taken = record {
    earlier = h.taken.earlier;
    later = h.taken.later ++ more;
    parts = j ∙ ap (λ (z : List Entry). z ++ more) h.taken.parts ∙ append_assoc h.taken.earlier (take_entry u ∷ h.taken.later) more;
    after = subst {A = Problem} (λ z. After z new.plain.settings h.taken.earlier h.before) (sym p) (subst {A = Settings} (λ z. After old.plain.problem z h.taken.earlier h.before) (sym n) h.taken.after);
  };
  job_is = h.job_is;
  reads = h.reads;
  readable = h.readable;
}

-- where others take
pub held_after_take : (old new : Seen) (w : ℕ) (a : Taken) (u : Ticket) (r : Snapshot) → IsTakenBy old new w a → IsHeld old u r → IsHeld new u r
held_after_take old new w (TakenJob t s) u r h k =
    held_on old new (take_entry t ∷ []) u r k h.entered (ap (λ (z : Plain). z.problem) h.flies) (ap (λ (z : Plain). z.settings) h.flies)
    (subst {A = Plain} (λ (z : Plain). Contains z.flight u) (sym h.flies) (Contains-append_left old.plain.flight (t ∷ []) u k.flying))
held_after_take old new w (Idle n) u r h k = subst {A = Seen} (λ z. IsHeld z u r) (sym h.0) k
held_after_take old new w (Over v) u r h k = subst {A = Seen} (λ z. IsHeld z u r) (sym h.0) k
held_after_take old new w Halted u r h k = subst {A = Seen} (λ z. IsHeld z u r) (sym h.0) k

-- two numbers that differ
pub other_number : (m n : ℕ) → m ≢ n → not (m == n) ≡ true
other_number m n d = grind (arith, nat_tests, d)

-- where another ticket ends
ended : (old new : Seen) (n : ℕ) (e : Entry) (c : Plain) (u : Ticket) (r : Snapshot) → u.number ≢ n → IsHeld old u r → c.flight ≡ old.plain.flight → c.problem ≡ old.plain.problem → c.settings ≡ old.plain.settings → new.plain ≡ landed n c → new.journal ≡ old.journal ++ e ∷ [] → IsHeld new u r
ended old new n e c u r d k f p b lands entered =
    held_on old new (e ∷ []) u r k entered (ap (λ (z : Plain). z.problem) lands ∙ p) (ap (λ (z : Plain). z.settings) lands ∙ b)
    (subst {A = Plain} (λ (z : Plain). Contains z.flight u) (sym lands)
    (in_filter (λ (x : Ticket). not (x.number == n)) c.flight u (subst {A = List Ticket} (λ ts. Contains ts u) (sym f) k.flying) (other_number u.number n d)))

pub held_after_finish : (old new : Seen) (t : Ticket) (x : Proposed) (f : Finished) (u : Ticket) (r : Snapshot) → IsFinishedBy old new t x f → u.number ≢ t.number → IsHeld old u r → IsHeld new u r
held_after_finish old new t x (Ended v) u r h d k = subst {A = Seen} (λ z. IsHeld z u r) (sym h.0) k
held_after_finish old new t x (Dropped p) u r h d k = ended old new t.number (Drop t.worker t.number p) old.plain u r d k refl refl refl h.3 h.4
held_after_finish old new t x (Committed a) u r h d k =
    ended old new t.number (Commit t.worker t.number (effect_entry old.plain x)) (effect old.plain x) u r d k (effect_flight old.plain x) (effect_setting old.plain x).0 (effect_setting old.plain x).1 h.3 h.4

-- what its job proposes may end it
pub held_proposes : (b : Seen) (t : Ticket) (s : Snapshot) (x : Proposed) → IsHeld b t s → ProposesBy s x → IsProposalOf b t x
held_proposes b t s x h p = (h.before, h.taken, subst {A = Job} (λ j. Proposes h.before j x) h.job_is (work_taken h.before s x h.reads p))
