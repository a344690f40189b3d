-- Nothing but a closing is due for a process that is closed.
use Rattle.std.proofs.Common.{◌≡◌, refl, sym, ◌∙◌, subst, List}
use Rattle.kb_term.specs.Signature.{Problem}
use Rattle.kb_label.specs.Names.{Name}
use Rattle.mkb_model.specs.Plain.{Plain}
use Rattle.mkb_model.specs.Journals.{opening}
use Rattle.mkb_model.specs.declared.entry.Entry.{Entry}
use Rattle.mkb_model.specs.declared.entry.Ticket.{Ticket}
use Rattle.mkb_model.specs.declared.settings.Settings.{Settings}
use Rattle.mkb_model.proofs.Lists.{clash}
use Rattle.mkb_model.proofs.closing.RestInRuns.{closed_rests}
use Rattle.mkb_model.proofs.runs.Selections.{legal-possible}
use Rattle.mkb_agenda.proofs.Sleeping.{work_same}
use Rattle.mkb_board.specs.Boards.{seen, IsLegalBoard}
use Rattle.mkb_board.specs.Choosing.{ClosedRest}
use Rattle.mkb_board.proofs.Sleepers.{DiffersInSleepers}

-- ---- on boards that differ in what flies or who sleeps

rest_to : (b : Plain) (f : List Ticket) (a : List Name) → ClosedRest b → ClosedRest (record b { flight = f; asleep = a })
rest_to b f a h p k = let r = h p k in record { not_over = r.not_over; no_work = λ j i. work_same b f a j ∙ r.no_work j i }

pub rest_from : (b : Plain) (f : List Ticket) (a : List Name) → ClosedRest (record b { flight = f; asleep = a }) → ClosedRest b
rest_from b f a h p k = let r = h p k in record { not_over = r.not_over; no_work = λ j i. sym (work_same b f a j) ∙ r.no_work j i }

pub same_rest : (b s : Plain) → DiffersInSleepers b s → ClosedRest b → ClosedRest s
same_rest b s e h = subst {A = Plain} ClosedRest (sym e) (rest_to b b.flight s.asleep h)

-- ---- on a board

pub opening_rest : (P : Problem) (n : Settings) (b : Plain) → b ≡ opening P n → ClosedRest b
opening_rest P n b e = subst {A = Plain} ClosedRest (sym e) (λ p k. clash k refl)

pub legal_rest : (state : Plain) (flight : List Ticket) (J : List Entry) → IsLegalBoard (seen state flight J) → ClosedRest state
legal_rest state flight J legal =
    let s = seen state flight J in
    let r = legal.after in
    rest_from state flight state.asleep (λ p. (closed_rests s.plain.problem s.plain.settings r.0 s.plain (legal-possible s.plain.problem s.plain.settings r.0 s.plain r.2) p).closed)
