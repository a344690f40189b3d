use Rattle.std.proofs.Common.{◌≡◌, sym, subst, Option, Some, None, Bor}
use Rattle.std.specs.Prelude.{IfSome}
use Rattle.std.specs.Option.{option_copied}
use Rattle.mkb_model.specs.Plain.{Plain}
use Rattle.mkb_pick.specs.declared.agenda.Agenda.{Agenda}
use Rattle.mkb_agenda.specs.Agendas.{IsAgendaOf}
use Rattle.mkb_board.specs.Boards.{Seen}
use Rattle.mkb_board.specs.Listed.{IsAgenda}
use Rattle.mkb_board.proofs.Listed.{kept_flying}
use Rattle.mkb_board.proofs.board.Board.agenda.Goals as goal

-- the agenda that is lent is the one that is kept
lent : (b : Plain) (r : Option (Bor Agenda)) (o : Option Agenda) → option_copied r ≡ o → IsAgenda b o → IfSome r (λ agenda. IsAgendaOf b agenda.now.processes)
lent b None o e h = tt
lent b (Some agenda) o e h = subst {A = Option Agenda} (IsAgenda b) (sym e) h

pub returns : goal.returns
returns c =
    let b = c.self.inside.state in
    let flight = c.self.inside.flight.items in
    let agenda = c.self.inside.agenda in
    subst {A = Seen} (λ z. IfSome c.as_ref.result (λ a. IsAgendaOf z.plain a.now.processes)) c.self.view_is
    (lent (record b { flight = flight }) c.as_ref.result agenda c.as_ref.ensures.value (kept_flying b flight agenda c.self.invariant.3))
