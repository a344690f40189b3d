-- The agenda that a board keeps.
use Rattle.std.specs.Prelude.{Option, IfSome}
use Rattle.mkb_model.specs.Plain.{Plain}
use Rattle.mkb_pick.specs.declared.agenda.Agenda.{Agenda}
use Rattle.mkb_agenda.specs.Agendas.{IsAgendaOf}

-- it is that of the board, where it is kept
abbrev pub IsAgenda : Plain → Option Agenda → Type 0
IsAgenda b o = IfSome o (λ agenda. IsAgendaOf b agenda.processes)
