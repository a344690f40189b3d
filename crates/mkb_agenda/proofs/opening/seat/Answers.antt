use Rattle.std.proofs.Common.{inl, refl, sym, ◌∙◌, subst, Bool, false}
use Rattle.mkb_agenda.specs.Agendas.{SeatsProcess}
use Rattle.mkb_agenda.proofs.Anew.{process_of_listed}
use Rattle.mkb_agenda.proofs.Opened.{seats_resting}
use Rattle.mkb_agenda.proofs.opening.seat.Goals as goal

pub returns-then-not-is_asleep-clause-processes : goal.returns-then-not-is_asleep-clause-processes
returns-then-not-is_asleep-clause-processes c = subst {A = Bool} (λ z. SeatsProcess c.args.agenda.now.processes c.args.process.now z c.list.new.self.processes) (sym c.if-not-is_asleep.true ∙ c.is_asleep.ensures) c.in_ok-list.ensures.processes

pub rest-requires : goal.rest-requires
rest-requires c = process_of_listed c.list.new.self.processes c.args.process.now 0 false ((c.in_ok-list.ensures.processes c.args.process.now 0 false).1 (inl (refl, refl, refl)))

pub returns-clause-processes : goal.returns-clause-processes
returns-clause-processes c = subst {A = Bool} (λ z. SeatsProcess c.args.agenda.now.processes c.args.process.now z c.rest.new.self.processes) (sym c.if-not-is_asleep.false ∙ c.is_asleep.ensures)
    (seats_resting c.args.agenda.now.processes c.list.new.self.processes c.rest.new.self.processes c.args.process.now c.requires c.in_ok-list.ensures.processes c.rest.ensures.processes)

pub returns-clause-jobs : goal.returns-clause-jobs
returns-clause-jobs c j w = ((λ x. (c.list.ensures.jobs j w).0 ((c.rest.ensures.jobs j w).0 x)), (λ x. (c.rest.ensures.jobs j w).1 ((c.list.ensures.jobs j w).1 x)))
