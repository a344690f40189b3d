use Rattle.std.proofs.Common.{sym, ◌∙◌}
use Rattle.mkb_model.specs.Sleeping.{process_cmp, waiting}
use Rattle.mkb_model.proofs.runs.Selections.{least-none}
use Rattle.mkb_board.proofs.Sleepers.{listed_ordered, one_wakes}
use Rattle.mkb_board.proofs.Listed.{none_kept, one_kept, waiter_listed, works_again}
use Rattle.mkb_board.proofs.settling.wake_one.Goals as goal
use Rattle.mkb_board.proofs.settling.wake_one.Goals.{in-Some-agenda, in_default}

pub put_in-requires-clause-in_order : goal.put_in-requires-clause-in_order
put_in-requires-clause-in_order c = listed_ordered c.args.state.now c.requires.in_order c.args.working.now c.requires.works

pub returns-after-agenda-clause-works : goal.returns-after-agenda-clause-works
returns-after-agenda-clause-works c =
    one_wakes c.args.state.now c.requires.in_order c.requires.sleepers c.wake.new.self c.in-Some.process c.args.working.now c.put_in.new.working (sym c.least_waiting.ensures ∙ c.in-Some.is) c.wake.ensures c.requires.works c.put_in.ensures.items c.put_in.ensures.room

pub returns-in-None-clause-none : goal.returns-in-None-clause-none
returns-in-None-clause-none c = λ _. least-none (process_cmp c.args.state.now) (waiting c.args.state.now c.args.state.now.asleep) (sym c.least_waiting.ensures ∙ c.in-None.is)

pub wake-requires-in-Some-agenda : goal.wake-requires-in-Some-agenda
wake-requires-in-Some-agenda c =
    waiter_listed c.args.state.now c.in-Some.process c.in-Some-agenda.agenda.processes (one_kept c.args.state.now c.args.agenda.now c.in-Some-agenda.agenda c.in-Some-agenda.is c.requires.agenda) c.requires.sleepers (sym c.least_waiting.ensures ∙ c.in-Some.is)

pub returns-after-agenda-clause-agenda : goal.returns-after-agenda-clause-agenda
returns-after-agenda-clause-agenda c =
    let b = c.args.state.now in
    let s = c.wake.new.self in
    elim c.match-agenda.branch [
      | in-Some-agenda w ↦
          let a = w.in-Some-agenda.agenda in
          works_again b s c.in-Some.process c.wake.ensures a w.wake-in-Some-agenda.new.self c.match-agenda.agenda w.agenda-is (one_kept b c.args.agenda.now a w.in-Some-agenda.is c.requires.agenda) w.wake-in-Some-agenda.ensures.processes w.wake-in-Some-agenda.ensures.jobs
      | in_default w ↦ none_kept s c.match-agenda.agenda (w.agenda-is ∙ w.in_default.is)
    ]
