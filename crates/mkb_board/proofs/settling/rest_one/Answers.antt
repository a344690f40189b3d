use Rattle.std.proofs.Common.{◌≡◌, List, Option, Some, length, ap, sym, ◌∙◌, arith}
use Rattle.kb_label.specs.Names.{Name}
use Rattle.mkb_model.specs.Jobs.{greatest}
use Rattle.mkb_model.specs.Plain.{Plain}
use Rattle.mkb_model.specs.Sleeping.{process_cmp, working}
use Rattle.mkb_model.proofs.runs.Endings.{has_in}
use Rattle.mkb_model.proofs.runs.Selections.{least-in}
use Rattle.mkb_board.specs.Working.{processes_in}
use Rattle.mkb_board.specs.declared.working.Placed.{Placed}
use Rattle.mkb_board.proofs.Sleepers.{listed_ordered, one_rests, room_to_sleep, turned_cmp}
use Rattle.mkb_board.proofs.Listed.{none_kept, one_kept, rests_on, worker_listed}
use Rattle.mkb_board.proofs.settling.rest_one.Goals as goal
use Rattle.mkb_board.proofs.settling.rest_one.Goals.{in-Some-agenda, in_default-agenda}

-- it is the working process that costs most
is_greatest : (b : Plain) (l m : List Placed) (o : Option Name) (p : Name) → processes_in l ≡ working b b.asleep → m ≡ l → o ≡ greatest (process_cmp b) (processes_in m) → o ≡ Some p → greatest (process_cmp b) (working b b.asleep) ≡ Some p
is_greatest b l m o p all same best is = ap (greatest (process_cmp b)) (sym all) ∙ ap (λ k. greatest (process_cmp b) (processes_in k)) (sym same) ∙ sym best ∙ is

pub put_to_sleep-requires : goal.put_to_sleep-requires
put_to_sleep-requires c =
    let b = c.args.state.now in
    let p = c.in-Some.process in
    let works = has_in (working b b.asleep) p (least-in (turned_cmp b) (working b b.asleep) p (is_greatest c.args.state.now c.args.working.now.items c.as_slice.result.now c.greatest_working.result c.in-Some.process c.requires.works.all c.as_slice.ensures.value c.greatest_working.ensures c.in-Some.is)) in
    omega (arith, room_to_sleep b p c.requires.in_order c.requires.sleepers works, c.are_forked.ensures.most, ap length c.log.ensures)

pub take_out-requires : goal.take_out-requires
take_out-requires c = listed_ordered c.args.state.now c.requires.in_order c.args.working.now c.requires.works

pub returns-after-agenda-clause-works : goal.returns-after-agenda-clause-works
returns-after-agenda-clause-works c =
    one_rests c.args.state.now c.requires.in_order c.put_to_sleep.new.self c.in-Some.process c.args.working.now c.take_out.new.working c.put_to_sleep.ensures c.requires.works c.take_out.ensures.items c.take_out.ensures.room

pub rest-requires : goal.rest-requires
rest-requires c =
    worker_listed c.args.state.now c.in-Some.process c.in-Some-agenda.agenda.processes (one_kept c.args.state.now c.args.agenda.now c.in-Some-agenda.agenda c.in-Some-agenda.is c.requires.agenda) (is_greatest c.args.state.now c.args.working.now.items c.as_slice.result.now c.greatest_working.result c.in-Some.process c.requires.works.all c.as_slice.ensures.value c.greatest_working.ensures c.in-Some.is)

pub returns-after-agenda-clause-agenda : goal.returns-after-agenda-clause-agenda
returns-after-agenda-clause-agenda c =
    let b = c.args.state.now in
    let s = c.put_to_sleep.new.self in
    elim c.match-agenda.branch [
      | in-Some-agenda w ↦
          let a = w.in-Some-agenda.agenda in
          rests_on b s c.in-Some.process c.put_to_sleep.ensures a w.rest.new.self c.match-agenda.agenda w.agenda-is (one_kept b c.args.agenda.now a w.in-Some-agenda.is c.requires.agenda) w.rest.ensures.processes w.rest.ensures.jobs
      | in_default-agenda w ↦ none_kept s c.match-agenda.agenda (w.agenda-is ∙ w.in_default-agenda.is)
    ]
