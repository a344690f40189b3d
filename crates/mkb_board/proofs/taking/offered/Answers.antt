use Rattle.std.proofs.Common.{◌∙◌, List, subst}
use Rattle.kb_node.specs.declared.job.Job.{Job}
use Rattle.mkb_pick.specs.Listings.{IsLeastOffered}
use Rattle.mkb_agenda.proofs.FirstOffered.{first_offered}
use Rattle.mkb_agenda.proofs.Sleeping.{flight_unlisted}
use Rattle.mkb_board.proofs.Listed.{one_kept}
use Rattle.mkb_board.proofs.taking.offered.Goals as goal

pub returns-in-Some-clause-first : goal.returns-in-Some-clause-first
returns-in-Some-clause-first c =
    let b = c.args.state.now in
    let flight = c.args.flight.now in
    let a = c.in-Some.agenda in
    first_offered (record b { flight = flight }) a.processes
    (flight_unlisted b flight a.processes (one_kept b c.args.agenda.now a c.in-Some.is c.requires)) c.next.result
    (subst {A = List Job} (λ js. IsLeastOffered a.processes js c.next.result) (c.as_slice.ensures.value ∙ c.in_ok-flying.ensures) c.next.ensures)

pub returns-clause-first : goal.returns-clause-first
returns-clause-first c =
    let b = c.args.state.now in
    let flight = c.args.flight.now in
    let a = c.in_ok-made-in-None.made in
    first_offered (record b { flight = flight }) a.processes
    (flight_unlisted b flight a.processes c.in_ok-made-in-None.ensures) c.next-first.result
    (subst {A = List Job} (λ js. IsLeastOffered a.processes js c.next-first.result) (c.as_slice-in-None.ensures.value ∙ c.in_ok-flying.ensures) c.next-first.ensures)
