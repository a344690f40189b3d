use Rattle.std.proofs.Common.{⊎_elim, refl, false, None}
use Rattle.std.proofs.lemmas.Result.{on_ok_weaker}
use Rattle.mkb_model.proofs.Lists.{clash}
use Rattle.mkb_agenda.specs.declared.looking.Touched.{Touched}
use Rattle.mkb_agenda.proofs.Anew.{held_all, rules_all}
use Rattle.mkb_agenda.proofs.Opened.{bare, bare_listed, bare_comes, seat_others}
use Rattle.kb_label.specs.Names.{has}
use Rattle.mkb_agenda.proofs.opening.list.Goals as goal

pub look_again-requires : goal.look_again-requires
look_again-requires c = record { nodes = held_all c.args.state.now c.args.process.now c.in-Some.kept.nodes.now c.in-Some.ensures.nodes; rules = rules_all c.args.state.now c.args.process.now c.in-Some.kept.rules.now c.in-Some.ensures.rules; overlap = tt }

pub returns-then-is_listed-clause-listed : goal.returns-then-is_listed-clause-listed
returns-then-is_listed-clause-listed c h = ⊎_elim (λ n. absurd (n (c.is_listed.ensures.0 c.if-is_listed.true))) (λ l. l) h

pub returns-clause-listed : goal.returns-clause-listed
returns-clause-listed c =
    let t : Touched = record { process = c.args.process; nodes = c.in-Some.kept.nodes; rules = c.in-Some.kept.rules; overlap = None; is_wide = false; loses_rule = false } in
    on_ok_weaker c.look_again.result (λ exact h. exact (bare c.args.state.now c.args.process.now) c.args.process.now
    (bare_listed c.args.state.now c.args.process.now c.args.agenda.now.processes c.seat.new.agenda.processes (λ x. clash (c.is_listed.ensures.1 x) c.if-is_listed.false) c.requires c.in_ok-seat.ensures.processes c.seat.ensures.jobs)
    (record { comes = bare_comes c.args.state.now t c.in-Some.ensures.nodes c.in-Some.ensures.rules; reduces = λ w. clash w refl })) c.look_again.ensures.exact

pub returns-clause-others : goal.returns-clause-others
returns-clause-others c = on_ok_weaker c.look_again.result (λ others x p q n l. others x p q n (seat_others c.args.agenda.now.processes c.seat.new.agenda.processes c.args.process.now (has c.args.state.now.asleep c.args.process.now) c.in_ok-seat.ensures.processes c.seat.ensures.jobs x p q n l)) c.look_again.ensures.others
