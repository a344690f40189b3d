use Rattle.std.proofs.lemmas.Result.{on_ok_weaker}
use Rattle.kb_label.specs.Names.{Name}
use Rattle.mkb_model.specs.Plain.{Plain}
use Rattle.mkb_agenda.specs.Following.{ComesByRule}
use Rattle.mkb_agenda.proofs.Brought.{touched_brings}
use Rattle.mkb_agenda.proofs.following.orient.Goals as goal

pub returns-clause-exact : goal.returns-clause-exact
returns-clause-exact c _ =
    let q = c.args.process.now in
    on_ok_weaker c.look_again.result (touched_brings c.args.state.now _ q (λ (b : Plain) (p : Name). ComesByRule b p c.args.state.now q (record { node = c.args.n.0; dir = c.args.dir })) c.args.agenda.now.processes c.look_again.new.agenda.processes c.none_of.ensures.process (λ b p k. record {
      comes = rw (c.none_of.ensures.process, c.none_of.ensures.overlap) k.comes;
      reduces = λ w. rw (c.none_of.ensures.process, c.none_of.ensures.keeps) k.reduces;
    })) c.look_again.ensures.exact

pub returns-clause-others : goal.returns-clause-others
returns-clause-others c = rw c.none_of.ensures.process at c.look_again.ensures.others
