use Rattle.std.proofs.Common.{List, sym, subst}
use Rattle.std.proofs.lemmas.List.{append-nil}
use Rattle.std.proofs.lemmas.Result.{on_ok_weaker}
use Rattle.kb_label.specs.Names.{Name}
use Rattle.kb_node.specs.declared.job.Job.{Job}
use Rattle.mkb_model.specs.Plain.{Plain}
use Rattle.mkb_model.proofs.Lists.{clash}
use Rattle.mkb_agenda.specs.Looking.{ComesFrom, jobs_on}
use Rattle.mkb_agenda.proofs.Brought.{touched_brings}
use Rattle.mkb_agenda.proofs.following.look_at_nodes.Goals as goal

pub returns-clause-exact : goal.returns-clause-exact
returns-clause-exact c =
    let q = c.args.process.now in
    let js = jobs_on q c.args.nodes.now in
    on_ok_weaker c.look_again.result (touched_brings c.args.state.now _ q (λ (b : Plain) (p : Name). ComesFrom b p c.args.state.now q js) c.args.agenda.now.processes c.look_again.new.agenda.processes c.none_of.ensures.process (λ b p k. record {
      comes = rw (c.none_of.ensures.process, c.none_of.ensures.rules, c.none_of.ensures.overlap, c.none_of.ensures.narrow) (subst {A = List Job} (ComesFrom b p c.args.state.now q) (sym (append-nil js)) k);
      reduces = λ w. clash w c.none_of.ensures.narrow;
    })) c.look_again.ensures.exact

pub returns-clause-others : goal.returns-clause-others
returns-clause-others c = rw c.none_of.ensures.process at c.look_again.ensures.others
