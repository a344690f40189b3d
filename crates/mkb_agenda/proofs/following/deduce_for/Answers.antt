use Rattle.std.proofs.Common.{arith}
use Rattle.std.proofs.lemmas.Result.{on_ok_weaker}
use Rattle.kb_label.specs.Names.{Name}
use Rattle.mkb_model.specs.Plain.{Plain}
use Rattle.mkb_model.proofs.Lists.{clash}
use Rattle.mkb_agenda.specs.Looking.{ComesFrom, jobs_on}
use Rattle.mkb_agenda.specs.Following.{jobs_by_overlap}
use Rattle.mkb_agenda.proofs.Brought.{brings_if_ok, comes_from_itself, improper_overlap, touched_brings}
use Rattle.mkb_agenda.proofs.following.deduce_for.Goals as goal

pub returns-then-made-gt1 : goal.returns-then-made-gt1
returns-then-made-gt1 c =
    let p = c.args.process.now in
    let a = c.args.made.now.first in
    let e = c.args.made.now.second in
    let ns = c.args.made.now.nodes.now in
    brings_if_ok (λ (b : Plain). ComesFrom b p c.args.state.now p (jobs_by_overlap p a e ns)) c.args.state.now p (λ (b : Plain) (z : Name). ComesFrom b z c.args.state.now p (jobs_on p ns)) c.args.agenda.now.processes c.look_at_nodes.new.agenda.processes (comes_from_itself c.args.state.now p (jobs_on p ns))
    (λ b k l. improper_overlap b c.args.state.now p a e ns (λ h. omega (arith, h.0, c.if-made-gt1.true)) k)
    c.look_at_nodes.result c.look_at_nodes.ensures.exact c.look_at_nodes.ensures.others

pub returns-then-made-gt1-2 : goal.returns-then-made-gt1-2
returns-then-made-gt1-2 c =
    let p = c.args.process.now in
    let a = c.args.made.now.first in
    let e = c.args.made.now.second in
    let ns = c.args.made.now.nodes.now in
    brings_if_ok (λ (b : Plain). ComesFrom b p c.args.state.now p (jobs_by_overlap p a e ns)) c.args.state.now p (λ (b : Plain) (z : Name). ComesFrom b z c.args.state.now p (jobs_on p ns)) c.args.agenda.now.processes c.look_at_nodes-then-made-gt1-2.new.agenda.processes (comes_from_itself c.args.state.now p (jobs_on p ns))
    (λ b k l. improper_overlap b c.args.state.now p a e ns (λ h. omega (arith, h.1, c.if-made-gt1-2.true)) k)
    c.look_at_nodes-then-made-gt1-2.result c.look_at_nodes-then-made-gt1-2.ensures.exact c.look_at_nodes-then-made-gt1-2.ensures.others

pub returns : goal.returns
returns c =
    let s = c.args.state.now in
    let p = c.args.process.now in
    let ps = c.args.agenda.now.processes in
    let qs = c.look_again.new.agenda.processes in
    let js = jobs_by_overlap p c.args.made.now.first c.args.made.now.second c.args.made.now.nodes.now in
    let C = λ (b : Plain) (z : Name). ComesFrom b z s p js in
    brings_if_ok (λ (b : Plain). ComesFrom b p s p js) s p C ps qs (comes_from_itself s p js) (λ b k l. k) c.look_again.result
    (on_ok_weaker c.look_again.result (touched_brings s _ p C ps qs c.none_of.ensures.process (λ b z k. record {
      comes = rw (c.none_of.ensures.process, c.none_of.ensures.rules, c.none_of.ensures.narrow) k;
      reduces = λ w. clash w c.none_of.ensures.narrow;
    })) c.look_again.ensures.exact)
    (rw c.none_of.ensures.process at c.look_again.ensures.others)
