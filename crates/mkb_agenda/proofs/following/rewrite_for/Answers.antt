use Rattle.std.proofs.Common.{◌∷◌, [], true}
use Rattle.std.proofs.lemmas.Result.{on_ok_weaker}
use Rattle.kb_label.specs.Names.{Name}
use Rattle.mkb_model.specs.Plain.{Plain}
use Rattle.mkb_agenda.specs.Looking.{ComesFrom, ReducesBy, jobs_on}
use Rattle.mkb_agenda.specs.Following.{ComesByRewriting, jobs_by_nodes, rules_at_both}
use Rattle.mkb_agenda.proofs.Brought.{brings_if_ok, comes_from_itself, had_equation, reduces_by_itself, touched_brings}
use Rattle.mkb_agenda.proofs.following.rewrite_for.Goals as goal

pub returns-then-has : goal.returns-then-has
returns-then-has c =
    let s = c.args.state.now in
    let p = c.args.process.now in
    let n = c.args.nodes.0 in
    let m = c.args.nodes.1 in
    let js = jobs_on p (n ∷ m ∷ []) in
    brings_if_ok (λ (b : Plain). ComesByRewriting b s n m p) s p (λ (b : Plain) (z : Name). ComesFrom b z s p js) c.args.agenda.now.processes c.look_at_nodes.new.agenda.processes (comes_from_itself s p js)
    (λ b k l. k.equation (had_equation b p n c.weight_of.result c.args.agenda.now.processes l (c.has.ensures.0 c.if-has.true)))
    c.look_at_nodes.result c.look_at_nodes.ensures.exact c.look_at_nodes.ensures.others

pub returns : goal.returns
returns c =
    let s = c.args.state.now in
    let p = c.args.process.now in
    let n = c.args.nodes.0 in
    let m = c.args.nodes.1 in
    let ps = c.args.agenda.now.processes in
    let qs = c.look_again.new.agenda.processes in
    let js = jobs_by_nodes s p n m in
    let C = λ (b : Plain) (z : Name). ComesFrom b z s p js × ReducesBy b z s p (record { nodes = n ∷ m ∷ []; rules = rules_at_both n m; loses = true }) in
    brings_if_ok (λ (b : Plain). ComesByRewriting b s n m p) s p C ps qs (comes_from_itself s p js, reduces_by_itself s p (record { nodes = n ∷ m ∷ []; rules = rules_at_both n m; loses = true }))
    (λ b k l. (k.rule, k.reduces)) c.look_again.result
    (on_ok_weaker c.look_again.result (touched_brings s _ p C ps qs c.none_of.ensures.process (λ b z k. record {
      comes = rw (c.none_of.ensures.process, c.none_of.ensures.overlap) k.0;
      reduces = λ w. rw c.none_of.ensures.process k.1;
    })) c.look_again.ensures.exact)
    (rw c.none_of.ensures.process at c.look_again.ensures.others)
