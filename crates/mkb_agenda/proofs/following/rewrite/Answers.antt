use Rattle.std.proofs.Common.{sym, subst, List}
use Rattle.std.proofs.lemmas.List.{take_all}
use Rattle.kb_label.specs.Names.{Name}
use Rattle.kb_node.specs.declared.node.NodeId.{NodeId}
use Rattle.mkb_agenda.specs.Following.{Brings, ComesByRewriting}
use Rattle.mkb_agenda.proofs.Brought.{brings_none, brings_next, still_between, has_at}
use Rattle.mkb_agenda.proofs.following.rewrite.Goals as goal

pub loop-i-init : goal.loop-i-init
loop-i-init c b k h = brings_none b c.args.state.now c.args.agenda.now.processes

pub loop-i-preserved : goal.loop-i-preserved
loop-i-preserved c b k h =
    let p = c.index-names-i.result in
    let before = c.loop-i.invariant b k h in
    brings_next b c.args.state.now c.args.names.now c.loop-i.i p _ c.loop-i.agenda.processes _ c.loop-i-test.true c.index-names-i.is before
    (c.in_ok-rewrite_for.ensures b (k p (has_at c.args.names.now c.loop-i.i p c.loop-i-test.true c.index-names-i.is)) (still_between b c.args.state.now _ _ _ before h))

pub returns : goal.returns
returns c b k h = subst {A = List Name} (λ l. Brings b c.args.state.now l c.args.agenda.now.processes c.loop-i.agenda.processes) (take_all c.loop-i.i c.args.names.now c.loop-i-test.false)
    (c.loop-i.invariant b (λ p e. subst {A = NodeId} (λ m. ComesByRewriting b c.args.state.now c.args.n m p) (sym c.unwrap_or-m.ensures) (k p e)) h)
