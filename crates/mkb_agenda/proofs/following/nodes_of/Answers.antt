use Rattle.std.proofs.Common.{◌≡◌, ◌∙◌, ◌+◌, ◌++◌, ◌∷◌, [], sym, subst, ap, take, List, Contains, Vec, Global, Some, All}
use Rattle.std.proofs.lemmas.List.{take_all}
use Rattle.std.proofs.lemmas.List.Elements.{All-append, Contains-append_left, Contains-append_right}
use Rattle.kb_lemmas.proofs.Membership.{contains_first, all_one}
use Rattle.kb_lemmas.proofs.Options.{some_is}
use Rattle.kb_node.specs.declared.node.NodeId.{NodeId}
use Rattle.kb_node.specs.declared.job.Deduced.{Deduced}
use Rattle.mkb_rules.specs.Named.{IsThere}
use Rattle.mkb_agenda.specs.Following.{AreNodesOf}
use Rattle.mkb_agenda.proofs.Found.{more_nodes}
use Rattle.mkb_agenda.proofs.following.nodes_of.Goals.{in-Some+in_ok-push, in_default}
use Rattle.mkb_agenda.proofs.following.nodes_of.Goals as goal

pub loop-i-preserved : goal.loop-i-preserved
loop-i-preserved c = record {
  there = elim c.match-node_of.branch as (λ _. All (λ (n : NodeId). IsThere c.args.state.now n.0) c.match-node_of.nodes.items) [
    | in-Some+in_ok-push w ↦ subst {A = List NodeId} (All (λ (n : NodeId). IsThere c.args.state.now n.0)) (sym (ap (λ (v : Vec NodeId Global). v.items) w.nodes-is ∙ w.in_ok-push.ensures.items)) (All-append (λ (n : NodeId). IsThere c.args.state.now n.0) c.loop-i.nodes.items (w.in-Some.n ∷ []) c.loop-i.invariant.there (all_one (λ (n : NodeId). IsThere c.args.state.now n.0) w.in-Some.n w.in-Some.ensures.there))
    | in_default w ↦ subst {A = List NodeId} (All (λ (n : NodeId). IsThere c.args.state.now n.0)) (ap (λ (v : Vec NodeId Global). v.items) (sym w.nodes-is)) c.loop-i.invariant.there
  ];
  nodes = elim c.match-node_of.branch as (λ _. AreNodesOf c.args.state.now (take (c.loop-i.i + 1) c.args.pairs.now) c.match-node_of.nodes.items) [
    | in-Some+in_ok-push w ↦
        let is : c.match-node_of.nodes.items ≡ c.loop-i.nodes.items ++ w.in-Some.n ∷ [] = ap (λ (v : Vec NodeId Global). v.items) w.nodes-is ∙ w.in_ok-push.ensures.items in
        more_nodes c.args.state.now c.args.pairs.now c.loop-i.i c.index-pairs-i.result c.loop-i.nodes.items _ c.loop-i-test.true c.index-pairs-i.is
        (λ n h. subst {A = List NodeId} (λ l. Contains l n) (sym is) (Contains-append_left c.loop-i.nodes.items (w.in-Some.n ∷ []) n h))
        (λ m e. subst {A = List NodeId} (λ l. Contains l (record { 0 = m })) (sym is) (Contains-append_right c.loop-i.nodes.items (w.in-Some.n ∷ []) (record { 0 = m })
        (subst {A = NodeId} (Contains (w.in-Some.n ∷ [])) (some_is (sym w.in-Some.is ∙ c.node_of.ensures.found m (e ∙ ap (λ (z : Deduced). Some z.pair) c.index-pairs-i.is))) (contains_first w.in-Some.n []))))
        c.loop-i.invariant.nodes
    | in_default w ↦ more_nodes c.args.state.now c.args.pairs.now c.loop-i.i c.index-pairs-i.result c.loop-i.nodes.items _ c.loop-i-test.true c.index-pairs-i.is
        (λ n h. subst {A = List NodeId} (λ l. Contains l n) (ap (λ (v : Vec NodeId Global). v.items) (sym w.nodes-is)) h)
        (λ m e. absurd (w.in_default.not-Some (record { 0 = m }) (c.node_of.ensures.found m (e ∙ ap (λ (z : Deduced). Some z.pair) c.index-pairs-i.is))))
        c.loop-i.invariant.nodes
  ];
}

pub returns-clause-nodes : goal.returns-clause-nodes
returns-clause-nodes c = subst {A = List Deduced} (λ l. AreNodesOf c.args.state.now l c.loop-i.nodes.items) (take_all c.loop-i.i c.args.pairs.now c.loop-i-test.false) c.loop-i.invariant.nodes
