use Rattle.std.proofs.Common.{Option, ◌≡◌, ◌∙◌, sym, ap, subst, List, ◌∷◌, [], unwrap_or, true}
use Rattle.kb_label.specs.Names.{Name, has}
use Rattle.kb_node.specs.declared.node.NodeId.{NodeId}
use Rattle.kb_node.specs.declared.job.Fact.{Fact}
use Rattle.kb_node.specs.declared.job.Deduced.{Deduced}
use Rattle.mkb_model.specs.Plain.{Plain}
use Rattle.mkb_model.specs.Effects.{effect_label}
use Rattle.mkb_model.specs.declared.proposed.Proposed.{Proposed}
use Rattle.mkb_model.specs.declared.proposed.Proposed.TheVariants.{Facts}
use Rattle.mkb_agenda.specs.Looking.{ComesFrom, jobs_on}
use Rattle.mkb_agenda.specs.Following.{AreNodesOf, ComesByRewriting, ComesByRule, jobs_by_overlap}
use Rattle.mkb_agenda.proofs.Brought.{only_name}
use Rattle.mkb_agenda.proofs.Frames.{one_comes, refuse_comes, closed_comes}
use Rattle.mkb_agenda.proofs.NodeFrames.{rewrite_comes, deduce_comes, unjoined_comes}
use Rattle.mkb_agenda.proofs.Followed.{acts_by_name, facts_if_ok, named_if_ok, one_if_ok, forked_if_ok, single_if_ok, oriented_only}
use Rattle.mkb_agenda.proofs.following.follow_effect.Goals as goal

pub returns-in-Facts : goal.returns-in-Facts
returns-in-Facts c = facts_if_ok c.args.state.now c.args.commit.now c.args.agenda.now.processes c.know.new.agenda.processes c.items.result.now c.requires.done (c.in-Facts.is ∙ ap (λ (fs : List Fact). Facts fs) (sym c.items.ensures)) c.know.ensures.none c.know.result c.know.ensures.exact

pub rewrite-requires-clause-target : goal.rewrite-requires-clause-target
rewrite-requires-clause-target c = c.requires.target c.requires.done

pub returns-in-Rewrite : goal.returns-in-Rewrite
returns-in-Rewrite c =
    let x = c.in-Rewrite in
    let n = x.node in
    let m : NodeId = unwrap_or c.args.commit.now.target n in
    named_if_ok c.args.state.now c.args.commit.now c.args.agenda.now.processes c.rewrite.new.agenda.processes (λ (b : Plain) (p : Name). ComesByRewriting b c.args.state.now n m p) (ap acts_by_name x.is)
    (λ b k. rewrite_comes b c.args.state.now c.args.commit.now k c.requires.done n x.side x.position x.rule x.kind x.result x.is)
    c.rewrite.result c.rewrite.ensures

pub returns-in-One : goal.returns-in-One
returns-in-One c =
    let p = c.in-One.process in
    let n = c.in-One.node in
    let f = c.in-One.is in
    one_if_ok c.args.state.now c.args.commit.now c.args.agenda.now.processes c.orient.new.agenda.processes p n c.in-One.dir c.in-One.cert (λ (b : Plain) (z : Name). ComesByRule b z c.args.state.now p (record { node = n.0; dir = c.in-One.dir })) f
    (λ b q h. oriented_only b p n.0 q (subst {A = Proposed} (λ y. has (effect_label b y) q ≡ true) f h))
    (λ b k. one_comes b c.args.state.now c.args.commit.now k c.requires.done p n c.in-One.dir c.in-One.cert f)
    c.orient.result c.orient.ensures.exact c.orient.ensures.others

pub returns-in-Both : goal.returns-in-Both
returns-in-Both c =
    let p = c.in-Both.process in
    let n = c.in-Both.node in
    let f = c.in-Both.is in
    forked_if_ok c.args.state.now c.args.commit.now c.args.agenda.now.processes c.fork.new.agenda.processes p n c.in-Both.cert0 c.in-Both.cert1 c.requires.done f
    (λ b q h. oriented_only b p n.0 q (subst {A = Proposed} (λ y. has (effect_label b y) q ≡ true) f h))
    c.fork.result c.fork.ensures

pub returns-in-Refuse : goal.returns-in-Refuse
returns-in-Refuse c =
    let p = c.in-Refuse.process in
    let n = c.in-Refuse.node in
    let f = c.in-Refuse.is in
    single_if_ok c.args.state.now c.args.commit.now c.args.agenda.now.processes c.look_at_nodes.new.agenda.processes p (λ (b : Plain) (z : Name). ComesFrom b z c.args.state.now p (jobs_on p (n ∷ []))) (ap acts_by_name f)
    (λ b q h. oriented_only b p n.0 q (subst {A = Proposed} (λ y. has (effect_label b y) q ≡ true) f h))
    (λ b k. refuse_comes b c.args.state.now c.args.commit.now k c.requires.done p n f)
    c.look_at_nodes.result c.look_at_nodes.ensures.exact c.look_at_nodes.ensures.others

pub returns-in_ok-nodes-in-Deduce : goal.returns-in_ok-nodes-in-Deduce
returns-in_ok-nodes-in-Deduce c =
    let x = c.in-Deduce in
    let ns = c.as_slice.result.now in
    let nodes = subst {A = List NodeId} (AreNodesOf c.args.state.now x.pairs) (sym c.as_slice.ensures.value) (subst {A = List Deduced} (λ z. AreNodesOf c.args.state.now z c.in_ok-nodes-in-Deduce.nodes.items) c.items-in-Deduce.ensures c.in_ok-nodes-in-Deduce.ensures.nodes) in
    named_if_ok c.args.state.now c.args.commit.now c.args.agenda.now.processes c.deduce.new.agenda.processes (λ (b : Plain) (p : Name). ComesFrom b p c.args.state.now p (jobs_by_overlap p x.a x.b ns)) (ap acts_by_name x.is)
    (λ b k. deduce_comes b c.args.state.now c.args.commit.now k c.requires.done x.a x.b x.pairs x.is ns nodes)
    c.deduce.result c.deduce.ensures

pub returns-in_ok-nodes-in-Unjoined : goal.returns-in_ok-nodes-in-Unjoined
returns-in_ok-nodes-in-Unjoined c =
    let x = c.in-Unjoined in
    let p = x.process in
    let ns = c.as_slice-in-Unjoined.result.now in
    let nodes = subst {A = List NodeId} (AreNodesOf c.args.state.now x.pairs) (sym c.as_slice-in-Unjoined.ensures.value) (subst {A = List Deduced} (λ z. AreNodesOf c.args.state.now z c.in_ok-nodes-in-Unjoined.nodes.items) c.items-in-Unjoined.ensures c.in_ok-nodes-in-Unjoined.ensures.nodes) in
    single_if_ok c.args.state.now c.args.commit.now c.args.agenda.now.processes c.look_at_nodes-in-Unjoined.new.agenda.processes p (λ (b : Plain) (z : Name). ComesFrom b z c.args.state.now p (jobs_on p ns)) (ap acts_by_name x.is)
    (λ b q h. only_name p q (subst {A = Proposed} (λ y. has (effect_label b y) q ≡ true) x.is h))
    (λ b k. unjoined_comes b c.args.state.now c.args.commit.now k c.requires.done p x.pairs x.is ns nodes)
    c.look_at_nodes-in-Unjoined.result c.look_at_nodes-in-Unjoined.ensures.exact c.look_at_nodes-in-Unjoined.ensures.others

pub returns-in-Closed : goal.returns-in-Closed
returns-in-Closed c =
    let p = c.in-Closed.process in
    let f = c.in-Closed.is in
    single_if_ok c.args.state.now c.args.commit.now c.args.agenda.now.processes c.look_at_nodes-in-Closed.new.agenda.processes p (λ (b : Plain) (z : Name). ComesFrom b z c.args.state.now p (jobs_on p [])) (ap acts_by_name f)
    (λ b q h. only_name p q (subst {A = Proposed} (λ y. has (effect_label b y) q ≡ true) f h))
    (λ b k. closed_comes b c.args.state.now c.args.commit.now k c.requires.done p f)
    c.look_at_nodes-in-Closed.result c.look_at_nodes-in-Closed.ensures.exact c.look_at_nodes-in-Closed.ensures.others
