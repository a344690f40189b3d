use Rattle.std.proofs.Common.{◌≡◌, ◌∙◌, ◌<◌, ◌≤◌, refl, sym, arith, ap, ap₂, subst, List, [], ◌∷◌, length, true}
use Rattle.std.proofs.lemmas.List.{take_all}
use Rattle.kb_label.specs.Names.{Name, is_empty}
use Rattle.kb_node.specs.declared.node.LabelKind.{LabelKind}
use Rattle.kb_node.specs.declared.node.NodeId.{NodeId}
use Rattle.mkb_model.specs.Plain.{Plain, PlainNode, label, label_at}
use Rattle.mkb_model.proofs.Lists.{clash}
use Rattle.mkb_rules.proofs.PutBack.{plain-label}
use Rattle.mkb_agenda.specs.Following.{Brings}
use Rattle.mkb_agenda.proofs.Brought.{brings_none, brings_next, still_between}
use Rattle.mkb_agenda.proofs.Ended.{ended_brings}
use Rattle.mkb_agenda.proofs.following.look_for_all.Goals as goal

-- a label that is read from the state is that of the board
label_on : (b c : Plain) (m n : NodeId) (kind : LabelKind) (xs : List PlainNode) (l : List Name) → l ≡ label_at xs m.0 kind → xs ≡ b.nodes → b ≡ c → m ≡ n → l ≡ label c n.0 kind
label_on b c m n kind xs l read are h e = read ∙ ap₂ (λ (ys : List PlainNode) (k : NodeId). label_at ys k.0 kind) (are ∙ ap (λ (z : Plain). z.nodes) h) e

nobody : (l : List Name) → is_empty l ≡ true → [] ≡ l
nobody [] h = refl
nobody (p ∷ l) h = clash h refl

pub returns-then-is_empty : goal.returns-then-is_empty
returns-then-is_empty c b k h =
    let read = plain-label c.nodes.result.now c.node.result.0 c.args.kind c.label-label.result.now c.label-label.ensures in
    let label_is = label_on c.state-state.result.now c.args.known.now.board c.node.result c.args.known.now.node c.args.kind _ c.label-label.result.now read c.nodes.ensures c.state-state.ensures c.node.ensures in
    subst {A = List Name} (λ l. Brings b c.args.known.now.board l c.args.agenda.now.processes c.args.agenda.now.processes) (nobody c.label-label.result.now (sym c.is_empty.ensures ∙ c.if-is_empty.true) ∙ label_is) (brings_none b c.args.known.now.board c.args.agenda.now.processes)

pub loop-i-init : goal.loop-i-init
loop-i-init c b k h = brings_none b c.args.known.now.board c.args.agenda.now.processes

pub loop-i-preserved : goal.loop-i-preserved
loop-i-preserved c b k h =
    let board = c.args.known.now.board in
    let p = c.index.result.now in
    let before = c.loop-i.invariant b k h in
    let inside : c.loop-i.i < length c.in_ok-names.names.items = omega (arith, c.loop-i-test.true, c.len-i-end.ensures, c.in_ok-names.names.ok) in
    brings_next b board c.in_ok-names.names.items c.loop-i.i p _ c.loop-i.agenda.processes _ inside c.index.ensures before
    (ended_brings b board p c.args.known.now.node (k p) c.loop-i.agenda.processes c.look_whether_ended.new.agenda.processes (c.in_ok-look_whether_ended.ensures.exact) c.in_ok-look_whether_ended.ensures.others (still_between b board _ _ _ before h))

pub returns : goal.returns
returns c b k h =
    let every : length c.in_ok-names.names.items ≤ c.loop-i.i = omega (arith, c.loop-i-test.false, c.len-i-end.ensures, c.in_ok-names.names.ok) in
    let read = plain-label c.nodes.result.now c.node.result.0 c.args.kind c.label-label.result.now c.label-label.ensures in
    let label_is = label_on c.state-state.result.now c.args.known.now.board c.node.result c.args.known.now.node c.args.kind _ c.label-label.result.now read c.nodes.ensures c.state-state.ensures c.node.ensures in
    subst {A = List Name} (λ l. Brings b c.args.known.now.board l c.args.agenda.now.processes c.loop-i.agenda.processes) (take_all c.loop-i.i c.in_ok-names.names.items every ∙ c.in_ok-names.ensures.names ∙ label_is) (c.loop-i.invariant b k h)
