use Rattle.std.proofs.Common.{◌≡◌, refl, sym, ap, ap₂, ◌∙◌, subst, List}
use Rattle.std.proofs.lemmas.Result.{on_ok_weaker}
use Rattle.kb_label.specs.Names.{Name}
use Rattle.kb_node.specs.declared.node.NodeId.{NodeId}
use Rattle.kb_node.specs.declared.job.Job.TheVariants.{Reduce, Close}
use Rattle.mkb_model.specs.Plain.{Plain, weight}
use Rattle.mkb_model.specs.DueJobs.{is_work_due}
use Rattle.mkb_model.proofs.Lists.{clash}
use Rattle.mkb_pick.specs.Listings.{Listed}
use Rattle.mkb_agenda.specs.Agendas.{IsListedAs}
use Rattle.mkb_agenda.specs.Looking.{MayEnd}
use Rattle.mkb_agenda.proofs.Anew.{process_kept}
use Rattle.mkb_agenda.proofs.Brought.{is_owner}
use Rattle.mkb_agenda.proofs.Ended.{closing_unlisted, due_stays, ended_leaves, ended_listed, unlisted_stays}
use Rattle.mkb_agenda.proofs.looking.look_whether_ended.Goals as goal

-- a process of which the reducing of a node may have ended is brought to this board
abbrev Ends : Name → List Listed → List Listed → Plain → NodeId → Type 0
Ends p ps qs c n = (b : Plain) → MayEnd b c p n → IsListedAs b p p ps → IsListedAs c p p qs

ends_same : (p : Name) (ps qs : List Listed) (b c : Plain) (m n : NodeId) → b ≡ c → m ≡ n → Ends p ps qs b m → Ends p ps qs c n
ends_same p ps qs b c m n h e k = subst {A = Plain} (λ x. Ends p ps qs x n) h (subst {A = NodeId} (Ends p ps qs b) e k)

pub returns-then-not-is_reducing-clause-exact : goal.returns-then-not-is_reducing-clause-exact
returns-then-not-is_reducing-clause-exact c =
    let board = c.args.known.now.board in
    let p = c.args.process.now in
    let n = c.node-n.result in
    let ps = c.args.agenda.now.processes in
    let v = weight board (Reduce p n) in
    ends_same p ps ps board board n c.args.known.now.node refl c.node-n.ensures (λ b k l. unlisted_stays b board p n k v refl ps l (λ h. clash (c.is_reducing.ensures.1 (v, h)) c.if-not-is_reducing.true))

pub returns-then-may_reduce-clause-exact : goal.returns-then-may_reduce-clause-exact
returns-then-may_reduce-clause-exact c b k l =
    let n = c.args.known.now.node in
    let same = ap₂ (λ (z : Plain) (q : Name). is_work_due z (Reduce q n)) (c.in_ok-seen.ensures.state ∙ c.state-state.ensures) c.in_ok-seen.ensures.process in
    due_stays b c.args.known.now.board c.args.process.now n k (sym same ∙ sym c.may_reduce.ensures ∙ c.if-may_reduce.true) c.args.agenda.now.processes l

pub list_closing-requires : goal.list_closing-requires
list_closing-requires c = (process_kept c.args.agenda.now.processes c.remove.new.self.processes c.remove.ensures.processes c.args.process.now (is_owner c.args.agenda.now.processes (Reduce c.args.process.now c.node-n.result) (c.is_reducing.ensures.0 c.if-not-is_reducing.false).0 (c.is_reducing.ensures.0 c.if-not-is_reducing.false).1))

pub returns-clause-exact : goal.returns-clause-exact
returns-clause-exact c =
    let board = c.state-state.result.now in
    let p = c.args.process.now in
    let n = c.node-n.result in
    let ps = c.args.agenda.now.processes in
    let ms = c.remove.new.self.processes in
    let qs = c.list_closing.new.agenda.processes in
    let listed = c.is_reducing.ensures.0 c.if-not-is_reducing.false in
    let same = ap (λ (m : NodeId). is_work_due board (Reduce p m)) c.node-n.ensures
    ∙ sym (ap₂ (λ (z : Plain) (q : Name). is_work_due z (Reduce q c.args.known.now.node)) c.in_ok-seen.ensures.state c.in_ok-seen.ensures.process) in
    on_ok_weaker c.list_closing.result (λ closing. ends_same p ps qs board c.args.known.now.board n c.args.known.now.node c.state-state.ensures c.node-n.ensures
    (λ b k l. ended_listed b board p n k c.weight_of.result c.weight_of.ensures ps l ms c.remove.ensures.processes (is_owner ps (Reduce p n) listed.0 listed.1) qs
    (same ∙ sym c.may_reduce.ensures ∙ c.if-may_reduce.false) c.remove.ensures.jobs c.list_closing.ensures.processes c.list_closing.ensures.others
    (closing (λ h. closing_unlisted b p n listed.0 ps l listed.1 ((c.remove.ensures.jobs (Close p) 0).0 h).0)))) c.list_closing.ensures.closing

pub returns-clause-others : goal.returns-clause-others
returns-clause-others c = on_ok_weaker c.list_closing.result (λ closing. ended_leaves c.args.process.now c.node-n.result c.weight_of.result c.args.agenda.now.processes c.remove.new.self.processes c.list_closing.new.agenda.processes
    c.remove.ensures.processes c.remove.ensures.jobs c.list_closing.ensures.processes c.list_closing.ensures.others) c.list_closing.ensures.closing
