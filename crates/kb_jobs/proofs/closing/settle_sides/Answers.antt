use Rattle.std.proofs.Common.{refl, sym, inr, subst, List, true}
use Rattle.kb_term.specs.View.{tree_of}
use Rattle.mkb_model.proofs.Lists.{clash}
use Rattle.kb_jobs.specs.Rules.{listed}
use Rattle.kb_jobs.specs.Groups.{named_overlap}
use Rattle.kb_jobs.specs.Closing.{AreForms, equations_of}
use Rattle.kb_jobs.specs.declared.closing.Parting.{Parting}
use Rattle.kb_term.specs.Pair.{Pair}
use Rattle.mkb_model.specs.Proposals.{IsJoinedBy}
use Rattle.kb_jobs.specs.declared.closing.Forms.{Forms}
use Rattle.kb_jobs.proofs.Settling.{held_listed, forms_few, settles_joined, settles_apart}
use Rattle.kb_jobs.proofs.closing.settle_sides.Goals as goal

pub returns-in-Stop : goal.returns-in-Stop
returns-in-Stop c =
    let L = listed c.args.s.now.rules in
    let a = tree_of c.args.first.now in
    let b = tree_of c.args.second.now in
    inr ((a, b), c.requires.sides, subst {A = Forms} (AreForms L a b) c.in-Stop.is c.in_ok-reason.ensures)

pub is_joined-requires : goal.is_joined-requires
is_joined-requires c =
    let s = c.args.s.now in
    let L = listed s.rules in
    let a = tree_of c.args.first.now in
    let b = tree_of c.args.second.now in
    let made = subst {A = Forms} (AreForms L a b) c.in-Both.is c.in_ok-reason.ensures in
    forms_few L (held_listed s c.requires.closable) a b (tree_of c.in-Both.u) (tree_of c.in-Both.v) made.0 made.1 c.requires.few

pub returns-then-joined : goal.returns-then-joined
returns-then-joined c =
    let s = c.args.s.now in
    let L = listed s.rules in
    let a = tree_of c.args.first.now in
    let b = tree_of c.args.second.now in
    let u = tree_of c.in-Both.u in
    let v = tree_of c.in-Both.v in
    let made = subst {A = Forms} (AreForms L a b) c.in-Both.is c.in_ok-reason.ensures in
    let meet = subst {A = List Pair} (λ z. IsJoinedBy (equations_of z) u v) c.deref.ensures.value (c.in_ok-joined-in-Both.ensures.0 c.if-joined.true) in
    settles_joined s c.requires.closable (named_overlap c.args.g.now c.args.overlap.now) c.args.seen.now a b u v c.requires.sides made.0 made.1 meet

pub returns-in_ok-push_pair-in-Both : goal.returns-in_ok-push_pair-in-Both
returns-in_ok-push_pair-in-Both c =
    let s = c.args.s.now in
    let L = listed s.rules in
    let a = tree_of c.args.first.now in
    let b = tree_of c.args.second.now in
    let u = tree_of c.in-Both.u in
    let v = tree_of c.in-Both.v in
    let made = subst {A = Forms} (AreForms L a b) c.in-Both.is c.in_ok-reason.ensures in
    let new : Parting = record { pairs = c.push_pair.new.pairs; any = true } in
    settles_apart s (named_overlap c.args.g.now c.args.overlap.now) c.args.seen.now new a b u v c.requires.sides made.0 made.1 (λ h. clash (c.in_ok-joined-in-Both.ensures.1 (subst {A = List Pair} (λ z. IsJoinedBy (equations_of z) u v) (sym c.deref.ensures.value) h)) c.if-joined.false) c.in_ok-push_pair-in-Both.ensures refl
