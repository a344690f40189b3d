use Rattle.std.proofs.Common.{◌≡◌, length, arith}
use Rattle.kb_term.specs.Paired.{is_paired}
use Rattle.kb_term.specs.View.{tree_of}
use Rattle.kb_term.proofs.Both.{opened-same, opened-other, opened-long, paired_by_arguments}
use Rattle.kb_term.proofs.variant.+paired.Goals as goal
use Rattle.kb_term.proofs.variant.+paired.Goals.{then-f-g-via-then-f-g, then-f-g-via-else-f-g+then-len}

pub returns-then-f-g : goal.returns-then-f-g
returns-then-f-g t c =
    elim c.then-f-g.branch [
      | then-f-g-via-then-f-g w ↦
          opened-other (is_paired (tree_of c.args.a.now) (tree_of c.args.b.now)) (paired_by_arguments (tree_of c.args.a.now) (tree_of c.args.b.now)) c.args.s.now c.args.t.now c.in-App-App.f c.in-App-App.g c.in-App-App.ts c.in-App-App.us c.ts.inside.items.items c.us.inside.items.items c.in-App-App.is-0 c.in-App-App.is-1 c.ts.view_is c.us.view_is w.if-f-g.true
      | then-f-g-via-else-f-g+then-len w ↦
          let differ : length c.ts.inside.items.items ≡ length c.us.inside.items.items → ⊥ = λ e. absurd (grind arith) in
          opened-long (is_paired (tree_of c.args.a.now) (tree_of c.args.b.now)) (paired_by_arguments (tree_of c.args.a.now) (tree_of c.args.b.now)) c.args.s.now c.args.t.now c.in-App-App.f c.in-App-App.g c.in-App-App.ts c.in-App-App.us c.ts.inside.items.items c.us.inside.items.items c.in-App-App.is-0 c.in-App-App.is-1 c.ts.view_is c.us.view_is differ
    ]

pub loop-i-init : goal.loop-i-init
loop-i-init t c =
    let long : length c.ts.inside.items.items ≡ length c.us.inside.items.items = grind arith in
    record {
      long = long;
      rest = opened-same (is_paired (tree_of c.args.a.now) (tree_of c.args.b.now)) (paired_by_arguments (tree_of c.args.a.now) (tree_of c.args.b.now)) c.args.s.now c.args.t.now c.in-App-App.f c.in-App-App.g c.in-App-App.ts c.in-App-App.us c.ts.inside.items.items c.us.inside.items.items c.in-App-App.is-0 c.in-App-App.is-1 c.ts.view_is c.us.view_is c.if-f-g.false;
    }
