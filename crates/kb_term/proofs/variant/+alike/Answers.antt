use Rattle.std.proofs.Common.{◌≡◌, length, arith}
use Rattle.kb_term.specs.Paired.{stands_alike}
use Rattle.kb_term.proofs.Both.{opened-same, opened-other, opened-long, alike_by_arguments}
use Rattle.kb_term.proofs.variant.+alike.Goals as goal
use Rattle.kb_term.proofs.variant.+alike.Goals.{then-f-g-via-then-f-g, then-f-g-via-else-f-g+then-len}

pub returns-then-f-g : goal.returns-then-f-g
returns-then-f-g t c =
    elim c.then-f-g.branch [
      | then-f-g-via-then-f-g w ↦
          opened-other (stands_alike c.args.x c.args.y) (alike_by_arguments c.args.x c.args.y) c.args.s.now c.args.t.now c.in-App-App.f c.in-App-App.g c.in-App-App.ts c.in-App-App.us c.ts.inside.items.items c.us.inside.items.items c.in-App-App.is-0 c.in-App-App.is-1 c.ts.view_is c.us.view_is w.if-f-g.true
      | then-f-g-via-else-f-g+then-len w ↦
          let differ : length c.ts.inside.items.items ≡ length c.us.inside.items.items → ⊥ = λ e. absurd (grind arith) in
          opened-long (stands_alike c.args.x c.args.y) (alike_by_arguments c.args.x c.args.y) c.args.s.now c.args.t.now c.in-App-App.f c.in-App-App.g c.in-App-App.ts c.in-App-App.us c.ts.inside.items.items c.us.inside.items.items c.in-App-App.is-0 c.in-App-App.is-1 c.ts.view_is c.us.view_is differ
    ]

pub loop-i-init : goal.loop-i-init
loop-i-init t c =
    let long : length c.ts.inside.items.items ≡ length c.us.inside.items.items = grind arith in
    record {
      long = long;
      rest = opened-same (stands_alike c.args.x c.args.y) (alike_by_arguments c.args.x c.args.y) c.args.s.now c.args.t.now c.in-App-App.f c.in-App-App.g c.in-App-App.ts c.in-App-App.us c.ts.inside.items.items c.us.inside.items.items c.in-App-App.is-0 c.in-App-App.is-1 c.ts.view_is c.us.view_is c.if-f-g.false;
    }
