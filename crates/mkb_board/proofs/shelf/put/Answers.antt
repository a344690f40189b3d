use Rattle.std.proofs.Common.{◌∷◌, [], None, length, ap, refl, arith}
use Rattle.std.proofs.lemmas.List.{length-append}
use Rattle.mkb_board.proofs.Kept.{put_none, put_there}
use Rattle.mkb_board.proofs.shelf.put.Goals as goal

pub loop-preserved : goal.loop-preserved
loop-preserved g c = record {
  same = put_none c.args.place c.args.value c.args.kept.now.items c.loop.kept.items c.push.new.self.items c.in_ok-push.ensures.items c.loop.invariant.same;
  count = omega (arith, ap length c.in_ok-push.ensures.items, length-append c.loop.kept.items (None ∷ []), c.loop.invariant.count);
}

pub returns : goal.returns
returns g c = put_there c.args.place c.args.value c.args.kept.now.items c.loop.kept.items _ refl c.loop.invariant.same
