use Rattle.std.proofs.Common.{ap, ◌∙◌}
use Rattle.std.proofs.Math.Seq.{map-set_same}
use Rattle.mkb_board.specs.declared.working.Placed.{Placed}
use Rattle.mkb_board.proofs.working.look_up.Goals as goal

pub loop-i-preserved : goal.loop-i-preserved
loop-i-preserved c =
    let it = c.index.result.now in
    record {
      names = map-set_same (λ (at : Placed). at.process) c.loop-i.working.items c.loop-i.i (record { place = c.place_near-place.result; process = it.process }) it (ap (λ (at : Placed). at.process) c.index.ensures) ∙ c.loop-i.invariant.names;
      len = c.loop-i.invariant.len;
      room = c.loop-i.invariant.room;
    }
