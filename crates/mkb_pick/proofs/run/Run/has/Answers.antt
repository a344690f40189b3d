use Rattle.std.proofs.Common.{sym, ◌∙◌}
use Rattle.mkb_pick.specs.Runs.{Holds, IsFilled, size, Precedes}
use Rattle.mkb_pick.proofs.Rising.{found_or_not}
use Rattle.mkb_pick.proofs.run.Run.has.Goals as goal

pub returns : goal.returns
unfolding Holds IsFilled size Precedes
returns c =
    let s = found_or_not c.as_slice.result.now c.args.self.now.keys.items c.args.key c.binary_search.result c.as_slice.ensures.value c.requires.0 c.binary_search.ensures.position in
    (λ h. s.0 (sym c.is_ok.ensures.value ∙ h), λ h. c.is_ok.ensures.value ∙ s.1 h)
