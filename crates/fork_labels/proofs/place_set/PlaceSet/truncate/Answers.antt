use Rattle.std.proofs.Common.{◌≤◌, ◌-◌, List, Bool, take, length, sym, ap, ◌∙◌, arith}
use Rattle.std.proofs.lemmas.List.{take-take, take_all, length-take}
use Rattle.fork_labels.proofs.SetIn.{length-set_in}
use Rattle.fork_labels.proofs.place_set.PlaceSet.truncate.Goals as goal

pub pop-requires : goal.pop-requires
pop-requires c = omega (arith, c.loop-self-test.true, length-set_in c.self.inside.words c.self.inside.len, ap length c.self.view_is)

pub loop-self-smaller : goal.loop-self-smaller
loop-self-smaller c =
    omega (arith, c.loop-self-test.true, length-set_in c.self.inside.words c.self.inside.len, ap length c.self.view_is, ap length c.pop.ensures, length-take (length c.loop-self.self - 1) c.loop-self.self)

pub loop-self-preserved : goal.loop-self-preserved
loop-self-preserved c =
    let below : c.args.len ≤ length c.loop-self.self - 1 = omega (arith, c.loop-self-test.true, length-set_in c.self.inside.words c.self.inside.len, ap length c.self.view_is) in
    ap (λ (l : List Bool). take c.args.len l) c.pop.ensures ∙ take-take c.args.len (length c.loop-self.self - 1) c.loop-self.self below ∙ c.loop-self.invariant

pub returns : goal.returns
returns c =
    sym (take_all c.args.len c.loop-self.self (omega (arith, c.loop-self-test.false, length-set_in c.self.inside.words c.self.inside.len, ap length c.self.view_is)))
    ∙ c.loop-self.invariant
