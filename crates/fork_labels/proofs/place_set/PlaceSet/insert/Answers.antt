use Rattle.std.proofs.Common.{◌<◌, ◌/◌, List, Bool, true, set, length, ap, ◌∙◌, arith}
use Rattle.fork_labels.proofs.SetIn.{inserted, length-set_in}
use Rattle.fork_labels.proofs.Clear.{clear-changed}
use Rattle.fork_labels.proofs.place_set.PlaceSet.insert.Goals as goal

pub bounds-self-inside-s : goal.bounds-self-inside-s
bounds-self-inside-s c = omega (arith, c.requires, c.self.invariant.0, length-set_in c.self.inside.words c.self.inside.len, ap length c.self.view_is)

pub bounds-self-inside-s-2 : goal.bounds-self-inside-s-2
bounds-self-inside-s-2 c = omega (arith, c.requires, c.self.invariant.0, length-set_in c.self.inside.words c.self.inside.len, ap length c.self.view_is)

pub returns : goal.returns
returns c =
    let within : c.args.s < c.self.inside.len = omega (arith, c.requires, length-set_in c.self.inside.words c.self.inside.len, ap length c.self.view_is) in
    let there : c.args.s / 64 < length c.self.inside.words = omega (arith, within, c.self.invariant.0, c.self.told) in
    inserted c.self.inside.words c.self.inside.len c.args.s c.with_bit.result within there c.with_bit.ensures.same c.with_bit.ensures.others
    ∙ ap (λ (l : List Bool). set l c.args.s true) c.self.view_is

pub invariant_of-self : goal.invariant_of-self
invariant_of-self c =
    let n = c.self.inside.len in
    let within : c.args.s < n = omega (arith, c.requires, length-set_in c.self.inside.words n, ap length c.self.view_is) in
    let there : c.args.s / 64 < length c.self.inside.words = omega (arith, within, c.self.invariant.0, c.self.told) in
    (c.self.invariant.0, clear-changed c.self.inside.words n c.args.s c.with_bit.result true there c.with_bit.ensures.same c.with_bit.ensures.others c.self.invariant.1 n (omega arith) within)
