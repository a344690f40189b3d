use Rattle.std.proofs.Common.{◌<◌, ◌-◌, ◌/◌, List, Bool, false, take, length, refl, sym, ap, ◌∙◌, arith}
use Rattle.fork_labels.specs.Sets.{set_in}
use Rattle.fork_labels.proofs.SetIn.{length-set_in}
use Rattle.fork_labels.proofs.Clear.{popped, clear-popped}
use Rattle.fork_labels.proofs.place_set.PlaceSet.pop.Goals as goal

pub overflow_sub-s : goal.overflow_sub-s
overflow_sub-s c = omega (arith, c.requires, length-set_in c.self.inside.words c.self.inside.len, ap length c.self.view_is)

pub overflow_sub-self : goal.overflow_sub-self
overflow_sub-self c = omega (arith, c.requires, length-set_in c.self.inside.words c.self.inside.len, ap length c.self.view_is)

pub invariant_of-self : goal.invariant_of-self
invariant_of-self c =
    let n = c.self.inside.len in
    let some : 0 < n = omega (arith, c.requires, length-set_in c.self.inside.words n, ap length c.self.view_is) in
    let there : (n - 1) / 64 < length c.self.inside.words = omega (arith, c.self.invariant.0, c.self.told) in (
      omega (arith, c.self.invariant.0),
      clear-popped c.self.inside.words n (n - 1) c.with_bit.result false there c.with_bit.ensures.same c.with_bit.ensures.others c.self.invariant.1 refl (omega (arith, some)),
    )

pub returns : goal.returns
returns c =
    let n = c.self.inside.len in
    let some : 0 < n = omega (arith, c.requires, length-set_in c.self.inside.words n, ap length c.self.view_is) in
    let there : (n - 1) / 64 < length c.self.inside.words = omega (arith, c.self.invariant.0, c.self.told) in
    popped c.self.inside.words n (n - 1) c.with_bit.result false there c.with_bit.ensures.same c.with_bit.ensures.others c.self.invariant.1 (omega (arith, some))
    ∙ ap (λ m. take (m - 1) (set_in c.self.inside.words n)) (sym (length-set_in c.self.inside.words n))
    ∙ ap (λ (l : List Bool). take (length l - 1) l) c.self.view_is
