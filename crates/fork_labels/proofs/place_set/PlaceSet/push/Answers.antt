use Rattle.std.proofs.Common.{◌<◌, ◌+◌, ◌/◌, ◌++◌, ◌∷◌, [], List, Bool, length, ap, ◌∙◌, arith}
use Rattle.fork_labels.proofs.SetIn.{pushed, length-set_in}
use Rattle.fork_labels.proofs.Clear.{clear-changed}
use Rattle.fork_labels.proofs.place_set.PlaceSet.push.Goals as goal

pub bounds-self-inside-s : goal.bounds-self-inside-s
bounds-self-inside-s c = omega (arith, c.requires, length-set_in c.self.inside.words c.self.inside.len, ap length c.self.view_is)

pub bounds-self-inside-s-2 : goal.bounds-self-inside-s-2
bounds-self-inside-s-2 c = omega (arith, c.requires, length-set_in c.self.inside.words c.self.inside.len, ap length c.self.view_is)

pub invariant_of-self : goal.invariant_of-self
invariant_of-self c =
    let n = c.self.inside.len in
    let there : n / 64 < length c.self.inside.words = omega (arith, c.requires, length-set_in c.self.inside.words n, ap length c.self.view_is, c.self.told) in (
      omega (arith, c.requires, length-set_in c.self.inside.words n, ap length c.self.view_is),
      clear-changed c.self.inside.words n n c.with_bit.result c.args.is_in there c.with_bit.ensures.same c.with_bit.ensures.others c.self.invariant.1 (n + 1) (omega arith) (omega arith),
    )

pub returns : goal.returns
returns c =
    let there : c.self.inside.len / 64 < length c.self.inside.words = omega (arith, c.requires, length-set_in c.self.inside.words c.self.inside.len, ap length c.self.view_is, c.self.told) in
    pushed c.self.inside.words c.self.inside.len c.with_bit.result c.args.is_in there c.with_bit.ensures.same c.with_bit.ensures.others
    ∙ ap (λ (l : List Bool). l ++ c.args.is_in ∷ []) c.self.view_is
