use Rattle.std.proofs.Common.{◌≡◌, length, ap, ap₂, sym, subst, ◌∙◌, arith}
use Rattle.fork_labels.specs.Sets.{set_in, result_of, IsClearFrom}
use Rattle.fork_labels.proofs.SetIn.{combined_sets, length-set_in}
use Rattle.fork_labels.proofs.Clear.{clear-combined}
use Rattle.fork_labels.proofs.place_set.PlaceSet.combine.Goals as goal

pub returns : goal.returns
returns c =
    let n = c.self.inside.len in
    let same : n ≡ c.other.inside.len = omega (arith, c.requires, length-set_in c.self.inside.words n, ap length c.self.view_is, length-set_in c.other.inside.words c.other.inside.len, ap length c.other.view_is) in
    combined_sets c.args.op c.combined_words-self-inside.result c.self.inside.words c.other.inside.words n c.self.invariant.0 c.combined_words-self-inside.ensures
    ∙ ap₂ (result_of c.args.op) c.self.view_is (ap (set_in c.other.inside.words) same ∙ c.other.view_is)

pub invariant_of-self : goal.invariant_of-self
invariant_of-self c =
    let n = c.self.inside.len in
    let same : n ≡ c.other.inside.len = omega (arith, c.requires, length-set_in c.self.inside.words n, ap length c.self.view_is, length-set_in c.other.inside.words c.other.inside.len, ap length c.other.view_is) in (
      c.self.invariant.0,
      clear-combined c.args.op c.combined_words-self-inside.result c.self.inside.words c.other.inside.words n c.combined_words-self-inside.ensures c.self.invariant.1 (subst (IsClearFrom c.other.inside.words) (sym same) c.other.invariant.1),
    )
