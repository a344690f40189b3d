use Rattle.std.proofs.Common.{length, ap, ap₂, sym, ◌∙◌, arith}
use Rattle.std.specs.Ordering.{nat_cmp}
use Rattle.std.specs.Cmp.{tied_itself, nat_cmp_total}
use Rattle.kb_label.specs.Names.{name_cmp}
use Rattle.kb_label.specs.Packed.{name_in}
use Rattle.kb_label.proofs.Words.{name_cmp_words}
use Rattle.kb_label.proofs.process.Process.against_as_long.Goals as goal

pub returns : goal.returns
returns c =
    let p = name_in c.self.inside.words c.self.inside.len in
    let q = name_in c.other.inside.words c.other.inside.len in
    let same = ap length c.self.view_is ∙ c.requires ∙ sym (ap length c.other.view_is) in
    c.cmp.ensures
    ∙ name_cmp_words c.self.inside.words c.other.inside.words p q c.self.invariant.1 c.other.invariant.1 (omega (arith, c.self.invariant.0, c.self.invariant.2)) (ap (nat_cmp (length p)) (sym same) ∙ tied_itself nat_cmp_total (length p))
    ∙ ap₂ name_cmp c.self.view_is c.other.view_is
