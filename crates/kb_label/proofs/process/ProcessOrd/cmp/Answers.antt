use Rattle.std.proofs.Common.{length, ap, ap₂, sym, ◌∙◌, arith}
use Rattle.std.specs.Ordering.{nat_cmp}
use Rattle.kb_label.specs.Names.{name_cmp}
use Rattle.kb_label.specs.Packed.{name_in}
use Rattle.kb_label.proofs.Words.{name_cmp_word, same_length}
use Rattle.kb_label.proofs.process.ProcessOrd.cmp.Goals as goal

pub returns-in-Equal : goal.returns-in-Equal
returns-in-Equal c =
    let p = name_in c.self.inside.words c.self.inside.len in
    let q = name_in c.other.inside.words c.other.inside.len in
    c.cmp-in-Equal.ensures
    ∙ name_cmp_word c.self.inside.words c.other.inside.words p q c.self.invariant.1 c.other.invariant.1 (omega (arith, c.if-self-le-WORD_BITS.true, c.self.invariant.2)) (ap₂ nat_cmp c.self.invariant.2 c.other.invariant.2 ∙ sym c.in-Equal.ensures)
    ∙ ap₂ name_cmp c.self.view_is c.other.view_is

pub against_as_long-requires : goal.against_as_long-requires
against_as_long-requires c =
    let p = name_in c.self.inside.words c.self.inside.len in
    let q = name_in c.other.inside.words c.other.inside.len in
    sym (ap length c.self.view_is) ∙ same_length p q (ap₂ nat_cmp c.self.invariant.2 c.other.invariant.2 ∙ sym c.in-Equal-2.ensures) ∙ ap length c.other.view_is
