use Rattle.std.proofs.Common.{None, ap, ap₂, sym, ◌∙◌, arith}
use Rattle.std.specs.Ordering.{nat_cmp}
use Rattle.kb_label.specs.Names.{name_cmp}
use Rattle.kb_label.specs.Packed.{name_in}
use Rattle.kb_label.specs.Kept.{kept_name}
use Rattle.kb_label.proofs.Words.{first_word, name_cmp_first}
use Rattle.kb_label.proofs.process.Process.behind_word.Goals as goal

pub returns-in-Equal : goal.returns-in-Equal
returns-in-Equal c =
    let p = kept_name c.args.first c.args.len None in
    let q = name_in c.self.inside.words c.self.inside.len in
    c.cmp-in-Equal.ensures
    ∙ ap₂ nat_cmp c.requires.0 (first_word c.self.inside.words q c.self.invariant.1)
    ∙ name_cmp_first p q (omega (arith, c.requires.1, c.requires.2)) (ap₂ nat_cmp (sym c.requires.1) c.self.invariant.2 ∙ sym c.in-Equal.ensures)
    ∙ ap (name_cmp p) c.self.view_is
