use Rattle.std.proofs.Common.{None, ap, ap₂, sym, ◌∙◌, arith}
use Rattle.std.specs.Ordering.{nat_cmp}
use Rattle.kb_label.specs.Names.{name_cmp}
use Rattle.kb_label.specs.Kept.{kept_name, whole_name}
use Rattle.kb_label.proofs.Words.{name_cmp_first, same_length}
use Rattle.kb_label.proofs.kept_name.KeptName.beside_word.Goals as goal

pub returns-in-Equal : goal.returns-in-Equal
returns-in-Equal c =
    let p = kept_name c.self.inside.first c.self.inside.len (whole_name c.self.inside.whole) in
    let q = kept_name c.args.first c.args.len None in
    let same = ap₂ nat_cmp (sym c.self.invariant.1) (sym c.requires.1) ∙ sym c.in-Equal.ensures in
    let equal = same_length p q same in
    c.cmp-in-Equal.ensures
    ∙ ap₂ nat_cmp c.self.invariant.0 c.requires.0
    ∙ name_cmp_first p q (omega (arith, c.requires.1, c.requires.2, equal)) same
    ∙ ap (λ r. name_cmp r q) c.self.view_is
