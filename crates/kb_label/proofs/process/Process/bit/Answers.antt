use Rattle.std.proofs.Common.{◌<◌, length, ap, sym, ◌∙◌, arith}
use Rattle.std.specs.List.{slice_get}
use Rattle.kb_label.specs.Names.{Name}
use Rattle.kb_label.specs.Packed.{name_in}
use Rattle.kb_label.proofs.Words.{bit_there}
use Rattle.kb_label.proofs.process.Process.bit.Goals as goal

pub returns : goal.returns
returns c =
    let p = name_in c.self.inside.words c.self.inside.len in
    let short : length p < 1024 = omega (arith, c.self.invariant.0, c.self.invariant.2) in
    let within : c.args.i < length p = omega (arith, c.requires, ap length c.self.view_is) in
    ap (λ (q : Name). slice_get q c.args.i) (sym c.self.view_is)
    ∙ bit_there c.self.inside.words p c.args.i c.self.invariant.1 (omega arith) within
