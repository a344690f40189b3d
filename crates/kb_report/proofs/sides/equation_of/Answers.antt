use Rattle.std.proofs.Common.{arith, ap, length}
use Rattle.kb_report.proofs.SidesRead.{equation_fields_are, equation_read}
use Rattle.kb_report.proofs.sides.equation_of.Goals as goal

pub returns-then-len-ne3 : goal.returns-then-len-ne3
returns-then-len-ne3 c = λ e k. let n = ap length (equation_fields_are c.args.sig.now c.requires.names c.args.line.now _ e c.in_ok-fields.ensures k) in omega arith

pub returns : goal.returns
returns c = equation_read c.args.sig.now c.requires.names c.args.line.now _ c.read_sides.result c.in_ok-fields.ensures (omega arith) c.read_sides.ensures
