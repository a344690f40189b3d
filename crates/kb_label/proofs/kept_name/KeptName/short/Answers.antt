use Rattle.std.proofs.Common.{None, arith}
use Rattle.kb_label.proofs.Kept.{keeps_name, keeps}
use Rattle.kb_label.proofs.kept_name.KeptName.short.Goals as goal

pub invariant_of-result : goal.invariant_of-result
invariant_of-result c = keeps c.first_word.result c.len.result c.args.name.now c.first_word.ensures c.len.ensures.count None (omega (arith, c.requires, c.len.ensures.count))

pub returns : goal.returns
returns c = keeps_name c.first_word.result c.len.result c.args.name.now c.first_word.ensures c.len.ensures.count None (omega (arith, c.requires, c.len.ensures.count))
