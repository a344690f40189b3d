use Rattle.std.proofs.Common.{arith, sym, ap, ◌∙◌, length}
use Rattle.std.proofs.lemmas.List.{length-drop}
use Rattle.kb_report.proofs.NamesRead.{unbroken_more, broken_here}
use Rattle.kb_report.proofs.symbols.is_unbroken.Goals as goal

pub begins_otherwise-requires : goal.begins_otherwise-requires
begins_otherwise-requires c = omega (arith, c.loop-i-test.true, ap length c.split_at.ensures.back, length-drop c.loop-i.i c.args.bytes.now)

pub loop-i-preserved : goal.loop-i-preserved
loop-i-preserved c = c.loop-i.invariant ∙ unbroken_more c.args.bytes.now c.split_at.result.1.now c.loop-i.i c.loop-i-test.true c.split_at.ensures.back (sym c.begins_otherwise.ensures ∙ c.if-begins_otherwise.false)

pub returns-then-begins_otherwise : goal.returns-then-begins_otherwise
returns-then-begins_otherwise c = sym (c.loop-i.invariant ∙ broken_here c.args.bytes.now c.split_at.result.1.now c.loop-i.i c.loop-i-test.true c.split_at.ensures.back (sym c.begins_otherwise.ensures ∙ c.if-begins_otherwise.true))
