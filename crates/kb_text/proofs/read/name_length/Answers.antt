use Rattle.std.proofs.Common.{◌∙◌, sym}
use Rattle.kb_text.proofs.VariableTexts.{in_name_more}
use Rattle.kb_text.proofs.read.name_length.Goals as goal

pub loop-i-preserved : goal.loop-i-preserved
loop-i-preserved c = in_name_more c.args.text.now c.loop-i.i c.loop-i-test.true (sym c.is_name_end.ensures ∙ c.if-is_name_end.false) c.loop-i.invariant
