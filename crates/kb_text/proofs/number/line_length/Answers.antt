use Rattle.std.proofs.Common.{get_or}
use Rattle.std.proofs.lemmas.Bool.{ne_eqb}
use Rattle.kb_text.proofs.Cuts.{without_more}
use Rattle.kb_text.proofs.number.line_length.Goals as goal

pub loop-i-preserved : goal.loop-i-preserved
loop-i-preserved c = without_more 10 c.args.text.now c.loop-i.i c.loop-i-test.true (ne_eqb (get_or c.args.text.now c.loop-i.i 0) 10 c.if-text-i-eq10.false) c.loop-i.invariant
