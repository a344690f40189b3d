use Rattle.kb_rewrite.proofs.FirstRedexes.{rule_there}
use Rattle.kb_checker.proofs.Partnership.{sides_none, sides_more}
use Rattle.kb_checker.proofs.pairing.left_sides.Goals as goal

pub loop-i-init : goal.loop-i-init
loop-i-init c = sides_none c.args.rules.now c.new-index.result c.new-index.ensures

pub loop-i-preserved : goal.loop-i-preserved
loop-i-preserved c = sides_more c.args.rules.now c.loop-i.index _ c.loop-i.i c.index-rules-i.result (rule_there c.args.rules.now c.loop-i.i c.index-rules-i.result c.loop-i-test.true c.index-rules-i.is) c.loop-i.invariant c.in_ok-add.ensures.ok
