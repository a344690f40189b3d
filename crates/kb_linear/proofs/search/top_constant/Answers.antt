use Rattle.std.proofs.Common.{arith, sym}
use Rattle.kb_linear.proofs.Ready.{top_three, top_one, top_none}
use Rattle.kb_linear.proofs.search.top_constant.Goals as goal

pub returns-then-numbers-gt16 : goal.returns-then-numbers-gt16
returns-then-numbers-gt16 c = sym (top_none c.args.sig.now c.args.numbers c.requires (omega arith))

pub returns-then-count-numbers-gt16 : goal.returns-then-count-numbers-gt16
returns-then-count-numbers-gt16 c = sym (top_one c.args.sig.now c.args.numbers c.requires (omega arith) (omega arith))

pub returns-else-count-numbers-gt16 : goal.returns-else-count-numbers-gt16
returns-else-count-numbers-gt16 c = sym (top_three c.args.sig.now c.args.numbers c.requires (omega arith))
