use Rattle.std.proofs.Common.{arith}
use Rattle.kb_lpo.proofs.Letters.{letters_more}
use Rattle.orders_tests.proofs.precedences.signature.Goals as goal

pub loop-f-preserved : goal.loop-f-preserved
loop-f-preserved c =
    letters_more c.loop-f.symbols.items c.push-in-loop-f.new.self.items _ _ c.loop-f.f (grind (arith, c.loop-f-test.true, c.requires)) (grind (arith, c.in_ok-push.ensures.items, c.new-name.ensures.items)) c.in_ok-push-2.ensures.items c.loop-f.invariant
