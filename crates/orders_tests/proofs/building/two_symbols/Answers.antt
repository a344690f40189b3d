use Rattle.std.proofs.Common.{arith}
use Rattle.kb_linear.proofs.TwoSymbols.{signature_from}
use Rattle.orders_tests.proofs.building.two_symbols.Goals as goal

pub new-requires-clause-names : goal.new-requires-clause-names
new-requires-clause-names c =
    signature_from c.in_ok-f.f c.in_ok-g.g c.push-2.new.self.items c.in_ok-f.ensures c.in_ok-g.ensures (grind (arith, c.in_ok-push.ensures.items, c.in_ok-push-2.ensures.items, c.new-symbols.ensures.items))
