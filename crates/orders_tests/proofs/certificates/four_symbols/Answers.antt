use Rattle.std.proofs.Common.{arith}
use Rattle.kb_cert.proofs.FourSymbols.{four_letters}
use Rattle.orders_tests.proofs.certificates.four_symbols.Goals as goal

pub new-requires-clause-names : goal.new-requires-clause-names
new-requires-clause-names c =
    four_letters c.in_ok-f.f c.in_ok-g.g c.in_ok-h.h c.in_ok-m.m 1 1 8 8 c.push-4.new.self.items c.in_ok-f.ensures c.in_ok-g.ensures c.in_ok-h.ensures c.in_ok-m.ensures
    (grind (arith, c.in_ok-push.ensures.items, c.in_ok-push-2.ensures.items, c.in_ok-push-3.ensures.items, c.in_ok-push-4.ensures.items, c.new-symbols.ensures.items))
