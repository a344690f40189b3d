use Rattle.std.proofs.Common.{◌≡◌, ◌+◌, length}
use Rattle.kb_term.specs.Signature.{IsSignature, symbols_of_list}
use Rattle.kb_lpo.proofs.Letters.{AreBelow}
use Rattle.orders_tests.proofs.precedences.signature.Given as goal

abbrev pub invariant-loop-f : goal.invariant-loop-f
invariant-loop-f l = IsSignature (symbols_of_list l.symbols.items) × AreBelow (97 + l.f) (symbols_of_list l.symbols.items) × (length l.symbols.items ≡ l.f)
