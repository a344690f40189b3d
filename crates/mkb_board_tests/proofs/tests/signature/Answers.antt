use Rattle.std.proofs.Common.{◌≡◌, subst, sym, rules}
use Rattle.kb_term.specs.Signature.{Signature, IsSignature, symbols_of_list}
use Rattle.mkb_board_tests.proofs.Letters.{letters, signature-letters}
use Rattle.mkb_board_tests.proofs.tests.signature.Goals as goal

pub new-requires-clause-names : goal.new-requires-clause-names
new-requires-clause-names g c =
    let named : symbols_of_list c.push-4.new.self.items ≡ letters = search rules in
    subst {A = Signature} IsSignature (sym named) signature-letters
