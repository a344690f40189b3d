use Rattle.std.proofs.Common.{◌≡◌, ◌≤◌, ℕ, zero, suc, List, [], ◌∷◌, All, length, refl, sym, subst, arith, rules}
use Rattle.kb_term.specs.Identifier.{IsIdentifier}
use Rattle.kb_term.specs.Signature.{Signature, SymbolEntry, IsSignature, symbols_of_list}
use Rattle.texts_tests.proofs.terms.signature.Goals as goal

identifier-x1 : IsIdentifier (120 ∷ 49 ∷ [])
unfolding lib.Utf8.encode
identifier-x1 = record { some = omega arith; utf8 = (120 ∷ 49 ∷ [], (refl, refl)); unbroken = refl }

only : (P : SymbolEntry → Type 0) (e : SymbolEntry) → P e → All P (e ∷ [])
only P e p zero d h = p
only P e p (suc k) d h = absurd (omega arith)

-- x1 of one argument
abbrev one_symbol : Signature
one_symbol = record { name = 120 ∷ 49 ∷ []; arity = 1 } ∷ []

signature-one : IsSignature one_symbol
signature-one = record {
  names = only (λ (f : SymbolEntry). IsIdentifier f.name × (length f.name ≤ 64)) (record { name = 120 ∷ 49 ∷ []; arity = 1 }) (identifier-x1, omega arith);
  differ = λ i j d h k. absurd (omega arith);
}

pub new-requires-clause-names : goal.new-requires-clause-names
new-requires-clause-names g c =
    let named : symbols_of_list c.push.new.self.items ≡ one_symbol = search rules in
    subst {A = Signature} IsSignature (sym named) signature-one
