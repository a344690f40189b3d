-- The names f, a, b and c are those of a signature.
use Rattle.std.proofs.Common.{ℕ, ◌≡◌, ◌≤◌, refl, arith, [], ◌∷◌, length}
use Rattle.std.proofs.lemmas.List.Kept.{AllPairs-cons}
use Rattle.kb_lemmas.proofs.Membership.{all_more, all_none, no_pairs}
use Rattle.kb_term.specs.Identifier.{IsIdentifier}
use Rattle.kb_term.specs.Signature.{Signature, SymbolEntry, IsSignature}

abbrev entry : ℕ → ℕ → SymbolEntry
entry letter n = record { name = letter ∷ []; arity = n }

-- f of one argument, a, b and c
abbrev pub letters : Signature
letters = entry 102 1 ∷ entry 97 0 ∷ entry 98 0 ∷ entry 99 0 ∷ []

identifier-f : IsIdentifier (102 ∷ [])
unfolding lib.Utf8.encode
identifier-f = record { some = omega arith; utf8 = (102 ∷ [], (refl, refl)); unbroken = refl }

identifier-a : IsIdentifier (97 ∷ [])
unfolding lib.Utf8.encode
identifier-a = record { some = omega arith; utf8 = (97 ∷ [], (refl, refl)); unbroken = refl }

identifier-b : IsIdentifier (98 ∷ [])
unfolding lib.Utf8.encode
identifier-b = record { some = omega arith; utf8 = (98 ∷ [], (refl, refl)); unbroken = refl }

identifier-c : IsIdentifier (99 ∷ [])
unfolding lib.Utf8.encode
identifier-c = record { some = omega arith; utf8 = (99 ∷ [], (refl, refl)); unbroken = refl }

other_name : (a b : ℕ) → (a ≡ b → ⊥) → ¬ (a ∷ [] ≡ b ∷ [])
other_name a b d e = d (cc)

pub signature-letters : IsSignature letters
signature-letters =
    let N : SymbolEntry → Type 0 = λ f. IsIdentifier f.name × (length f.name ≤ 64) in
    let R : SymbolEntry → SymbolEntry → Type 0 = λ f g. ¬ (f.name ≡ g.name) in
    let f : SymbolEntry = entry 102 1 in
    let a : SymbolEntry = entry 97 0 in
    let b : SymbolEntry = entry 98 0 in
    let c : SymbolEntry = entry 99 0 in
    let nf : N f = (identifier-f, omega arith) in
    let na : N a = (identifier-a, omega arith) in
    let nb : N b = (identifier-b, omega arith) in
    let nc : N c = (identifier-c, omega arith) in
    record {
      names = all_more N f (a ∷ b ∷ c ∷ []) nf (all_more N a (b ∷ c ∷ []) na (all_more N b (c ∷ []) nb (all_more N c [] nc (all_none N))));
      differ = AllPairs-cons R f (a ∷ b ∷ c ∷ [])
          (all_more (R f) a (b ∷ c ∷ []) (other_name 102 97 (λ e. omega arith)) (all_more (R f) b (c ∷ []) (other_name 102 98 (λ e. omega arith)) (all_more (R f) c [] (other_name 102 99 (λ e. omega arith)) (all_none (R f)))))
          (AllPairs-cons R a (b ∷ c ∷ []) (all_more (R a) b (c ∷ []) (other_name 97 98 (λ e. omega arith)) (all_more (R a) c [] (other_name 97 99 (λ e. omega arith)) (all_none (R a))))
          (AllPairs-cons R b (c ∷ []) (all_more (R b) c [] (other_name 98 99 (λ e. omega arith)) (all_none (R b))) (AllPairs-cons R c [] (all_none (R c)) (no_pairs R))));
    }
