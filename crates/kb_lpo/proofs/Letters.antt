-- One more letter keeps a signature of letters.
use Rattle.std.proofs.Common.{ℕ, zero, suc, ◌≡◌, ◌≤◌, ◌<◌, ◌+◌, ◌++◌, refl, sym, ap, ◌∙◌, subst, arith, List, [], ◌∷◌, length, All, get_or, Vec, Global}
use Rattle.std.proofs.lemmas.List.{map-append, length-append}
use Rattle.std.proofs.lemmas.List.Elements.{All-push}
use Rattle.std.proofs.lemmas.List.Quantifiers.{all_pairs_push}
use Rattle.kb_term.specs.Identifier.{IsIdentifier}
use Rattle.kb_term.specs.Signature.{SymbolEntry, IsSignature, symbols_of_list}

abbrev entry : ℕ → ℕ → SymbolEntry
entry letter n = record { name = letter ∷ []; arity = n }

-- the first bytes of the names are below
abbrev pub AreBelow : ℕ → List SymbolEntry → Type 0
AreBelow bound signature = All (λ (f : SymbolEntry). get_or f.name 0 0 < bound) signature

identifier : (k : ℕ) → k < 24 → IsIdentifier ((97 + k) ∷ [])
unfolding lib.Utf8.encode
identifier zero h = record { some = omega arith; utf8 = (97 ∷ [], (refl, refl)); unbroken = refl }
identifier (suc zero) h = record { some = omega arith; utf8 = (98 ∷ [], (refl, refl)); unbroken = refl }
identifier (suc (suc zero)) h = record { some = omega arith; utf8 = (99 ∷ [], (refl, refl)); unbroken = refl }
identifier (suc (suc (suc zero))) h = record { some = omega arith; utf8 = (100 ∷ [], (refl, refl)); unbroken = refl }
identifier (suc (suc (suc (suc zero)))) h = record { some = omega arith; utf8 = (101 ∷ [], (refl, refl)); unbroken = refl }
identifier (suc (suc (suc (suc (suc zero))))) h = record { some = omega arith; utf8 = (102 ∷ [], (refl, refl)); unbroken = refl }
identifier (suc (suc (suc (suc (suc (suc zero)))))) h = record { some = omega arith; utf8 = (103 ∷ [], (refl, refl)); unbroken = refl }
identifier (suc (suc (suc (suc (suc (suc (suc zero))))))) h = record { some = omega arith; utf8 = (104 ∷ [], (refl, refl)); unbroken = refl }
identifier (suc (suc (suc (suc (suc (suc (suc (suc zero)))))))) h = record { some = omega arith; utf8 = (105 ∷ [], (refl, refl)); unbroken = refl }
identifier (suc (suc (suc (suc (suc (suc (suc (suc (suc zero))))))))) h = record { some = omega arith; utf8 = (106 ∷ [], (refl, refl)); unbroken = refl }
identifier (suc (suc (suc (suc (suc (suc (suc (suc (suc (suc zero)))))))))) h = record { some = omega arith; utf8 = (107 ∷ [], (refl, refl)); unbroken = refl }
identifier (suc (suc (suc (suc (suc (suc (suc (suc (suc (suc (suc zero))))))))))) h = record { some = omega arith; utf8 = (108 ∷ [], (refl, refl)); unbroken = refl }
identifier (suc (suc (suc (suc (suc (suc (suc (suc (suc (suc (suc (suc zero)))))))))))) h = record { some = omega arith; utf8 = (109 ∷ [], (refl, refl)); unbroken = refl }
identifier (suc (suc (suc (suc (suc (suc (suc (suc (suc (suc (suc (suc (suc zero))))))))))))) h = record { some = omega arith; utf8 = (110 ∷ [], (refl, refl)); unbroken = refl }
identifier (suc (suc (suc (suc (suc (suc (suc (suc (suc (suc (suc (suc (suc (suc zero)))))))))))))) h = record { some = omega arith; utf8 = (111 ∷ [], (refl, refl)); unbroken = refl }
identifier (suc (suc (suc (suc (suc (suc (suc (suc (suc (suc (suc (suc (suc (suc (suc zero))))))))))))))) h = record { some = omega arith; utf8 = (112 ∷ [], (refl, refl)); unbroken = refl }
identifier (suc (suc (suc (suc (suc (suc (suc (suc (suc (suc (suc (suc (suc (suc (suc (suc zero)))))))))))))))) h = record { some = omega arith; utf8 = (113 ∷ [], (refl, refl)); unbroken = refl }
identifier (suc (suc (suc (suc (suc (suc (suc (suc (suc (suc (suc (suc (suc (suc (suc (suc (suc zero))))))))))))))))) h = record { some = omega arith; utf8 = (114 ∷ [], (refl, refl)); unbroken = refl }
identifier (suc (suc (suc (suc (suc (suc (suc (suc (suc (suc (suc (suc (suc (suc (suc (suc (suc (suc zero)))))))))))))))))) h = record { some = omega arith; utf8 = (115 ∷ [], (refl, refl)); unbroken = refl }
identifier (suc (suc (suc (suc (suc (suc (suc (suc (suc (suc (suc (suc (suc (suc (suc (suc (suc (suc (suc zero))))))))))))))))))) h = record { some = omega arith; utf8 = (116 ∷ [], (refl, refl)); unbroken = refl }
identifier (suc (suc (suc (suc (suc (suc (suc (suc (suc (suc (suc (suc (suc (suc (suc (suc (suc (suc (suc (suc zero)))))))))))))))))))) h = record { some = omega arith; utf8 = (117 ∷ [], (refl, refl)); unbroken = refl }
identifier (suc (suc (suc (suc (suc (suc (suc (suc (suc (suc (suc (suc (suc (suc (suc (suc (suc (suc (suc (suc (suc zero))))))))))))))))))))) h = record { some = omega arith; utf8 = (118 ∷ [], (refl, refl)); unbroken = refl }
identifier (suc (suc (suc (suc (suc (suc (suc (suc (suc (suc (suc (suc (suc (suc (suc (suc (suc (suc (suc (suc (suc (suc zero)))))))))))))))))))))) h = record { some = omega arith; utf8 = (119 ∷ [], (refl, refl)); unbroken = refl }
identifier (suc (suc (suc (suc (suc (suc (suc (suc (suc (suc (suc (suc (suc (suc (suc (suc (suc (suc (suc (suc (suc (suc (suc zero))))))))))))))))))))))) h = record { some = omega arith; utf8 = (120 ∷ [], (refl, refl)); unbroken = refl }
identifier (suc (suc (suc (suc (suc (suc (suc (suc (suc (suc (suc (suc (suc (suc (suc (suc (suc (suc (suc (suc (suc (suc (suc (suc k)))))))))))))))))))))))) h = absurd (omega arith)

pub signature_more : (fs : List SymbolEntry) (k n : ℕ) → k < 24 → IsSignature fs → AreBelow (97 + k) fs → IsSignature (fs ++ entry (97 + k) n ∷ [])
signature_more fs k n h s b =
    record {
      names = All-push (λ (f : SymbolEntry). IsIdentifier f.name × (length f.name ≤ 64)) fs (entry (97 + k) n) s.names (identifier k h, omega arith);
      differ = all_pairs_push (λ (f g : SymbolEntry). ¬ (f.name ≡ g.name)) fs (entry (97 + k) n) s.differ
          (λ i d l e. let j : get_or (get_or fs i d).name 0 0 < 97 + k = b i d l in let w : get_or (get_or fs i d).name 0 0 ≡ 97 + k = ap (λ (x : List ℕ). get_or x 0 0) e in omega arith);
    }

pub below_more : (fs : List SymbolEntry) (k n : ℕ) → AreBelow (97 + k) fs → AreBelow (97 + (k + 1)) (fs ++ entry (97 + k) n ∷ [])
below_more fs k n b =
    All-push (λ (f : SymbolEntry). get_or f.name 0 0 < 97 + (k + 1)) fs (entry (97 + k) n) (λ i d l. let j : get_or (get_or fs i d).name 0 0 < 97 + k = b i d l in omega arith) (omega arith)

pub no_letters : IsSignature []
no_letters = record { names = (λ k d h. absurd (omega arith)); differ = (λ i j d h k. absurd (omega arith)) }

-- an entry more, as the loop pushes it
pub letters_more : (es fs : List (Vec ℕ Global × ℕ)) (name : Vec ℕ Global) (n k : ℕ) → k < 24 → name.items ≡ (97 + k) ∷ [] → fs ≡ es ++ (name, n) ∷ [] → IsSignature (symbols_of_list es) × AreBelow (97 + k) (symbols_of_list es) × (length es ≡ k) → IsSignature (symbols_of_list fs) × AreBelow (97 + (k + 1)) (symbols_of_list fs) × (length fs ≡ k + 1)
letters_more es fs name n k h e w s =
    (subst IsSignature (sym pushed) (signature_more (symbols_of_list es) k n h s.0 s.1), subst (AreBelow (97 + (k + 1))) (sym pushed) (below_more (symbols_of_list es) k n s.1), ap length w ∙ length-append es ((name, n) ∷ []) ∙ ap (λ m. m + 1) s.2)
  where
    pushed : symbols_of_list fs ≡ symbols_of_list es ++ entry (97 + k) n ∷ []
    pushed = ap symbols_of_list w ∙ map-append to_entry es ((name, n) ∷ []) ∙ ap (λ (bytes : List ℕ). symbols_of_list es ++ record { name = bytes; arity = n } ∷ []) e
      where
        to_entry : Vec ℕ Global × ℕ → SymbolEntry
        to_entry f = record { name = f.0.items; arity = f.1 }
