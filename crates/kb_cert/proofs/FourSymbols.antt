-- Four letters are the names of a signature, whatever their arities.
use Rattle.std.proofs.Common.{ℕ, ◌≡◌, ◌≤◌, refl, sym, ap, ◌∙◌, subst, arith, List, [], ◌∷◌, length, Vec}
use Rattle.std.specs.declared.alloc.Global.{Global}
use Rattle.std.proofs.lemmas.List.Kept.{AllPairs-cons}
use Rattle.kb_lemmas.proofs.Lists.{other_single}
use Rattle.kb_lemmas.proofs.Membership.{all_none, no_pairs, all_more}
use Rattle.kb_term.specs.Identifier.{IsIdentifier}
use Rattle.kb_term.specs.Signature.{SymbolEntry, IsSignature, symbols_of_list}

abbrev entry : ℕ → ℕ → SymbolEntry
entry letter arity = record { name = letter ∷ []; arity = arity }

abbrev letters : ℕ → ℕ → ℕ → ℕ → List SymbolEntry
letters a b c d = entry 102 a ∷ entry 103 b ∷ entry 104 c ∷ entry 109 d ∷ []

identifier-f : IsIdentifier (102 ∷ [])
unfolding lib.Utf8.encode
identifier-f = record { some = omega arith; utf8 = (102 ∷ [], (refl, refl)); unbroken = refl }

identifier-g : IsIdentifier (103 ∷ [])
unfolding lib.Utf8.encode
identifier-g = record { some = omega arith; utf8 = (103 ∷ [], (refl, refl)); unbroken = refl }

identifier-h : IsIdentifier (104 ∷ [])
unfolding lib.Utf8.encode
identifier-h = record { some = omega arith; utf8 = (104 ∷ [], (refl, refl)); unbroken = refl }

identifier-m : IsIdentifier (109 ∷ [])
unfolding lib.Utf8.encode
identifier-m = record { some = omega arith; utf8 = (109 ∷ [], (refl, refl)); unbroken = refl }

signature-letters : (a b c d : ℕ) → IsSignature (letters a b c d)
signature-letters a b c d =
    let N : SymbolEntry → Type 0 = λ f. IsIdentifier f.name × (length f.name ≤ 64) in
    let R : SymbolEntry → SymbolEntry → Type 0 = λ f g. ¬ (f.name ≡ g.name) in
    let f : SymbolEntry = entry 102 a in
    let g : SymbolEntry = entry 103 b in
    let h : SymbolEntry = entry 104 c in
    let m : SymbolEntry = entry 109 d in
    record {
      names = all_more N f (g ∷ h ∷ m ∷ []) (identifier-f, omega arith) (all_more N g (h ∷ m ∷ []) (identifier-g, omega arith) (all_more N h (m ∷ []) (identifier-h, omega arith) (all_more N m [] (identifier-m, omega arith) (all_none N))));
      differ = AllPairs-cons R f (g ∷ h ∷ m ∷ []) (all_more (R f) g (h ∷ m ∷ []) (other_single 102 103 (λ e. omega arith)) (all_more (R f) h (m ∷ []) (other_single 102 104 (λ e. omega arith)) (all_more (R f) m [] (other_single 102 109 (λ e. omega arith)) (all_none (R f)))))
          (AllPairs-cons R g (h ∷ m ∷ []) (all_more (R g) h (m ∷ []) (other_single 103 104 (λ e. omega arith)) (all_more (R g) m [] (other_single 103 109 (λ e. omega arith)) (all_none (R g))))
          (AllPairs-cons R h (m ∷ []) (all_more (R h) m [] (other_single 104 109 (λ e. omega arith)) (all_none (R h))) (AllPairs-cons R m [] (all_none (R m)) (no_pairs R))));
    }

pub four_letters : (f g h m : Vec ℕ Global) (a b c d : ℕ) (items : List (Vec ℕ Global × ℕ)) → f.items ≡ 102 ∷ [] → g.items ≡ 103 ∷ [] → h.items ≡ 104 ∷ [] → m.items ≡ 109 ∷ [] → items ≡ (f, a) ∷ (g, b) ∷ (h, c) ∷ (m, d) ∷ [] → IsSignature (symbols_of_list items)
four_letters f g h m a b c d items p q r s e = subst IsSignature (sym (ap symbols_of_list e ∙ names)) (signature-letters a b c d)
  where
    names : symbols_of_list ((f, a) ∷ (g, b) ∷ (h, c) ∷ (m, d) ∷ []) ≡ letters a b c d
    names = cc
