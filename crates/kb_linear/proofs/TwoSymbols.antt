-- f and g, which take one argument each, are the names of a signature.
use Rattle.std.proofs.Common.{ℕ, ◌≡◌, ◌<◌, ◌≤◌, refl, sym, ap, ◌∙◌, subst, arith, List, [], ◌∷◌, ◌++◌, length, Vec}
use Rattle.std.specs.Prelude.{slice_index_or}
use Rattle.std.specs.declared.alloc.Global.{Global}
use Rattle.std.proofs.lemmas.List.Kept.{AllPairs-cons}
use Rattle.kb_lemmas.proofs.Membership.{all_more, all_none, no_pairs}
use Rattle.kb_lemmas.proofs.Lists.{other_single}
use Rattle.kb_term.specs.Identifier.{IsIdentifier}
use Rattle.kb_term.specs.Signature.{SymbolEntry, IsSignature, symbols_of_list}

abbrev entry : ℕ → SymbolEntry
entry letter = record { name = letter ∷ []; arity = 1 }

abbrev pub letters : List SymbolEntry
letters = entry 102 ∷ entry 103 ∷ []

identifier-f : IsIdentifier (102 ∷ [])
unfolding lib.Utf8.encode
identifier-f = record { some = omega arith; utf8 = (102 ∷ [], (refl, refl)); unbroken = refl }

identifier-g : IsIdentifier (103 ∷ [])
unfolding lib.Utf8.encode
identifier-g = record { some = omega arith; utf8 = (103 ∷ [], (refl, refl)); unbroken = refl }

signature-letters : IsSignature letters
signature-letters =
    let N : SymbolEntry → Type 0 = λ f. IsIdentifier f.name × (length f.name ≤ 64) in
    let R : SymbolEntry → SymbolEntry → Type 0 = λ f g. ¬ (f.name ≡ g.name) in
    let f : SymbolEntry = entry 102 in
    let g : SymbolEntry = entry 103 in
    record {
      names = all_more N f (g ∷ []) (identifier-f, omega arith) (all_more N g [] (identifier-g, omega arith) (all_none N));
      differ = AllPairs-cons R f (g ∷ []) (all_more (R f) g [] (other_single 102 103 (λ e. omega arith)) (all_none (R f))) (AllPairs-cons R g [] (all_none (R g)) (no_pairs R));
    }

pub signature_from : (f g : Vec ℕ Global) (items : List (Vec ℕ Global × ℕ)) → f.items ≡ 102 ∷ [] → g.items ≡ 103 ∷ [] → items ≡ (f, 1) ∷ (g, 1) ∷ [] → IsSignature (symbols_of_list items)
signature_from f g items a b e = subst IsSignature (sym (ap symbols_of_list e ∙ names)) signature-letters
  where
    names : symbols_of_list ((f, 1) ∷ (g, 1) ∷ []) ≡ letters
    names = cc
