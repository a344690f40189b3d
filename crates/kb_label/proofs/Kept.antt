-- Names as a list keeps them.
use Rattle.std.proofs.Common.{◌≡◌, ℕ, ◌≤◌, List, [], ◌∷◌, length, Option, Some, None, sym, ap, ap₂, ◌∙◌, arith}
use Rattle.std.specs.Prelude.{MatchOption}
use Rattle.std.proofs.lemmas.List.{drop_all}
use Rattle.kb_label.specs.Names.{Name}
use Rattle.kb_label.specs.Packed.{name_in, word, words_of}
use Rattle.kb_label.specs.Kept.{kept_name, fits, IsKept}
use Rattle.kb_label.proofs.Words.{name_in-words_of}

-- a short name is read back from its first word
short_name : (p : Name) → length p ≤ 64 → name_in (word 64 p ∷ []) (length p) ≡ p
unfolding words_of
short_name p h = name_in-words_of 1 p (omega arith)

module _ (f n : ℕ) (p : Name) (e : f ≡ word 64 p) (k : n ≡ length p) where
  pub keeps_name : (o : Option Name) → MatchOption o (n ≤ 64) (λ q. q ≡ p) → kept_name f n o ≡ p
  keeps_name None h = ap₂ (λ a b. name_in (a ∷ []) b) e k ∙ short_name p (omega (arith, k))
  keeps_name (Some q) h = h

  fitting : (o : Option Name) → MatchOption o (n ≤ 64) (λ q. q ≡ p) → fits n o
  fitting None h = h
  fitting (Some q) h = tt

  pub keeps : (o : Option Name) → MatchOption o (n ≤ 64) (λ q. q ≡ p) → IsKept f n o
  keeps o h = (e ∙ ap (word 64) (sym (keeps_name o h)), k ∙ ap length (sym (keeps_name o h)), fitting o h)

zeros : List ℕ
zeros = 0 ∷ 0 ∷ 0 ∷ 0 ∷ 0 ∷ 0 ∷ 0 ∷ 0 ∷ 0 ∷ 0 ∷ 0 ∷ 0 ∷ 0 ∷ 0 ∷ 0 ∷ []

module _ (f n : ℕ) (k : IsKept f n None) where
  -- behind the first word there is no bit
  pub short_words : f ∷ 0 ∷ 0 ∷ 0 ∷ 0 ∷ 0 ∷ 0 ∷ 0 ∷ 0 ∷ 0 ∷ 0 ∷ 0 ∷ 0 ∷ 0 ∷ 0 ∷ 0 ∷ [] ≡ words_of 16 (name_in (f ∷ []) n)
  unfolding words_of word zeros
  short_words =
      let p = name_in (f ∷ []) n in
      ap (λ w. w ∷ zeros) k.0 ∙ ap (λ q. word 64 p ∷ words_of 15 q) (sym (drop_all 64 p (omega (arith, k.1, k.2))))

  pub short_same : name_in (f ∷ 0 ∷ 0 ∷ 0 ∷ 0 ∷ 0 ∷ 0 ∷ 0 ∷ 0 ∷ 0 ∷ 0 ∷ 0 ∷ 0 ∷ 0 ∷ 0 ∷ 0 ∷ []) n ≡ name_in (f ∷ []) n
  short_same =
      let p = name_in (f ∷ []) n in
      ap₂ name_in short_words k.1 ∙ name_in-words_of 16 p (omega (arith, k.1, k.2))
