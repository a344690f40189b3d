-- The first lines of a text.
use Rattle.std.proofs.Common.{◌≡◌, refl, ap, sym, ◌∙◌, ℕ, zero, suc, ◌==◌, List, [], ◌∷◌, ◌++◌, Bool, cond, Option, Some, None}
use Rattle.std.specs.Prelude.{option_map}
use Rattle.kb_text.specs.Fields.{IsWithout}
use Rattle.kb_text.specs.Lines.{first_lines}

pub first_lines-none : (text : List ℕ) → first_lines text 0 ≡ Some []
first_lines-none [] = refl
first_lines-none (b ∷ text) = refl

-- the first line, and those behind it
pub first_lines-line : (xs rest : List ℕ) (n : ℕ) → IsWithout 10 xs → first_lines (xs ++ 10 ∷ rest) (suc n) ≡ option_map (λ (front : List ℕ). xs ++ 10 ∷ front) (first_lines rest n)
first_lines-line [] rest n h = refl
first_lines-line (x ∷ xs) rest n h =
    ap (λ (v : Bool). option_map (λ (front : List ℕ). x ∷ front) (first_lines (xs ++ 10 ∷ rest) (cond v n (suc n)))) h.0
    ∙ ap (option_map (λ (front : List ℕ). x ∷ front)) (first_lines-line xs rest n h.1) ∙ twice (first_lines rest n)
  where
    twice : (o : Option (List ℕ)) → option_map (λ (front : List ℕ). x ∷ front) (option_map (λ (front : List ℕ). xs ++ 10 ∷ front) o) ≡ option_map (λ (front : List ℕ). x ∷ (xs ++ 10 ∷ front)) o
    twice None = refl
    twice (Some front) = refl

-- a text is its first lines and what is behind them
pub behind_front : (text : List ℕ) (n : ℕ) (front : List ℕ) → first_lines text n ≡ Some front → (back : List ℕ) × (text ≡ front ++ back)
behind_front text zero front e = (text, ap (λ (f : List ℕ). f ++ text) (empty (sym (first_lines-none text) ∙ e)))
  where
    empty : Some [] ≡ Some front → [] ≡ front
    empty e = cc
behind_front [] (suc n) front e = absurd (cc)
behind_front (b ∷ text) (suc n) front e = go (first_lines text (cond (b == 10) n (suc n))) refl e (λ (f : List ℕ) p. behind_front text (cond (b == 10) n (suc n)) f p)
  where
    go : (o : Option (List ℕ)) → first_lines text (cond (b == 10) n (suc n)) ≡ o → option_map (λ (f : List ℕ). b ∷ f) o ≡ Some front
        → ((f : List ℕ) → first_lines text (cond (b == 10) n (suc n)) ≡ Some f → (back : List ℕ) × (text ≡ f ++ back)) → (back : List ℕ) × (b ∷ text ≡ front ++ back)
    go None p q h = absurd (cc)
    go (Some f) p q h =
        let r = h f p in
        let s : b ∷ f ≡ front = cc in
        (r.0, ap (b ∷◌) r.1 ∙ ap (λ (g : List ℕ). g ++ r.0) s)
