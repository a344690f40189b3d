-- Bounds of lists of variables.
use Rattle.std.proofs.Common.{◌≡◌, refl, arith, ℕ, ◌+◌, ◌<◌, ◌≤◌, max, List, [], ◌∷◌, ◌++◌, Contains, ⊎_elim, suc, zero}
use Rattle.std.specs.Prelude.{◌↔◌}
use Rattle.std.proofs.lemmas.List.Elements.{Contains-append_cases, Contains-append_left, Contains-append_right}

abbrev pub AreBelow : ℕ → List ℕ → Type 0
AreBelow b vs = (n : ℕ) → Contains vs n → n < b

-- the bounds of the list are those from m on
abbrev pub IsLeastBound : ℕ → List ℕ → Type 0
IsLeastBound m vs = (b : ℕ) → (m ≤ b) ↔ AreBelow b vs

pub bound-none : IsLeastBound 0 []
bound-none b = ((λ h n c. absurd (omega (arith, c.1))), (λ h. omega arith))

pub bound-one : (n : ℕ) → IsLeastBound (n + 1) (n ∷ [])
bound-one n b = ((λ h m c. one m c h), (λ h. let k : n < b = h n (0, omega arith, refl) in omega (arith, k)))
  where
    one : (m : ℕ) → Contains (n ∷ []) m → n + 1 ≤ b → m < b
    one m (zero, p, e) h = let d : n ≡ m = e in omega (arith, d, h)
    one m (suc k, p, e) h = absurd (omega (arith, p))

pub bound-append : (m n : ℕ) (xs ys : List ℕ) → IsLeastBound m xs → IsLeastBound n ys → IsLeastBound (max n m) (xs ++ ys)
bound-append m n xs ys h k b = (
  (λ p v c. let hb : m ≤ b = omega (arith, p) in let kb : n ≤ b = omega (arith, p) in ⊎_elim (λ d. (h b).0 hb v d) (λ d. (k b).0 kb v d) (Contains-append_cases xs ys v c)),
  (λ q. let hb : m ≤ b = (h b).1 (λ v c. q v (Contains-append_left xs ys v c)) in let kb : n ≤ b = (k b).1 (λ v c. q v (Contains-append_right xs ys v c)) in omega (arith, hb, kb)),
)
