-- The variables of a numbered rule are below their number.
use Rattle.std.proofs.Common.{ℕ, zero, suc, ◌<◌, ◌≤◌, ◌≡◌, ◌⊎◌, inl, inr, ⊎_elim, refl, subst, arith, List, [], ◌∷◌, map, length, Contains, true, false}
use Rattle.std.specs.Prelude.{◌==◌}
use Rattle.std.proofs.lemmas.Bool.{cases_eq, eq-eqb, ne_eqb}
use Rattle.std.proofs.lemmas.List.Elements.{Contains-append_left, Contains-append_right}
use Rattle.kb_lemmas.proofs.Membership.{contains_cases}
use Rattle.kb_term.specs.Tree.{Tree, variables_of, HasVariablesBelow}
use Rattle.kb_term.specs.Substitution.{rename}
use Rattle.kb_term.specs.Pair.{place_in, variables_of_pair}
use Rattle.kb_term.specs.Rule.{numbered_rule, IsRuleBelow}
use Rattle.kb_term.proofs.Variants.{variables_renamed, in_distinct}

place_below : (xs : List ℕ) (x : ℕ) → Contains xs x → place_in xs x < length xs
place_below [] x c = absurd (omega (arith, c.1))
place_below (y ∷ ys) x c = go (cases_eq y x) (λ k. place_below ys x k)
  where
    go : (y ≡ x) ⊎ (y ≡ x → ⊥) → (Contains ys x → place_in ys x < length ys) → place_in (y ∷ ys) x < length (y ∷ ys)
    go (inl e) h =
        let same : (y == x) ≡ true = eq-eqb y x e in
        rw same (omega arith)
    go (inr n) h =
        let other : (y == x) ≡ false = ne_eqb y x n in
        let k = h (⊎_elim (λ e. absurd (n e)) (λ k. k) (contains_cases y ys x c)) in
        rw other (omega (arith, k))

-- a member of what a function gives for each member
mapped : (r : ℕ → ℕ) (xs : List ℕ) (n : ℕ) → Contains (map r xs) n → (x : ℕ) × Contains xs x × (r x ≡ n)
mapped r [] n c = absurd (omega (arith, c.1))
mapped r (x ∷ xs) n (zero, h, e) = (x, (0, omega arith, refl), e)
mapped r (x ∷ xs) n (suc k, h, e) = let m = mapped r xs n (k, omega (arith, h), e) in (m.0, (suc m.1.0, omega (arith, m.1.1), m.1.2), m.2)

renamed_below : (ds : List ℕ) (t : Tree) → ((x : ℕ) → Contains (variables_of t) x → Contains ds x) → HasVariablesBelow (length ds) (rename (place_in ds) t)
renamed_below ds t h n c =
    let m = mapped (place_in ds) (variables_of t) n (subst (λ vs. Contains vs n) (variables_renamed (place_in ds) t) c) in
    subst (λ k. k < length ds) m.2 (place_below ds m.0 (h m.0 m.1))

pub numbered-below : (s t : Tree) (b : ℕ) → length (variables_of_pair s t) ≤ b → IsRuleBelow b (numbered_rule s t)
numbered-below s t b h = record {
  left = λ n c. let k = renamed_below (variables_of_pair s t) s (λ x d. in_distinct _ x (Contains-append_left (variables_of s) (variables_of t) x d)) n c in omega (arith, k, h);
  right = λ n c. let k = renamed_below (variables_of_pair s t) t (λ x d. in_distinct _ x (Contains-append_right (variables_of s) (variables_of t) x d)) n c in omega (arith, k, h);
}
