-- Generated problems are within the limits.
use Rattle.std.proofs.Common.{ℕ, zero, suc, ◌+◌, ◌*◌, ◌/◌, ◌%◌, ◌<◌, ◌≤◌, ◌≡◌, ◌⊎◌, ◌∙◌, inl, inr, ⊎_elim, refl, sym, subst, ap, arith, lit≤, List, [], ◌∷◌, map, length, get_or, Contains, true, false}
use Rattle.std.specs.Prelude.{◌==◌, All, flat_map}
use Rattle.std.specs.List.{range_with_len}
use Rattle.std.proofs.lemmas.Bool.{cases_eq, eq-eqb, ne_eqb}
use Rattle.std.proofs.lemmas.List.{length-map}
use Rattle.std.proofs.lemmas.List.Elements.{All-map}
use Rattle.std.proofs.lemmas.List.FromFn.{get_or-range_with_len, length-range_with_len}
use Rattle.kb_lemmas.proofs.Membership.{contains_cases, contains_flat_map, contains_flat_map_back}
use Rattle.kb_term.specs.Tree.{Tree}
use Rattle.kb_term.specs.Pair.{distinct, place_in}
use Rattle.kb_term.specs.Signature.{Signature, SymbolEntry, HasArity, IsEquationWithinLimits, IsWithinLimits}
use Rattle.kb_term.proofs.Variants.{in_distinct}
use Rattle.kb_syntax.specs.Generator.{outer_of, inner_of, right_of, letters_in, letters_of, letter_entry, generated_equation, generated}
use Rattle.mkb_model.proofs.nodes.Variables.{few_less}

-- ---- the numbers of equations

in_range : (n i : ℕ) → i < n → Contains (range_with_len 0 n) i
in_range n i h = (i, omega (arith, h, length-range_with_len 0 n), get_or-range_with_len 0 n i i h ∙ omega arith)

below : (n i : ℕ) → Contains (range_with_len 0 n) i → i < n
below n i (k, h, e) =
    let less : k < n = omega (arith, h, length-range_with_len 0 n) in
    let same = sym (get_or-range_with_len 0 n k i less) ∙ e in
    omega (arith, less, same)

-- ---- the letters

letter_below : (i x : ℕ) → i < 64 → Contains (letters_in i) x → x < 8
letter_below i x h c = ⊎_elim (λ e. omega (arith, e)) (λ c2. ⊎_elim (λ e. omega (arith, e, h)) (λ c3. ⊎_elim (λ e. omega (arith, e)) (λ c4. absurd (omega (arith, c4.1))) (contains_cases (right_of i) [] x c3)) (contains_cases (inner_of i) (right_of i ∷ []) x c2)) (contains_cases (outer_of i) (inner_of i ∷ right_of i ∷ []) x c)

few_letters : (n : ℕ) → n ≤ 64 → length (letters_of n) ≤ 8
few_letters n h = few_less (flat_map letters_in (range_with_len 0 n)) (range_with_len 0 8) (λ x c.
    let found = contains_flat_map_back letters_in (range_with_len 0 n) x c in
    let less = below n found.0 found.1 in
    in_range 8 x (letter_below found.0 x (omega (arith, less, h)) found.2))

letter_there : (n i x : ℕ) → i < n → Contains (letters_in i) x → Contains (letters_of n) x
letter_there n i x h c = in_distinct (flat_map letters_in (range_with_len 0 n)) x (contains_flat_map letters_in (range_with_len 0 n) i x (in_range n i h) c)

-- ---- the symbols

arity_behind : (e : SymbolEntry) (sig : Signature) (k : ℕ) → HasArity sig k 1 → HasArity (e ∷ sig) (1 + k) 1
arity_behind e sig k h = let next : suc k ≡ 1 + k = omega arith in subst {A = ℕ} (λ j. HasArity (e ∷ sig) j 1) next h

has_arity : (ls : List ℕ) (x : ℕ) → Contains ls x → HasArity (map letter_entry ls) (place_in ls x) 1
has_arity [] x c = absurd (omega (arith, c.1))
has_arity (y ∷ ys) x c = go (cases_eq y x) (has_arity ys x)
  where
    go : (y ≡ x) ⊎ (y ≡ x → ⊥) → (Contains ys x → HasArity (map letter_entry ys) (place_in ys x) 1) → HasArity (map letter_entry (y ∷ ys)) (place_in (y ∷ ys) x) 1
    go (inl e) h = let same : (y == x) ≡ true = eq-eqb y x e in rw same refl
    go (inr n) h =
        let other : (y == x) ≡ false = ne_eqb y x n in
        rw other (arity_behind (letter_entry y) (map letter_entry ys) (place_in ys x) (h (⊎_elim (λ e. absurd (n e)) (λ k. k) (contains_cases y ys x c))))

-- ---- the problem

first_letter : (i : ℕ) → Contains (letters_in i) (outer_of i)
first_letter i = (0, omega arith, refl)

second_letter : (i : ℕ) → Contains (letters_in i) (inner_of i)
second_letter i = (1, omega arith, refl)

third_letter : (i : ℕ) → Contains (letters_in i) (right_of i)
third_letter i = (2, omega arith, refl)

equation_within : (n i : ℕ) → i < n → IsEquationWithinLimits (map letter_entry (letters_of n)) (generated_equation (letters_of n) i)
equation_within n i h =
    let outer = has_arity (letters_of n) (outer_of i) (letter_there n i (outer_of i) h (first_letter i)) in
    let inner = has_arity (letters_of n) (inner_of i) (letter_there n i (inner_of i) h (second_letter i)) in
    let right = has_arity (letters_of n) (right_of i) (letter_there n i (right_of i) h (third_letter i)) in
    record {
      left = record { well_formed = (outer, ((inner, (tt, tt)), tt)); size = lit≤ tt; depth = lit≤ tt };
      right = record { well_formed = (right, (tt, tt)); size = lit≤ tt; depth = lit≤ tt };
      variables = lit≤ tt;
      by_occurrence = refl;
    }

pub generated_within : (n : ℕ) → n ≤ 64 → IsWithinLimits (generated n)
generated_within n h =
    let ls = letters_of n in
    record {
      symbols = omega (arith, few_letters n h, length-map ls letter_entry);
      arities = All-map (λ (f : SymbolEntry). f.arity ≤ 8) letter_entry ls (λ k d less. lit≤ tt);
      count = omega (arith, h, length-map (range_with_len 0 n) (generated_equation ls), length-range_with_len 0 n);
      each = All-map (IsEquationWithinLimits (map letter_entry ls)) (generated_equation ls) (range_with_len 0 n) (λ k d less.
          let within : k < n = omega (arith, less, length-range_with_len 0 n) in
          let at : get_or (range_with_len 0 n) k d ≡ k = get_or-range_with_len 0 n k d within ∙ omega arith in
          subst {A = ℕ} (λ i. IsEquationWithinLimits (map letter_entry ls) (generated_equation ls i)) (sym at) (equation_within n k within));
    }
