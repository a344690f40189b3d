-- All terms over so many symbols and variables up to a depth; and a list without repetition within another is no longer.
use Rattle.std.proofs.Common.{ℕ, zero, suc, ◌≤◌, ◌≡◌, inl, inr, ⊎_elim, refl, sym, ap, subst, arith, List, [], ◌∷◌, ◌++◌, length, map, Contains, flat_map}
use Rattle.std.specs.Prelude.{replicate}
use Rattle.std.specs.List.{AllZip}
use Rattle.std.proofs.lemmas.List.{length-append}
use Rattle.std.proofs.lemmas.List.Elements.{Contains-append_cases, Contains-append_left, Contains-append_right}
use Rattle.kb_lemmas.proofs.Membership.{contains_cases, contains_behind, contains_first, split_at, contains_map, contains_flat_map}
use Rattle.kb_term.specs.Tree.{Tree, variable, apply, Trees, no_trees, more_trees, list_of, trees_of, apply_to, tree_depth, trees_depth}
use Rattle.kb_term.proofs.Steps.{Occurs, OccursIn, IsWellFormed, AreWellFormed, trees_length}
use Rattle.kb_linear.specs.Interpretations.{choices}
use Rattle.kb_linear.proofs.Sorted.{IsSorted, choices_to}

contains_elsewhere : {X : Type 0} (before after : List X) (x y : X) → ¬ (x ≡ y) → Contains (before ++ x ∷ after) y → Contains (before ++ after) y
contains_elsewhere before after x y n c =
    ⊎_elim (λ d. Contains-append_left before after y d) (λ d. ⊎_elim (λ e. absurd (n e)) (λ b. Contains-append_right before after y b) (contains_cases x after y d)) (Contains-append_cases before (x ∷ after) y c)

-- where no member is below itself and each is below those behind it, the list is no longer than one that has all its members
pub sorted-le : {X : Type 0} (R : X → X → Type 0) → ((x : X) → ¬ R x x) → (xs ys : List X) → IsSorted R xs → ((x : X) → Contains xs x → Contains ys x) → length xs ≤ length ys
sorted-le R irreflexive [] ys s h = omega arith
sorted-le {X} R irreflexive (x ∷ xs) ys s h =
    let r = split_at ys x (h x (contains_first x xs)) in
    let q = sorted-le R irreflexive xs (r.0 ++ r.1) s.1 (λ y c. contains_elsewhere r.0 r.1 x y (λ e. irreflexive x (subst (R x) (sym e) (s.0 y c))) (subst (λ z. Contains z y) r.2 (h y (contains_behind x xs y c)))) in
    omega (arith, ap length r.2, length-append r.0 (x ∷ r.1), length-append r.0 r.1)

-- the terms of at most the depth with these arities, symbols and variables
abbrev pub terms_to : (ℕ → ℕ) → List ℕ → List ℕ → ℕ → List Tree
terms_to a fs xs zero = []
terms_to a fs xs (suc n) = map variable xs ++ flat_map (λ f. map (apply_to f) (choices (replicate (a f) (terms_to a fs xs n)))) fs

trees_of-list_of : (ts : Trees) → trees_of (list_of ts) ≡ ts
trees_of-list_of no_trees = refl
trees_of-list_of (more_trees t ts) = ap (more_trees t) (trees_of-list_of ts)

application_in : (a : ℕ → ℕ) (fs xs : List ℕ) (n f : ℕ) (ts : Trees) → Contains fs f → AllZip (λ us t. Contains us t) (replicate (a f) (terms_to a fs xs n)) (list_of ts) → Contains (terms_to a fs xs (suc n)) (apply f ts)
application_in a fs xs n f ts c h =
    let arguments : ℕ → List (List Tree) = λ g. choices (replicate (a g) (terms_to a fs xs n)) in
    let e : apply_to f (list_of ts) ≡ apply f ts = ap (apply f) (trees_of-list_of ts) in
    let d : Contains (map (apply_to f) (arguments f)) (apply_to f (list_of ts)) = contains_map (apply_to f) (arguments f) (list_of ts) (choices_to (replicate (a f) (terms_to a fs xs n)) (list_of ts) h) in
    Contains-append_right (map variable xs) (flat_map (λ g. map (apply_to g) (arguments g)) fs) (apply f ts) (contains_flat_map (λ g. map (apply_to g) (arguments g)) fs f (apply f ts) c (subst (Contains (map (apply_to f) (arguments f))) e d))

mutual
  -- they are all
  pub term_in : (a : ℕ → ℕ) (fs xs : List ℕ) (n : ℕ) (t : Tree) → IsWellFormed a fs t → ((x : ℕ) → Occurs x t → Contains xs x) → tree_depth t ≤ n → Contains (terms_to a fs xs n) t
  term_in a fs xs zero (variable x) w h l = absurd (omega arith)
  term_in a fs xs zero (apply f ts) w h l = absurd (omega arith)
  term_in a fs xs (suc n) (variable x) w h l = Contains-append_left (map variable xs) (flat_map (λ f. map (apply_to f) (choices (replicate (a f) (terms_to a fs xs n)))) fs) (variable x) (contains_map variable xs x (h x refl))
  term_in a fs xs (suc n) (apply f ts) w h l = application_in a fs xs n f ts w.0 (subst (λ k. AllZip (λ us t. Contains us t) (replicate k (terms_to a fs xs n)) (list_of ts)) w.1 (terms_in a fs xs n ts w.2 h (omega arith)))

  terms_in : (a : ℕ → ℕ) (fs xs : List ℕ) (n : ℕ) (ts : Trees) → AreWellFormed a fs ts → ((x : ℕ) → OccursIn x ts → Contains xs x) → trees_depth ts ≤ n → AllZip (λ us t. Contains us t) (replicate (trees_length ts) (terms_to a fs xs n)) (list_of ts)
  terms_in a fs xs n no_trees w h l = tt
  terms_in a fs xs n (more_trees t ts) w h l = (term_in a fs xs n t w.0 (λ x o. h x (inl o)) (omega arith), terms_in a fs xs n ts w.1 (λ x o. h x (inr o)) (omega arith))
