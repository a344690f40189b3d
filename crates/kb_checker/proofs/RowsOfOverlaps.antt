-- The overlaps of rules, row by row.
use Rattle.std.proofs.Common.{ℕ, zero, suc, ◌≡◌, ◌+◌, ◌<◌, ◌≤◌, ◌∙◌, refl, sym, ap, subst, subst₂, arith, inl, inr, ⊎_elim, List, [], ◌∷◌, ◌++◌, All, length, length-append, drop, map, Bool, true, false, ◌==◌}
use Rattle.std.proofs.lemmas.List.{length-map}
use Rattle.std.proofs.lemmas.List.Elements.{All-contains, Contains-append_left, Contains-append_right}
use Rattle.std.proofs.lemmas.Option.{slice_get_within, same_Some}
use Rattle.std.proofs.lemmas.Bool.{cases_order}
use Rattle.kb_term.specs.Tree.{Tree, Trees, variable, apply, no_trees, more_trees, tree_size, trees_size}
use Rattle.kb_term.specs.Position.{function_positions_of, function_positions_in}
use Rattle.kb_term.specs.Rule.{Rule}
use Rattle.kb_overlap.specs.Overlap.{Overlap, ListsOverlaps, IsOverlapList, overlap_positions}
use Rattle.kb_laws.specs.Overlaps.{OverlapsClose}
use Rattle.kb_laws.proofs.Complete.{all_from}
use Rattle.kb_checker.specs.Verdicts.{Closes, AreOverlapsOf, AreInnerOverlaps, AreOuterOverlaps}

-- there are no more overlaps than positions, and no more positions than the size
few_listed : (A B : Rule) (ps : List (List ℕ)) (os : List Overlap) → ListsOverlaps A B ps os → length os ≤ length ps
few_listed A B [] os h = omega (arith, ap length h)
few_listed A B (p ∷ ps) os (inl h) = let k = few_listed A B ps os h.1 in omega arith
few_listed A B (p ∷ ps) os (inr (o, rest, is, at, x, h)) = let k = few_listed A B ps rest h in omega (arith, ap length is)

mutual
  few_positions : (t : Tree) → length (function_positions_of t) ≤ tree_size t
  few_positions (variable n) = omega arith
  few_positions (apply f ts) = let k = few_positions_in ts 1 in omega arith

  few_positions_in : (ts : Trees) (i : ℕ) → length (function_positions_in ts i) ≤ trees_size ts
  few_positions_in no_trees i = omega arith
  few_positions_in (more_trees t ts) i = omega (arith, length-append (map (i ∷◌) (function_positions_of t)) (function_positions_in ts (suc i)), length-map (function_positions_of t) (i ∷◌), few_positions t, few_positions_in ts (suc i))

few_chosen : (A : Rule) (same : Bool) → length (overlap_positions A same) ≤ length (function_positions_of A.left)
few_chosen A true = go (function_positions_of A.left)
  where
    go : (ps : List (List ℕ)) → length (drop 1 ps) ≤ length ps
    go [] = omega arith
    go (p ∷ ps) = omega arith
few_chosen A false = omega arith

pub few_overlaps : (A B : Rule) (same : Bool) (os : List Overlap) → IsOverlapList A B same os → length os ≤ tree_size A.left
few_overlaps A B same os h = omega (arith, few_listed A B (overlap_positions A same) os h, few_chosen A same, few_positions A.left)

-- one more inner rule, one more outer rule
pub inner_more : (rules : List Rule) (i j : ℕ) (os more : List Overlap) → AreInnerOverlaps rules i j os → AreOverlapsOf rules i j more → AreInnerOverlaps rules i (j + 1) (os ++ more)
inner_more rules i j os more h k = let next : suc j ≡ j + 1 = omega arith in subst (λ n. AreInnerOverlaps rules i n (os ++ more)) next (os, more, refl, h, k)

pub outer_more : (rules : List Rule) (i : ℕ) (os more : List Overlap) → AreOuterOverlaps rules i os → AreInnerOverlaps rules i (length rules) more → AreOuterOverlaps rules (i + 1) (os ++ more)
outer_more rules i os more h k = let next : suc i ≡ i + 1 = omega arith in subst (λ n. AreOuterOverlaps rules n (os ++ more)) next (os, more, refl, h, k)

-- the parts of a good list are good
good_front : (P : Overlap → Type 0) (os more : List Overlap) → All P (os ++ more) → All P os
good_front P os more h = all_from P os (λ o c. All-contains P (os ++ more) o h (Contains-append_left os more o c))

good_back : (P : Overlap → Type 0) (os more : List Overlap) → All P (os ++ more) → All P more
good_back P os more h = all_from P more (λ o c. All-contains P (os ++ more) o h (Contains-append_right os more o c))

-- the overlaps of two rules among those of a row, and a row among all
of_two : (rules : List Rule) (i n j : ℕ) (os : List Overlap) → AreInnerOverlaps rules i n os → All (Closes rules) os → j < n → (more : List Overlap) × AreOverlapsOf rules i j more × All (Closes rules) more
of_two rules i zero j os h g l = absurd (omega arith)
of_two rules i (suc n) j os (before, more, is, h, k) g l =
    let good = subst (All (Closes rules)) is g in
    ⊎_elim
    (λ (e : j ≡ n). (more, subst (λ x. AreOverlapsOf rules i x more) (sym e) k, good_back (Closes rules) before more good))
    (⊎_elim (λ less. of_two rules i n j before h (good_front (Closes rules) before more good) less) (λ less. absurd (omega arith)))
    (cases_order j n)

of_row : (rules : List Rule) (n i : ℕ) (os : List Overlap) → AreOuterOverlaps rules n os → All (Closes rules) os → i < n → (more : List Overlap) × AreInnerOverlaps rules i (length rules) more × All (Closes rules) more
of_row rules zero i os h g l = absurd (omega arith)
of_row rules (suc n) i os (before, more, is, h, k) g l =
    let good = subst (All (Closes rules)) is g in
    ⊎_elim
    (λ (e : i ≡ n). (more, subst (λ x. AreInnerOverlaps rules x (length rules) more) (sym e) k, good_back (Closes rules) before more good))
    (⊎_elim (λ less. of_row rules n i before h (good_front (Closes rules) before more good) less) (λ less. absurd (omega arith)))
    (cases_order i n)

-- where all of them close, the overlaps of the rules close
pub all_close : (rules : List Rule) (os : List Overlap) → AreOuterOverlaps rules (length rules) os → All (Closes rules) os → OverlapsClose rules
all_close rules os h g i j A B e d =
    let row = of_row rules (length rules) i os h g (slice_get_within rules i A e) in
    let two = of_two rules i (length rules) j row.0 row.1 row.2 (slice_get_within rules j B d) in
    let k = two.1 in
    (two.0, subst₂ (λ x y. IsOverlapList x y (i == j) two.0) (same_Some k.0 A (sym k.2 ∙ e)) (same_Some k.1 B (sym k.3 ∙ d)) k.4, λ o c. All-contains (Closes rules) two.0 o two.2 c)
