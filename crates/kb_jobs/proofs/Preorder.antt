-- The positions of a term in preorder: each comes before all behind it.
use Rattle.std.proofs.Common.{ℕ, zero, suc, ◌+◌, ◌≤◌, ◌≡◌, refl, sym, ap, ◌∙◌, subst, arith, List, [], ◌∷◌, ◌++◌, map, Contains, Some, Less, Equal, nat_cmp, ⊎_elim}
use Rattle.std.specs.Prelude.{⊤, option_and_then}
use Rattle.std.specs.Ordering.{ordering_then}
use Rattle.std.proofs.lemmas.Bool.Decides.{nat_tests}
use Rattle.std.proofs.lemmas.List.Elements.{Contains-append_cases, Contains-append_left, Contains-append_right}
use Rattle.kb_lemmas.proofs.Membership.{contains_behind, contains_first, none_in, contains_mapped, contains_map}
use Rattle.kb_lemmas.proofs.Options.{none_some}
use Rattle.kb_term.specs.Tree.{Tree, variable, apply, Trees, no_trees, more_trees}
use Rattle.kb_term.specs.Position.{subtree_at, argument, positions_of, positions_in}
use Rattle.mkb_model.specs.Jobs.{numbers_cmp}

pub nat_less : (m n : ℕ) → m + 1 ≤ n → nat_cmp m n ≡ Less
nat_less m n h = grind (arith, nat_tests)

pub nat_same : (n : ℕ) → nat_cmp n n ≡ Equal
nat_same n = grind (arith, nat_tests)

pub numbers_same : (p : List ℕ) → numbers_cmp p p ≡ Equal
numbers_same [] = refl
numbers_same (n ∷ p) = ap (λ o. ordering_then o (numbers_cmp p p)) (nat_same n) ∙ numbers_same p

abbrev pub Ascending : List (List ℕ) → Type 0
Ascending [] = ⊤
Ascending (p ∷ ps) = ((q : List ℕ) → Contains ps q → numbers_cmp p q ≡ Less) × Ascending ps

ascending_append : (ps qs : List (List ℕ)) → Ascending ps → Ascending qs → ((p q : List ℕ) → Contains ps p → Contains qs q → numbers_cmp p q ≡ Less) → Ascending (ps ++ qs)
ascending_append [] qs h k l = k
ascending_append (p ∷ ps) qs h k l =
    ((λ q i. ⊎_elim (λ j. h.0 q j) (λ j. l p q (contains_first p ps) j) (Contains-append_cases ps qs q i)), ascending_append ps qs h.1 k (λ x y i j. l x y (contains_behind p ps x i) j))

ascending_map : (n : ℕ) (ps : List (List ℕ)) → Ascending ps → Ascending (map (λ p. n ∷ p) ps)
ascending_map n [] h = tt
ascending_map n (p ∷ ps) h =
    ((λ q i. let m = contains_mapped (λ p. n ∷ p) ps q i in subst {A = List ℕ} (λ z. numbers_cmp (n ∷ p) z ≡ Less) m.2 (ap (λ o. ordering_then o (numbers_cmp p m.0)) (nat_same n) ∙ h.0 m.0 m.1)), ascending_map n ps h.1)

-- the positions in arguments begin with their numbers
starts : (ts : Trees) (i : ℕ) (q : List ℕ) → Contains (positions_in ts i) q → (j : ℕ) × (p : List ℕ) × (q ≡ j ∷ p) × (i ≤ j)
starts no_trees i q c = none_in c
starts (more_trees t ts) i q c =
    ⊎_elim
    (λ k. let m = contains_mapped (λ p. i ∷ p) (positions_of t) q k in (i, m.0, sym m.2, omega arith))
    (λ k. let r = starts ts (suc i) q k in (r.0, r.1, r.2, let l = r.3 in omega (arith, l)))
    (Contains-append_cases (map (λ p. i ∷ p) (positions_of t)) (positions_in ts (suc i)) q c)

apart : (t : Tree) (ts : Trees) (i : ℕ) (p q : List ℕ) → Contains (map (λ p. i ∷ p) (positions_of t)) p → Contains (positions_in ts (suc i)) q → numbers_cmp p q ≡ Less
apart t ts i p q j k =
    let m = contains_mapped (λ p. i ∷ p) (positions_of t) p j in
    let r = starts ts (suc i) q k in
    let l = r.3 in
    subst {A = List ℕ} (λ z. numbers_cmp z q ≡ Less) m.2 (subst {A = List ℕ} (λ z. numbers_cmp (i ∷ m.0) z ≡ Less) (sym r.2) (ap (λ o. ordering_then o (numbers_cmp m.0 r.1)) (nat_less i r.0 (omega (arith, l)))))

mutual
  pub ascending_of : (t : Tree) → Ascending (positions_of t)
  ascending_of (variable n) = ((λ q i. none_in i), tt)
  ascending_of (apply f ts) = ((λ q i. let r = starts ts 1 q i in subst {A = List ℕ} (λ z. numbers_cmp [] z ≡ Less) (sym r.2) refl), ascending_in ts 1)

  ascending_in : (ts : Trees) (i : ℕ) → Ascending (positions_in ts i)
  ascending_in no_trees i = tt
  ascending_in (more_trees t ts) i = ascending_append (map (λ p. i ∷ p) (positions_of t)) (positions_in ts (suc i)) (ascending_map i (positions_of t) (ascending_of t)) (ascending_in ts (suc i)) (λ p q j k. apart t ts i p q j k)

-- what stands behind a position comes after it
pub comes_after : (before : List (List ℕ)) (p : List ℕ) (after : List (List ℕ)) → Ascending (before ++ p ∷ after) → (q : List ℕ) → Contains after q → numbers_cmp p q ≡ Less
comes_after [] p after h q i = h.0 q i
comes_after (x ∷ before) p after h q i = comes_after before p after h.1 q i

-- where a subterm stands is a position
mutual
  pub position_of : (t : Tree) (p : List ℕ) (u : Tree) → subtree_at t p ≡ Some u → Contains (positions_of t) p
  position_of (variable n) [] u h = contains_first [] []
  position_of (variable n) (i ∷ p) u h = none_some h
  position_of (apply f ts) [] u h = contains_first [] (positions_in ts 1)
  position_of (apply f ts) (zero ∷ p) u h = none_some h
  position_of (apply f ts) (suc k ∷ p) u h = contains_behind [] (positions_in ts 1) (suc k ∷ p) (subst {A = ℕ} (λ z. Contains (positions_in ts 1) (z ∷ p)) (omega arith) (position_in ts 1 k p u h))

  position_in : (ts : Trees) (b k : ℕ) (p : List ℕ) (u : Tree) → option_and_then (λ t. subtree_at t p) (argument ts (suc k)) ≡ Some u → Contains (positions_in ts b) ((b + k) ∷ p)
  position_in no_trees b k p u h = none_some h
  position_in (more_trees t ts) b zero p u h = Contains-append_left (map (λ p. b ∷ p) (positions_of t)) (positions_in ts (suc b)) ((b + 0) ∷ p) (subst {A = ℕ} (λ z. Contains (map (λ p. b ∷ p) (positions_of t)) (z ∷ p)) (omega arith) (contains_map (λ p. b ∷ p) (positions_of t) p (position_of t p u h)))
  position_in (more_trees t ts) b (suc k) p u h = Contains-append_right (map (λ p. b ∷ p) (positions_of t)) (positions_in ts (suc b)) ((b + suc k) ∷ p) (subst {A = ℕ} (λ z. Contains (positions_in ts (suc b)) (z ∷ p)) (omega arith) (position_in ts (suc b) k p u h))
