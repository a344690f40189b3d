-- The limit that the two sides of an overlap pass, from sizes and depths of their parts.
use Rattle.std.proofs.Common.{ℕ, zero, suc, ◌+◌, ◌≤◌, ◌≡◌, refl, sym, ap, ap₂, ◌∙◌, arith, List, [], ◌∷◌, Option, Some, None, option_map, option_and_then, Bool, true, false}
use Rattle.std.specs.Prelude.{min, nat_lt, ◌||◌, IsSome}
use Rattle.std.proofs.lemmas.Option.{same_Some}
use Rattle.kb_term.specs.Tree.{Tree, Trees, variable, apply, no_trees, more_trees, tree_size, trees_size, tree_depth, trees_depth}
use Rattle.kb_term.specs.Position.{argument, with_argument, subtree_at, replace_at}
use Rattle.kb_term.specs.Pair.{first_limit, limit_if, is_too_large, term_limit, pair_limit}
use Rattle.kb_term.specs.Rule.{Rule}
use Rattle.kb_term.specs.Substitution.{instance}
use Rattle.kb_term.proofs.Subtrees.{subtree-instance, replace-instance, replace-there, some_value}
use Rattle.kb_term.specs.declared.limit.Limit.{Limit}
use Rattle.kb_term.specs.declared.limit.Limit.TheVariants.{Size, Depth}
use Rattle.kb_unify.specs.Extent.{IsExtent, extent_limit}
use Rattle.kb_unify.specs.declared.extent.Extent.{Extent}
use Rattle.kb_overlap.specs.Found.{parts_limit, IsPeakLimit}

size-with_argument : (ts : Trees) (i : ℕ) (a x : Tree) → argument ts i ≡ Some a → trees_size (with_argument ts i x) + tree_size a ≡ trees_size ts + tree_size x
size-with_argument no_trees zero a x e = absurd (cc)
size-with_argument no_trees (suc i) a x e = absurd (cc)
size-with_argument (more_trees t ts) zero a x e = absurd (cc)
size-with_argument (more_trees t ts) (suc zero) a x e = omega (arith, ap tree_size (same_Some t a e))
size-with_argument (more_trees t ts) (suc (suc i)) a x e = omega (arith, size-with_argument ts (suc i) a x e)

depth-with_argument : (ts : Trees) (i : ℕ) (a x : Tree) → argument ts i ≡ Some a → tree_depth x ≤ trees_depth (with_argument ts i x)
depth-with_argument no_trees zero a x e = absurd (cc)
depth-with_argument no_trees (suc i) a x e = absurd (cc)
depth-with_argument (more_trees t ts) zero a x e = absurd (cc)
depth-with_argument (more_trees t ts) (suc zero) a x e = omega arith
depth-with_argument (more_trees t ts) (suc (suc i)) a x e = omega (arith, depth-with_argument ts (suc i) a x e)

-- what a replacement adds to the size is what its subterm had less
pub size-replace : (p : List ℕ) (t u v w : Tree) → subtree_at t p ≡ Some u → replace_at t p v ≡ Some w → tree_size w + tree_size u ≡ tree_size t + tree_size v
size-replace [] t u v w e r = omega (arith, ap tree_size (same_Some t u e), ap tree_size (same_Some v w r))
size-replace (i ∷ p) (variable n) u v w e r = absurd (cc)
size-replace (i ∷ p) (apply f ts) u v w e r = go (argument ts i) refl (λ a b h k. size-replace p a u v b h k) e r
  where
    inner : (a : Tree) → argument ts i ≡ Some a → (o : Option Tree) → ((b : Tree) → o ≡ Some b → tree_size b + tree_size u ≡ tree_size a + tree_size v) → option_map (λ x. apply f (with_argument ts i x)) o ≡ Some w → tree_size w + tree_size u ≡ trees_size ts + 1 + tree_size v
    inner a q None back r = absurd (cc)
    inner a q (Some b) back r = omega (arith, back b refl, size-with_argument ts i a b q, ap tree_size (same_Some (apply f (with_argument ts i b)) w r))

    go : (o : Option Tree) → argument ts i ≡ o → ((a b : Tree) → subtree_at a p ≡ Some u → replace_at a p v ≡ Some b → tree_size b + tree_size u ≡ tree_size a + tree_size v) → option_and_then (λ t. subtree_at t p) o ≡ Some u
        → option_and_then (λ t. option_map (λ x. apply f (with_argument ts i x)) (replace_at t p v)) o ≡ Some w → tree_size w + tree_size u ≡ trees_size ts + 1 + tree_size v
    go None q back e r = absurd (cc)
    go (Some a) q back e r = inner a q (replace_at a p v) (λ b k. back a b e k) r

-- a term with a replacement is at least as deep as what was put in
pub depth-replace : (p : List ℕ) (t v w : Tree) → replace_at t p v ≡ Some w → tree_depth v ≤ tree_depth w
depth-replace [] t v w r = omega (arith, ap tree_depth (same_Some v w r))
depth-replace (i ∷ p) (variable n) v w r = absurd (cc)
depth-replace (i ∷ p) (apply f ts) v w r = go (argument ts i) refl (λ a b k. depth-replace p a v b k) r
  where
    inner : (a : Tree) → argument ts i ≡ Some a → (o : Option Tree) → ((b : Tree) → o ≡ Some b → tree_depth v ≤ tree_depth b) → option_map (λ x. apply f (with_argument ts i x)) o ≡ Some w → tree_depth v ≤ tree_depth w
    inner a q None back r = absurd (cc)
    inner a q (Some b) back r = omega (arith, back b refl, depth-with_argument ts i a b q, ap tree_depth (same_Some (apply f (with_argument ts i b)) w r))

    go : (o : Option Tree) → argument ts i ≡ o → ((a b : Tree) → replace_at a p v ≡ Some b → tree_depth v ≤ tree_depth b) → option_and_then (λ t. option_map (λ x. apply f (with_argument ts i x)) (replace_at t p v)) o ≡ Some w → tree_depth v ≤ tree_depth w
    go None q back r = absurd (cc)
    go (Some a) q back r = inner a q (replace_at a p v) (λ b k. back a b k) r

-- the size of a subterm
size-argument : (ts : Trees) (i : ℕ) (a : Tree) → argument ts i ≡ Some a → tree_size a ≤ trees_size ts
size-argument no_trees zero a e = absurd (cc)
size-argument no_trees (suc i) a e = absurd (cc)
size-argument (more_trees t ts) zero a e = absurd (cc)
size-argument (more_trees t ts) (suc zero) a e = omega (arith, ap tree_size (same_Some t a e))
size-argument (more_trees t ts) (suc (suc i)) a e = omega (arith, size-argument ts (suc i) a e)

pub size-subtree : (p : List ℕ) (t u : Tree) → subtree_at t p ≡ Some u → tree_size u ≤ tree_size t
size-subtree [] t u e = omega (arith, ap tree_size (same_Some t u e))
size-subtree (i ∷ p) (variable n) u e = absurd (cc)
size-subtree (i ∷ p) (apply f ts) u e = go (argument ts i) refl (λ a h. size-subtree p a u h) e
  where
    go : (o : Option Tree) → argument ts i ≡ o → ((a : Tree) → subtree_at a p ≡ Some u → tree_size u ≤ tree_size a) → option_and_then (λ t. subtree_at t p) o ≡ Some u → tree_size u ≤ trees_size ts + 1
    go None q back e = absurd (cc)
    go (Some a) q back e = omega (arith, back a e, size-argument ts i a q)

-- a pair with a side that is too large, too deep
pub pair_limit-size : (s t : Tree) → (nat_lt 512 (tree_size s) || nat_lt 512 (tree_size t)) ≡ true → pair_limit s t ≡ Some Size
pair_limit-size s t h = rw h refl

pub pair_limit-depth : (s t : Tree) → (nat_lt 512 (tree_size s) || nat_lt 512 (tree_size t)) ≡ false → (nat_lt 64 (tree_depth s) || nat_lt 64 (tree_depth t)) ≡ true → pair_limit s t ≡ Some Depth
pair_limit-depth s t h k = rw (h, k) refl

-- tests of capped numbers
cap-size : (n m : ℕ) → m ≡ min n 513 → nat_lt 512 m ≡ nat_lt 512 n
cap-size n m e = grind arith

cap-depth : (n m : ℕ) → m ≡ min n 65 → nat_lt 64 m ≡ nat_lt 64 n
cap-depth n m e = grind arith

cap-rest : (n m r s : ℕ) → m ≡ min n 513 → r + n ≡ s → nat_lt 512 (r + m) ≡ nat_lt 512 s
cap-rest n m r s e f = grind arith

or_right : (a b c : Bool) → (b ≡ true → c ≡ true) → (a || b) ≡ true → (a || c) ≡ true
or_right true b c h e = refl
or_right false b c h e = h e

deeper : (m n : ℕ) → m ≤ n → nat_lt 64 m ≡ true → nat_lt 64 n ≡ true
deeper m n h e = grind arith

none_large : (x y : Bool) → first_limit (limit_if x Size ∷ limit_if y Depth ∷ []) ≡ None → x ≡ false
none_large true y e = absurd (cc)
none_large false y e = refl

-- the pair of s and of a peak with v at a position, whose rest has a size
module _ (first inserted : Extent) (rest : ℕ) (p : List ℕ) (s v peak u w : Tree) (s_is : IsExtent first s) (v_is : IsExtent inserted v) (rest_is : rest + tree_size u ≡ tree_size peak) (there : subtree_at peak p ≡ Some u) (made : replace_at peak p v ≡ Some w) where
  size_is : rest + tree_size v ≡ tree_size w
  size_is = omega (arith, rest_is, size-replace p peak u v w there made)

  large_is : (nat_lt 512 first.size || nat_lt 512 (rest + inserted.size)) ≡ (nat_lt 512 (tree_size s) || nat_lt 512 (tree_size w))
  large_is = ap₂ (λ x y. x || y) (cap-size (tree_size s) first.size s_is.size) (cap-rest (tree_size v) inserted.size rest (tree_size w) v_is.size size_is)

  deep_is : (nat_lt 64 first.depth || nat_lt 64 inserted.depth) ≡ (nat_lt 64 (tree_depth s) || nat_lt 64 (tree_depth v))
  deep_is = ap₂ (λ x y. x || y) (cap-depth (tree_depth s) first.depth s_is.depth) (cap-depth (tree_depth v) inserted.depth v_is.depth)

  -- the limit that the parts pass is that of the pair
  pub parts_passed : (limit : Limit) → parts_limit first inserted rest ≡ Some limit → pair_limit s w ≡ Some limit
  parts_passed limit e = go (nat_lt 512 (tree_size s) || nat_lt 512 (tree_size w)) (nat_lt 64 (tree_depth s) || nat_lt 64 (tree_depth v)) refl refl (ap₂ (λ x y. first_limit (limit_if x Size ∷ limit_if y Depth ∷ [])) (sym large_is) (sym deep_is) ∙ e)
    where
      go : (x y : Bool) → (nat_lt 512 (tree_size s) || nat_lt 512 (tree_size w)) ≡ x → (nat_lt 64 (tree_depth s) || nat_lt 64 (tree_depth v)) ≡ y → first_limit (limit_if (nat_lt 512 (tree_size s) || nat_lt 512 (tree_size w)) Size ∷ limit_if (nat_lt 64 (tree_depth s) || nat_lt 64 (tree_depth v)) Depth ∷ []) ≡ Some limit → pair_limit s w ≡ Some limit
      go true y a b e = let q : Some Size ≡ Some limit = sym (ap (λ z. first_limit (limit_if z Size ∷ limit_if (nat_lt 64 (tree_depth s) || nat_lt 64 (tree_depth v)) Depth ∷ [])) a) ∙ e in pair_limit-size s w a ∙ q
      go false true a b e =
          let q : Some Depth ≡ Some limit = sym (ap₂ (λ z y. first_limit (limit_if z Size ∷ limit_if y Depth ∷ [])) a b) ∙ e in
          pair_limit-depth s w a (or_right (nat_lt 64 (tree_depth s)) (nat_lt 64 (tree_depth v)) (nat_lt 64 (tree_depth w)) (deeper (tree_depth v) (tree_depth w) (depth-replace p peak v w made)) b) ∙ q
      go false false a b e = let q : None ≡ Some limit = sym (ap₂ (λ z y. first_limit (limit_if z Size ∷ limit_if y Depth ∷ [])) a b) ∙ e in absurd (cc)

  -- where the parts pass none, no side is too large
  pub parts_small : parts_limit first inserted rest ≡ None → (is_too_large s || is_too_large w) ≡ false
  parts_small e = sym large_is ∙ none_large (nat_lt 512 first.size || nat_lt 512 (rest + inserted.size)) (nat_lt 64 first.depth || nat_lt 64 inserted.depth) e

-- what is found of the peak and the parts of the pair
pub peak_answer : (outer renamed : Rule) (p : List ℕ) (m : ℕ → Tree) (u : Tree) → subtree_at outer.left p ≡ Some u → (first inserted : Extent) (rest : ℕ) → term_limit (instance m outer.left) ≡ None → IsExtent first (instance m outer.right) → IsExtent inserted (instance m renamed.right)
    → rest + tree_size (instance m u) ≡ tree_size (instance m outer.left) → (o : Option Limit) → o ≡ parts_limit first inserted rest → IsPeakLimit outer renamed p m o
peak_answer outer renamed p m u at first inserted rest none first_is inserted_is rest_is None e = (
  none,
  λ t made. parts_small first inserted rest p (instance m outer.right) (instance m renamed.right) (instance m outer.left) (instance m u) t first_is inserted_is rest_is (subtree-instance m p outer.left u at) made (sym e),
)
peak_answer outer renamed p m u at first inserted rest none first_is inserted_is rest_is (Some limit) e = λ t made.
    ap (λ l. first_limit (l ∷ pair_limit (instance m outer.right) t ∷ [])) none
    ∙ ap (λ l. first_limit (l ∷ [])) (parts_passed first inserted rest p (instance m outer.right) (instance m renamed.right) (instance m outer.left) (instance m u) t first_is inserted_is rest_is (subtree-instance m p outer.left u at) made limit (sym e))

-- the limit by the extent of a term is that of the term
pub extent_passed : (e : Extent) (t : Tree) → IsExtent e t → extent_limit e ≡ term_limit t
extent_passed e t is = ap₂ (λ x y. first_limit (limit_if x Size ∷ limit_if y Depth ∷ [])) (cap-size (tree_size t) e.size is.size) (cap-depth (tree_depth t) e.depth is.depth)

-- the second side is the instance of the outer left side with the inner right side put in
pub second_is : (outer renamed : Rule) (p : List ℕ) (m : ℕ → Tree) → IsSome (subtree_at outer.left p) → (s : Tree) → ((v : Tree) → replace_at outer.left p renamed.right ≡ Some v → s ≡ instance m v)
    → (t : Tree) → replace_at (instance m outer.left) p (instance m renamed.right) ≡ Some t → s ≡ t
second_is outer renamed p m there s made t e =
    let redex = some_value (subtree_at outer.left p) there in
    let w = replace-there p outer.left redex.0 renamed.right redex.1 in
    made w.0 w.1 ∙ same_Some (instance m w.0) t (sym (replace-instance m p outer.left renamed.right w.0 w.1) ∙ e)
