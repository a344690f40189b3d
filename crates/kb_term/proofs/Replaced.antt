-- The arguments of a term in which a subterm is replaced.
use Rattle.std.proofs.Common.{ℕ, zero, suc, ◌+◌, ◌-◌, ◌≤◌, ◌<◌, ◌≡◌, refl, sym, ap, ap₂, ◌++◌, ◌∙◌, arith, List, [], ◌∷◌, length, get_or, take, drop, Option, Some, None, option_map}
use Rattle.std.specs.Prelude.{option_and_then, IsSome, map, sum_by, max}
use Rattle.std.proofs.lemmas.List.{take_all, take_more, map-append}
use Rattle.std.proofs.lemmas.List.Sums.{sum_by-cons}
use Rattle.kb_lemmas.proofs.Options.{some_of_map, some_of_and_then}
use Rattle.kb_term.specs.Tree.{Tree, Trees, variable, apply, no_trees, more_trees, trees_of, list_of, tree_size, trees_size, tree_depth, list_depth}
use Rattle.kb_term.specs.View.{tree_of}
use Rattle.kb_term.specs.declared.term.Term.{Term}
use Rattle.kb_term.proofs.Sizes.{trees_depth-of}
use Rattle.kb_term.proofs.Arguments.{argument-is, arguments-length}
use Rattle.kb_term.specs.Position.{argument, with_argument, subtree_at, replace_at, IsPosition}
use Rattle.kb_term.proofs.Trees.{arguments_of}

-- the arguments as a list
abbrev pub members : Tree → List Tree
members t = list_of (arguments_of t)

trees_of-list_of : (ts : Trees) → trees_of (list_of ts) ≡ ts
trees_of-list_of no_trees = refl
trees_of-list_of (more_trees t ts) = ap (more_trees t) (trees_of-list_of ts)

with-length : (ts : List Tree) (i : ℕ) (w : Tree) → length (list_of (with_argument (trees_of ts) i w)) ≡ length ts
with-length [] zero w = refl
with-length [] (suc i) w = refl
with-length (t ∷ ts) zero w = ap suc (with-length ts zero w)
with-length (t ∷ ts) (suc zero) w = ap suc (with-length ts zero w)
with-length (t ∷ ts) (suc (suc i)) w = ap suc (with-length ts (suc i) w)

with-zero : (ts : List Tree) → list_of (trees_of ts) ≡ ts
with-zero [] = refl
with-zero (t ∷ ts) = ap (λ us. t ∷ us) (with-zero ts)

with-at : (ts : List Tree) (k : ℕ) (w d : Tree) → k < length ts → get_or (list_of (with_argument (trees_of ts) (suc k) w)) k d ≡ w
with-at [] k w d h = absurd (omega (arith, h))
with-at (t ∷ ts) zero w d h = refl
with-at (t ∷ ts) (suc k) w d h = with-at ts k w d (omega (arith, h))

with-other : (ts : List Tree) (i k : ℕ) (w d : Tree) → ¬ (k + 1 ≡ i) → get_or (list_of (with_argument (trees_of ts) i w)) k d ≡ get_or ts k d
with-other [] zero k w d n = refl
with-other [] (suc i) k w d n = refl
with-other (t ∷ ts) zero k w d n = ap (λ us. get_or us k d) (with-zero (t ∷ ts))
with-other (t ∷ ts) (suc zero) zero w d n = absurd (n (omega arith))
with-other (t ∷ ts) (suc zero) (suc k) w d n = ap (λ us. get_or us k d) (with-zero ts)
with-other (t ∷ ts) (suc (suc i)) zero w d n = refl
with-other (t ∷ ts) (suc (suc i)) (suc k) w d n = with-other ts (suc i) k w d (λ e. n (omega (arith, e)))

argument-is_at : (ts : List Tree) (k : ℕ) (x d : Tree) → argument (trees_of ts) (suc k) ≡ Some x → get_or ts k d ≡ x
argument-is_at [] k x d e = absurd (cc)
argument-is_at (t ∷ ts) zero x d e = cc
argument-is_at (t ∷ ts) (suc k) x d e = argument-is_at ts k x d e

-- an argument of an application is replaced at a position
pub record IsReplaced (f : ℕ) (ts : List Tree) (i : ℕ) (p : List ℕ) (u v : Tree) : Type 0 where
  pub whole : v ≡ apply f (trees_of (members v))
  pub long : length (members v) ≡ length ts
  pub other : (k : ℕ) (d : Tree) → ¬ (k + 1 ≡ i) → get_or (members v) k d ≡ get_or ts k d
  pub here : (k : ℕ) (d : Tree) → k + 1 ≡ i → k < length ts → replace_at (get_or ts k d) p u ≡ Some (get_or (members v) k d)

pub is_replaced : (f : ℕ) (ts : List Tree) (i : ℕ) (p : List ℕ) (u v : Tree) → replace_at (apply f (trees_of ts)) (i ∷ p) u ≡ Some v → IsReplaced f ts i p u v
is_replaced f ts i p u v e =
    let a = some_of_and_then (λ t. option_map (λ w. apply f (with_argument (trees_of ts) i w)) (replace_at t p u)) (argument (trees_of ts) i) v e in
    let b = some_of_map (λ w. apply f (with_argument (trees_of ts) i w)) (replace_at a.0 p u) v a.2 in
    let same : members v ≡ list_of (with_argument (trees_of ts) i b.0) = ap members (sym b.2) in
    record {
      whole = sym b.2 ∙ ap (apply f) (sym (trees_of-list_of (with_argument (trees_of ts) i b.0)) ∙ ap trees_of (sym same));
      long = ap (length {A = Tree}) same ∙ with-length ts i b.0;
      other = λ k d n. ap (λ us. get_or us k d) same ∙ with-other ts i k b.0 d n;
      here = λ k d n h. at k d n h a.0 a.1 b.0 b.1 same;
    }
  where
    at : (k : ℕ) (d : Tree) → k + 1 ≡ i → k < length ts → (x : Tree) → argument (trees_of ts) i ≡ Some x → (w : Tree) → replace_at x p u ≡ Some w → members v ≡ list_of (with_argument (trees_of ts) i w) → replace_at (get_or ts k d) p u ≡ Some (get_or (members v) k d)
    at k d n h x ex w ew same =
        let j : suc k ≡ i = omega (arith, n) in
        let found : get_or ts k d ≡ x = argument-is_at ts k x d (ap (argument (trees_of ts)) j ∙ ex) in
        let made : get_or (members v) k d ≡ w = ap (λ us. get_or us k d) same ∙ ap (λ m. get_or (list_of (with_argument (trees_of ts) m w)) k d) (sym j) ∙ with-at ts k w d h in
        ap (λ t. replace_at t p u) found ∙ ew ∙ ap Some (sym made)

-- at a position something can be put
pub replaced_at_position : (t : Tree) (p : List ℕ) (u : Tree) → IsPosition t p → (v : Tree) × (replace_at t p u ≡ Some v)
replaced_at_position t [] u h = (u, refl)
replaced_at_position (variable n) (i ∷ p) u h = absurd (cc)
replaced_at_position (apply f ts) (i ∷ p) u h = go (argument ts i) (λ x k. replaced_at_position x p u k) h
  where
    go : (o : Option Tree) → ((x : Tree) → IsSome (subtree_at x p) → (v : Tree) × (replace_at x p u ≡ Some v)) → IsSome (option_and_then (λ t. subtree_at t p) o) → (v : Tree) × (option_and_then (λ t. option_map (λ w. apply f (with_argument ts i w)) (replace_at t p u)) o ≡ Some v)
    go None r h = absurd (cc)
    go (Some x) r h = let w = r x h in (apply f (with_argument ts i w.0), ap (option_map (λ w. apply f (with_argument ts i w))) w.1)

opened : (steps : List ℕ) → 1 ≤ length steps → steps ≡ get_or steps 0 0 ∷ take (length steps - 1) (drop 1 steps)
opened [] h = absurd (omega (arith, h))
opened (i ∷ p) h =
    let e : suc (length p) - 1 ≡ length p = omega arith in
    rw (e, take_all (length p) p (omega arith)) refl

-- the same of a term that is an application, at a list of steps
pub is_replaced_in : (t : Tree) (f : ℕ) (ts : List Tree) (steps : List ℕ) (u v : Tree) → t ≡ apply f (trees_of ts) → 1 ≤ length steps → replace_at t steps u ≡ Some v → IsReplaced f ts (get_or steps 0 0) (take (length steps - 1) (drop 1 steps)) u v
is_replaced_in t f ts steps u v e h d =
    is_replaced f ts (get_or steps 0 0) (take (length steps - 1) (drop 1 steps)) u v
    (ap (λ p. replace_at (apply f (trees_of ts)) p u) (sym (opened steps h)) ∙ ap (λ s. replace_at s steps u) (sym e) ∙ d)

trees_size-list : (ts : List Tree) → trees_size (trees_of ts) ≡ sum_by tree_size ts
trees_size-list [] = refl
trees_size-list (t ∷ ts) = omega (arith, trees_size-list ts, sum_by-cons tree_size t ts)

-- the size and the depth of the result, over its arguments
pub replaced-size : (f : ℕ) (ts : List Tree) (i : ℕ) (p : List ℕ) (u v : Tree) → IsReplaced f ts i p u v → tree_size v ≡ sum_by tree_size (members v) + 1
replaced-size f ts i p u v r = ap tree_size r.whole ∙ ap (◌+ 1) (trees_size-list (members v))

pub replaced-depth : (f : ℕ) (ts : List Tree) (i : ℕ) (p : List ℕ) (u v : Tree) → IsReplaced f ts i p u v → tree_depth v ≡ list_depth (members v) + 1
replaced-depth f ts i p u v r = ap tree_depth r.whole ∙ ap (◌+ 1) (trees_depth-of (members v))

pub sum_more : (ts : List Tree) (k : ℕ) (d : Tree) → k < length ts → sum_by tree_size (take (k + 1) ts) ≡ sum_by tree_size (take k ts) + tree_size (get_or ts k d)
sum_more [] k d h = absurd (omega (arith, h))
sum_more (t ∷ ts) zero d h = omega (arith, sum_by-cons tree_size t [])
sum_more (t ∷ ts) (suc k) d h =
    let e : suc k + 1 ≡ suc (k + 1) = omega arith in
    rw e (omega (arith, sum_more ts k d (omega (arith, h)), sum_by-cons tree_size t (take (k + 1) ts), sum_by-cons tree_size t (take k ts)))

pub depth_more : (ts : List Tree) (k : ℕ) (d : Tree) → k < length ts → list_depth (take (k + 1) ts) ≡ max (list_depth (take k ts)) (tree_depth (get_or ts k d))
depth_more [] k d h = absurd (omega (arith, h))
depth_more (t ∷ ts) zero d h = omega arith
depth_more (t ∷ ts) (suc k) d h =
    let e : suc k + 1 ≡ suc (k + 1) = omega arith in
    rw e (omega (arith, depth_more ts k d (omega (arith, h))))

-- the argument of the result at a place, where the argument itself is replaced and where it stays
pub replaced-here : (f : ℕ) (ts : List Term) (i : ℕ) (p : List ℕ) (u v : Tree) (k : ℕ) (x : Term) → IsReplaced f (map tree_of ts) i p u v → k + 1 ≡ i → k < length ts → x ≡ get_or ts k x → replace_at (tree_of x) p u ≡ Some (get_or (members v) k (variable 0))
replaced-here f ts i p u v k x r e h is = ap (λ t. replace_at t p u) (argument-is ts (map tree_of ts) k x refl h is) ∙ r.here k (variable 0) e (omega (arith, h, arguments-length ts))

pub replaced-other : (f : ℕ) (ts : List Term) (i : ℕ) (p : List ℕ) (u v : Tree) (k : ℕ) (x : Term) → IsReplaced f (map tree_of ts) i p u v → ¬ (k + 1 ≡ i) → k < length ts → x ≡ get_or ts k x → tree_of x ≡ get_or (members v) k (variable 0)
replaced-other f ts i p u v k x r e h is = argument-is ts (map tree_of ts) k x refl h is ∙ sym (r.other k (variable 0) e)

pub replaced-long : (f : ℕ) (ts : List Term) (i : ℕ) (p : List ℕ) (u v : Tree) → IsReplaced f (map tree_of ts) i p u v → length (members v) ≡ length ts
replaced-long f ts i p u v r = r.long ∙ arguments-length ts

-- one more argument is made
pub made_more : (old new : List Term) (x : Term) (us : List Tree) (k : ℕ) → new ≡ old ++ x ∷ [] → map tree_of old ≡ take k us → tree_of x ≡ get_or us k (variable 0) → k < length us → map tree_of new ≡ take (k + 1) us
made_more old new x us k e d f h = ap (map tree_of) e ∙ map-append tree_of old (x ∷ []) ∙ ap₂ (λ ys y. ys ++ y ∷ []) d f ∙ sym (take_more us k (variable 0) h)
