-- Terms that are instances of each other are equally large and deep.
use Rattle.std.proofs.Common.{ℕ, ◌≤◌, ◌≡◌, refl, sym, ap, ap₂, ◌∙◌, arith, List, [], ◌∷◌, map, Contains}
use Rattle.std.specs.Prelude.{Bool}
use Rattle.std.specs.List.{list_any}
use Rattle.kb_lemmas.proofs.Membership.{contains_first, contains_behind}
use Rattle.kb_term.specs.Tree.{Tree, Trees, variable, apply, no_trees, more_trees, tree_size, trees_size, tree_depth, trees_depth}
use Rattle.kb_term.specs.Substitution.{instance, instances}
use Rattle.kb_term.specs.Pair.{is_too_large, is_too_deep, first_limit, limit_if}
use Rattle.kb_term.specs.declared.limit.Limit.TheVariants.{Size, Depth}
use Rattle.kb_unify.specs.Unifier.{IsMostGeneralUnifier}
use Rattle.kb_unify.specs.Answer.{terms_limit, unifier_limit, variables_of_both}

-- no term is empty
size-pos : (t : Tree) → 1 ≤ tree_size t
size-pos (variable n) = omega arith
size-pos (apply f ts) = omega arith

depth-pos : (t : Tree) → 1 ≤ tree_depth t
depth-pos (variable n) = omega arith
depth-pos (apply f ts) = omega arith

-- an instance is at least as large and as deep
mutual
  size-instance : (d : ℕ → Tree) (t : Tree) → tree_size t ≤ tree_size (instance d t)
  size-instance d (variable n) = size-pos (d n)
  size-instance d (apply f ts) = omega (arith, sizes-instances d ts)

  sizes-instances : (d : ℕ → Tree) (ts : Trees) → trees_size ts ≤ trees_size (instances d ts)
  sizes-instances d no_trees = omega arith
  sizes-instances d (more_trees t ts) = omega (arith, size-instance d t, sizes-instances d ts)

mutual
  depth-instance : (d : ℕ → Tree) (t : Tree) → tree_depth t ≤ tree_depth (instance d t)
  depth-instance d (variable n) = depth-pos (d n)
  depth-instance d (apply f ts) = omega (arith, depths-instances d ts)

  depths-instances : (d : ℕ → Tree) (ts : Trees) → trees_depth ts ≤ trees_depth (instances d ts)
  depths-instances d no_trees = omega arith
  depths-instances d (more_trees t ts) = omega (arith, depth-instance d t, depths-instances d ts)

pub same_size : (d e : ℕ → Tree) (t u : Tree) → instance d t ≡ u → instance e u ≡ t → tree_size t ≡ tree_size u
same_size d e t u p q = omega (arith, size-instance d t, ap tree_size p, size-instance e u, ap tree_size q)

pub same_depth : (d e : ℕ → Tree) (t u : Tree) → instance d t ≡ u → instance e u ≡ t → tree_depth t ≡ tree_depth u
same_depth d e t u p q = omega (arith, depth-instance d t, ap tree_depth p, depth-instance e u, ap tree_depth q)

-- terms that are instances of each other, place by place
abbrev pub AreSimilar : (d e : ℕ → Tree) → List Tree → List Tree → Type 0
AreSimilar d e [] us = us ≡ []
AreSimilar d e (t ∷ ts) us = (u : Tree) × (rest : List Tree) × (us ≡ u ∷ rest) × (instance d t ≡ u) × (instance e u ≡ t) × AreSimilar d e ts rest

similar_any : (p : Tree → Bool) (d e : ℕ → Tree) → ((t u : Tree) → instance d t ≡ u → instance e u ≡ t → p t ≡ p u) → (ts us : List Tree) → AreSimilar d e ts us → list_any p ts ≡ list_any p us
similar_any p d e h [] us s = ap (list_any p) (sym s)
similar_any p d e h (t ∷ ts) us (u, rest, is, there, back, s) = rw (h t u there back, similar_any p d e h ts rest s) (ap (list_any p) (sym is))

pub similar_limit : (d e : ℕ → Tree) (ts us : List Tree) → AreSimilar d e ts us → terms_limit ts ≡ terms_limit us
similar_limit d e ts us s =
    let large = similar_any is_too_large d e (λ t u p q. rw (same_size d e t u p q) refl) ts us s in
    let deep = similar_any is_too_deep d e (λ t u p q. rw (same_depth d e t u p q) refl) ts us s in
    ap₂ (λ x y. first_limit (limit_if x Size ∷ limit_if y Depth ∷ [])) large deep

pub similar_map : (d e m n : ℕ → Tree) (f : ℕ → ℕ) (xs : List ℕ) → ((x : ℕ) → Contains xs x → (instance d (m x) ≡ n (f x)) × (instance e (n (f x)) ≡ m x)) → AreSimilar d e (map m xs) (map n (map f xs))
similar_map d e m n f [] h = refl
similar_map d e m n f (x ∷ xs) h =
    let here = h x (contains_first x xs) in
    (n (f x), map n (map f xs), refl, here.0, here.1, similar_map d e m n f xs (λ y c. h y (contains_behind x xs y c)))

map_same : {X Y : Type 0} (f : X → Y) (xs : List X) → map f (map (λ x. x) xs) ≡ map f xs
map_same f [] = refl
map_same f (x ∷ xs) = ap (f x ∷◌) (map_same f xs)

-- two most general unifiers pass one limit
pub unifier_limit-alike : (m k : ℕ → Tree) (s t : Tree) → IsMostGeneralUnifier m s t → IsMostGeneralUnifier k s t → unifier_limit m s t ≡ unifier_limit k s t
unifier_limit-alike m k s t g h =
    let d = g.most_general k h.unifies in
    let e = h.most_general m g.unifies in
    let xs = variables_of_both s t in
    similar_limit d.0 e.0 (map m xs) (map k (map (λ x. x) xs)) (similar_map d.0 e.0 m k (λ x. x) xs (λ x c. (sym (d.1 x), sym (e.1 x)))) ∙ ap terms_limit (map_same k xs)
