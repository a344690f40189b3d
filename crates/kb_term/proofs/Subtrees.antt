-- Subterms and replacements, and what substitutions do to them.
use Rattle.std.proofs.Common.{ℕ, zero, suc, ◌+◌, ◌≡◌, inl, inr, refl, sym, ap, ◌∙◌, subst, arith, List, [], ◌∷◌, map, Contains, Option, Some, None, option_map, option_and_then}
use Rattle.std.specs.Prelude.{IsSome}
use Rattle.std.proofs.lemmas.Bool.{false≢true}
use Rattle.std.proofs.lemmas.List.Elements.{Contains-append_left, Contains-append_right, Contains-append_cases}
use Rattle.std.proofs.lemmas.Option.{same_Some}
use Rattle.kb_lemmas.proofs.Membership.{contains_mapped, contains_cases}
use Rattle.kb_term.specs.Tree.{Tree, Trees, variable, apply, no_trees, more_trees, variables_of, variables_in}
use Rattle.kb_term.specs.Substitution.{instance, instances}
use Rattle.kb_term.specs.Position.{argument, with_argument, subtree_at, replace_at, function_positions_of, function_positions_in}

-- arguments of an instance
pub argument-instances : (d : ℕ → Tree) (ts : Trees) (i : ℕ) → argument (instances d ts) i ≡ option_map (instance d) (argument ts i)
argument-instances d no_trees zero = refl
argument-instances d no_trees (suc i) = refl
argument-instances d (more_trees t ts) zero = refl
argument-instances d (more_trees t ts) (suc zero) = refl
argument-instances d (more_trees t ts) (suc (suc i)) = argument-instances d ts (suc i)

with_argument-instances : (d : ℕ → Tree) (ts : Trees) (i : ℕ) (u : Tree) → instances d (with_argument ts i u) ≡ with_argument (instances d ts) i (instance d u)
with_argument-instances d no_trees zero u = refl
with_argument-instances d no_trees (suc i) u = refl
with_argument-instances d (more_trees t ts) zero u = refl
with_argument-instances d (more_trees t ts) (suc zero) u = refl
with_argument-instances d (more_trees t ts) (suc (suc i)) u = ap (more_trees (instance d t)) (with_argument-instances d ts (suc i) u)

-- the subterm of an instance at a position of the term
pub subtree-instance : (d : ℕ → Tree) (p : List ℕ) (t u : Tree) → subtree_at t p ≡ Some u → subtree_at (instance d t) p ≡ Some (instance d u)
subtree-instance d [] t u e = ap (option_map (instance d)) e
subtree-instance d (i ∷ p) (variable n) u e = absurd (cc)
subtree-instance d (i ∷ p) (apply f ts) u e = go (argument ts i) (argument-instances d ts i) (λ a h. subtree-instance d p a u h) e
  where
    go : (o : Option Tree) → argument (instances d ts) i ≡ option_map (instance d) o → ((a : Tree) → subtree_at a p ≡ Some u → subtree_at (instance d a) p ≡ Some (instance d u)) → option_and_then (λ t. subtree_at t p) o ≡ Some u → option_and_then (λ t. subtree_at t p) (argument (instances d ts) i) ≡ Some (instance d u)
    go None q back e = absurd (cc)
    go (Some a) q back e = ap (option_and_then (λ t. subtree_at t p)) q ∙ back a e

-- the instance of a replacement
pub replace-instance : (d : ℕ → Tree) (p : List ℕ) (t v w : Tree) → replace_at t p v ≡ Some w → replace_at (instance d t) p (instance d v) ≡ Some (instance d w)
replace-instance d [] t v w e = ap (option_map (instance d)) e
replace-instance d (i ∷ p) (variable n) v w e = absurd (cc)
replace-instance d (i ∷ p) (apply f ts) v w e = go (argument ts i) (argument-instances d ts i) (λ a b h. replace-instance d p a v b h) e
  where
    put : Option Tree → Option Tree
    put o = option_map (λ x. apply f (with_argument ts i x)) o

    inner : (o q : Option Tree) → ((b : Tree) → o ≡ Some b → q ≡ Some (instance d b)) → option_map (λ x. apply f (with_argument ts i x)) o ≡ Some w → option_map (λ x. apply f (with_argument (instances d ts) i x)) q ≡ Some (instance d w)
    inner None q h e = absurd (cc)
    inner (Some b) q h e = ap (option_map (λ x. apply f (with_argument (instances d ts) i x))) (h b refl) ∙ ap (λ us. Some (apply f us)) (sym (with_argument-instances d ts i b)) ∙ ap (option_map (instance d)) e

    go : (o : Option Tree) → argument (instances d ts) i ≡ option_map (instance d) o → ((a b : Tree) → replace_at a p v ≡ Some b → replace_at (instance d a) p (instance d v) ≡ Some (instance d b)) → option_and_then (λ t. option_map (λ x. apply f (with_argument ts i x)) (replace_at t p v)) o ≡ Some w
        → option_and_then (λ t. option_map (λ x. apply f (with_argument (instances d ts) i x)) (replace_at t p (instance d v))) (argument (instances d ts) i) ≡ Some (instance d w)
    go None q back e = absurd (cc)
    go (Some a) q back e = ap (option_and_then (λ t. option_map (λ x. apply f (with_argument (instances d ts) i x)) (replace_at t p (instance d v)))) q ∙ inner (replace_at a p v) (replace_at (instance d a) p (instance d v)) (λ b h. back a b h) e

-- where there is a subterm it can be replaced
pub replace-there : (p : List ℕ) (t u v : Tree) → subtree_at t p ≡ Some u → (w : Tree) × (replace_at t p v ≡ Some w)
replace-there [] t u v e = (v, refl)
replace-there (i ∷ p) (variable n) u v e = absurd (cc)
replace-there (i ∷ p) (apply f ts) u v e = go (argument ts i) (λ a h. replace-there p a u v h) e
  where
    go : (o : Option Tree) → ((a : Tree) → subtree_at a p ≡ Some u → (w : Tree) × (replace_at a p v ≡ Some w)) → option_and_then (λ t. subtree_at t p) o ≡ Some u
        → (w : Tree) × (option_and_then (λ t. option_map (λ x. apply f (with_argument ts i x)) (replace_at t p v)) o ≡ Some w)
    go None back e = absurd (cc)
    go (Some a) back e = let h = back a e in (apply f (with_argument ts i h.0), ap (option_map (λ x. apply f (with_argument ts i x))) h.1)

-- the variables of an argument and of a subterm are those of the term
argument_variables : (ts : Trees) (i : ℕ) (a : Tree) → argument ts i ≡ Some a → (n : ℕ) → Contains (variables_of a) n → Contains (variables_in ts) n
argument_variables no_trees zero a e n c = absurd (cc)
argument_variables no_trees (suc i) a e n c = absurd (cc)
argument_variables (more_trees t ts) zero a e n c = absurd (cc)
argument_variables (more_trees t ts) (suc zero) a e n c = Contains-append_left (variables_of t) (variables_in ts) n (subst (λ u. Contains (variables_of u) n) (sym (same_Some t a e)) c)
argument_variables (more_trees t ts) (suc (suc i)) a e n c = Contains-append_right (variables_of t) (variables_in ts) n (argument_variables ts (suc i) a e n c)

pub subtree_variables : (p : List ℕ) (t u : Tree) → subtree_at t p ≡ Some u → (n : ℕ) → Contains (variables_of u) n → Contains (variables_of t) n
subtree_variables [] t u e n c = subst (λ u. Contains (variables_of u) n) (sym (same_Some t u e)) c
subtree_variables (i ∷ p) (variable x) u e n c = absurd (cc)
subtree_variables (i ∷ p) (apply f ts) u e n c = go (argument ts i) refl (λ a h. subtree_variables p a u h n c) e
  where
    go : (o : Option Tree) → argument ts i ≡ o → ((a : Tree) → subtree_at a p ≡ Some u → Contains (variables_of a) n) → option_and_then (λ t. subtree_at t p) o ≡ Some u → Contains (variables_in ts) n
    go None q back e = absurd (cc)
    go (Some a) q back e = argument_variables ts i a q n (back a e)

-- at each position at which no variable stands there is a subterm
mutual
  pub position_there : (t : Tree) (p : List ℕ) → Contains (function_positions_of t) p → (u : Tree) × (subtree_at t p ≡ Some u)
  position_there (variable n) p c = absurd (omega (arith, c.1))
  position_there (apply f ts) p c = elim (contains_cases [] (function_positions_in ts 1) p c) [
    | inl e ↦ (apply f ts, ap (subtree_at (apply f ts)) (sym e))
    | inr d ↦
        let h = position_in ts 1 p d in
        let first : 1 + h.0 ≡ suc h.0 = omega arith in
        (h.3.0, ap (subtree_at (apply f ts)) (h.2 ∙ ap (λ i. i ∷ h.1) first) ∙ h.3.1)
  ]

  position_in : (ts : Trees) (i : ℕ) (p : List ℕ) → Contains (function_positions_in ts i) p → (j : ℕ) × (q : List ℕ) × (p ≡ (i + j) ∷ q) × ((u : Tree) × (option_and_then (λ t. subtree_at t q) (argument ts (suc j)) ≡ Some u))
  position_in no_trees i p c = absurd (omega (arith, c.1))
  position_in (more_trees t ts) i p c = elim (Contains-append_cases (map (i ∷◌) (function_positions_of t)) (function_positions_in ts (suc i)) p c) [
    | inl d ↦
        let m = contains_mapped (i ∷◌) (function_positions_of t) p d in
        let same : i ≡ i + 0 = omega arith in
        (0, m.0, sym m.2 ∙ ap (λ x. x ∷ m.0) same, position_there t m.0 m.1)
    | inr d ↦
        let h = position_in ts (suc i) p d in
        let next : suc i + h.0 ≡ i + suc h.0 = omega arith in
        (suc h.0, h.1, h.2 ∙ ap (λ x. x ∷ h.1) next, h.3)
  ]

pub some_value : {X : Type 0} (o : Option X) → IsSome o → (x : X) × (o ≡ Some x)
some_value None h = absurd (false≢true h)
some_value (Some x) h = (x, refl)
