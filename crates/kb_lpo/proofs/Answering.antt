-- From what tests answer to what holds, and from terms to their arguments.
use Rattle.std.proofs.Common.{ap₂, ◌+◌, Contains, ◌==◌, ℕ, zero, suc, [], ◌∷◌, ◌≤◌, ◌⊎◌, inl, inr, ⊎_elim, ◌≡◌, ◌<◌, refl, sym, ap, ◌∙◌, arith, List, length, get_or, map, Bool, true, false, IsTrue}
use Rattle.std.proofs.lemmas.Bool.{false≢true, cases_lt, and_parts}
use Rattle.std.proofs.lemmas.List.{length-map}
use Rattle.kb_term.specs.Tree.{Tree, Trees, variable, apply, no_trees, more_trees, trees_of, tree_size, trees_size, variables_of, tree_eq, trees_eq}
use Rattle.kb_term.specs.Pair.{place_in}
use Rattle.kb_term.specs.View.{tree_of}
use Rattle.kb_term.specs.declared.term.Symbol.{Symbol}
use Rattle.kb_term.specs.declared.term.Term.{Term}
use Rattle.kb_term.specs.declared.term.Term.TheVariants.{App}
use Rattle.kb_lpo.specs.Agreeing.{At, Between}
use Rattle.kb_lpo.proofs.Places.{at_from, at_smaller, at_argument, between_all}
use Rattle.kb_term.proofs.Steps.{occurs_from, occurs_to}
use Rattle.kb_lpo.proofs.LpoLaws.{occurs_argument, occurs_in_some}

pub yes : {b : Bool} {P : Type 0} → (IsTrue b → P) × (P → IsTrue b) → b ≡ true → P
yes h e = h.0 e

pub no : {b : Bool} {P : Type 0} → (IsTrue b → P) × (P → IsTrue b) → b ≡ false → ¬ P
no h e p = false≢true (sym e ∙ h.1 p)

-- the answers of a function that tests P
pub holds : {P : Type 0} → P → (IsTrue true → P) × (P → IsTrue true)
holds h = (λ x. h, λ x. refl)

-- an application with its arguments as terms
pub form : (t : Term) (f : Symbol) (ts : List Tree) (items : List Term) → t ≡ App f ts → map tree_of items ≡ ts → tree_of t ≡ apply f.0 (trees_of (map tree_of items))
form t f ts items e d = ap tree_of e ∙ ap (λ us. apply f.0 (trees_of us)) (sym d)

pub part_smaller : (t : Term) (f : Symbol) (ts : List Tree) (items : List Term) (k : ℕ) (d : Term) → t ≡ App f ts → map tree_of items ≡ ts → k < length items → d ≡ get_or items k d → tree_size (tree_of d) < tree_size (tree_of t)
part_smaller t f ts items k d e q h i =
    let l = at_smaller (map tree_of items) k f.0 (tree_of d) (at_from items k d h i) in
    let z : tree_size (tree_of t) ≡ tree_size (apply f.0 (trees_of (map tree_of items))) = ap tree_size (form t f ts items e q) in
    omega arith

-- two reads at one place
pub same_index : (items : List Term) (k : ℕ) (d e : Term) → k < length items → d ≡ get_or items k d → e ≡ get_or items k e → d ≡ e
same_index [] k d e h a b = absurd (omega arith)
same_index (x ∷ xs) zero d e h a b = a ∙ sym b
same_index (x ∷ xs) (suc k) d e h a b = same_index xs k d e (omega arith) a b

pub ends : (ss ts : List Term) (n : ℕ) → (n < length ss → n < length ts → ⊥) → (length (map tree_of ss) ≤ n) ⊎ (length (map tree_of ts) ≤ n)
ends ss ts n h = ⊎_elim (λ j. ⊎_elim (λ i. absurd (h j i)) (λ i. let q = length-map ts tree_of in inr (omega arith)) (cases_lt n (length ts))) (λ j. let q = length-map ss tree_of in inl (omega arith)) (cases_lt n (length ss))

mutual
  pub same_tree : (t u : Tree) → tree_eq t u ≡ true → t ≡ u
  same_tree (variable m) (variable n) e = ap variable (grind (arith, e))
  same_tree (variable m) (apply g us) e = absurd (false≢true e)
  same_tree (apply f ts) (variable n) e = absurd (false≢true e)
  same_tree (apply f ts) (apply g us) e = let h = and_parts (f == g) (trees_eq ts us) e in ap₂ apply (number h.0) (same_trees ts us h.1)
    where
      number : (f == g) ≡ true → f ≡ g
      number h = grind (arith, h)

  same_trees : (ts us : Trees) → trees_eq ts us ≡ true → ts ≡ us
  same_trees no_trees no_trees e = refl
  same_trees no_trees (more_trees u us) e = absurd (false≢true e)
  same_trees (more_trees t ts) no_trees e = absurd (false≢true e)
  same_trees (more_trees t ts) (more_trees u us) e = let h = and_parts (tree_eq t u) (trees_eq ts us) e in ap₂ more_trees (same_tree t u h.0) (same_trees ts us h.1)

mutual
  pub tree_eq-refl : (t : Tree) → tree_eq t t ≡ true
  tree_eq-refl (variable m) = grind arith
  tree_eq-refl (apply f ts) = grind (arith, trees_eq-refl ts)

  trees_eq-refl : (ts : Trees) → trees_eq ts ts ≡ true
  trees_eq-refl no_trees = refl
  trees_eq-refl (more_trees t ts) = rw (tree_eq-refl t, trees_eq-refl ts) refl

-- the variables of an application are those of its arguments
pub occurs_at : (f k x : ℕ) (xs : List Tree) (u : Tree) → At xs k u → Contains (variables_of u) x → Contains (variables_of (apply f (trees_of xs))) x
occurs_at f k x xs u a c = occurs_to x (apply f (trees_of xs)) (occurs_argument x u (trees_of xs) (at_argument xs k u a) (occurs_from x u c))

pub occurs_nowhere : (f i x : ℕ) (xs : List Tree) → length xs ≤ i → Between (λ u. ¬ Contains (variables_of u) x) xs 0 i → ¬ Contains (variables_of (apply f (trees_of xs))) x
occurs_nowhere f i x xs h b c = let r = occurs_in_some x (trees_of xs) (occurs_from x (apply f (trees_of xs)) c) in between_all (λ u. ¬ Contains (variables_of u) x) xs i h b r.0 r.1 (occurs_to x r.0 r.2)

-- where a symbol stands
abbrev place : List Symbol → ℕ → ℕ
place xs x = place_in (map (λ (h : Symbol). h.0) xs) x

pub place_within : (xs : List Symbol) (x : ℕ) → place xs x ≤ length xs
place_within [] x = omega arith
place_within (y ∷ ys) x = grind (arith, place_within ys x)

pub place_reached : (xs : List Symbol) (i x : ℕ) (d : Symbol) → i < length xs → (get_or xs i d).0 ≡ x → place xs x ≤ i
place_reached [] i x d h e = absurd (omega arith)
place_reached (y ∷ ys) zero x d h e = grind arith
place_reached (y ∷ ys) (suc i) x d h e = grind (arith, place_reached ys i x d)

pub place_passed : (xs : List Symbol) (i x : ℕ) (d : Symbol) → i < length xs → i ≤ place xs x → ¬ ((get_or xs i d).0 ≡ x) → i + 1 ≤ place xs x
place_passed [] i x d h p e = absurd (omega arith)
place_passed (y ∷ ys) zero x d h p e = grind arith
place_passed (y ∷ ys) (suc i) x d h p e = grind (arith, place_passed ys i x d)

pub same_number : {m n : ℕ} → (m == n) ≡ true → m ≡ n
same_number h = grind (arith, h)

pub other_number : {m n : ℕ} → (m == n) ≡ false → ¬ (m ≡ n)
other_number h e = false≢true (grind (arith, h, e))

pub impossible : {b : Bool} {Q : Type 0} → (Q → IsTrue b) → b ≡ false → ¬ Q
impossible h e q = false≢true (sym e ∙ h q)

-- what a test of P answers of Q, where they hold together
pub answers : (b : Bool) {P Q : Type 0} → (IsTrue b → P) × (P → IsTrue b) → (P → Q) → (Q → P) → (IsTrue b → Q) × (Q → IsTrue b)
answers b h f g = (λ e. f (h.0 e), λ q. h.1 (g q))

-- the members of a list of terms are no larger than the list
pub member_size : (items : List Term) (k : ℕ) (d : Term) → k < length items → d ≡ get_or items k d → tree_size (tree_of d) ≤ trees_size (trees_of (map tree_of items))
member_size items k d h i = let l = at_smaller (map tree_of items) k 0 (tree_of d) (at_from items k d h i) in omega arith
