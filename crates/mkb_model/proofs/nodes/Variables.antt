-- Variables: lists of few different ones, and that steps bring none.
use Rattle.std.proofs.Common.{ℕ, ◌≤◌, ◌≡◌, ◌∙◌, refl, sym, ap, subst, arith, List, [], ◌∷◌, ◌++◌, filter, length, Contains, Bool, true, false, not, cond, ◌==◌, ⊎_elim, eq-eqb, eqb-true, ne_eqb}
use Rattle.std.specs.List.{list_any}
use Rattle.std.proofs.lemmas.List.Elements.{Contains-append_cases, Contains-append_left, Contains-append_right}
use Rattle.kb_lemmas.proofs.Lists.{filter_lost}
use Rattle.kb_lemmas.proofs.Membership.{contains_behind, contains_first, none_in}
use Rattle.kb_term.specs.Tree.{Tree, variable, apply, no_trees, variables_of}
use Rattle.kb_term.specs.Substitution.{instance}
use Rattle.kb_term.specs.Pair.{distinct, variables_of_pair}
use Rattle.kb_term.specs.Rule.{Rule, IsRule}
use Rattle.kb_term.specs.Proving.{RewritesAt}
use Rattle.kb_term.proofs.NameList.{IsUnique, unique-distinct}
use Rattle.kb_term.proofs.Distinct.{has}
use Rattle.kb_term.proofs.Variants.{filter_kept, distinct_in, in_distinct}
use Rattle.kb_term.proofs.Steps.{occurs_from, occurs_to, Occurs}
use Rattle.kb_term.proofs.Instances.{instance-variable, instance-agree, agree_at}
use Rattle.mkb_model.proofs.Lists.{any_in, in_any, clash}
use Rattle.kb_laws.proofs.Renamings.{Back, rewrites_back}

has_there : (x : ℕ) (xs : List ℕ) → Contains xs x → has x xs ≡ true
has_there x [] c = none_in c
has_there x (y ∷ ys) c = in_any (λ z. z == x) (y ∷ ys) x c (eq-eqb x x refl)

-- different numbers that are all among others are no more than those
unique_less : (xs ys : List ℕ) → IsUnique xs → ((x : ℕ) → Contains xs x → Contains ys x) → length xs ≤ length ys
unique_less [] ys h k = omega arith
unique_less (x ∷ xs) ys h k =
    let r = unique_less xs (filter (λ z. not (z == x)) ys) h.1 (λ y c. filter_kept (λ z. not (z == x)) ys y (ap not (ne_eqb y x (λ e. clash (has_there x xs (subst {A = ℕ} (Contains xs) e c)) h.0))) (k y (contains_behind x xs y c))) in
    let l = filter_lost (λ z. not (z == x)) ys x (k x (contains_first x xs)) (ap not (eq-eqb x x refl)) in
    omega (arith, r, l)

pub few_less : (xs ys : List ℕ) → ((x : ℕ) → Contains xs x → Contains ys x) → length (distinct xs) ≤ length (distinct ys)
few_less xs ys h = unique_less (distinct xs) (distinct ys) (unique-distinct xs) (λ x c. in_distinct ys x (h x (distinct_in xs x c)))

-- a constant in place of one variable
abbrev pub put : ℕ → ℕ → Tree
put x n = cond (n == x) (apply 0 no_trees) (variable n)

-- a number is in a list or not
pub number_there : (xs : List ℕ) (x : ℕ) → ¬ (Contains xs x → ⊥) → Contains xs x
number_there xs x h = go (list_any (λ z. z == x) xs) refl
  where
    go : (b : Bool) → list_any (λ z. z == x) xs ≡ b → Contains xs x
    go true e = let r = any_in (λ z. z == x) xs e in subst {A = ℕ} (Contains xs) (eqb-true r.0 x r.2) r.1
    go false e = absurd (h (λ c. clash (in_any (λ z. z == x) xs x c (eq-eqb x x refl)) e))

-- a step brings no new variable
pub step_variables : (r : Rule) (p : List ℕ) (s t : Tree) → IsRule r → RewritesAt r p s t → (x : ℕ) → Contains (variables_of t) x → Contains (variables_of s) x
step_variables r p s t rule h x c = number_there (variables_of s) x (λ missing. fixed (agree_at (put x) variable t (sym (instance-variable (instance (put x) t)) ∙ rewrites_back (put x) variable r p s t rule.holds_variables (back missing) h ∙ sym (instance-variable t)) x (occurs_from x t c)))
  where
    same : (Contains (variables_of s) x → ⊥) → (y : ℕ) → Occurs y s → put x y ≡ variable y
    same missing y o = ap (λ b. cond b (apply 0 no_trees) (variable y)) (ne_eqb y x (λ e. missing (subst {A = ℕ} (Contains (variables_of s)) e (occurs_to y s o))))

    back : (Contains (variables_of s) x → ⊥) → Back (put x) variable s
    back missing = instance-variable (instance (put x) s) ∙ instance-agree (put x) variable s (same missing) ∙ instance-variable s

    fixed : put x x ≡ variable x → ⊥
    fixed e = let k : apply 0 no_trees ≡ variable x = sym (ap (λ b. cond b (apply 0 no_trees) (variable x)) (eq-eqb x x refl)) ∙ e in cc

-- so the terms stay few
pub step_few : (r : Rule) (p : List ℕ) (s t rest : Tree) → IsRule r → RewritesAt r p s t → length (variables_of_pair s rest) ≤ 64 → length (variables_of_pair t rest) ≤ 64
step_few r p s t rest rule h few =
    let l = few_less (variables_of t ++ variables_of rest) (variables_of s ++ variables_of rest) (λ x c. ⊎_elim (λ i. Contains-append_left (variables_of s) (variables_of rest) x (step_variables r p s t rule h x i)) (λ i. Contains-append_right (variables_of s) (variables_of rest) x i) (Contains-append_cases (variables_of t) (variables_of rest) x c)) in
    omega (arith, l, few)
