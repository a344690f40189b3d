-- What unification says of the overlaps at one position.
use Rattle.std.proofs.Common.{ℕ, ◌+◌, ◌-◌, ◌≤◌, ◌<◌, ◌≡◌, inl, inr, refl, sym, ap, ap₂, ◌∙◌, subst, arith, List, [], ◌∷◌, ◌++◌, map, Contains, Option, Some, None, Result, Ok, Err, Bool, true, false}
use Rattle.std.proofs.lemmas.List.Elements.{Contains-append_left, Contains-append_right, Contains-append_cases}
use Rattle.std.specs.Prelude.{◌||◌}
use Rattle.std.specs.List.{list_any}
use Rattle.std.proofs.lemmas.Option.{same_Some}
use Rattle.kb_lemmas.proofs.Membership.{contains_first, contains_behind, contains_mapped}
use Rattle.kb_term.specs.Tree.{Tree, variable, variables_of, tree_size, tree_depth}
use Rattle.kb_term.specs.Substitution.{instance, rename}
use Rattle.kb_term.specs.Position.{subtree_at, replace_at, function_positions_of}
use Rattle.kb_term.specs.Pair.{is_too_large, is_too_deep, first_limit, limit_if, term_limit, pair_limit}
use Rattle.kb_term.specs.Rule.{Rule, apart, rename_rule}
use Rattle.kb_term.specs.declared.limit.Limit.{Limit}
use Rattle.kb_term.specs.declared.limit.Limit.TheVariants.{Size, Depth}
use Rattle.kb_unify.specs.Unifier.{IsUnifier, IsUnifiable, IsMostGeneralUnifier}
use Rattle.kb_unify.specs.Answer.{terms_limit, unifier_limit, IsUnifierWith}
use Rattle.kb_unify.proofs.Instances.{contains_decides}
use Rattle.kb_unify.proofs.Applied.{outside_variable}
use Rattle.kb_unify.proofs.Limits.{any_true}
use Rattle.kb_overlap.specs.Overlap.{IsRenamedApart, pair_or_limit, IsOverlapOrLimit, HasNoOverlapAt}
use Rattle.kb_term.specs.declared.term.Term.{Term}
use Rattle.kb_overlap.specs.Found.{built_limit, IsPairAnswer, AreVariablesBelow}
use Rattle.kb_overlap.specs.Instance.{IsSmall}
use Rattle.kb_overlap.specs.View.{sides_of}
use Rattle.kb_term.proofs.Variants.{rename-rename, rename_same, variables_renamed}
use Rattle.kb_term.proofs.Subtrees.{subtree-instance, replace-there, subtree_variables}
use Rattle.kb_overlap.proofs.Uniqueness.{variables_of_rule, shift, shifted_unifies}

renamed_back : (by : ℕ) (t : Tree) → rename (λ n. n - by) (rename (λ n. n + by) t) ≡ t
renamed_back by t = rename-rename (λ n. n - by) (λ n. n + by) t ∙ rename_same (λ n. n + by - by) t (λ x c. omega arith)

renamed_above : (by : ℕ) (t : Tree) (n : ℕ) → Contains (variables_of (rename (λ n. n + by) t)) n → by ≤ n
renamed_above by t n c =
    let h = contains_mapped (λ x. x + by) (variables_of t) n (subst (λ xs. Contains xs n) (variables_renamed (λ x. x + by) t) c) in
    let e : h.0 + by ≡ n = h.2 in
    omega (arith, e)

below_rule : (A : Rule) (bound : ℕ) → AreVariablesBelow bound A → (n : ℕ) → Contains (variables_of_rule A) n → n < bound
below_rule A bound below n c = elim (Contains-append_cases (variables_of A.left) (variables_of A.right) n c) [ inl l ↦ below.0 n l | inr r ↦ below.1 n r ]

-- a rule whose variables are below a number is apart from the other one with the number added to its variables
pub apart_by : (by : ℕ) (A B : Rule) → AreVariablesBelow by A → IsRenamedApart A B (rename_rule (λ n. n + by) B)
apart_by by A B below = record {
  variant = ((λ n. n + by), (λ n. n - by), record { there = refl; back_again = renamed_back by B.left }, record { there = refl; back_again = renamed_back by B.right });
  apart = λ n c d. elim (Contains-append_cases (variables_of (rename (λ n. n + by) B.left)) (variables_of (rename (λ n. n + by) B.right)) n d) [
    | inl l ↦ omega (arith, below_rule A by below n c, renamed_above by B.left n l)
    | inr r ↦ omega (arith, below_rule A by below n c, renamed_above by B.right n r)
  ];
}

pub apart_is : (A B : Rule) → AreVariablesBelow 64 A → IsRenamedApart A B (apart B)
apart_is A B below = apart_by 64 A B below

-- where one variant has no unifier none has
pub none_there : (A B R : Rule) → IsRenamedApart A B R → (p : List ℕ) (u : Tree) → subtree_at A.left p ≡ Some u → ¬ IsUnifiable u R.left → HasNoOverlapAt A B p
none_there A B R a p u at none S v b there (k, unifies) =
    let same : v ≡ u = same_Some v u (sym there ∙ at) in
    none ((λ x. k (shift A B R S a b x)), shifted_unifies A B R S a b u (λ x c. Contains-append_left (variables_of A.left) (variables_of A.right) x (subtree_variables p A.left u at x c)) k (subst (λ t. IsUnifier k t S.left) same unifies))

any_witness : (p : Tree → Bool) (m : ℕ → Tree) (xs : List ℕ) → list_any p (map m xs) ≡ true → (x : ℕ) × Contains xs x × (p (m x) ≡ true)
any_witness p m [] e = absurd (cc)
any_witness p m (x ∷ xs) e = go (p (m x)) refl (λ f. any_witness p m xs f) e
  where
    go : (b : Bool) → p (m x) ≡ b → (list_any p (map m xs) ≡ true → (y : ℕ) × Contains xs y × (p (m y) ≡ true)) → (b || list_any p (map m xs)) ≡ true → (y : ℕ) × Contains (x ∷ xs) y × (p (m y) ≡ true)
    go true q back e = (x, contains_first x xs, q)
    go false q back e = let h = back e in (h.0, contains_behind x xs h.0 h.1, h.2)

any_within : (p : Tree → Bool) (m : ℕ → Tree) (xs ys : List ℕ) → ((x : ℕ) → Contains xs x → p (m x) ≡ true → Contains ys x) → ((x : ℕ) → Contains ys x → Contains xs x) → list_any p (map m xs) ≡ list_any p (map m ys)
any_within p m xs ys inside within = go (list_any p (map m xs)) (list_any p (map m ys)) refl refl
  where
    go : (a b : Bool) → list_any p (map m xs) ≡ a → list_any p (map m ys) ≡ b → list_any p (map m xs) ≡ list_any p (map m ys)
    go true true e f = e ∙ sym f
    go false false e f = e ∙ sym f
    go true false e f = let h = any_witness p m xs e in e ∙ sym (any_true p m ys h.0 (inside h.0 h.1 h.2) h.2)
    go false true e f = let h = any_witness p m ys f in any_true p m xs h.0 (within h.0 h.1) h.2 ∙ sym f

-- a most general unifier passes the same limit on the variables of the whole left side
pub left_limit : (A R : Rule) (p : List ℕ) (u : Tree) → subtree_at A.left p ≡ Some u → (m : ℕ → Tree) → IsMostGeneralUnifier m u R.left → terms_limit (map m (variables_of A.left ++ variables_of R.left)) ≡ unifier_limit m u R.left
left_limit A R p u at m general =
    ap₂ (λ x y. first_limit (limit_if x Size ∷ limit_if y Depth ∷ []))
    (any_within is_too_large m (variables_of A.left ++ variables_of R.left) (variables_of u ++ variables_of R.left) (λ x c e. inside is_too_large (λ n. refl) x e) within)
    (any_within is_too_deep m (variables_of A.left ++ variables_of R.left) (variables_of u ++ variables_of R.left) (λ x c e. inside is_too_deep (λ n. refl) x e) within)
  where
    inside : (q : Tree → Bool) → ((n : ℕ) → q (variable n) ≡ false) → (x : ℕ) → q (m x) ≡ true → Contains (variables_of u ++ variables_of R.left) x
    inside q small x e = elim (contains_decides (variables_of u ++ variables_of R.left) x) [
      | inl c ↦ c
      | inr outside ↦ let v = outside_variable m u R.left general x outside in absurd (let h : true ≡ false = sym e ∙ ap q v.1 ∙ small v.0 in cc)
    ]

    within : (x : ℕ) → Contains (variables_of u ++ variables_of R.left) x → Contains (variables_of A.left ++ variables_of R.left) x
    within x c = elim (Contains-append_cases (variables_of u) (variables_of R.left) x c) [
      | inl d ↦ Contains-append_left (variables_of A.left) (variables_of R.left) x (subtree_variables p A.left u at x d)
      | inr d ↦ Contains-append_right (variables_of A.left) (variables_of R.left) x d
    ]

-- the peak has the position, so there is a second side
pub second_side : (A R : Rule) (p : List ℕ) (u : Tree) → subtree_at A.left p ≡ Some u → (m : ℕ → Tree) → (t : Tree) × (replace_at (instance m A.left) p (instance m R.right) ≡ Some t)
second_side A R p u at m = replace-there p (instance m A.left) (instance m u) (instance m R.right) (subtree-instance m p A.left u at)

module _ (A B R : Rule) (a : IsRenamedApart A B R) (p : List ℕ) (u : Tree) (at : subtree_at A.left p ≡ Some u) (here : Contains (function_positions_of A.left) p) where
  -- a unifier that passes a limit
  pub large_there : (limit : Limit) (m : ℕ → Tree) → IsUnifierWith (Some limit) m u R.left → IsOverlapOrLimit A B (record { position = p; sides = Err limit })
  large_there limit m with_limit =
      let t = second_side A R p u at m in
      record {
        renamed = R;
        m = m;
        s = instance m A.right;
        t = t.0;
        renamed_apart = a;
        overlaps = record { subterm = u; there = at; no_variable = here; unifier = with_limit.most_general };
        pair = record { by_outer = refl; by_inner = t.1 };
        sides = sym (ap (λ l. pair_or_limit (first_limit (l ∷ term_limit (instance m A.left) ∷ pair_limit (instance m A.right) t.0 ∷ [])) (instance m A.right) t.0) (left_limit A R p u at m with_limit.most_general ∙ with_limit.passes));
      }

  -- a unifier that passes none: the peak and the pair decide
  pub pair_there : (m : ℕ → Tree) → IsUnifierWith None m u R.left → (t : Tree) → replace_at (instance m A.left) p (instance m R.right) ≡ Some t → (sides : Result (Tree × Tree) Limit)
      → sides ≡ pair_or_limit (first_limit (term_limit (instance m A.left) ∷ pair_limit (instance m A.right) t ∷ [])) (instance m A.right) t → IsOverlapOrLimit A B (record { position = p; sides = sides })
  pair_there m with_limit t second sides is =
      record {
        renamed = R;
        m = m;
        s = instance m A.right;
        t = t;
        renamed_apart = a;
        overlaps = record { subterm = u; there = at; no_variable = here; unifier = with_limit.most_general };
        pair = record { by_outer = refl; by_inner = second };
        sides = is ∙ sym (ap (λ l. pair_or_limit (first_limit (l ∷ term_limit (instance m A.left) ∷ pair_limit (instance m A.right) t ∷ [])) (instance m A.right) t) (left_limit A R p u at m with_limit.most_general ∙ with_limit.passes));
      }

-- the same, whichever term is the second side
pub found_pair : (A R : Rule) (p : List ℕ) (u : Tree) → subtree_at A.left p ≡ Some u → Contains (function_positions_of A.left) p → (m : ℕ → Tree) → IsUnifierWith None m u R.left → (sides : Result (Tree × Tree) Limit)
    → ((t : Tree) → replace_at (instance m A.left) p (instance m R.right) ≡ Some t → sides ≡ pair_or_limit (built_limit A m t) (instance m A.right) t)
    → (B : Rule) → IsRenamedApart A B R → IsOverlapOrLimit A B (record { position = p; sides = sides })
found_pair A R p u at here m unifies sides h B a = let t = second_side A R p u at m in pair_there A B R a p u at here m unifies t.0 t.1 sides (h t.0 t.1)

-- two terms or a limit, as the answer says
pub answered_pair : (limit : Option Limit) (s t : Tree) (e : Term × Term) → IsPairAnswer limit s t (Ok e) → sides_of (Ok e) ≡ pair_or_limit limit s t
answered_pair limit s t e h = (λ i. Ok (h.1 i, h.2 i)) ∙ ap (λ l. pair_or_limit l s t) (sym h.0)

pub answered_limit : (limit : Option Limit) (s t : Tree) (l : Limit) → limit ≡ Some l → sides_of (Err l) ≡ pair_or_limit limit s t
answered_limit limit s t l h = ap (λ k. pair_or_limit k s t) (sym h)

no_limit : (x y : Bool) → first_limit (limit_if x Size ∷ limit_if y Depth ∷ []) ≡ None → (x ≡ false) × (y ≡ false)
no_limit true y e = absurd (cc)
no_limit false true e = absurd (cc)
no_limit false false e = (refl, refl)

any_none : (p : Tree → Bool) (m : ℕ → Tree) (xs : List ℕ) → list_any p (map m xs) ≡ false → (n : ℕ) → Contains xs n → p (m n) ≡ false
any_none p m xs h n c = go (p (m n)) refl
  where
    go : (b : Bool) → p (m n) ≡ b → p (m n) ≡ false
    go true e = absurd (let q : true ≡ false = sym (any_true p m xs n c e) ∙ h in cc)
    go false e = e

not_large : (t : Tree) → is_too_large t ≡ false → tree_size t ≤ 512
not_large t h = grind arith

not_deep : (t : Tree) → is_too_deep t ≡ false → tree_depth t ≤ 64
not_deep t h = grind arith

-- all terms of a most general unifier that passes no limit are within the limits
pub unifier_small : (m : ℕ → Tree) (s t : Tree) → IsUnifierWith None m s t → IsSmall m
unifier_small m s t h = record {
  sizes = λ n. elim (contains_decides (variables_of s ++ variables_of t) n) [
    | inl c ↦ not_large (m n) (any_none is_too_large m (variables_of s ++ variables_of t) none.0 n c)
    | inr outside ↦ let v = outside_variable m s t h.most_general n outside in omega (arith, ap tree_size v.1)
  ];
  depths = λ n. elim (contains_decides (variables_of s ++ variables_of t) n) [
    | inl c ↦ not_deep (m n) (any_none is_too_deep m (variables_of s ++ variables_of t) none.1 n c)
    | inr outside ↦ let v = outside_variable m s t h.most_general n outside in omega (arith, ap tree_depth v.1)
  ];
}
  where
    none : (list_any is_too_large (map m (variables_of s ++ variables_of t)) ≡ false) × (list_any is_too_deep (map m (variables_of s ++ variables_of t)) ≡ false)
    none = no_limit (list_any is_too_large (map m (variables_of s ++ variables_of t))) (list_any is_too_deep (map m (variables_of s ++ variables_of t))) h.passes

-- the variables of a subterm and of the renamed left side
pub below_subterm : (A : Rule) (bound : ℕ) → AreVariablesBelow bound A → (p : List ℕ) (u : Tree) → subtree_at A.left p ≡ Some u → (n : ℕ) → Contains (variables_of u) n → n < bound
below_subterm A bound below p u at n c = below.0 n (subtree_variables p A.left u at n c)

pub below_more : (A : Rule) → AreVariablesBelow 64 A → AreVariablesBelow 128 A
below_more A below = ((λ n c. omega (arith, below.0 n c)), (λ n c. omega (arith, below.1 n c)))

pub below_apart_by : (by : ℕ) (A : Rule) → by ≤ 64 → AreVariablesBelow 64 A → AreVariablesBelow 128 (rename_rule (λ n. n + by) A)
below_apart_by by A few below = (renamed_below A.left below.0, renamed_below A.right below.1)
  where
    renamed_below : (t : Tree) → ((x : ℕ) → Contains (variables_of t) x → x < 64) → (n : ℕ) → Contains (variables_of (rename (λ n. n + by) t)) n → n < 128
    renamed_below t h n c =
        let m = contains_mapped (λ x. x + by) (variables_of t) n (subst (λ xs. Contains xs n) (variables_renamed (λ x. x + by) t) c) in
        let e : m.0 + by ≡ n = m.2 in
        omega (arith, e, few, h m.0 m.1)

pub below_apart : (A : Rule) → AreVariablesBelow 64 A → AreVariablesBelow 128 (apart A)
below_apart A below = below_apart_by 64 A (omega arith) below
