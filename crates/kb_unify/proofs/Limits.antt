-- The limits that a most general unifier passes.
use Rattle.std.proofs.Common.{ℕ, zero, suc, ◌+◌, ◌≤◌, ◌<◌, ◌≡◌, ◌⊎◌, inl, inr, List, [], ◌∷◌, ◌++◌, length, get_or, refl, sym, ap, ◌∙◌, arith, Some, None}
use Rattle.kb_unify.specs.declared.extent.Extent.{Extent}
use Rattle.std.specs.Prelude.{Option, Bool, true, false, cond, nat_lt, ◌||◌, map, Contains, min}
use Rattle.std.specs.List.{list_any}
use Rattle.std.proofs.lemmas.List.Elements.{Contains-append_cases}
use Rattle.kb_term.specs.Tree.{Tree, variable, variables_of, tree_size, tree_depth}
use Rattle.kb_term.specs.Substitution.{instance}
use Rattle.kb_unify.specs.Unifier.{IsMostGeneralUnifier}
use Rattle.kb_term.specs.Pair.{is_too_large, is_too_deep}
use Rattle.kb_term.specs.declared.limit.Limit.{Limit}
use Rattle.kb_term.specs.declared.limit.Limit.TheVariants.{Size, Depth, Variables}
use Rattle.kb_unify.specs.Unifier.{IsUnifiable}
use Rattle.std.proofs.lemmas.List.{length-replicate}
use Rattle.kb_unify.specs.Answer.{unifier_limit, IsUnifierWith, IsUnifierList}
use Rattle.kb_term.specs.Tree.{HasVariablesBelow}
use Rattle.kb_term.specs.Substitution.{substitution_of}
use Rattle.kb_unify.proofs.Flattening.{cases_le}
use Rattle.kb_unify.proofs.Solutions.{most_general, solution-solves, bound_other}
use Rattle.kb_unify.proofs.Instances.{contains_decides}
use Rattle.kb_unify.proofs.Applied.{outside_variable, list_applied}
use Rattle.kb_unify.specs.Table.{slot_at, Solves, Equates, IsFree, IsClosed}
use Rattle.kb_unify.specs.Extent.{IsMeasurement}
use Rattle.kb_unify.specs.Reading.{IsLimitPassed, IsReadable, IsTableOf, ListsBelow, ListsBound, size_at, depth_at}
use Rattle.kb_unify.proofs.ReadingLaws.{size-listed, depth-listed}
use Rattle.kb_unify.proofs.Unifying.{start, clash_none, unsolved_none, solution_unifies, free-below}
use Rattle.kb_unify.specs.declared.table.Slot.{Slot}
use Rattle.kb_unify.specs.declared.table.Slot.TheVariants.{Free}

pub any_false : (p : Tree → Bool) (m : ℕ → Tree) (xs : List ℕ) → ((n : ℕ) → Contains xs n → p (m n) ≡ false) → list_any p (map m xs) ≡ false
any_false p m [] h = refl
any_false p m (x ∷ xs) h = rw (h x (0, omega arith, refl)) (any_false p m xs (λ n c. h n (suc c.0, omega (arith, c.1), c.2)))

pub any_true : (p : Tree → Bool) (m : ℕ → Tree) (xs : List ℕ) (n : ℕ) → Contains xs n → p (m n) ≡ true → list_any p (map m xs) ≡ true
any_true p m [] n c h = absurd (omega (arith, c.1))
any_true p m (x ∷ xs) n (zero, q, e) h = let r : p (m x) ≡ true = ap (λ y. p (m y)) e ∙ h in rw r refl
any_true p m (x ∷ xs) n (suc k, q, e) h = go (p (m x)) (any_true p m xs n (k, omega (arith, q), e) h)
  where
    go : (b : Bool) → list_any p (map m xs) ≡ true → (b || list_any p (map m xs)) ≡ true
    go true r = refl
    go false r = r

-- a most general unifier sends a variable of neither term to a small term
outside_small : (m : ℕ → Tree) (s t : Tree) → IsMostGeneralUnifier m s t → (n : ℕ) → ¬ Contains (variables_of s ++ variables_of t) n → (tree_size (m n) ≡ 1) × (tree_depth (m n) ≡ 1)
outside_small m s t g n outside = let x = outside_variable m s t g n outside in (ap tree_size x.1, ap tree_depth x.1)

module _ (bound : ℕ) (m : ℕ → Tree) (s t : Tree) (general : IsMostGeneralUnifier m s t) (below : (n : ℕ) → Contains (variables_of s ++ variables_of t) n → n < bound) where
  inside : (n : ℕ) → (1 < tree_size (m n)) ⊎ (1 < tree_depth (m n)) → Contains (variables_of s ++ variables_of t) n
  inside n h = go (contains_decides (variables_of s ++ variables_of t) n) h
    where
      go : Contains (variables_of s ++ variables_of t) n ⊎ (¬ Contains (variables_of s ++ variables_of t) n) → (1 < tree_size (m n)) ⊎ (1 < tree_depth (m n)) → Contains (variables_of s ++ variables_of t) n
      go (inl c) h = c
      go (inr c) (inl h) = absurd (omega (arith, h, (outside_small m s t general n c).0))
      go (inr c) (inr h) = absurd (omega (arith, h, (outside_small m s t general n c).1))

  sizes_small : ((n : ℕ) → n < bound → tree_size (m n) ≤ 512) → list_any is_too_large (map m (variables_of s ++ variables_of t)) ≡ false
  sizes_small h = any_false is_too_large m (variables_of s ++ variables_of t) (λ n c. let q = h n (below n c) in grind arith)

  depths_small : ((n : ℕ) → n < bound → tree_depth (m n) ≤ 64) → list_any is_too_deep (map m (variables_of s ++ variables_of t)) ≡ false
  depths_small h = any_false is_too_deep m (variables_of s ++ variables_of t) (λ n c. let q = h n (below n c) in grind arith)

  size_large : (n : ℕ) → 512 < tree_size (m n) → list_any is_too_large (map m (variables_of s ++ variables_of t)) ≡ true
  size_large n h = any_true is_too_large m (variables_of s ++ variables_of t) n (inside n (inl (omega arith))) (grind arith)

  depth_large : (n : ℕ) → 64 < tree_depth (m n) → list_any is_too_deep (map m (variables_of s ++ variables_of t)) ≡ true
  depth_large n h = any_true is_too_deep m (variables_of s ++ variables_of t) n (inside n (inr (omega arith))) (grind arith)

  -- the limit that the extents of its terms pass is the one that it passes
  pub limit_is : (es : List Extent) → ((n : ℕ) → n < bound → size_at es n ≡ min (tree_size (m n)) 513) → ((n : ℕ) → n < bound → depth_at es n ≡ min (tree_depth (m n)) 65) → (limit : Option Limit) → IsLimitPassed bound es limit → unifier_limit m s t ≡ limit
  limit_is es sizes depths None h = rw (sizes_small (λ n p. omega (arith, h.0 n p, sizes n p)), depths_small (λ n p. omega (arith, h.1 n p, depths n p))) refl
  limit_is es sizes depths (Some Size) h = rw (size_large h.0 (omega (arith, h.2, sizes h.0 h.1))) refl
  limit_is es sizes depths (Some Depth) h = rw (sizes_small (λ n p. omega (arith, h.0 n p, sizes n p)), depth_large h.1.0 (omega (arith, h.1.2, depths h.1.0 h.1.1))) refl
  limit_is es sizes depths (Some Variables) h = absurd h

below_both : (bound : ℕ) (s t : Tree) → ((n : ℕ) → Contains (variables_of s) n → n < bound) → ((n : ℕ) → Contains (variables_of t) n → n < bound) → (n : ℕ) → Contains (variables_of s ++ variables_of t) n → n < bound
below_both bound s t p q n c = elim (Contains-append_cases (variables_of s) (variables_of t) n c) [ inl d ↦ p n d | inr d ↦ q n d ]

-- w below the bound, and the variables themselves from there on
abbrev pub restricted : ℕ → (ℕ → Tree) → ℕ → Tree
restricted bound w n = cond (nat_lt n bound) (w n) (variable n)

restricted-below : (bound : ℕ) (w : ℕ → Tree) (n : ℕ) → n < bound → restricted bound w n ≡ w n
restricted-below bound w n h = let e : nat_lt n bound ≡ true = grind arith in rw e refl

restricted-above : (bound : ℕ) (w : ℕ → Tree) (n : ℕ) → bound ≤ n → restricted bound w n ≡ variable n
restricted-above bound w n h = let e : nat_lt n bound ≡ false = grind arith in rw e refl

-- the whole: from the table of two bounded terms, closed, and its measure
module _ (bound : ℕ) (few : bound ≤ 128) (s t : Tree) (s_below : HasVariablesBelow bound s) (t_below : HasVariablesBelow bound t) (two : List Slot) (table : IsTableOf bound s t two) where
  pub whole_clash : ((v : ℕ → Tree) → Solves v two → ¬ Equates v ((bound, bound + 1) ∷ [])) → ¬ IsUnifiable s t
  whole_clash h = clash_none bound s t s_below t_below (start bound) table.0 two refl table.1 table.2 h

  module _ (three : List Slot) (closed : IsClosed two three ((bound, bound + 1) ∷ [])) where
    pub whole_long : bound + 1 < length three
    whole_long = omega (arith, (table.1).longer, (table.2).longer, closed.same_length, length-replicate (bound + 2) Free)

    pub whole_unsolved : IsMeasurement three None → ¬ IsUnifiable s t
    whole_unsolved h = unsolved_none bound s t s_below t_below (start bound) table.0 two refl table.1 table.2 three closed h

    -- only variables are free
    whole_free : (i : ℕ) → i < length three → IsFree (slot_at three i) → i < bound
    whole_free i p f = free-below bound s t s_below t_below (start bound) table.0 two refl table.1 table.2 i (omega (arith, p, closed.same_length)) (closed.free i f)

    pub whole_readable : (es : List Extent) → IsMeasurement three (Some es) → IsReadable three es
    whole_readable es h = record {
      table = closed.table;
      free = λ i p f. let q = whole_free i p f in omega (arith, few, q);
      solution = h;
    }

    -- the unifier, as any function that is w below the bound and leaves the other variables
    pub whole_unifier : (es : List Extent) (h : IsMeasurement three (Some es)) (limit : Option Limit) → IsLimitPassed bound es limit → (m : ℕ → Tree) → ((n : ℕ) → m n ≡ restricted bound h.0 n) → IsUnifierWith limit m s t
    whole_unifier es h limit passed m is =
        let below : (n : ℕ) → n < bound → m n ≡ h.0 n = λ n p. is n ∙ restricted-below bound h.0 n p in
        let above : (n : ℕ) → bound ≤ n → m n ≡ variable n = λ n p. is n ∙ restricted-above bound h.0 n p in
        let general = solution_unifies bound s t s_below t_below (start bound) table.0 two refl table.1 table.2 three closed h.0 m (h.1).values below above in
        record {
          most_general = general;
          passes = limit_is bound m s t general (below_both bound s t s_below t_below) es
              (λ n p. size-listed three es h.0 h.1 n (omega (arith, p, whole_long)) ∙ ap (λ u. min (tree_size u) 513) (sym (below n p)))
              (λ n p. depth-listed three es h.0 h.1 n (omega (arith, p, whole_long)) ∙ ap (λ u. min (tree_depth u) 65) (sym (below n p)))
              limit passed;
        }

    -- the unifier as a list of the variables of which something is known
    pub whole_list : (es : List Extent) (h : IsMeasurement three (Some es)) → IsLimitPassed bound es None → (m : List (ℕ × Tree)) → ListsBelow bound h.0 m → ListsBound bound three m → IsUnifierList m s t
    whole_list es h passed m lists listed =
        let whole = whole_unifier es h None passed (substitution_of m) lists in
        let w = h.0 in
        let below : (n : ℕ) → n < bound → substitution_of m n ≡ w n = λ n p. lists n ∙ restricted-below bound w n p in
        let above : (n : ℕ) → bound ≤ n → substitution_of m n ≡ variable n = λ n p. lists n ∙ restricted-above bound w n p in
        let fixed : (n : ℕ) → n < bound → w n ≡ instance (substitution_of m) (w n) = λ n p. most_general three closed.table w (h.1).values w (substitution_of m) (solution-solves three w (h.1).values) (λ i q f. sym (below i (whole_free i q f))) n (omega (arith, p, whole_long)) in
        record {
          unifier = whole;
          applied = list_applied m s t listed.in_order whole.most_general
              (λ n. elim (cases_le bound n) [
                | inl p ↦ ap (instance (substitution_of m)) (above n p)
                | inr p ↦ ap (instance (substitution_of m)) (below n p) ∙ sym (fixed n p) ∙ sym (below n p)
              ])
              (λ k d p e. let b = listed.bound k d p in bound_other three closed.table w (h.1).values (get_or m k d).0 b.1 (sym (below (get_or m k d).0 b.0) ∙ e));
        }
