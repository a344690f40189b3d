-- What processes pay, and which nodes are in use and have constraints, after a label is put and a node comes.
use Rattle.std.proofs.Common.{ℕ, zero, suc, ◌+◌, ◌<◌, ◌≡◌, refl, sym, ap, ap₂, ◌∙◌, subst, arith, List, [], ◌∷◌, ◌++◌, length, take, set, get_or, cond, Bool, true, false, Some}
use Rattle.std.specs.Prelude.{◌&&◌, ◌==◌, ◌≢◌, sum_by, slice_get, option_map}
use Rattle.std.specs.Option.{option_map_or}
use Rattle.std.proofs.lemmas.Bool.Decides.{nat_tests}
use Rattle.std.proofs.lemmas.List.{get_or-set_other}
use Rattle.std.proofs.lemmas.List.Sums.{sum_by-cons, sum_by_push}
use mathlib.Core.Bool.{true≢false}
use Rattle.std.proofs.lemmas.Bool.{and_parts}
use Rattle.kb_term.specs.Tree.{tree_size}
use Rattle.kb_label.specs.Names.{Name, has, is_empty}
use Rattle.kb_node.specs.declared.node.LabelKind.{LabelKind}
use Rattle.kb_node.specs.declared.node.LabelKind.TheVariants.{R0, R1, E, C0, C1, X}
use Rattle.kb_node.specs.Labelled.{Node, is_dead_under}
use Rattle.mkb_model.specs.Plain.{PlainNode, label_in, label_at, pair_size}
use Rattle.mkb_model.specs.Effects.{with_label_in, with_label}
use Rattle.mkb_rules.specs.Accounts.{IsBare}
use Rattle.mkb_rules.specs.Constrained.{is_constraint_kind, is_free_at, is_free_node, AreConstraintsMarked}
use Rattle.mkb_rules.specs.Parts.{plain_nodes}
use Rattle.mkb_rules.specs.Sizes.{size_if, open_share, rule_share, size_at, open_share_at, rule_share_at, open_sizes, rule_sizes, is_open_kind, is_rule_kind, is_dead_node, is_dead_at, AreSizesOf}
use Rattle.mkb_rules.specs.declared.sizes.Sizes.{Sizes}

-- ---- a label is put

-- what p pays by a share of each node, of which labels of some kinds are a part
abbrev HasShare : Name → (PlainNode → ℕ) → (LabelKind → Bool) → Type 0
HasShare p f counts = (x : PlainNode) (k : LabelKind) (l : List Name) → f (with_label_in x k l) + size_if (counts k && has (label_in x k) p) (pair_size x.pair) ≡ f x + size_if (counts k && has l p) (pair_size x.pair)

open_has : (p : Name) → HasShare p (open_share p) is_open_kind
open_has p x E l = omega arith
open_has p x C0 l = omega arith
open_has p x C1 l = omega arith
open_has p x R0 l = refl
open_has p x R1 l = refl
open_has p x X l = refl

rules_has : (p : Name) → HasShare p (rule_share p) is_rule_kind
rules_has p x E l = refl
rules_has p x C0 l = refl
rules_has p x C1 l = refl
rules_has p x R0 l = omega arith
rules_has p x R1 l = omega arith
rules_has p x X l = refl

module _ (p : Name) (f : PlainNode → ℕ) (counts : LabelKind → Bool) (share : HasShare p f counts) where
  moved : (xs : List PlainNode) (n : ℕ) (k : LabelKind) (l : List Name) → n < length xs → sum_by f (with_label n k l xs) + size_if (counts k && has (label_at xs n k) p) (size_at xs n) ≡ sum_by f xs + size_if (counts k && has l p) (size_at xs n)
  moved [] n k l h = absurd (omega (arith, h))
  moved (x ∷ xs) zero k l h = omega (arith, sum_by-cons f (with_label_in x k l) xs, sum_by-cons f x xs, share x k l)
  moved (x ∷ xs) (suc n) k l h = omega (arith, sum_by-cons f x (with_label n k l xs), sum_by-cons f x xs, moved xs n k l (omega (arith, h)))

-- sizes that have followed a label are those of the nodes with it
pub sizes_moved : (xs : List PlainNode) (n : ℕ) (k : LabelKind) (l : List Name) (s t : Sizes) → n < length xs → AreSizesOf xs s → t.process ≡ s.process
    → t.open_sizes + size_if (is_open_kind k && has (label_at xs n k) s.process) (size_at xs n) ≡ s.open_sizes + size_if (is_open_kind k && has l s.process) (size_at xs n)
    → t.rule_sizes + size_if (is_rule_kind k && has (label_at xs n k) s.process) (size_at xs n) ≡ s.rule_sizes + size_if (is_rule_kind k && has l s.process) (size_at xs n)
    → AreSizesOf (with_label n k l xs) t
sizes_moved xs n k l s t h right same o r =
    let first : t.open_sizes ≡ open_sizes (with_label n k l xs) s.process = omega (arith, right.open_is, o, moved s.process (open_share s.process) is_open_kind (open_has s.process) xs n k l h) in
    let second : t.rule_sizes ≡ rule_sizes (with_label n k l xs) s.process = omega (arith, right.rules_is, r, moved s.process (rule_share s.process) is_rule_kind (rules_has s.process) xs n k l h) in
    record {
      open_is = first ∙ ap (open_sizes (with_label n k l xs)) (sym same);
      rules_is = second ∙ ap (rule_sizes (with_label n k l xs)) (sym same);
    }

-- the size that the table tells is that of the plain node
pub plain-size : (xs : List (Node (List Name))) (n s : ℕ) → option_map (λ (x : Node (List Name)). tree_size x.pair.first + tree_size x.pair.second) (slice_get xs n) ≡ Some s → s ≡ size_at (plain_nodes xs) n
plain-size [] n s h = absurd (cc)
plain-size (x ∷ xs) zero s h = let e : tree_size x.pair.first + tree_size x.pair.second ≡ s = cc in sym e
plain-size (x ∷ xs) (suc n) s h = plain-size xs n s h

-- ---- node by node

pub prefix_next : (f : PlainNode → ℕ) (xs : List PlainNode) (n : ℕ) → n < length xs → sum_by f (take (suc n) xs) ≡ sum_by f (take n xs) + option_map_or f (slice_get xs n) 0
prefix_next f [] n h = absurd (omega (arith, h))
prefix_next f (x ∷ xs) zero h = omega (arith, sum_by-cons f x [])
prefix_next f (x ∷ xs) (suc n) h = omega (arith, sum_by-cons f x (take (suc n) xs), sum_by-cons f x (take n xs), prefix_next f xs n (omega (arith, h)))

-- what p pays for a node, label by label
pub open_parts : (xs : List PlainNode) (n : ℕ) (p : Name) → open_share_at xs n p ≡ size_if (has (label_at xs n E) p) (size_at xs n) + (size_if (has (label_at xs n C0) p) (size_at xs n) + size_if (has (label_at xs n C1) p) (size_at xs n))
open_parts [] n p = refl
open_parts (x ∷ xs) zero p = refl
open_parts (x ∷ xs) (suc n) p = open_parts xs n p

pub rule_parts : (xs : List PlainNode) (n : ℕ) (p : Name) → rule_share_at xs n p ≡ size_if (has (label_at xs n R0) p) (size_at xs n) + size_if (has (label_at xs n R1) p) (size_at xs n)
rule_parts [] n p = refl
rule_parts (x ∷ xs) zero p = refl
rule_parts (x ∷ xs) (suc n) p = rule_parts xs n p

-- ---- marks

flag_here : (used : List Bool) (n : ℕ) (t : Bool) → get_or (set used n t) n true ≡ false → t ≡ false
flag_here [] n t h = absurd (true≢false h)
flag_here (u ∷ used) zero t h = h
flag_here (u ∷ used) (suc n) t h = flag_here used n t h

module _ (test : PlainNode → Bool) where
  -- the node of this number passes, where it is there
  abbrev pub passes_at : List PlainNode → ℕ → Bool
  passes_at xs n = option_map_or test (slice_get xs n) true

  -- each node that is marked as out of use passes
  abbrev pub AreMarkedBy : List PlainNode → List Bool → Type 0
  AreMarkedBy xs used = (n : ℕ) → get_or used n true ≡ false → passes_at xs n ≡ true

  -- another label changes one node alone
  other_passes : (xs : List PlainNode) (n m : ℕ) (k : LabelKind) (l : List Name) → (m ≡ n → ⊥) → passes_at (with_label n k l xs) m ≡ passes_at xs m
  other_passes [] n m k l d = refl
  other_passes (x ∷ xs) zero zero k l d = absurd (d refl)
  other_passes (x ∷ xs) zero (suc m) k l d = refl
  other_passes (x ∷ xs) (suc n) zero k l d = refl
  other_passes (x ∷ xs) (suc n) (suc m) k l d = other_passes xs n m k l (λ e. d (ap suc e))

  -- the mark of a node tells of it as it is, the others are as before
  pub marked : (xs : List PlainNode) (used : List Bool) (n : ℕ) (k : LabelKind) (l : List Name) (t : Bool) → AreMarkedBy xs used → (t ≡ false → passes_at (with_label n k l xs) n ≡ true) → AreMarkedBy (with_label n k l xs) (set used n t)
  marked xs used n k l t before now m h = go (m == n) refl
    where
      go : (b : Bool) → (m == n) ≡ b → passes_at (with_label n k l xs) m ≡ true
      go true e =
          let same : m ≡ n = grind (arith, nat_tests) in
          ap (passes_at (with_label n k l xs)) same ∙ now (flag_here used n t (ap (λ i. get_or (set used n t) i true) (sym same) ∙ h))
      go false e =
          let apart : m ≢ n = λ same. absurd (true≢false (sym (is_so same) ∙ e)) in
          other_passes xs n m k l apart ∙ before m (sym (get_or-set_other used n m t true apart) ∙ h)
        where
          is_so : m ≡ n → (m == n) ≡ true
          is_so same = grind (arith, nat_tests)

  -- the first nodes are marked as all were
  pub marked_first : (xs : List PlainNode) (used : List Bool) (len : ℕ) → AreMarkedBy xs used → AreMarkedBy (take len xs) used
  marked_first xs used len before m h = go xs len m (before m h)
    where
      go : (ys : List PlainNode) (k i : ℕ) → passes_at ys i ≡ true → passes_at (take k ys) i ≡ true
      go [] zero i e = refl
      go [] (suc k) i e = refl
      go (y ∷ ys) zero i e = refl
      go (y ∷ ys) (suc k) zero e = e
      go (y ∷ ys) (suc k) (suc i) e = go ys k i e

  -- a node comes that passes: the others are marked as before
  module _ (xs : List PlainNode) (x : PlainNode) (passes : test x ≡ true) where
    passes_before : (ys : List PlainNode) (i : ℕ) → passes_at ys i ≡ true → passes_at (ys ++ x ∷ []) i ≡ true
    passes_before [] zero e = passes
    passes_before [] (suc i) e = refl
    passes_before (y ∷ ys) zero e = e
    passes_before (y ∷ ys) (suc i) e = passes_before ys i e

    passes_new : (ys : List PlainNode) → passes_at (ys ++ x ∷ []) (length ys) ≡ true
    passes_new [] = passes
    passes_new (y ∷ ys) = passes_new ys

    pub marked_new : (used new : List Bool) → ((m : ℕ) → m ≢ length xs → get_or new m true ≡ get_or used m true) → AreMarkedBy xs used → AreMarkedBy (xs ++ x ∷ []) new
    marked_new used new others before m h = go (m == length xs) refl
      where
        go : (b : Bool) → (m == length xs) ≡ b → passes_at (xs ++ x ∷ []) m ≡ true
        go true e = let same : m ≡ length xs = grind (arith, nat_tests) in ap (passes_at (xs ++ x ∷ [])) same ∙ passes_new xs
        go false e = passes_before xs m (before m (sym (others m apart) ∙ h))
          where
            is_so : m ≡ length xs → (m == length xs) ≡ true
            is_so same = grind (arith, nat_tests)

            apart : m ≢ length xs
            apart same = absurd (true≢false (sym (is_so same) ∙ e))

-- what the table tells of a dead node
pub dead_plain : (xs : List (Node (List Name))) (n : ℕ) (t : Bool) → option_map (is_dead_under {L = List Name} {K = List Name} (λ log l. l) []) (slice_get xs n) ≡ Some t → is_dead_at (plain_nodes xs) n ≡ t
dead_plain [] n t h = absurd (cc)
dead_plain (x ∷ xs) zero t h = let e : is_dead_under {L = List Name} {K = List Name} (λ log l. l) [] x ≡ t = cc in e
dead_plain (x ∷ xs) (suc n) t h = dead_plain xs n t h

-- ---- a node comes

module _ (xs : List PlainNode) (x : PlainNode) (bare : IsBare x) where
  open_none : (p : Name) → open_share p x ≡ 0
  open_none p =
      ap (λ l. size_if (has l p) (pair_size x.pair) + (size_if (has x.constraint0 p) (pair_size x.pair) + size_if (has x.constraint1 p) (pair_size x.pair))) bare.equation
      ∙ ap₂ (λ l m. 0 + (size_if (has l p) (pair_size x.pair) + size_if (has m p) (pair_size x.pair))) bare.constraint0 bare.constraint1

  rules_none : (p : Name) → rule_share p x ≡ 0
  rules_none p = ap₂ (λ l m. size_if (has l p) (pair_size x.pair) + size_if (has m p) (pair_size x.pair)) bare.rule0 bare.rule1

  -- nobody pays for it
  pub sizes_more : (s : Sizes) → AreSizesOf xs s → AreSizesOf (xs ++ x ∷ []) s
  sizes_more s right = record {
    open_is = omega (arith, right.open_is, sum_by_push (open_share s.process) xs x, open_none s.process);
    rules_is = omega (arith, right.rules_is, sum_by_push (rule_share s.process) xs x, rules_none s.process);
  }

  -- nobody has it
  pub bare_dead : is_dead_node x ≡ true
  bare_dead = ap (λ l. is_empty l && (is_empty x.rule1 && is_empty x.equation)) bare.rule0 ∙ ap₂ (λ l m. is_empty l && is_empty m) bare.rule1 bare.equation

  -- nor a constraint in it
  pub bare_free : is_free_node x ≡ true
  bare_free = ap₂ (λ l m. is_empty l && is_empty m) bare.constraint0 bare.constraint1

-- ---- numbers

pub same_or_less : (P : ℕ → Type 0) (i j : ℕ) → j < i + 1 → P i → (j < i → P j) → P j
same_or_less P i j h same less = go (j == i) refl
  where
    go : (b : Bool) → (j == i) ≡ b → P j
    go true e = let here : i ≡ j = grind (arith, nat_tests) in subst P here same
    go false e =
        let apart : j ≢ i = λ eq. absurd (true≢false (sym (test eq) ∙ e)) in
        less (omega (arith, h, apart))
      where
        test : j ≡ i → (j == i) ≡ true
        test eq = grind (arith, nat_tests)

-- ---- dead nodes

nobody_in : (l : List Name) (p : Name) → is_empty l ≡ true → has l p ≡ false
nobody_in [] p e = refl
nobody_in (q ∷ l) p e = absurd (true≢false (sym e))

-- nobody has a dead node as an equation or as a rule
pub dead_labels : (xs : List PlainNode) (n : ℕ) (p : Name) → is_dead_at xs n ≡ true → (has (label_at xs n E) p ≡ false) × ((has (label_at xs n R0) p ≡ false) × (has (label_at xs n R1) p ≡ false))
dead_labels [] n p e = (refl, (refl, refl))
dead_labels (x ∷ xs) zero p e =
    let one = and_parts (is_empty x.rule0) (is_empty x.rule1 && is_empty x.equation) e in
    let two = and_parts (is_empty x.rule1) (is_empty x.equation) one.1 in
    (nobody_in x.equation p two.1, (nobody_in x.rule0 p one.0, nobody_in x.rule1 p two.0))
dead_labels (x ∷ xs) (suc n) p e = dead_labels xs n p e

-- ---- constraints

-- a label of another kind leaves in which nodes there are constraints
free_kept : (xs : List PlainNode) (n m : ℕ) (k : LabelKind) (l : List Name) → is_constraint_kind k ≡ false → is_free_at (with_label n k l xs) m ≡ is_free_at xs m
free_kept [] n m k l e = refl
free_kept (x ∷ xs) zero zero R0 l e = refl
free_kept (x ∷ xs) zero zero R1 l e = refl
free_kept (x ∷ xs) zero zero E l e = refl
free_kept (x ∷ xs) zero zero X l e = refl
free_kept (x ∷ xs) zero zero C0 l e = absurd (true≢false e)
free_kept (x ∷ xs) zero zero C1 l e = absurd (true≢false e)
free_kept (x ∷ xs) zero (suc m) k l e = refl
free_kept (x ∷ xs) (suc n) zero k l e = refl
free_kept (x ∷ xs) (suc n) (suc m) k l e = free_kept xs n m k l e

-- the marks that note a label of constraints tell of the nodes with it
pub constraints_marked : (xs : List PlainNode) (used new : List Bool) (n : ℕ) (k : LabelKind) (l : List Name) → AreConstraintsMarked xs used → new ≡ cond (is_constraint_kind k) (set used n true) used → AreConstraintsMarked (with_label n k l xs) new
constraints_marked xs used new n k l before e = go (is_constraint_kind k) refl e
  where
    go : (t : Bool) → is_constraint_kind k ≡ t → new ≡ cond t (set used n true) used → AreConstraintsMarked (with_label n k l xs) new
    go true f g = subst {A = List Bool} (AreConstraintsMarked (with_label n k l xs)) (sym g) (marked is_free_node xs used n k l true before (λ z. absurd (true≢false z)))
    go false f g = subst {A = List Bool} (AreConstraintsMarked (with_label n k l xs)) (sym g) (λ m h. free_kept xs n m k l f ∙ before m h)

-- in a node without constraints nobody has one
pub free_labels : (xs : List PlainNode) (n : ℕ) (p : Name) → is_free_at xs n ≡ true → (has (label_at xs n C0) p ≡ false) × (has (label_at xs n C1) p ≡ false)
free_labels [] n p e = (refl, refl)
free_labels (x ∷ xs) zero p e = let both = and_parts (is_empty x.constraint0) (is_empty x.constraint1) e in (nobody_in x.constraint0 p both.0, nobody_in x.constraint1 p both.1)
free_labels (x ∷ xs) (suc n) p e = free_labels xs n p e
