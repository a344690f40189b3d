-- What a process costs, node by node, and as it is kept.
use Rattle.std.proofs.Common.{ℕ, zero, suc, ◌+◌, ◌*◌, ◌<◌, ◌≤◌, ◌≡◌, refl, sym, ap, ap₂, ◌∙◌, arith, List, [], ◌∷◌, ◌++◌, filter, flat_map, length, take, Bool, true, false, cond, Option, Some, None}
use Rattle.std.specs.Prelude.{sum_by, slice_get}
use Rattle.std.specs.Option.{option_map_or}
use Rattle.std.proofs.lemmas.List.{take_all}
use Rattle.std.proofs.lemmas.List.Sums.{sum_by-cons, sum_by_push}
use Rattle.kb_term.specs.declared.origin.RuleRef.{RuleRef}
use Rattle.kb_label.specs.Names.{Name, has}
use Rattle.kb_node.specs.declared.node.LabelKind.TheVariants.{R0, R1, E, C0, C1}
use Rattle.mkb_model.specs.Plain.{Plain, PlainNode, numbers_from, directions, label, is_equation, is_rule, is_constraint, node_size, rule_sizes as sizes_of_rules, counted_rules, cost, equations_of, constraints_of}
use Rattle.mkb_model.specs.declared.settings.Selection.{Selection}
use Rattle.mkb_model.specs.declared.settings.Selection.TheVariants.{Stated, Size}
use Rattle.mkb_rules.specs.Sizes.{open_share, rule_share, size_at, open_share_at, rule_share_at, open_sizes, rule_sizes, counted_sizes, AreSizesOf}
use Rattle.mkb_rules.specs.declared.sizes.Sizes.{Sizes}
use Rattle.mkb_rules.proofs.Paying.{prefix_next, open_parts, rule_parts}

-- ---- numbers

numbers_more : (n k : ℕ) → numbers_from n (suc k) ≡ numbers_from n k ++ (n + k) ∷ []
numbers_more n zero = let e : n ≡ n + 0 = omega arith in ap (λ (z : ℕ). z ∷ []) e
numbers_more n (suc k) =
    let e : (n + 1) + k ≡ n + suc k = omega arith in
    ap (λ (zs : List ℕ). n ∷ zs) (numbers_more (n + 1) k) ∙ ap (λ (z : ℕ). n ∷ (numbers_from (n + 1) k ++ z ∷ [])) e

-- the numbers below n, and n
pub numbers_next : (n : ℕ) → numbers_from 0 (n + 1) ≡ numbers_from 0 n ++ n ∷ []
numbers_next n =
    let e : n + 1 ≡ suc n = omega arith in
    let f : 0 + n ≡ n = omega arith in
    ap (numbers_from 0) e ∙ numbers_more 0 n ∙ ap (λ (z : ℕ). numbers_from 0 n ++ z ∷ []) f

-- one node's more
pub sum_next : (f : ℕ → ℕ) (n : ℕ) → sum_by f (numbers_from 0 (n + 1)) ≡ sum_by f (numbers_from 0 n) + f n
sum_next f n = ap (sum_by f) (numbers_next n) ∙ sum_by_push f (numbers_from 0 n) n

-- ---- sums

kept : {A : Type 0} (f : A → ℕ) (t : A → Bool) (x : A) (xs : List A) → sum_by f (filter t (x ∷ xs)) ≡ cond (t x) (f x) 0 + sum_by f (filter t xs)
kept f t x xs = go (t x)
  where
    go : (b : Bool) → sum_by f (cond b (x ∷ filter t xs) (filter t xs)) ≡ cond b (f x) 0 + sum_by f (filter t xs)
    go true = sum_by-cons f x (filter t xs)
    go false = omega arith

times : (x y z : Bool) (s : ℕ) → (cond x 1 0 + (cond y 1 0 + cond z 1 0)) * s ≡ cond x s 0 + (cond y s 0 + cond z s 0)
times true true true s = omega arith
times true true false s = omega arith
times true false true s = omega arith
times true false false s = omega arith
times false true true s = omega arith
times false true false s = omega arith
times false false true s = omega arith
times false false false s = omega arith

module _ (f : ℕ → ℕ) (e : ℕ → Bool) (c : RuleRef → Bool) where
  -- how often a node counts as an equation and as a constraint
  abbrev pub times_of : ℕ → ℕ
  times_of n = cond (e n) 1 0 + (cond (c (record { node = n; dir = 0 })) 1 0 + cond (c (record { node = n; dir = 1 })) 1 0)

  abbrev pub of_rule : RuleRef → ℕ
  of_rule a = f a.node

  -- what equations and constraints add, node by node
  pub shares : (n k : ℕ) → sum_by f (filter e (numbers_from n k)) + sum_by of_rule (filter c (flat_map directions (numbers_from n k))) ≡ sum_by (λ m. times_of m * f m) (numbers_from n k)
  shares n zero = refl
  shares n (suc k) =
      let ns = numbers_from (n + 1) k in
      let rs = flat_map directions ns in
      let forth : RuleRef = record { node = n; dir = 0 } in
      let back : RuleRef = record { node = n; dir = 1 } in
      let one = kept f e n ns in
      let two = kept of_rule c forth (back ∷ rs) in
      let three = kept of_rule c back rs in
      let four = sum_by-cons (λ m. times_of m * f m) n ns in
      let five = shares (n + 1) k in
      let six = times (e n) (c forth) (c back) (f n) in
      omega (arith, one, two, three, four, five, six)

two_times : (y z : Bool) (s : ℕ) → (cond y 1 0 + cond z 1 0) * s ≡ cond y s 0 + cond z s 0
two_times true true s = omega arith
two_times true false s = omega arith
two_times false true s = omega arith
two_times false false s = omega arith

-- what the rules add, node by node
pub rule_shares : (f : ℕ → ℕ) (c : RuleRef → Bool) (n k : ℕ) → sum_by (λ (a : RuleRef). f a.node) (filter c (flat_map directions (numbers_from n k))) ≡ sum_by (λ m. (cond (c (record { node = m; dir = 0 })) 1 0 + cond (c (record { node = m; dir = 1 })) 1 0) * f m) (numbers_from n k)
rule_shares f c n zero = refl
rule_shares f c n (suc k) =
    let ns = numbers_from (n + 1) k in
    let rs = flat_map directions ns in
    let forth : RuleRef = record { node = n; dir = 0 } in
    let back : RuleRef = record { node = n; dir = 1 } in
    let g = λ (m : ℕ). (cond (c (record { node = m; dir = 0 })) 1 0 + cond (c (record { node = m; dir = 1 })) 1 0) * f m in
    let two = kept (λ (a : RuleRef). f a.node) c forth (back ∷ rs) in
    let three = kept (λ (a : RuleRef). f a.node) c back rs in
    let four = sum_by-cons g n ns in
    let five = rule_shares f c (n + 1) k in
    let six = two_times (c forth) (c back) (f n) in
    omega (arith, two, three, four, five, six)

-- ---- as it is kept

-- what the nodes add by their numbers
numbered : (f : PlainNode → ℕ) (xs : List PlainNode) (k : ℕ) → k ≤ length xs → sum_by (λ m. option_map_or f (slice_get xs m) 0) (numbers_from 0 k) ≡ sum_by f (take k xs)
numbered f [] zero h = refl
numbered f (x ∷ xs) zero h = refl
numbered f xs (suc k) h =
    let next : k + 1 ≡ suc k = omega arith in
    let less : k ≤ length xs = omega (arith, h) in
    let inside : k < length xs = omega (arith, h) in
    let one = sum_next (λ m. option_map_or f (slice_get xs m) 0) k in
    ap (λ n. sum_by (λ m. option_map_or f (slice_get xs m) 0) (numbers_from 0 n)) (sym next) ∙ one
    ∙ ap (λ z. z + option_map_or f (slice_get xs k) 0) (numbered f xs k less) ∙ sym (prefix_next f xs k inside)

all_numbered : (f : PlainNode → ℕ) (xs : List PlainNode) → sum_by (λ m. option_map_or f (slice_get xs m) 0) (numbers_from 0 (length xs)) ≡ sum_by f xs
all_numbered f xs = numbered f xs (length xs) (omega arith) ∙ ap (sum_by f) (take_all (length xs) xs (omega arith))

size-node : (b : Plain) (n : ℕ) → node_size b n ≡ size_at b.nodes n
size-node b n = go (slice_get b.nodes n) refl
  where
    go : (o : Option PlainNode) → slice_get b.nodes n ≡ o → node_size b n ≡ size_at b.nodes n
    go None e = simp e
    go (Some x) e = simp e

-- what equations and constraints cost is what is kept for them
open_cost : (b : Plain) (p : Name) → sum_by (node_size b) (equations_of b p) + sizes_of_rules b (constraints_of b p) ≡ open_sizes b.nodes p
open_cost b p =
    shares (node_size b) (is_equation b p) (is_constraint b p) 0 (length b.nodes)
    ∙ ap (λ g. sum_by g (numbers_from 0 (length b.nodes))) (λ i n. each n i)
    ∙ all_numbered (open_share p) b.nodes
  where
    each : (n : ℕ) → times_of (node_size b) (is_equation b p) (is_constraint b p) n * node_size b n ≡ open_share_at b.nodes n p
    each n =
        times (is_equation b p n) (is_constraint b p (record { node = n; dir = 0 })) (is_constraint b p (record { node = n; dir = 1 })) (node_size b n)
        ∙ ap (λ s. cond (has (label b n E) p) s 0 + (cond (has (label b n C0) p) s 0 + cond (has (label b n C1) p) s 0)) (size-node b n)
        ∙ sym (open_parts b.nodes n p)

-- what rules cost is what is kept for them
rule_cost : (b : Plain) (p : Name) → sizes_of_rules b (counted_rules Size b p) ≡ rule_sizes b.nodes p
rule_cost b p =
    rule_shares (node_size b) (is_rule b p) 0 (length b.nodes)
    ∙ ap (λ g. sum_by g (numbers_from 0 (length b.nodes))) (λ i n. each n i)
    ∙ all_numbered (rule_share p) b.nodes
  where
    each : (n : ℕ) → (cond (is_rule b p (record { node = n; dir = 0 })) 1 0 + cond (is_rule b p (record { node = n; dir = 1 })) 1 0) * node_size b n ≡ rule_share_at b.nodes n p
    each n =
        two_times (is_rule b p (record { node = n; dir = 0 })) (is_rule b p (record { node = n; dir = 1 })) (node_size b n)
        ∙ ap (λ s. cond (has (label b n R0) p) s 0 + cond (has (label b n R1) p) s 0) (size-node b n)
        ∙ sym (rule_parts b.nodes n p)

counted_cost : (by : Selection) (b : Plain) (p : Name) → sizes_of_rules b (counted_rules by b p) ≡ counted_sizes by (rule_sizes b.nodes p)
counted_cost Stated b p = refl
counted_cost Size b p = rule_cost b p

-- the cost by sizes that are right
pub cost_kept : (b : Plain) (s : Sizes) → AreSizesOf b.nodes s → s.open_sizes + counted_sizes b.settings.selection s.rule_sizes ≡ cost b s.process
cost_kept b s right =
    ap₂ (λ x y. x + counted_sizes b.settings.selection y) right.open_is right.rules_is
    ∙ sym (ap₂ (λ x y. x + y) (open_cost b s.process) (counted_cost b.settings.selection b s.process))
