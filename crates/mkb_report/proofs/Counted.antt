-- Counts of one more node, process or rule.
use Rattle.std.proofs.Common.{ℕ, zero, suc, ◌+◌, ◌<◌, ◌≤◌, ◌≡◌, refl, sym, ap, ap₂, ◌∙◌, subst, arith, zero-add, add-one, append-nil, length-append, List, [], ◌∷◌, ◌++◌, filter, flat_map, length, take, get_or, Bool, true, false, cond, ◌&&◌, ◌||◌, Some}
use Rattle.std.specs.Prelude.{slice_get, option_map, is_some}
use Rattle.std.specs.List.{list_any}
use Rattle.std.proofs.lemmas.List.{length-map, length-take, map-append, take_more}
use Rattle.std.proofs.lemmas.Option.{slice_get_within, get_or_from_slice_get}
use Rattle.std.proofs.lemmas.List.Elements.{filter-append}
use Rattle.std.proofs.lemmas.List.Concat.{flat_map-append}
use Rattle.kb_lemmas.proofs.Options.{some_of_map}
use Rattle.kb_label.specs.Names.{Name, has, is_empty}
use Rattle.kb_term.specs.declared.origin.RuleRef.{RuleRef}
use Rattle.kb_node.specs.Labelled.{Node, is_dead_under}
use Rattle.mkb_model.specs.Plain.{Plain, GivenUp, numbers_from, directions, is_rule, over_in}
use Rattle.mkb_model.specs.Sleeping.{no_members}
use Rattle.mkb_rules.specs.Parts.{plain_node, plain_nodes}
use Rattle.mkb_report.specs.Summaries.{is_dead}

module _ {X : Type 0} (F : X → Bool) where
  -- one more member, and the count of those that pass
  count_next : (xs : List X) (x : X) → length (filter F (xs ++ x ∷ [])) ≡ length (filter F xs) + cond (F x) 1 0
  count_next xs x = ap length (filter-append F xs (x ∷ [])) ∙ length-append (filter F xs) (filter F (x ∷ [])) ∙ ap (λ n. length (filter F xs) + n) (go (F x))
    where
      go : (b : Bool) → length {A = X} (cond b (x ∷ []) []) ≡ cond b 1 0
      go true = refl
      go false = refl

  few_passing : (xs : List X) → length (filter F xs) ≤ length xs
  few_passing [] = omega arith
  few_passing (x ∷ xs) = go (F x) (few_passing xs)
    where
      go : (b : Bool) → length (filter F xs) ≤ length xs → length (cond b (x ∷ filter F xs) (filter F xs)) ≤ suc (length xs)
      go true h = omega (arith, h)
      go false h = omega (arith, h)

  pub counted_next : (xs : List X) (i : ℕ) (x : X) (r : Bool) → i < length xs → x ≡ get_or xs i x → F x ≡ r → length (filter F (take (i + 1) xs)) ≡ length (filter F (take i xs)) + cond r 1 0
  counted_next xs i x r l at e = ap (λ ys. length (filter F ys)) (take_more xs i x l) ∙ count_next (take i xs) (get_or xs i x) ∙ ap (λ b. length (filter F (take i xs)) + cond b 1 0) (ap F (sym at) ∙ e)

  -- no more of the first members pass than there are
  pub few_counted : (xs : List X) (i : ℕ) → length (filter F (take i xs)) ≤ i
  few_counted xs i = omega (arith, few_passing (take i xs), length-take i xs)

-- ---- dead nodes

empty_is : (l : List Name) → no_members l ≡ is_empty l
empty_is [] = refl
empty_is (p ∷ l) = refl

dead_is : (x : Node (List Name)) → is_dead (plain_node x) ≡ is_dead_under {L = List Name} {K = List Name} (λ log l. l) [] x
dead_is x = ap₂ (λ (a b : Bool). a && b) (empty_is x.rule0) (ap₂ (λ (a b : Bool). a && b) (empty_is x.rule1) (empty_is x.equation))

module _ (xs : List (Node (List Name))) (i : ℕ) where
  -- one node more
  pub dead_next : (log : List Name) (r : Bool) → option_map (is_dead_under {L = List Name} {K = List Name} (λ log l. l) log) (slice_get xs i) ≡ Some r
      → length (filter is_dead (plain_nodes (take (i + 1) xs))) ≡ length (filter is_dead (plain_nodes (take i xs))) + cond r 1 0
  dead_next log r e =
      let x = some_of_map (is_dead_under {L = List Name} {K = List Name} (λ log l. l) log) (slice_get xs i) r e in
      let at : get_or xs i x.0 ≡ x.0 = get_or_from_slice_get xs i x.0 x.0 x.1 in
      ap (λ ys. length (filter is_dead (plain_nodes ys))) (take_more xs i x.0 (slice_get_within xs i x.0 x.1))
      ∙ ap (λ ys. length (filter is_dead ys)) (map-append plain_node (take i xs) (get_or xs i x.0 ∷ []))
      ∙ count_next is_dead (plain_nodes (take i xs)) (plain_node (get_or xs i x.0))
      ∙ ap (λ (b : Bool). length (filter is_dead (plain_nodes (take i xs))) + cond b 1 0) (ap (λ y. is_dead (plain_node y)) at ∙ dead_is x.0 ∙ x.2)

  pub dead_few : length (filter is_dead (plain_nodes (take i xs))) ≤ i
  dead_few = omega (arith, few_passing is_dead (plain_nodes (take i xs)), length-map (take i xs) plain_node, length-take i xs)

-- ---- rules

numbers_next : (n k : ℕ) → numbers_from n (suc k) ≡ numbers_from n k ++ (n + k) ∷ []
numbers_next n zero = let e : n ≡ n + 0 = omega arith in ap (λ m. m ∷ []) e
numbers_next n (suc k) = let e : (n + 1) + k ≡ n + suc k = omega arith in ap (n ∷◌) (numbers_next (n + 1) k ∙ ap (λ m. numbers_from (n + 1) k ++ m ∷ []) e)

directions_next : (k : ℕ) → flat_map directions (numbers_from 0 (k + 1)) ≡ flat_map directions (numbers_from 0 k) ++ directions k
directions_next k =
    ap (λ m. flat_map directions (numbers_from 0 m)) (add-one k) ∙ ap (flat_map directions) (numbers_next 0 k ∙ ap (λ m. numbers_from 0 k ++ m ∷ []) (zero-add k))
    ∙ flat_map-append directions (numbers_from 0 k) (k ∷ []) ∙ ap (λ ds. flat_map directions (numbers_from 0 k) ++ ds) (append-nil (directions k))

-- the rules of the first nodes
abbrev pub so_far : Plain → Name → ℕ → ℕ
so_far b p k = length {A = RuleRef} (filter (is_rule b p) (flat_map directions (numbers_from 0 k)))

-- those of one node more
pub rules_counted : (b : Plain) (p : Name) (k : ℕ) → so_far b p (k + 1) ≡ so_far b p k + cond (is_rule b p (record { node = k; dir = 0 })) 1 0 + cond (is_rule b p (record { node = k; dir = 1 })) 1 0
rules_counted b p k =
    ap (λ ds. length {A = RuleRef} (filter F ds)) (directions_next k) ∙ ap length (filter-append F before (directions k)) ∙ length-append (filter F before) (filter F (directions k))
    ∙ ap (λ n. length (filter F before) + n) (go (F (record { node = k; dir = 0 })) (F (record { node = k; dir = 1 }))) ∙ more
  where
    F : RuleRef → Bool
    F = is_rule b p

    before : List RuleRef
    before = flat_map directions (numbers_from 0 k)

    go : (x y : Bool) → length {A = RuleRef} (cond x (record { node = k; dir = 0 } ∷ cond y (record { node = k; dir = 1 } ∷ []) []) (cond y (record { node = k; dir = 1 } ∷ []) [])) ≡ cond x 1 0 + cond y 1 0
    go true true = refl
    go true false = refl
    go false true = refl
    go false false = refl

    more : length (filter F before) + (cond (F (record { node = k; dir = 0 })) 1 0 + cond (F (record { node = k; dir = 1 })) 1 0) ≡ length (filter F before) + cond (F (record { node = k; dir = 0 })) 1 0 + cond (F (record { node = k; dir = 1 })) 1 0
    more = omega arith

at_most_one : (x : Bool) → cond x 1 0 ≤ 1
at_most_one true = omega arith
at_most_one false = omega arith

-- they are at most twice as many as the nodes
pub rules_most : (b : Plain) (p : Name) (k : ℕ) → so_far b p k ≤ k + k
rules_most b p zero = omega arith
rules_most b p (suc k) =
    subst (λ n. so_far b p n ≤ n + n) (add-one k)
    (omega (arith, rules_counted b p k, rules_most b p k, at_most_one (is_rule b p (record { node = k; dir = 0 })), at_most_one (is_rule b p (record { node = k; dir = 1 }))))
