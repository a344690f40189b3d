-- The members of a family: their interpretations are positive, and what they order is a rule.
use Rattle.std.proofs.Common.{ℕ, Option, Some, None, zero-lt-suc, suc-le-suc, zero, suc, ◌+◌, ◌*◌, ◌≡◌, ◌≤◌, ◌⊎◌, inl, inr, refl, ap, ap₂, subst, arith, List, [], ◌∷◌, ◌++◌, map, All, Contains, length, cond, ◌==◌, replicate, ⊎_elim, flat_map, filter, not, sym, ◌∙◌, ◌<◌}
use Rattle.std.specs.List.{AllZip, range_with_len}
use Rattle.std.proofs.lemmas.List.Elements.{All-contains, All-weaker, Contains-append_cases, Contains-append_left}
use Rattle.std.proofs.lemmas.Bool.{cond-true, cond-false, ne_eqb, eq-eqb}
use Rattle.kb_linear.proofs.Ready.{interpretation_fits}
use Rattle.kb_lemmas.proofs.Membership.{listed_or_not, contains_cases, contains_first, contains_flat_map_back, contains_map}
use Rattle.kb_term.specs.Tree.{Tree, variable, apply, Trees, no_trees, more_trees, list_of, variables_of}
use Rattle.kb_term.specs.Rule.{Rule, IsRule}
use Rattle.kb_term.specs.Signature.{Signature, SymbolEntry, IsWellFormed, AreWellFormed, IsRuleOver}
use Rattle.kb_term.specs.Proving.{IsTerminating}
use Rattle.kb_linear.specs.LinearOrder.{Interpretation, linear_value, weighted_sum, LinearGreater, IsInterpretationOf}
use Rattle.kb_linear.specs.Interpretations.{choices, rows, interpretations_to, interpretations_up_to, interpretations, LinearOrients}
use Rattle.kb_lpo.specs.Precedences.{arrangements, precedences}
use Rattle.kb_kbo.specs.KnuthBendix.{KboOrder, KboGreater}
use Rattle.kb_kbo.specs.KnuthBendixLaws.{HasWeights}
use Rattle.kb_kbo.specs.Orders.{kbo_orders}
use Rattle.kb_kbo.proofs.KboLaws.{kbo_chain}
use Rattle.kb_kbo.proofs.KboHalting.{kbo_rule, terminating_by_kbo}
use Rattle.kb_kbo.proofs.KboMembers.{order_weighs}
use Rattle.kb_cert.specs.Family.{family, IsMember, Orders, IsOrderable}
use Rattle.kb_cert.specs.declared.family.Family.{Family}
use Rattle.kb_cert.specs.declared.family.Family.TheVariants.{Stated}
use Rattle.kb_cert.proofs.Ordering.{nothing_ordered, all_from}
use Rattle.kb_cert.specs.declared.certificate.Certificate.{Certificate}
use Rattle.kb_cert.specs.declared.certificate.Certificate.TheVariants.{Lpo, Linear, Kbo}
use Rattle.kb_term.proofs.Steps.{Step, Occurs, OccursIn, occurs_from, occurs_to}
use Rattle.kb_term.proofs.Relation.{Steps}
use Rattle.kb_term.proofs.Bridge.{halts_to}
use Rattle.kb_lpo.proofs.Arities.{keeps_well}
use Rattle.kb_lpo.proofs.PathOrderLaws.{lpo_rule, terminating_by_lpo}
use Rattle.kb_lpo.specs.PathOrder.{LpoGreater}
use Rattle.kb_lpo.proofs.Lpo.{path_from_lpo, lpo_from_path}
use Rattle.kb_lpo.proofs.LpoLaws.{chain_greater}
use Rattle.kb_linear.proofs.Sorted.{contains_map_back, choices_from}
use Rattle.kb_linear.proofs.LinearHalting.{row_of, Fits, row_fits, linear_halts, chain_linear}

coefficients_fit : (n : ℕ) (cs : List ℕ) → AllZip (λ xs y. Contains xs y) (replicate n (1 ∷ 2 ∷ [])) cs → Fits n (0, cs)
coefficients_fit zero [] h = (refl, λ k d l. absurd (omega arith))
coefficients_fit zero (c ∷ cs) h = absurd h
coefficients_fit (suc n) [] h = absurd h
coefficients_fit (suc n) (c ∷ cs) h = let r = coefficients_fit n cs h.1 in (ap suc r.0, λ k d l. go r.1 k d l)
  where
    first : 1 ≤ c
    first = ⊎_elim (λ e. omega arith) (λ d. ⊎_elim (λ e. omega arith) (λ f. absurd (omega arith)) (contains_cases 2 [] c d)) (contains_cases 1 (2 ∷ []) c h.0)

    go : All (λ c. 1 ≤ c) cs → All (λ c. 1 ≤ c) (c ∷ cs)
    go r zero d l = first
    go r (suc k) d l = r k d (omega arith)

row_fit : (top n : ℕ) (row : ℕ × List ℕ) → Contains (rows top n) row → Fits n row
row_fit top n row c =
    let r = contains_flat_map_back (λ x. map (λ cs. (x, cs)) (choices (replicate n (1 ∷ 2 ∷ [])))) (range_with_len 0 (top + 1)) row c in
    let q = contains_map_back (λ cs. (r.0, cs)) (choices (replicate n (1 ∷ 2 ∷ []))) row r.2 in
    subst (Fits n) q.2 (coefficients_fit n q.0 (choices_from (replicate n (1 ∷ 2 ∷ [])) q.0 q.1))

rows_fit : (top : ℕ) (g : Signature) (i : Interpretation) → AllZip (λ xs y. Contains xs y) (map (λ (f : SymbolEntry). rows top f.arity) g) i → IsInterpretationOf g i
rows_fit top [] [] h = tt
rows_fit top [] (row ∷ i) h = absurd h
rows_fit top (f ∷ g) [] h = absurd h
rows_fit top (f ∷ g) (row ∷ i) h = (row_fit top f.arity row h.0, rows_fit top g i h.1)

interpretation_to : (g : Signature) (top : ℕ) (i : Interpretation) → Contains (interpretations_to g top) i → IsInterpretationOf g i
interpretation_to g top i c = rows_fit top g i (choices_from (map (λ (f : SymbolEntry). rows top f.arity) g) i c)

interpretation_up_to : (g : Signature) (top : Option ℕ) (i : Interpretation) → Contains (interpretations_up_to g top) i → IsInterpretationOf g i
interpretation_up_to g None i c = absurd (omega arith)
interpretation_up_to g (Some top) i c = interpretation_to g top i c

no_member : {X : Type 0} (f : X → Certificate) (xs : List X) (c : Certificate) → ((x : X) → ¬ (f x ≡ c)) → ¬ Contains (map f xs) c
no_member f xs c differs i = let r = contains_map_back f xs c i in differs r.0 r.2

-- there is one family
pub one_family : (f : Family) → f ≡ Stated
one_family Stated = refl

-- where a member stands in its family
member_cases : (g : Signature) (c : Certificate) → IsMember g c → Contains (map Lpo (precedences (length g))) c ⊎ (Contains (map Linear (interpretations g)) c ⊎ Contains (map Kbo (kbo_orders g)) c)
member_cases g c (Stated, m) =
    ⊎_elim (λ i. inl i) (λ i. inr (Contains-append_cases (map Linear (interpretations g)) (map Kbo (kbo_orders g)) c i)) (Contains-append_cases (map Lpo (precedences (length g))) (map Linear (interpretations g) ++ map Kbo (kbo_orders g)) c m)

pub member_fits : (g : Signature) (i : Interpretation) → IsMember g (Linear i) → IsInterpretationOf g i
member_fits g i m =
    ⊎_elim (λ d. absurd (no_member Lpo (precedences (length g)) (Linear i) (λ x e. cc) d))
    (λ d. ⊎_elim (λ b. let r = contains_map_back Linear (interpretations g) (Linear i) b in let e : r.0 ≡ i = cc in interpretation_fits g i (subst (Contains (interpretations g)) e r.1))
    (λ b. absurd (no_member Kbo (kbo_orders g) (Linear i) (λ x e. cc) b)) d)
    (member_cases g (Linear i) m)

pub member_weighs : (g : Signature) (o : KboOrder) → IsMember g (Kbo o) → HasWeights o
member_weighs g o m =
    ⊎_elim (λ d. absurd (no_member Lpo (precedences (length g)) (Kbo o) (λ x e. cc) d))
    (λ d. ⊎_elim (λ b. absurd (no_member Linear (interpretations g) (Kbo o) (λ x e. cc) b))
    (λ b. let r = contains_map_back Kbo (kbo_orders g) (Kbo o) b in let e : r.0 ≡ o = cc in order_weighs g o (subst (Contains (kbo_orders g)) e r.1)) d)
    (member_cases g (Kbo o) m)

-- the value of a term hangs on its variables, and is at least that of each
mutual
  value_agree : (i : Interpretation) (a b : ℕ → ℕ) (t : Tree) → ((x : ℕ) → Occurs x t → a x ≡ b x) → linear_value i a t ≡ linear_value i b t
  value_agree i a b (variable n) h = h n refl
  value_agree i a b (apply f ts) h = ap (λ x. (row_of i f).0 + x) (sum_agree i a b ts (row_of i f).1 h)

  sum_agree : (i : Interpretation) (a b : ℕ → ℕ) (ts : Trees) (cs : List ℕ) → ((x : ℕ) → OccursIn x ts → a x ≡ b x) → weighted_sum i a ts cs ≡ weighted_sum i b ts cs
  sum_agree i a b no_trees cs h = refl
  sum_agree i a b (more_trees t ts) [] h = refl
  sum_agree i a b (more_trees t ts) (c ∷ cs) h = ap₂ (λ x y. c * x + y) (value_agree i a b t (λ x o. h x (inl o))) (sum_agree i a b ts cs (λ x o. h x (inr o)))

at_least : (c x y z : ℕ) → 1 ≤ c → x ≤ y → x ≤ c * y + z
at_least c x y z p h = grind arith

mutual
  value_least : (g : Signature) (i : Interpretation) → IsInterpretationOf g i → (a : ℕ → ℕ) (x : ℕ) (t : Tree) → IsWellFormed g t → Occurs x t → a x ≤ linear_value i a t
  value_least g i fit a x (variable n) w o = let e : a n ≡ a x = ap a o in omega arith
  value_least g i fit a x (apply f ts) w o = let r = row_fits g i fit f (length (list_of ts)) w.0 in let q = sum_least g i fit a x ts (row_of i f).1 w.1 r.0 r.1 o in omega arith

  sum_least : (g : Signature) (i : Interpretation) → IsInterpretationOf g i → (a : ℕ → ℕ) (x : ℕ) (ts : Trees) (cs : List ℕ) → AreWellFormed g ts → length cs ≡ length (list_of ts) → All (λ c. 1 ≤ c) cs → OccursIn x ts → a x ≤ weighted_sum i a ts cs
  sum_least g i fit a x no_trees cs w e p o = absurd o
  sum_least g i fit a x (more_trees t ts) [] w e p o = absurd (omega arith)
  sum_least g i fit a x (more_trees t ts) (c ∷ cs) w e p (inl o) = at_least c (a x) (linear_value i a t) (weighted_sum i a ts cs) (p 0 0 (zero-lt-suc _)) (value_least g i fit a x t w.0 o)
  sum_least g i fit a x (more_trees t ts) (c ∷ cs) w e p (inr o) = let q = sum_least g i fit a x ts cs w.1 (omega arith) (λ k d l. p (suc k) d (suc-le-suc l)) o in omega arith

pub linear_variables : (g : Signature) (i : Interpretation) → IsInterpretationOf g i → (s t : Tree) → IsWellFormed g t → LinearGreater i s t → (x : ℕ) → Contains (variables_of t) x → Contains (variables_of s) x
linear_variables g i fit s t w h x c = ⊎_elim (λ d. d) (λ n. absurd (go n)) (listed_or_not (variables_of s) x)
  where
    big : ℕ → ℕ
    big y = cond (y == x) (linear_value i (λ z. 0) s) 0

    go : (Contains (variables_of s) x → ⊥) → ⊥
    go n =
        let e : linear_value i big s ≡ linear_value i (λ z. 0) s = value_agree i big (λ z. 0) s (λ y o. cond-false (y == x) (linear_value i (λ z. 0) s) 0 (ne_eqb y x (λ q. n (subst (Contains (variables_of s)) q (occurs_to y s o))))) in
        let l : big x ≤ linear_value i big t = value_least g i fit big x t w (occurs_from x t c) in
        let b : big x ≡ linear_value i (λ z. 0) s = cond-true (x == x) (linear_value i (λ z. 0) s) 0 (eq-eqb x x refl) in
        let k = h big in
        omega arith

linear_rule : (g : Signature) (i : Interpretation) → IsInterpretationOf g i → (r : Rule) → IsWellFormed g r.right → LinearGreater i r.left r.right → IsRule r
linear_rule g i fit r w h = record {
  no_variable = λ n e. let k = h (λ z. 0) in let q : linear_value i (λ z. 0) r.left ≡ 0 = ap (linear_value i (λ z. 0)) e in omega arith;
  holds_variables = linear_variables g i fit r.left r.right w h;
}

-- what an interpretation of the signature orders are rules
pub linear_rules : (g : Signature) (i : Interpretation) → IsInterpretationOf g i → (rules : List Rule) → All (λ (r : Rule). IsWellFormed g r.right) rules → LinearOrients i rules → All IsRule rules
linear_rules g i fit rules well h = λ k d l. linear_rule g i fit _ (well k d l) (h k d l)

-- so is what a member of a family orders
pub ordered_rules : (g : Signature) (c : Certificate) → IsMember g c → (rules : List Rule) → All (λ (r : Rule). IsWellFormed g r.right) rules → Orders c rules → All IsRule rules
ordered_rules g (Lpo p) m rules well h = All-weaker (λ (r : Rule). LpoGreater p r.left r.right) IsRule (lpo_rule p) rules h
ordered_rules g (Linear i) m rules well h = linear_rules g i (member_fits g i m) rules well h
ordered_rules g (Kbo o) m rules well h = All-weaker (λ (r : Rule). KboGreater o r.left r.right) IsRule (kbo_rule o (member_weighs g o m)) rules h

-- the numbers from n on, without a lesser one, are all
filter_range : (x n k : ℕ) → x < n → filter (λ y. not (y == x)) (range_with_len n k) ≡ range_with_len n k
filter_range x n zero h = refl
filter_range x n (suc k) h =
    cond-true (not (n == x)) (n ∷ filter (λ y. not (y == x)) (range_with_len (n + 1) k)) (filter (λ y. not (y == x)) (range_with_len (n + 1) k)) (ap not (ne_eqb n x (λ e. omega arith)))
    ∙ ap (λ ys. n ∷ ys) (filter_range x (n + 1) k (omega arith))

filter_first : (n k : ℕ) → filter (λ y. not (y == n)) (range_with_len n (suc k)) ≡ range_with_len (n + 1) k
filter_first n k =
    cond-false (not (n == n)) (n ∷ filter (λ y. not (y == n)) (range_with_len (n + 1) k)) (filter (λ y. not (y == n)) (range_with_len (n + 1) k)) (ap not (eq-eqb n n refl))
    ∙ filter_range n (n + 1) k (omega arith)

arranged : (k n : ℕ) → Contains (arrangements k (range_with_len n k)) (range_with_len n k)
arranged zero n = contains_first [] []
arranged (suc k) n =
    let xs : List ℕ = range_with_len n (suc k) in
    Contains-append_left (map (n ∷◌) (arrangements k (filter (λ y. not (y == n)) xs))) (flat_map (λ x. map (x ∷◌) (arrangements k (filter (λ y. not (y == x)) xs))) (range_with_len (n + 1) k)) xs
    (contains_map (n ∷◌) (arrangements k (filter (λ y. not (y == n)) xs)) (range_with_len (n + 1) k) (subst (λ ys. Contains (arrangements k ys) (range_with_len (n + 1) k)) (sym (filter_first n k)) (arranged k (n + 1))))

-- each family has a member for each signature
stated_member : (g : Signature) → Contains (family Stated g) (Lpo (range_with_len 0 (length g)))
stated_member g = Contains-append_left (map Lpo (precedences (length g))) (map Linear (interpretations g) ++ map Kbo (kbo_orders g)) (Lpo (range_with_len 0 (length g))) (contains_map Lpo (precedences (length g)) (range_with_len 0 (length g)) (arranged (length g) 0))

pub some_member : (f : Family) (g : Signature) → (c : Certificate) × Contains (family f g) c
some_member Stated g = (Lpo (range_with_len 0 (length g)), stated_member g)

pub first_member : (g : Signature) → IsMember g (Lpo (range_with_len 0 (length g)))
first_member g = (Stated, stated_member g)

pub nothing_orderable : (g : Signature) → IsOrderable g []
nothing_orderable g = (Lpo (range_with_len 0 (length g)), first_member g, nothing_ordered (Lpo (range_with_len 0 (length g))))

-- rules that are chains of ordered ones are ordered
pub chains_ordered : (g : Signature) (c : Certificate) → IsMember g c → (qs rs : List Rule) → All (IsRuleOver g) qs → ((r : Rule) → Contains rs r → IsWellFormed g r.left × ((n : ℕ) × Steps (Step (Contains qs)) (suc n) r.left r.right)) → Orders c qs → Orders c rs
chains_ordered g (Lpo p) m qs rs over chained h = all_from (λ (r : Rule). LpoGreater p r.left r.right) rs (λ r i.
    let k = (chained r i).1 in
    lpo_from_path p (chain_greater p (Contains qs) (λ q j. path_from_lpo p (All-contains (λ (q : Rule). LpoGreater p q.left q.right) qs q h j)) k.0 r.left r.right k.1))
chains_ordered g (Linear i) m qs rs over chained h = all_from (λ (r : Rule). LinearGreater i r.left r.right) rs (λ r j.
    let k = chained r j in
    chain_linear g i (Contains qs) (member_fits g i m) (λ q o. All-contains (λ (q : Rule). LinearGreater i q.left q.right) qs q h o) (keeps_well g qs over) k.1.0 r.left r.right k.0 k.1.1)
chains_ordered g (Kbo o) m qs rs over chained h = all_from (λ (r : Rule). KboGreater o r.left r.right) rs (λ r i.
    let k = (chained r i).1 in
    kbo_chain o (member_weighs g o m) (Contains qs) (λ q j. All-contains (λ (q : Rule). KboGreater o q.left q.right) qs q h j) k.0 r.left r.right k.1)

-- what a member of a family orders is terminating
pub terminating_by_member : (g : Signature) (c : Certificate) → IsMember g c → (rules : List Rule) → All (IsRuleOver g) rules → Orders c rules → IsTerminating g rules
terminating_by_member g (Lpo p) m rules over h = terminating_by_lpo p g rules over h
terminating_by_member g (Linear n) m rules over h = λ t w. halts_to rules t (linear_halts g n (Contains rules) (member_fits g n m) (λ r j. All-contains (λ r. LinearGreater n r.left r.right) rules r h j) (keeps_well g rules over) t w)
terminating_by_member g (Kbo o) m rules over h = terminating_by_kbo g o (member_weighs g o m) rules over h
