-- The lists of nodes and rules of a process, when its roles in a node change and when a node comes.
use Rattle.std.proofs.lemmas.Bool.{eqb-true, lt-ltb}
use Rattle.std.proofs.Common.{ℕ, zero, suc, ◌+◌, ◌<◌, ◌≡◌, refl, sym, ap, ap₂, ◌∙◌, arith, subst, List, [], ◌∷◌, ◌++◌, length, map, filter, flat_map, set, get_or, cond, Bool, true, false, not, ◌≤◌}
use Rattle.std.specs.Prelude.{◌&&◌, ◌==◌, insert, nat_lt, remove, Ok, Err, Option, Some, IfSome}
use Rattle.std.specs.Ordering.{nat_cmp}
use Rattle.std.specs.List.Sorted.{IsBinarySearchResult}
use Rattle.std.proofs.lemmas.Grind.{flat_map-append}
use Rattle.std.proofs.lemmas.List.{get_or-set_same, get_or-set_other, length-set, map-append}
use Rattle.std.proofs.lemmas.List.Elements.{filter-append}
use Rattle.std.proofs.lemmas.List.Sums.{get_or-le-sum_by, sum_by-cons, sum_by-set}
use Rattle.kb_label.specs.Names.{Name, has}
use Rattle.kb_node.specs.declared.node.LabelKind.TheVariants.{R0, R1, E}
use Rattle.kb_node.specs.declared.node.NodeId.{NodeId}
use Rattle.kb_term.specs.declared.origin.RuleRef.{RuleRef}
use Rattle.mkb_model.specs.Plain.{Plain, PlainNode, directions, equations_of, is_equation, is_rule, label_at, numbers_from, rules_of}
use Rattle.mkb_model.specs.Sleeping.{no_members}
use Rattle.mkb_rules.specs.Roles.{but_for, has_rule, held_by, held_of, is_in_use, no_roles, roles_at, roles_of, rules_by, rules_in, AreRolesOf, equation_count}
use Rattle.mkb_rules.specs.declared.roles.Roles.{Roles}
use Rattle.mkb_rules.proofs.Costs.{numbers_next}
use Rattle.mkb_rules.proofs.Listing.{agreeing, apart}
use Rattle.mkb_rules.proofs.Placing.{answering, away, put, taken, there}

-- ---- what is kept, where it is

pub of_some : {X : Type 0} (P : X → Type 0) (o : Option X) (x : X) → o ≡ Some x → IfSome o P → P x
of_some {X} P o x e h = subst {A = Option X} (λ z. IfSome z P) e h

-- ---- tests that agree

-- tests that agree on the rules of these nodes let the same of them through
rules_agree : (t u : RuleRef → Bool) (a c : ℕ) → ((m : ℕ) → m < a + c → t (record { node = m; dir = 0 }) ≡ u (record { node = m; dir = 0 })) → ((m : ℕ) → m < a + c → t (record { node = m; dir = 1 }) ≡ u (record { node = m; dir = 1 }))
    → filter t (flat_map directions (numbers_from a c)) ≡ filter u (flat_map directions (numbers_from a c))
rules_agree t u a zero f s = refl
rules_agree t u a (suc c) f s =
    ap₂ (λ (b : Bool) (l : List RuleRef). cond b (record { node = a; dir = 0 } ∷ l) l) (f a (omega arith))
    (ap₂ (λ (b : Bool) (l : List RuleRef). cond b (record { node = a; dir = 1 } ∷ l) l) (s a (omega arith))
    (rules_agree t u (a + 1) c (λ m w. f m (omega (arith, w))) (λ m w. s m (omega (arith, w)))))

-- ---- the roles in a node change

module _ (row : List Roles) (n : ℕ) (r : Roles) (within : n < length row) where
  roles_now : (m : ℕ) → get_or (set row n r) m no_roles ≡ cond (m == n) r (get_or row m no_roles)
  roles_now m = go (m == n) refl
    where
      go : (b : Bool) → (m == n) ≡ b → get_or (set row n r) m no_roles ≡ cond b r (get_or row m no_roles)
      go true e = ap (λ (k : ℕ). get_or (set row n r) k no_roles) (eqb-true m n e) ∙ get_or-set_same row n r no_roles within
      go false e = get_or-set_other row n m r no_roles (apart m n e)

  pub held_set : held_by (set row n r) ≡ filter (answering (λ m. is_in_use (get_or row m no_roles)) n (is_in_use r)) (numbers_from 0 (length row))
  held_set =
      ap (λ (k : ℕ). filter (λ m. is_in_use (get_or (set row n r) m no_roles)) (numbers_from 0 k)) (length-set row n r)
      ∙ agreeing (λ m. is_in_use (get_or (set row n r) m no_roles)) (answering (λ m. is_in_use (get_or row m no_roles)) n (is_in_use r)) 0 (length row) (λ m g w. ap is_in_use (roles_now m) ∙ inside (m == n) (get_or row m no_roles))
    where
      inside : (b : Bool) (s : Roles) → is_in_use (cond b r s) ≡ cond b (is_in_use r) (is_in_use s)
      inside true s = refl
      inside false s = refl

  abbrev pub rule_before : RuleRef → Bool
  rule_before a = has_rule (get_or row a.node no_roles) a.dir

  abbrev pub first : RuleRef
  first = record { node = n; dir = 0 }

  abbrev pub second : RuleRef
  second = record { node = n; dir = 1 }

  pub rules_set : rules_by (set row n r) ≡ filter (but_for (but_for rule_before first r.first) second r.second) (flat_map directions (numbers_from 0 (length row)))
  rules_set =
      ap (λ (k : ℕ). filter (λ (a : RuleRef). has_rule (get_or (set row n r) a.node no_roles) a.dir) (flat_map directions (numbers_from 0 k))) (length-set row n r)
      ∙ rules_agree (λ (a : RuleRef). has_rule (get_or (set row n r) a.node no_roles) a.dir) (but_for (but_for rule_before first r.first) second r.second) 0 (length row)
      (λ m w. ap (λ s. has_rule s 0) (roles_now m) ∙ at_first (m == n) (get_or row m no_roles))
      (λ m w. ap (λ s. has_rule s 1) (roles_now m) ∙ at_second (m == n) (get_or row m no_roles))
    where
      at_first : (b : Bool) (s : Roles) → has_rule (cond b r s) 0 ≡ cond (b && false) r.second (cond (b && true) r.first (has_rule s 0))
      at_first true s = refl
      at_first false s = refl

      at_second : (b : Bool) (s : Roles) → has_rule (cond b r s) 1 ≡ cond (b && true) r.second (cond (b && false) r.first (has_rule s 1))
      at_second true s = refl
      at_second false s = refl

-- a list of the nodes that are in use, as a search for n in it told
module _ (row : List Roles) (n : NodeId) (r : Roles) (l : List NodeId) (within : n.0 < length row) (is : map (λ (m : NodeId). m.0) l ≡ held_by row) where
  abbrev number : NodeId → ℕ
  number m = m.0

  abbrev used : ℕ → Bool
  used m = is_in_use (get_or row m no_roles)

  abbrev Found : ℕ → Type 0
  Found i = IsBinarySearchResult (λ (m : NodeId). nat_cmp m.0 n.0) l (Ok i)

  abbrev Missed : ℕ → Type 0
  Missed i = IsBinarySearchResult (λ (m : NodeId). nat_cmp m.0 n.0) l (Err i)

  now : (t : Bool) → is_in_use r ≡ t → (k : List ℕ) → k ≡ filter (answering used n.0 t) (numbers_from 0 (length row)) → k ≡ held_by (set row n.0 r)
  now t e k h = h ∙ ap (λ (u : Bool). filter (answering used n.0 u) (numbers_from 0 (length row))) (sym e) ∙ sym (held_set row n.0 r within)

  pub held_put : (i : ℕ) → is_in_use r ≡ true → Missed i → map number (insert l i n) ≡ held_by (set row n.0 r)
  held_put i e search = now true e (map number (insert l i n)) (put number (λ m. record { 0 = m }) (λ m. refl) used l n.0 (length row) is within n i refl search)

  pub held_taken : (i : ℕ) → is_in_use r ≡ false → Found i → map number (remove l i) ≡ held_by (set row n.0 r)
  held_taken i e search = now false e (map number (remove l i)) (taken number (λ m. record { 0 = m }) (λ m. refl) used l n.0 (length row) is within i search)

  pub held_there : (i : ℕ) → is_in_use r ≡ true → Found i → map number l ≡ held_by (set row n.0 r)
  held_there i e search = now true e (map number l) (there number (λ m. record { 0 = m }) (λ m. refl) used l n.0 (length row) is within i search)

  pub held_away : (i : ℕ) → is_in_use r ≡ false → Missed i → map number l ≡ held_by (set row n.0 r)
  held_away i e search = now false e (map number l) (away number (λ m. record { 0 = m }) (λ m. refl) used l n.0 (length row) is within i search)

-- ---- a node comes

module _ (row : List Roles) (r : Roles) where
  earlier : (row : List Roles) (m : ℕ) → m < length row → get_or (row ++ r ∷ []) m no_roles ≡ get_or row m no_roles
  earlier [] m h = absurd (omega (arith, h))
  earlier (x ∷ row) zero h = refl
  earlier (x ∷ row) (suc m) h = earlier row m (omega (arith, h))

  last : (row : List Roles) → get_or (row ++ r ∷ []) (length row) no_roles ≡ r
  last [] = refl
  last (x ∷ row) = last row

  more : (row : List Roles) → length (row ++ r ∷ []) ≡ length row + 1
  more [] = refl
  more (x ∷ row) = omega (arith, more row)

  abbrev in_use : ℕ → Bool
  in_use m = is_in_use (get_or (row ++ r ∷ []) m no_roles)

  abbrev is_one : RuleRef → Bool
  is_one a = has_rule (get_or (row ++ r ∷ []) a.node no_roles) a.dir

  -- its number behind them, where it is in use
  pub held_longer : held_by (row ++ r ∷ []) ≡ held_by row ++ cond (is_in_use r) (length row ∷ []) []
  held_longer =
      ap (λ (k : ℕ). filter in_use (numbers_from 0 k)) (more row) ∙ ap (filter in_use) (numbers_next (length row))
      ∙ filter-append in_use (numbers_from 0 (length row)) (length row ∷ [])
      ∙ ap₂ (λ (l : List ℕ) (s : Roles). l ++ cond (is_in_use s) (length row ∷ []) []) (agreeing in_use (λ m. is_in_use (get_or row m no_roles)) 0 (length row) (λ m g w. ap is_in_use (earlier row m (omega (arith, w))))) (last row)

  -- its rules behind them
  pub rules_longer : rules_by (row ++ r ∷ []) ≡ rules_by row ++ (cond r.first (record { node = length row; dir = 0 } ∷ []) [] ++ cond r.second (record { node = length row; dir = 1 } ∷ []) [])
  rules_longer =
      ap (λ (k : ℕ). filter is_one (flat_map directions (numbers_from 0 k))) (more row) ∙ ap (λ (l : List ℕ). filter is_one (flat_map directions l)) (numbers_next (length row))
      ∙ ap (filter is_one) (flat_map-append directions (numbers_from 0 (length row)) (length row ∷ []))
      ∙ filter-append is_one (flat_map directions (numbers_from 0 (length row))) (flat_map directions (length row ∷ []))
      ∙ ap₂ (λ (l : List RuleRef) (s : Roles). l ++ cond s.first (forth ∷ cond s.second (back ∷ []) []) (cond s.second (back ∷ []) []))
      (rules_agree is_one (λ a. has_rule (get_or row a.node no_roles) a.dir) 0 (length row) (λ m w. ap (λ s. has_rule s 0) (earlier row m (omega (arith, w)))) (λ m w. ap (λ s. has_rule s 1) (earlier row m (omega (arith, w))))) (last row)
      ∙ ap (λ (l : List RuleRef). rules_by row ++ l) (apart_from r.first r.second)
    where
      forth : RuleRef
      forth = record { node = length row; dir = 0 }

      back : RuleRef
      back = record { node = length row; dir = 1 }

      apart_from : (x y : Bool) → cond x (forth ∷ cond y (back ∷ []) []) (cond y (back ∷ []) []) ≡ cond x (forth ∷ []) [] ++ cond y (back ∷ []) []
      apart_from true y = refl
      apart_from false y = refl

  pub held_pushed : (l : List NodeId) (n : NodeId) → n.0 ≡ length row → map (λ (m : NodeId). m.0) l ≡ held_by row → map (λ (m : NodeId). m.0) (l ++ cond (is_in_use r) (n ∷ []) []) ≡ held_by (row ++ r ∷ [])
  held_pushed l n e h =
      map-append (λ (m : NodeId). m.0) l (cond (is_in_use r) (n ∷ []) [])
      ∙ ap₂ (λ (k j : List ℕ). k ++ j) h (go (is_in_use r) ∙ ap (λ (k : ℕ). cond (is_in_use r) (k ∷ []) []) e)
      ∙ sym held_longer
    where
      go : (t : Bool) → map (λ (m : NodeId). m.0) (cond t (n ∷ []) []) ≡ cond t (n.0 ∷ []) []
      go true = refl
      go false = refl

  pub rules_pushed : (l : List RuleRef) (n : ℕ) → n ≡ length row → l ≡ rules_by row → l ++ rules_in n r ≡ rules_by (row ++ r ∷ [])
  rules_pushed l n e h = ap₂ (λ (k : List RuleRef) (m : ℕ). k ++ rules_in m r) h e ∙ sym rules_longer

-- ---- how many equations

abbrev counted : Roles → ℕ
counted r = cond r.equation 1 0

pub equations_set : (row : List Roles) (n : ℕ) (r was : Roles) → n < length row → was ≡ get_or row n was → equation_count (set row n r) + counted was ≡ equation_count row + counted r
equations_set row n r was within is = ap (λ s. equation_count (set row n r) + counted s) is ∙ sum_by-set counted row n r was within

pub equations_before : (row : List Roles) (n : ℕ) (was : Roles) → n < length row → was ≡ get_or row n was → counted was ≤ equation_count row
equations_before row n was within is = subst {A = Roles} (λ s. counted s ≤ equation_count row) (sym is) (get_or-le-sum_by counted row n was within)

pub equations_few : (row : List Roles) → equation_count row ≤ length row
equations_few [] = omega arith
equations_few (r ∷ row) = omega (arith, sum_by-cons counted r row, equations_few row, one r.equation)
  where
    one : (t : Bool) → cond t 1 0 ≤ 1
    one true = omega arith
    one false = omega arith

-- some node passes a test that agrees with the roles just where there is an equation
pub equations_some : (t : ℕ → Bool) (row : List Roles) (a : ℕ) → ((m : ℕ) → m < length row → (get_or row m no_roles).equation ≡ t (a + m)) → not (no_members (filter t (numbers_from a (length row)))) ≡ nat_lt 0 (equation_count row)
equations_some t [] a same = refl
equations_some t (r ∷ row) a same =
    go r.equation (same 0 (omega arith) ∙ ap t first) (sum_by-cons counted r row) (equations_some t row (a + 1) (λ m w. same (suc m) (omega (arith, w)) ∙ ap t (shifted m)))
  where
    left : List ℕ
    left = filter t (numbers_from (a + 1) (length row))

    first : a + 0 ≡ a
    first = omega arith

    shifted : (m : ℕ) → a + suc m ≡ a + 1 + m
    shifted m = omega arith

    go : (x : Bool) → x ≡ t a → equation_count (r ∷ row) ≡ cond x 1 0 + equation_count row → not (no_members left) ≡ nat_lt 0 (equation_count row)
        → not (no_members (cond (t a) (a ∷ left) left)) ≡ nat_lt 0 (equation_count (r ∷ row))
    go true e n h = ap (λ y. not (no_members (cond y (a ∷ left) left))) (sym e) ∙ sym (lt-ltb 0 (equation_count (r ∷ row)) (omega (arith, n)))
    go false e n h = ap (λ y. not (no_members (cond y (a ∷ left) left))) (sym e) ∙ h ∙ sym (ap (nat_lt 0) {y = equation_count row} (omega (arith, n)))

-- ---- the lists of all nodes

-- what is kept of a node is what its labels say
labelled : (xs : List PlainNode) (n : ℕ) (p : Name) → roles_at xs n p ≡ record { equation = has (label_at xs n E) p; first = has (label_at xs n R0) p; second = has (label_at xs n R1) p }
labelled [] n p = refl
labelled (x ∷ xs) zero p = refl
labelled (x ∷ xs) (suc n) p = labelled xs n p

module _ (b : Plain) (p : Name) (row : List Roles) (right : AreRolesOf b.nodes p row) (whole : length row ≡ length b.nodes) where
  roles_same : (m : ℕ) → m < length b.nodes → get_or row m no_roles ≡ roles_of b p m
  roles_same m w = right m (omega (arith, whole, w)) ∙ labelled b.nodes m p

  pub held_whole : held_by row ≡ held_of b p
  held_whole = ap (λ (k : ℕ). filter (λ m. is_in_use (get_or row m no_roles)) (numbers_from 0 k)) whole ∙ agreeing (λ m. is_in_use (get_or row m no_roles)) (λ m. is_in_use (roles_of b p m)) 0 (length b.nodes) (λ m g w. ap is_in_use (roles_same m (omega (arith, w))))

  pub rules_whole : rules_by row ≡ rules_of b p
  rules_whole =
      ap (λ (k : ℕ). filter (λ (a : RuleRef). has_rule (get_or row a.node no_roles) a.dir) (flat_map directions (numbers_from 0 k))) whole
      ∙ rules_agree (λ (a : RuleRef). has_rule (get_or row a.node no_roles) a.dir) (is_rule b p) 0 (length b.nodes) (λ m w. ap (λ s. has_rule s 0) (roles_same m (omega (arith, w)))) (λ m w. ap (λ s. has_rule s 1) (roles_same m (omega (arith, w))))

  pub equations_whole : nat_lt 0 (equation_count row) ≡ not (no_members (equations_of b p))
  equations_whole =
      sym (equations_some (is_equation b p) row 0 (λ m w. ap (λ s. s.equation) (roles_same m (omega (arith, whole, w))) ∙ ap (is_equation b p) (omega arith)))
      ∙ ap (λ (k : ℕ). not (no_members (filter (is_equation b p) (numbers_from 0 k)))) whole
