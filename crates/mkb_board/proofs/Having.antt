-- How a process has a node, by its labels and as it is kept.
use Rattle.std.proofs.Common.{ℕ, zero, suc, ◌<◌, ◌≡◌, ◌++◌, ◌||◌, refl, sym, ap, ap₂, ◌∙◌, arith, subst, List, [], ◌∷◌, length, map, filter, flat_map, get_or, Contains, Bool, true, false, cond}
use Rattle.std.proofs.lemmas.List.{map-append}
use Rattle.std.proofs.lemmas.List.Elements.{filter-append}
use Rattle.std.proofs.lemmas.Bool.{or_parts}
use Rattle.kb_lemmas.proofs.Membership.{contains_behind, contains_first}
use Rattle.kb_label.specs.Names.{Name, has}
use Rattle.kb_term.specs.declared.origin.RuleRef.{RuleRef}
use Rattle.kb_node.specs.declared.node.NodeId.{NodeId}
use Rattle.mkb_model.specs.Plain.{Plain, constraints_of, directions, equations_of, is_constraint, is_equation, is_rule, node_numbers, rules_of}
use Rattle.mkb_model.proofs.Lists.{filter_in, numbers_in}
use Rattle.mkb_rules.specs.Sizes.{is_dead_at, AreAlive}
use Rattle.mkb_rules.specs.Constrained.{is_free_at, AreConstrained}
use Rattle.mkb_rules.proofs.Paying.{dead_labels, free_labels}
use Rattle.mkb_rules.specs.Roles.{held_of, is_in_use, roles_of, rules_in}

-- the rules of whoever has the node so are those that the process has in it
pub rules_of_roles : (b : Plain) (p : Name) (n : ℕ) → rules_in n (roles_of b p n) ≡ filter (is_rule b p) (directions n)
rules_of_roles b p n = go (is_rule b p forth) (is_rule b p back)
  where
    forth : RuleRef
    forth = record { node = n; dir = 0 }

    back : RuleRef
    back = record { node = n; dir = 1 }

    go : (x y : Bool) → cond x (forth ∷ []) [] ++ cond y (back ∷ []) [] ≡ cond x (forth ∷ cond y (back ∷ []) []) (cond y (back ∷ []) [])
    go true true = refl
    go true false = refl
    go false true = refl
    go false false = refl

-- ---- nodes that nobody has, or not this process

-- nobody has a dead node
pub dead_unused : (b : Plain) (p : Name) (n : ℕ) → is_dead_at b.nodes n ≡ true → is_in_use (roles_of b p n) ≡ false
dead_unused b p n e = let d = dead_labels b.nodes n p e in ap₂ (λ (x y : Bool). x || y) d.0 (ap₂ (λ (x y : Bool). x || y) d.1.0 d.1.1)

-- whoever doesn't have a node has no rule in it
unused_rules : (b : Plain) (p : Name) (n : ℕ) → is_in_use (roles_of b p n) ≡ false → filter (is_rule b p) (directions n) ≡ []
unused_rules b p n e =
    let one = or_parts (is_equation b p n) (is_rule b p (record { node = n; dir = 0 }) || is_rule b p (record { node = n; dir = 1 })) e in
    let two = or_parts (is_rule b p (record { node = n; dir = 0 })) (is_rule b p (record { node = n; dir = 1 })) one.1 in
    sym (rules_of_roles b p n) ∙ ap₂ (λ (x y : Bool). cond x (record { node = n; dir = 0 } ∷ []) [] ++ cond y (record { node = n; dir = 1 } ∷ []) []) two.0 two.1

-- in a node without constraints the process has none
no_constraints : (b : Plain) (p : Name) (n : ℕ) → is_free_at b.nodes n ≡ true → filter (is_constraint b p) (directions n) ≡ []
no_constraints b p n e =
    let forth : RuleRef = record { node = n; dir = 0 } in
    let back : RuleRef = record { node = n; dir = 1 } in
    let d = free_labels b.nodes n p e in
    ap₂ (λ (x y : Bool). cond x (forth ∷ cond y (back ∷ []) []) (cond y (back ∷ []) [])) d.0 d.1

-- ---- lists of nodes

module _ (used : ℕ → Bool) where
  -- what is kept of those that were kept
  pub filter_kept : (has : ℕ → Bool) → ((n : ℕ) → has n ≡ false → used n ≡ false) → (xs : List ℕ) → filter used (filter has xs) ≡ filter used xs
  filter_kept has none [] = refl
  filter_kept has none (x ∷ xs) = go (has x) refl (filter_kept has none xs)
    where
      go : (t : Bool) → has x ≡ t → filter used (filter has xs) ≡ filter used xs → filter used (cond t (x ∷ filter has xs) (filter has xs)) ≡ cond (used x) (x ∷ filter used xs) (filter used xs)
      go true e ih = ap (λ (l : List ℕ). cond (used x) (x ∷ l) l) ih
      go false e ih = ih ∙ sym (ap (λ (u : Bool). cond u (x ∷ filter used xs) (filter used xs)) (none x e))

  -- the rules are those in them
  pub rules_kept : (t : RuleRef → Bool) → ((n : ℕ) → used n ≡ false → filter t (directions n) ≡ []) → (xs : List ℕ) → filter t (flat_map directions (filter used xs)) ≡ filter t (flat_map directions xs)
  rules_kept t none [] = refl
  rules_kept t none (x ∷ xs) = go (used x) refl (rules_kept t none xs)
    where
      whole : filter t (flat_map directions (x ∷ xs)) ≡ filter t (directions x) ++ filter t (flat_map directions xs)
      whole = filter-append t (directions x) (flat_map directions xs)

      go : (u : Bool) → used x ≡ u → filter t (flat_map directions (filter used xs)) ≡ filter t (flat_map directions xs) → filter t (flat_map directions (cond u (x ∷ filter used xs) (filter used xs))) ≡ filter t (flat_map directions (x ∷ xs))
      go true e ih = filter-append t (directions x) (flat_map directions (filter used xs)) ∙ ap (λ (l : List RuleRef). filter t (directions x) ++ l) ih ∙ sym whole
      go false e ih = ih ∙ sym (ap (λ (l : List RuleRef). l ++ filter t (flat_map directions xs)) (none x e)) ∙ sym whole

-- the rules of a process are those in the nodes that it has
pub rules_held : (b : Plain) (p : Name) → filter (is_rule b p) (flat_map directions (held_of b p)) ≡ rules_of b p
rules_held b p = rules_kept (λ n. is_in_use (roles_of b p n)) (is_rule b p) (unused_rules b p) (node_numbers b)

-- the nodes that a process has are those of the nodes that aren't dead
pub held_alive : (b : Plain) (p : Name) (l : List NodeId) → AreAlive b.nodes l → filter (λ n. is_in_use (roles_of b p n)) (map (λ (n : NodeId). n.0) l) ≡ held_of b p
held_alive b p l a = ap (filter (λ n. is_in_use (roles_of b p n))) a.is ∙ filter_kept (λ n. is_in_use (roles_of b p n)) a.has (λ n e. dead_unused b p n (a.others n e)) (node_numbers b)

-- its constraints are those in the nodes outside of which nobody has one
pub constraints_listed : (b : Plain) (p : Name) (l : List NodeId) → AreConstrained b.nodes l → filter (is_constraint b p) (flat_map directions (map (λ (n : NodeId). n.0) l)) ≡ constraints_of b p
constraints_listed b p l a = ap (λ (xs : List ℕ). filter (is_constraint b p) (flat_map directions xs)) a.is ∙ rules_kept a.has (is_constraint b p) (λ n e. no_constraints b p n (a.others n e)) (node_numbers b)

-- its equations are those of the nodes that it has
pub equations_held : (b : Plain) (p : Name) → filter (is_equation b p) (held_of b p) ≡ equations_of b p
equations_held b p = filter_kept (is_equation b p) (λ n. is_in_use (roles_of b p n)) (λ n e. (or_parts (is_equation b p n) (is_rule b p (record { node = n; dir = 0 }) || is_rule b p (record { node = n; dir = 1 })) e).0) (node_numbers b)

-- one node more, where it serves
pub listed_next : (serves : ℕ → Bool) (held : List NodeId) (xs : List ℕ) (n : NodeId) → map (λ (k : NodeId). k.0) held ≡ filter serves xs
    → map (λ (k : NodeId). k.0) (held ++ cond (serves n.0) (n ∷ []) []) ≡ filter serves (xs ++ n.0 ∷ [])
listed_next serves held xs n e =
    map-append (λ (k : NodeId). k.0) held (cond (serves n.0) (n ∷ []) [])
    ∙ ap₂ (λ (l m : List ℕ). l ++ m) e (go (serves n.0))
    ∙ sym (filter-append serves xs (n.0 ∷ []))
  where
    go : (t : Bool) → map (λ (k : NodeId). k.0) (cond t (n ∷ []) []) ≡ cond t (n.0 ∷ []) []
    go true = refl
    go false = refl

-- ---- a node of a list of numbers

listed_at : (l : List NodeId) (i : ℕ) (d : NodeId) → i < length l → Contains (map (λ (n : NodeId). n.0) l) (get_or l i d).0
listed_at [] i d h = absurd (omega (arith, h))
listed_at (x ∷ l) zero d h = contains_first x.0 (map (λ (n : NodeId). n.0) l)
listed_at (x ∷ l) (suc i) d h = contains_behind x.0 (map (λ (n : NodeId). n.0) l) (get_or l i d).0 (listed_at l i d (omega (arith, h)))

-- each is there
listed_there : (b : Plain) (t : ℕ → Bool) (l : List NodeId) (i : ℕ) (d : NodeId) → map (λ (n : NodeId). n.0) l ≡ filter t (node_numbers b) → i < length l → (get_or l i d).0 < length b.nodes
listed_there b t l i d e h =
    let m = (get_or l i d).0 in
    let within = numbers_in 0 (length b.nodes) m (filter_in t (node_numbers b) m (subst (λ (z : List ℕ). Contains z m) e (listed_at l i d h))).0 in
    omega (arith, within.1)

pub alive_there : (b : Plain) (l : List NodeId) (i : ℕ) (d : NodeId) → AreAlive b.nodes l → i < length l → (get_or l i d).0 < length b.nodes
alive_there b l i d a h = listed_there b a.has l i d a.is h

pub constrained_there : (b : Plain) (l : List NodeId) (i : ℕ) (d : NodeId) → AreConstrained b.nodes l → i < length l → (get_or l i d).0 < length b.nodes
constrained_there b l i d a h = listed_there b a.has l i d a.is h

pub held_there : (b : Plain) (p : Name) (l : List NodeId) (i : ℕ) (d : NodeId) → map (λ (n : NodeId). n.0) l ≡ held_of b p → i < length l → (get_or l i d).0 < length b.nodes
held_there b p l i d e h = listed_there b (λ n. is_in_use (roles_of b p n)) l i d e h
