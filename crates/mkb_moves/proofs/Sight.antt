-- What a process sees of two boards is the same where each label names it alike; and its lists told by labels.
use Rattle.std.proofs.Common.{ℕ, zero, suc, ◌+◌, ◌≤◌, ◌≡◌, ◌↔◌, inl, inr, refl, sym, ap, ap₂, ◌∙◌, subst, arith, List, [], ◌∷◌, filter, flat_map, length, Contains, Bool, false, cond, ⊎_elim}
use Rattle.kb_lemmas.proofs.Membership.{contains_cases, none_in, contains_flat_map_back}
use Rattle.kb_lemmas.proofs.Lists.{filter_none_of}
use Rattle.kb_term.specs.declared.origin.RuleRef.{RuleRef}
use Rattle.kb_label.specs.Names.{Name, has}
use Rattle.kb_node.specs.declared.node.LabelKind.{LabelKind}
use Rattle.kb_node.specs.declared.node.LabelKind.TheVariants.{R0, R1, E, C0, C1}
use Rattle.mkb_model.specs.Plain.{Plain, PlainNode, label_at, rule_kind, constraint_kind, numbers_from, node_numbers, directions, is_equation, is_rule, is_constraint, equations_of, rules_of, constraints_of, view}
use Rattle.mkb_model.specs.Ready.{IsOn}
use Rattle.mkb_model.proofs.Lists.{filter_in, in_filter, in_numbers, numbers_in, same_test}
use Rattle.mkb_model.proofs.commits.Roles.{label_beyond, on_there, kind_number, KeepsRoles}
use Rattle.mkb_model.proofs.closing.LeftAlone.{IsBit, in_rules, rules_in}
use Rattle.mkb_model.proofs.runs.AllFine.{constraints_in, in_constraints}
use Rattle.mkb_model.proofs.closing.Staying.{KeepsConstraints}
use Rattle.mkb_moves.specs.Moves.{HasNoRule}

-- ---- rows of numbers

-- what is kept of a row does not depend on its end, past which nothing is kept
pub kept_numbers : (f g : ℕ → Bool) → ((m : ℕ) → f m ≡ g m) → (i k l : ℕ) → ((m : ℕ) → i + k ≤ m → f m ≡ false) → ((m : ℕ) → i + l ≤ m → g m ≡ false) → filter f (numbers_from i k) ≡ filter g (numbers_from i l)
kept_numbers f g e i zero l hf hg = sym (filter_none_of g (numbers_from i l) (λ m c. sym (e m) ∙ hf m (let r = numbers_in i l m c in omega (arith, r.0))))
kept_numbers f g e i (suc k) zero hf hg = filter_none_of f (numbers_from i (suc k)) (λ m c. e m ∙ hg m (let r = numbers_in i (suc k) m c in omega (arith, r.0)))
kept_numbers f g e i (suc k) (suc l) hf hg = ap₂ (λ (b : Bool) (xs : List ℕ). cond b (i ∷ xs) xs) (e i) (kept_numbers f g e (i + 1) k l (λ m h. hf m (omega (arith, h))) (λ m h. hg m (omega (arith, h))))

node_in : (ns : List ℕ) (a : RuleRef) → Contains (flat_map directions ns) a → Contains ns a.node
node_in ns a c =
    let r = contains_flat_map_back directions ns a c in
    subst {A = ℕ} (Contains ns) (⊎_elim (λ e. ap (λ (z : RuleRef). z.node) e) (λ d. ⊎_elim (λ e. ap (λ (z : RuleRef). z.node) e) (λ d. none_in d) (contains_cases (record { node = r.0; dir = 1 }) [] a d)) (contains_cases (record { node = r.0; dir = 0 }) (record { node = r.0; dir = 1 } ∷ []) a r.2)) r.1

-- the same for both directions of each node
kept_rules : (f g : RuleRef → Bool) → ((a : RuleRef) → f a ≡ g a) → (i k l : ℕ) → ((a : RuleRef) → i + k ≤ a.node → f a ≡ false) → ((a : RuleRef) → i + l ≤ a.node → g a ≡ false) → filter f (flat_map directions (numbers_from i k)) ≡ filter g (flat_map directions (numbers_from i l))
kept_rules f g e i zero l hf hg = sym (filter_none_of g (flat_map directions (numbers_from i l)) (λ a c. sym (e a) ∙ hf a (let r = numbers_in i l a.node (node_in (numbers_from i l) a c) in omega (arith, r.0))))
kept_rules f g e i (suc k) zero hf hg = filter_none_of f (flat_map directions (numbers_from i (suc k))) (λ a c. e a ∙ hg a (let r = numbers_in i (suc k) a.node (node_in (numbers_from i (suc k)) a c) in omega (arith, r.0)))
kept_rules f g e i (suc k) (suc l) hf hg =
    let a0 : RuleRef = record { node = i; dir = 0 } in
    let a1 : RuleRef = record { node = i; dir = 1 } in
    ap₂ (λ (b : Bool) (xs : List RuleRef). cond b (a0 ∷ xs) xs) (e a0) (ap₂ (λ (b : Bool) (xs : List RuleRef). cond b (a1 ∷ xs) xs) (e a1) (kept_rules f g e (i + 1) k l (λ a h. hf a (omega (arith, h))) (λ a h. hg a (omega (arith, h)))))

-- no label of a node that is not there names anyone
pub beyond : (xs : List PlainNode) (p : Name) (m : ℕ) (j : LabelKind) → length xs ≤ m → has (label_at xs m j) p ≡ false
beyond xs p m j h = ap (λ l. has l p) (label_beyond xs m j h)

module _ (b c : Plain) (p q : Name) where
  -- the labels of a kind name q on the later board as they named p on the earlier one
  abbrev pub Same : LabelKind → Type 0
  Same j = (m : ℕ) → has (label_at c.nodes m j) q ≡ has (label_at b.nodes m j) p

  pub same_equations : Same E → equations_of c q ≡ equations_of b p
  same_equations e = kept_numbers (is_equation c q) (is_equation b p) e 0 (length c.nodes) (length b.nodes) (λ m h. beyond c.nodes q m E (omega (arith, h))) (λ m h. beyond b.nodes p m E (omega (arith, h)))

  pub same_rules : ((d : ℕ) → Same (rule_kind d)) → rules_of c q ≡ rules_of b p
  same_rules e = kept_rules (is_rule c q) (is_rule b p) (λ a. e a.dir a.node) 0 (length c.nodes) (length b.nodes) (λ a h. beyond c.nodes q a.node (rule_kind a.dir) (omega (arith, h))) (λ a h. beyond b.nodes p a.node (rule_kind a.dir) (omega (arith, h)))

  pub same_constraints : ((d : ℕ) → Same (constraint_kind d)) → constraints_of c q ≡ constraints_of b p
  same_constraints e = kept_rules (is_constraint c q) (is_constraint b p) (λ a. e a.dir a.node) 0 (length c.nodes) (length b.nodes) (λ a h. beyond c.nodes q a.node (constraint_kind a.dir) (omega (arith, h))) (λ a h. beyond b.nodes p a.node (constraint_kind a.dir) (omega (arith, h)))

  pub same_view : Same E → ((d : ℕ) → Same (rule_kind d)) → ((d : ℕ) → Same (constraint_kind d)) → view c q ≡ view b p
  same_view e r s i = record { equations = same_equations e i; rules = same_rules r i; constraints = same_constraints s i }

-- roles that are kept are tests that are the same
pub kept_test : (xs ys : List PlainNode) (p q : Name) (m : ℕ) (j : LabelKind) → IsOn ys q m j ↔ IsOn xs p m j → has (label_at ys m j) q ≡ has (label_at xs m j) p
kept_test xs ys p q m j h = same_test (has (label_at ys m j) q) (has (label_at xs m j) p) h.0 h.1

pub kept_view : (b c : Plain) (p : Name) → KeepsRoles b.nodes c.nodes p → view c p ≡ view b p
kept_view b c p h = same_view b c p p (λ m. kept_test b.nodes c.nodes p p m E (h m E)) (λ d m. kept_test b.nodes c.nodes p p m (rule_kind d) (h m (rule_kind d))) (λ d m. kept_test b.nodes c.nodes p p m (constraint_kind d) (h m (constraint_kind d)))

pub kept_constraints : (b c : Plain) (p : Name) → KeepsConstraints b.nodes c.nodes p → constraints_of c p ≡ constraints_of b p
kept_constraints b c p h = same_constraints b c p p (λ d m. kept_test b.nodes c.nodes p p m (constraint_kind d) (h m d))

-- ---- the lists of a process, told by labels

pub equations_are : (b : Plain) (p : Name) (m : ℕ) → Contains (equations_of b p) m ↔ IsOn b.nodes p m E
equations_are b p m = (
  (λ c. (filter_in (is_equation b p) (node_numbers b) m c).1),
  λ o. in_filter (is_equation b p) (node_numbers b) m (in_numbers 0 (length b.nodes) m (omega arith) (let l = on_there b.nodes p m E o in omega (arith, l))) o,
)

pub rules_are : (b : Plain) (p : Name) (a : RuleRef) → Contains (rules_of b p) a ↔ (IsBit a.dir × IsOn b.nodes p a.node (rule_kind a.dir))
rules_are b p a = ((λ c. rules_in b p a c), λ h. in_rules b p a h.0 h.1)

in_directions : (n d : ℕ) → IsBit d → Contains (directions n) (record { node = n; dir = d })
in_directions n d (inl e) = subst {A = ℕ} (λ z. Contains (directions n) (record { node = n; dir = z })) (sym e) (0, omega arith, refl)
in_directions n d (inr e) = subst {A = ℕ} (λ z. Contains (directions n) (record { node = n; dir = z })) (sym e) (1, omega arith, refl)

directions_in : (n : ℕ) (a : RuleRef) → Contains (directions n) a → IsBit a.dir
directions_in n a c = ⊎_elim (λ e. inl (sym (ap (λ (z : RuleRef). z.dir) e))) (λ d. ⊎_elim (λ e. inr (sym (ap (λ (z : RuleRef). z.dir) e))) (λ d. none_in d) (contains_cases (record { node = n; dir = 1 }) [] a d)) (contains_cases (record { node = n; dir = 0 }) (record { node = n; dir = 1 } ∷ []) a c)

pub constraints_are : (b : Plain) (p : Name) (a : RuleRef) → Contains (constraints_of b p) a ↔ (IsBit a.dir × IsOn b.nodes p a.node (constraint_kind a.dir))
constraints_are b p a = (
  (λ c. let r = constraints_in b p a c in (directions_in a.node a r.1, r.0)),
  λ h. in_constraints b p a h.1 (in_directions a.node a.dir h.0),
)

-- ---- references

pub rule_ref : (a e : RuleRef) → e.node ≡ a.node → e.dir ≡ a.dir → e ≡ a
rule_ref a e h k = ap₂ (λ (n d : ℕ). record { node = n; dir = d }) h k

-- directions are told by the labels of their rules
pub same_direction : (d e : ℕ) → IsBit d → IsBit e → rule_kind d ≡ rule_kind e → d ≡ e
same_direction d e (inl h) (inl k) i = h ∙ sym k
same_direction d e (inr h) (inr k) i = h ∙ sym k
same_direction d e (inl h) (inr k) i = let r : R0 ≡ R1 = ap rule_kind (sym h) ∙ i ∙ ap rule_kind k in absurd (omega (arith, ap kind_number r))
same_direction d e (inr h) (inl k) i = let r : R1 ≡ R0 = ap rule_kind (sym h) ∙ i ∙ ap rule_kind k in absurd (omega (arith, ap kind_number r))

pub same_constraint_direction : (d e : ℕ) → IsBit d → IsBit e → constraint_kind d ≡ constraint_kind e → d ≡ e
same_constraint_direction d e (inl h) (inl k) i = h ∙ sym k
same_constraint_direction d e (inr h) (inr k) i = h ∙ sym k
same_constraint_direction d e (inl h) (inr k) i = let r : C0 ≡ C1 = ap constraint_kind (sym h) ∙ i ∙ ap constraint_kind k in absurd (omega (arith, ap kind_number r))
same_constraint_direction d e (inr h) (inl k) i = let r : C1 ≡ C0 = ap constraint_kind (sym h) ∙ i ∙ ap constraint_kind k in absurd (omega (arith, ap kind_number r))

-- ---- nodes that are no rules

pub no_rule_are : (b : Plain) (p : Name) (m : ℕ) → HasNoRule b p m ↔ ((¬ IsOn b.nodes p m R0) × (¬ IsOn b.nodes p m R1))
no_rule_are b p m = (
  (λ h. ((λ o. h (record { node = m; dir = 0 }) (in_rules b p (record { node = m; dir = 0 }) (inl refl) o) refl), λ o. h (record { node = m; dir = 1 }) (in_rules b p (record { node = m; dir = 1 }) (inr refl) o) refl)),
  λ h a c e. let r = rules_in b p a c in none h a.dir r.0 (subst {A = ℕ} (λ z. IsOn b.nodes p z (rule_kind a.dir)) e r.1),
)
  where
    none : (¬ IsOn b.nodes p m R0) × (¬ IsOn b.nodes p m R1) → (d : ℕ) → IsBit d → ¬ IsOn b.nodes p m (rule_kind d)
    none h d (inl e) o = h.0 (subst {A = ℕ} (λ z. IsOn b.nodes p m (rule_kind z)) e o)
    none h d (inr e) o = h.1 (subst {A = ℕ} (λ z. IsOn b.nodes p m (rule_kind z)) e o)
