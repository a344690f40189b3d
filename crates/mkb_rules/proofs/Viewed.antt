-- What a process sees of the table of nodes is what it sees of the plain board.
use Rattle.std.proofs.Common.{ℕ, suc, ◌+◌, ◌<◌, ◌≤◌, ◌≡◌, refl, sym, ap, ap₂, ◌∙◌, subst, arith, List, [], ◌∷◌, ◌++◌, map, filter, flat_map, length, take, get_or, Contains, All, Bool, true, false, cond, Some, Option, ⊎_elim}
use Rattle.std.specs.Prelude.{slice_get}
use Rattle.std.specs.List.{enumerate_from, cons_option}
use Rattle.std.proofs.lemmas.List.{length-map, map-append, take_more}
use Rattle.std.proofs.lemmas.List.Elements.{filter-append, filter_map-append}
use Rattle.kb_lemmas.proofs.Membership.{contains_cases, contains_flat_map_back, contains_map, none_in}
use Rattle.kb_label.specs.Names.{Name, has}
use Rattle.kb_term.specs.Rule.{Rule}
use Rattle.kb_term.specs.declared.origin.RuleRef.{RuleRef}
use Rattle.kb_node.specs.Labelled.{Node}
use Rattle.kb_node.specs.declared.node.NodeId.{NodeId}
use Rattle.kb_node.specs.declared.node.LabelKind.TheVariants.{R0, R1, E, C0, C1}
use Rattle.kb_node.specs.Views as views
use Rattle.kb_laws.proofs.Complete.{all_from}
use Rattle.mkb_model.specs.Plain.{Plain, PlainNode, numbers_from, node_numbers, directions, label_or_none, is_equation, is_rule, is_constraint, equations_of, rules_of, constraints_of, rule_at, rules_at}
use Rattle.mkb_model.proofs.Lists.{filter_in, numbers_in}
use Rattle.mkb_rules.specs.Named.{IsRuleThere}
use Rattle.mkb_rules.specs.Parts.{plain_node, plain_nodes}

-- ---- the view of a process

-- the node of this number of the board is that of the list
abbrev StandsFrom : List PlainNode → ℕ → List (Node (List Name)) → Type 0
StandsFrom ns n xs = (k : ℕ) → k < length xs → slice_get ns (n + k) ≡ slice_get (plain_nodes xs) k

from_next : (ns : List PlainNode) (n : ℕ) (x : Node (List Name)) (xs : List (Node (List Name))) → StandsFrom ns n (x ∷ xs) → StandsFrom ns (n + 1) xs
from_next ns n x xs h k l = let e : (n + 1) + k ≡ n + suc k = omega arith in ap (slice_get ns) e ∙ h (suc k) (omega (arith, l))

from_here : (ns : List PlainNode) (n : ℕ) (x : Node (List Name)) (xs : List (Node (List Name))) → StandsFrom ns n (x ∷ xs) → slice_get ns n ≡ Some (plain_node x)
from_here ns n x xs h = let e : n ≡ n + 0 = omega arith in ap (slice_get ns) e ∙ h 0 (omega arith)

two : (a c : RuleRef) (x y : Bool) (F : RuleRef → Bool) → F a ≡ x → F c ≡ y → filter F (a ∷ c ∷ []) ≡ views.when x a ++ views.when y c
two a c x y F e f = ap₂ (λ (u v : Bool). cond u (a ∷ cond v (c ∷ []) []) (cond v (c ∷ []) [])) e f ∙ go x y
  where
    go : (x y : Bool) → cond x (a ∷ cond y (c ∷ []) []) (cond y (c ∷ []) []) ≡ views.when x a ++ views.when y c
    go true y = refl
    go false y = refl

filtered : (F : RuleRef → Bool) (G : ℕ × Node (List Name) → List RuleRef) (ns : List PlainNode) (n : ℕ) (xs : List (Node (List Name)))
    → ((m : ℕ) (x : Node (List Name)) → slice_get ns m ≡ Some (plain_node x) → G (m, x) ≡ filter F (directions m)) → StandsFrom ns n xs
    → flat_map G (enumerate_from n xs) ≡ filter F (flat_map directions (numbers_from n (length xs)))
filtered F G ns n [] h s = refl
filtered F G ns n (x ∷ xs) h s =
    ap₂ (λ (names bs : List RuleRef). names ++ bs) (h n x (from_here ns n x xs s)) (filtered F G ns (n + 1) xs h (from_next ns n x xs s))
    ∙ sym (filter-append F (directions n) (flat_map directions (numbers_from (n + 1) (length xs))))

one : (n : ℕ) (x : Bool) → map (λ (m : NodeId). m.0) (views.when x (record { 0 = n })) ≡ cond x (n ∷ []) []
one n true = refl
one n false = refl

numbered : (F : ℕ → Bool) (G : ℕ × Node (List Name) → List NodeId) (ns : List PlainNode) (n : ℕ) (xs : List (Node (List Name)))
    → ((m : ℕ) (x : Node (List Name)) → slice_get ns m ≡ Some (plain_node x) → map (λ (k : NodeId). k.0) (G (m, x)) ≡ filter F (m ∷ [])) → StandsFrom ns n xs
    → map (λ (m : NodeId). m.0) (flat_map G (enumerate_from n xs)) ≡ filter F (numbers_from n (length xs))
numbered F G ns n [] h s = refl
numbered F G ns n (x ∷ xs) h s =
    map-append (λ (m : NodeId). m.0) (G (n, x)) (flat_map G (enumerate_from (n + 1) xs))
    ∙ ap₂ (λ (names bs : List ℕ). names ++ bs) (h n x (from_here ns n x xs s)) (numbered F G ns (n + 1) xs h (from_next ns n x xs s))
    ∙ sym (filter-append F (n ∷ []) (numbers_from (n + 1) (length xs)))

module _ (b : Plain) (xs : List (Node (List Name))) (log : List Name) (p : Name) (is : plain_nodes xs ≡ b.nodes) where
  all_stand : StandsFrom b.nodes 0 xs
  all_stand k l = let e : 0 + k ≡ k = omega arith in ap (slice_get b.nodes) e ∙ ap (λ ns. slice_get ns k) (sym is)

  as_many : length xs ≡ length b.nodes
  as_many = sym (length-map xs plain_node) ∙ ap length is

  -- the rules, by number, then direction
  pub rules_viewed : views.rules_of {K = List Name} {L = List Name} (λ log l. l) log p xs ≡ rules_of b p
  rules_viewed =
      filtered (is_rule b p) (views.rules_at {K = List Name} {L = List Name} (λ log l. l) log p) b.nodes 0 xs
      (λ m x e. sym (two (record { node = m; dir = 0 }) (record { node = m; dir = 1 }) (has x.rule0 p) (has x.rule1 p) (is_rule b p) (ap (λ o. has (label_or_none o R0) p) e) (ap (λ o. has (label_or_none o R1) p) e)))
      all_stand
      ∙ ap (λ k. filter (is_rule b p) (flat_map directions (numbers_from 0 k))) as_many

  -- the constraints, by number, then direction
  pub constraints_viewed : views.constraints_of {K = List Name} {L = List Name} (λ log l. l) log p xs ≡ constraints_of b p
  constraints_viewed =
      filtered (is_constraint b p) (views.constraints_at {K = List Name} {L = List Name} (λ log l. l) log p) b.nodes 0 xs
      (λ m x e. sym (two (record { node = m; dir = 0 }) (record { node = m; dir = 1 }) (has x.constraint0 p) (has x.constraint1 p) (is_constraint b p) (ap (λ o. has (label_or_none o C0) p) e) (ap (λ o. has (label_or_none o C1) p) e)))
      all_stand
      ∙ ap (λ k. filter (is_constraint b p) (flat_map directions (numbers_from 0 k))) as_many

  -- the equations, by number
  pub equations_viewed : map (λ (m : NodeId). m.0) (views.equations_of {K = List Name} {L = List Name} (λ log l. l) log p xs) ≡ equations_of b p
  equations_viewed =
      numbered (is_equation b p) (views.equation_at {K = List Name} {L = List Name} (λ log l. l) log p) b.nodes 0 xs
      (λ m x e. one m (has x.equation p) ∙ ap (λ o. cond (has (label_or_none o E) p) (m ∷ []) []) (sym e))
      all_stand
      ∙ ap (λ k. filter (is_equation b p) (numbers_from 0 k)) as_many

-- ---- rules that are there

pub in_directions : (n : ℕ) (a : RuleRef) → Contains (directions n) a → (a.node ≡ n) × (a.dir ≤ 1)
in_directions n a i =
    ⊎_elim (λ e. (sym (ap (λ (z : RuleRef). z.node) e), omega (arith, ap (λ (z : RuleRef). z.dir) e)))
    (λ k. ⊎_elim (λ e. (sym (ap (λ (z : RuleRef). z.node) e), omega (arith, ap (λ (z : RuleRef). z.dir) e))) (λ j. none_in j) (contains_cases (record { node = n; dir = 1 }) [] a k))
    (contains_cases (record { node = n; dir = 0 }) (record { node = n; dir = 1 } ∷ []) a i)

-- a rule that passes a test among those of all nodes is there
pub passing_there : (b : Plain) (F : RuleRef → Bool) (a : RuleRef) → Contains (filter F (flat_map directions (node_numbers b))) a → IsRuleThere b a
passing_there b F a i =
    let m = contains_flat_map_back directions (node_numbers b) a (filter_in F (flat_map directions (node_numbers b)) a i).0 in
    let k = numbers_in 0 (length b.nodes) m.0 m.1 in
    let d = in_directions m.0 a m.2 in
    (omega (arith, k.1, d.0), d.1)

-- the rules of a process are there
pub rule_there : (b : Plain) (p : Name) (a : RuleRef) → Contains (rules_of b p) a → IsRuleThere b a
rule_there b p a i = passing_there b (is_rule b p) a i

pub rules_there : (b : Plain) (p : Name) → All (IsRuleThere b) (rules_of b p)
rules_there b p = all_from (IsRuleThere b) (rules_of b p) (rule_there b p)

pub constraints_there : (b : Plain) (p : Name) → All (IsRuleThere b) (constraints_of b p)
constraints_there b p = all_from (IsRuleThere b) (constraints_of b p) (λ a i. passing_there b (is_constraint b p) a i)

pub others_there : (b : Plain) (p : Name) (F : RuleRef → Bool) → All (IsRuleThere b) (filter F (rules_of b p))
others_there b p F = all_from (IsRuleThere b) (filter F (rules_of b p)) (λ a i. passing_there b (is_rule b p) a (filter_in F (rules_of b p) a i).0)

-- the equations of a process are there
pub equations_there : (b : Plain) (p : Name) (ns : List NodeId) → map (λ (m : NodeId). m.0) ns ≡ equations_of b p → All (λ (m : NodeId). m.0 < length b.nodes) ns
equations_there b p ns e =
    all_from (λ (m : NodeId). m.0 < length b.nodes) ns
    (λ m i.
    let k = filter_in (is_equation b p) (node_numbers b) m.0 (subst {A = List ℕ} (λ ms. Contains ms m.0) e (contains_map (λ (m : NodeId). m.0) ns m i)) in
    let l = numbers_in 0 (length b.nodes) m.0 k.0 in omega (arith, l.1))

-- ---- one more

-- the rules of one name more
pub rules_behind : (b : Plain) (names : List RuleRef) (a : RuleRef) (r : Rule) → rule_at b a ≡ Some r → rules_at b (names ++ a ∷ []) ≡ rules_at b names ++ r ∷ []
rules_behind b names a r e = filter_map-append (rule_at b) names (a ∷ []) ∙ ap (λ (o : Option Rule). rules_at b names ++ cons_option o []) e

pub rules_next : (b : Plain) (names : List RuleRef) (i : ℕ) (d : RuleRef) (r : Rule) → i < length names → rule_at b (get_or names i d) ≡ Some r → rules_at b (take (i + 1) names) ≡ rules_at b (take i names) ++ r ∷ []
rules_next b names i d r l there = ap (rules_at b) (take_more names i d l) ∙ rules_behind b (take i names) (get_or names i d) r there
