-- The state of a process, told by the roles in which it has the nodes.
use Rattle.std.proofs.Common.{ℕ, zero, suc, ◌<◌, ◌≡◌, ◌⊎◌, ◌↔◌, inl, inr, refl, sym, ap, ◌∙◌, subst, arith, List, [], ◌∷◌, filter, flat_map, length, get_or, Option, Some, None, Contains}
use Rattle.std.specs.Prelude.{option_map}
use Rattle.std.specs.List.{filter_map}
use Rattle.kb_term.proofs.CanonicalPairs.{canonical_from_same, same_from_canonical}
use Rattle.kb_term.proofs.Variants.{numbered_from_variants, variants_from_numbered, unnumbered}
use Rattle.kb_term.specs.Tree.{Tree, variables_of}
use Rattle.kb_term.specs.Pair.{Pair, numbered, variables_of_pair, place_in, IsVariantEquation, IsSameEquation}
use Rattle.kb_term.specs.Rule.{Rule, rule_of, IsVariantRule, rule_between}
use Rattle.kb_laws.specs.Completion.{IsSameState, Has}
use Rattle.kb_term.specs.declared.origin.RuleRef.{RuleRef}
use Rattle.kb_label.specs.Names.{Name, has}
use Rattle.mkb_model.specs.Plain.{Plain, PlainNode, pair_at, rule_at, label_at, rule_kind, constraint_kind, node_numbers, directions, equations_of, rules_of, rules_at, is_equation, state_of, pair_in}
use Rattle.kb_node.specs.declared.node.LabelKind.{LabelKind}
use Rattle.kb_node.specs.declared.node.LabelKind.TheVariants.{E}
use Rattle.std.proofs.lemmas.List.Elements.{Contains-append_left, Contains-append_right}
use Rattle.kb_lemmas.proofs.Membership.{contains_behind, contains_first, contains_mapped, contains_map, contains_flat_map}
use Rattle.kb_lemmas.proofs.Options.{some_is, none_some}
use Rattle.mkb_model.specs.Ready.{IsOn, KeepsPairs}
use Rattle.mkb_model.proofs.Lists.{filter_in, in_filter, filter_map_in, in_filter_map, in_numbers}
use Rattle.mkb_model.proofs.commits.Roles.{on_there}

-- ---- sameness

pub same_sym : (d e : Tree × Tree) → IsSameEquation d e → IsSameEquation e d
same_sym d e h = same_from_canonical e.0 e.1 d.0 d.1 (sym (canonical_from_same d.0 d.1 e.0 e.1 h))

pub same_trans : (d e f : Tree × Tree) → IsSameEquation d e → IsSameEquation e f → IsSameEquation d f
same_trans d e f h k = same_from_canonical d.0 d.1 f.0 f.1 (canonical_from_same d.0 d.1 e.0 e.1 h ∙ canonical_from_same e.0 e.1 f.0 f.1 k)

pub same_turned : (s t : Tree) → IsSameEquation (s, t) (t, s)
same_turned s t = inr (variants_from_numbered s t s t refl)

pub rule_sym : (q r : Rule) → IsVariantRule q r → IsVariantRule r q
rule_sym q r h = variants_from_numbered r.left r.right q.left q.right (sym (numbered_from_variants q.left q.right r.left r.right h))

pub rule_trans : (p q r : Rule) → IsVariantRule p q → IsVariantRule q r → IsVariantRule p r
rule_trans p q r h k = variants_from_numbered p.left p.right r.left r.right (numbered_from_variants p.left p.right q.left q.right h ∙ numbered_from_variants q.left q.right r.left r.right k)

-- the numbered pair is a variant of the two terms
pub numbered_variant : (s t : Tree) → IsVariantEquation (s, t) ((numbered s t).first, (numbered s t).second)
numbered_variant s t = (
  place_in (variables_of_pair s t),
  (λ n. get_or (variables_of_pair s t) n 0),
  record { there = refl; back_again = unnumbered s t s (λ x c. Contains-append_left (variables_of s) (variables_of t) x c) },
  record { there = refl; back_again = unnumbered s t t (λ x c. Contains-append_right (variables_of s) (variables_of t) x c) },
)

-- the rule of a pair in a direction leads between its two sides, up to variants
abbrev pub from_side : Pair → ℕ → Tree
from_side q zero = q.first
from_side q (suc d) = q.second

abbrev pub to_side : Pair → ℕ → Tree
to_side q zero = q.second
to_side q (suc d) = q.first

pub rule_of-between : (q : Pair) (d : ℕ) → IsVariantRule (rule_of q d) (rule_between (from_side q d) (to_side q d))
rule_of-between q zero = rule_sym (rule_between q.first q.second) (rule_of q 0) (numbered_variant q.first q.second)
rule_of-between q (suc d) = rule_sym (rule_between q.second q.first) (rule_of q (suc d)) (numbered_variant q.second q.first)

-- ---- what a process has

-- as an equation
abbrev pub EqView : List PlainNode → Name → Tree × Tree → Type 0
EqView xs p e = (n : ℕ) × (q : Pair) × IsOn xs p n E × (pair_in xs n ≡ Some q) × IsSameEquation (q.first, q.second) e

-- as a rule, or as a constraint rule, by the kind of label for each direction
abbrev pub RuleView : (ℕ → LabelKind) → List PlainNode → Name → Rule → Type 0
RuleView kind xs p r = (n : ℕ) × (d : ℕ) × (q : Pair) × IsOn xs p n (kind d) × (pair_in xs n ≡ Some q) × IsVariantRule (rule_of q d) r

pub equations-view : (b : Plain) (p : Name) (e : Tree × Tree) → Has IsSameEquation (state_of b p).equations e ↔ EqView b.nodes p e
equations-view b p e = (to, from)
  where
    to : Has IsSameEquation (state_of b p).equations e → EqView b.nodes p e
    to (y, c, s) =
        let m = contains_mapped (λ (q : Pair). (q.first, q.second)) (filter_map (pair_at b) (equations_of b p)) y c in
        let f = filter_map_in (pair_at b) (equations_of b p) m.0 m.1 in
        let g = filter_in (is_equation b p) (node_numbers b) f.0 f.1 in
        (f.0, m.0, g.1, f.2, subst {A = Tree × Tree} (λ z. IsSameEquation z e) (sym m.2) s)

    from : EqView b.nodes p e → Has IsSameEquation (state_of b p).equations e
    from (n, q, o, h, s) = (
      (q.first, q.second),
      contains_map (λ (q : Pair). (q.first, q.second)) (filter_map (pair_at b) (equations_of b p)) q
          (in_filter_map (pair_at b) (equations_of b p) n q (in_filter (is_equation b p) (node_numbers b) n (in_numbers 0 (length b.nodes) n (omega arith) (let l = on_there b.nodes p n E o in omega (arith, l))) o) h),
      s,
    )

-- a list of references by a test on direction and node
module _ (b : Plain) (p : Name) (kind : ℕ → LabelKind) (kind_more : (d : ℕ) → kind (suc d) ≡ kind 1) where
  abbrev listed : List RuleRef
  listed = filter (λ (a : RuleRef). has (label_at b.nodes a.node (kind a.dir)) p) (flat_map directions (node_numbers b))

  rule_at_is : (a : RuleRef) (r : Rule) → rule_at b a ≡ Some r → (q : Pair) × (pair_in b.nodes a.node ≡ Some q) × (rule_of q a.dir ≡ r)
  rule_at_is a r h = go (pair_in b.nodes a.node) refl h
    where
      go : (o : Option Pair) → pair_in b.nodes a.node ≡ o → option_map (λ q. rule_of q a.dir) o ≡ Some r → (q : Pair) × (pair_in b.nodes a.node ≡ Some q) × (rule_of q a.dir ≡ r)
      go None e k = none_some k
      go (Some q) e k = (q, e, some_is k)

  in_listed : (n d : ℕ) → IsOn b.nodes p n (kind d) → (d ≡ 0) ⊎ (d ≡ 1) → Contains listed (record { node = n; dir = d })
  in_listed n d o k = in_filter (λ (a : RuleRef). has (label_at b.nodes a.node (kind a.dir)) p) (flat_map directions (node_numbers b)) (record { node = n; dir = d })
      (contains_flat_map directions (node_numbers b) n (record { node = n; dir = d }) (in_numbers 0 (length b.nodes) n (omega arith) (let l = on_there b.nodes p n (kind d) o in omega (arith, l))) (direction_in d k)) o
    where
      direction_in : (d : ℕ) → (d ≡ 0) ⊎ (d ≡ 1) → Contains (directions n) (record { node = n; dir = d })
      direction_in d (inl e) = subst {A = ℕ} (λ z. Contains (directions n) (record { node = n; dir = z })) (sym e) (contains_first (record { node = n; dir = 0 }) (record { node = n; dir = 1 } ∷ []))
      direction_in d (inr e) = subst {A = ℕ} (λ z. Contains (directions n) (record { node = n; dir = z })) (sym e) (contains_behind (record { node = n; dir = 0 }) (record { node = n; dir = 1 } ∷ []) (record { node = n; dir = 1 }) (contains_first (record { node = n; dir = 1 }) []))

  rules_to : (r : Rule) → Has IsVariantRule (rules_at b listed) r → RuleView kind b.nodes p r
  rules_to r (y, c, s) =
      let f = filter_map_in (rule_at b) listed y c in
      let g = filter_in (λ (a : RuleRef). has (label_at b.nodes a.node (kind a.dir)) p) (flat_map directions (node_numbers b)) f.0 f.1 in
      let h = rule_at_is f.0 y f.2 in
      (f.0.node, f.0.dir, h.0, g.1, h.1, subst {A = Rule} (λ z. IsVariantRule z r) (sym h.2) s)

  rules_from : (r : Rule) → RuleView kind b.nodes p r → Has IsVariantRule (rules_at b listed) r
  rules_from r (n, zero, q, o, h, s) = (rule_of q 0, in_filter_map (rule_at b) listed (record { node = n; dir = 0 }) (rule_of q 0) (in_listed n 0 o (inl refl)) (ap (option_map (λ q. rule_of q 0)) h), s)
  rules_from r (n, suc d, q, o, h, s) =
      (rule_of q 1, in_filter_map (rule_at b) listed (record { node = n; dir = 1 }) (rule_of q 1) (in_listed n 1 (subst {A = LabelKind} (IsOn b.nodes p n) (kind_more d) o) (inr refl)) (ap (option_map (λ q. rule_of q 1)) h), s)

pub rules-view : (b : Plain) (p : Name) (r : Rule) → Has IsVariantRule (state_of b p).rules r ↔ RuleView rule_kind b.nodes p r
rules-view b p r = (rules_to b p rule_kind (λ d. refl) r, rules_from b p rule_kind (λ d. refl) r)

pub constraints-view : (b : Plain) (p : Name) (r : Rule) → Has IsVariantRule (state_of b p).constraints r ↔ RuleView constraint_kind b.nodes p r
constraints-view b p r = (rules_to b p constraint_kind (λ d. refl) r, rules_from b p constraint_kind (λ d. refl) r)

-- a rule of the process stands in its state
pub rule_listed : (b : Plain) (p : Name) (a : RuleRef) (q : Pair) → IsOn b.nodes p a.node (rule_kind a.dir) → pair_in b.nodes a.node ≡ Some q → Contains (state_of b p).rules (rule_of q a.dir)
rule_listed b p a q o h = go a.dir o
  where
    go : (d : ℕ) → IsOn b.nodes p a.node (rule_kind d) → Contains (state_of b p).rules (rule_of q d)
    go zero k = in_filter_map (rule_at b) (rules_of b p) (record { node = a.node; dir = 0 }) (rule_of q 0) (in_listed b p rule_kind (λ d. refl) a.node 0 k (inl refl)) (ap (option_map (λ q. rule_of q 0)) h)
    go (suc d) k = in_filter_map (rule_at b) (rules_of b p) (record { node = a.node; dir = 1 }) (rule_of q 1) (in_listed b p rule_kind (λ d. refl) a.node 1 k (inr refl)) (ap (option_map (λ q. rule_of q 1)) h)

-- ---- the same view

pub there_pair : (xs : List PlainNode) (n : ℕ) → n < length xs → (q : Pair) × (pair_in xs n ≡ Some q)
there_pair [] n h = absurd (omega (arith, h))
there_pair (x ∷ xs) zero h = (x.pair, refl)
there_pair (x ∷ xs) (suc n) h = there_pair xs n (omega (arith, h))

-- the pair that a node has later it has before, where the process has it before
pub pair_back : (xs ys : List PlainNode) (p : Name) (n : ℕ) (j : LabelKind) (q : Pair) → KeepsPairs xs ys → IsOn xs p n j → pair_in ys n ≡ Some q → pair_in xs n ≡ Some q
pair_back xs ys p n j q k o h = let r = there_pair xs n (on_there xs p n j o) in r.1 ∙ sym (k n r.0 r.1) ∙ h

-- the one process has on the one board the roles that the other has on the other
abbrev pub SameRoles : List PlainNode → Name → List PlainNode → Name → Type 0
SameRoles xs p ys q = (m : ℕ) (j : LabelKind) → IsOn ys q m j ↔ IsOn xs p m j

pub iff_over : {A B C D : Type 0} → A ↔ B → C ↔ D → B ↔ D → A ↔ C
iff_over f g h = ((λ a. g.1 (h.0 (f.0 a))), λ c. f.1 (h.1 (g.0 c)))

pub view-equations : (xs ys : List PlainNode) (p q : Name) → SameRoles xs p ys q → KeepsPairs xs ys → (e : Tree × Tree) → EqView xs p e ↔ EqView ys q e
view-equations xs ys p q h k e = ((λ v. (v.0, v.1, (h v.0 E).1 v.2, k v.0 v.1 v.3, v.4)), λ v. let o = (h v.0 E).0 v.2 in (v.0, v.1, o, pair_back xs ys p v.0 E v.1 k o v.3, v.4))

pub view-rules : (kind : ℕ → LabelKind) (xs ys : List PlainNode) (p q : Name) → SameRoles xs p ys q → KeepsPairs xs ys → (r : Rule) → RuleView kind xs p r ↔ RuleView kind ys q r
view-rules kind xs ys p q h k r = ((λ v. (v.0, v.1, v.2, (h v.0 (kind v.1)).1 v.3, k v.0 v.2 v.4, v.5)), λ v. let o = (h v.0 (kind v.1)).0 v.3 in (v.0, v.1, v.2, o, pair_back xs ys p v.0 (kind v.1) v.2 k o v.4, v.5))

-- a process with the same roles, and pairs that stay, has the same state
pub same_view : (b c : Plain) (p q : Name) → SameRoles b.nodes p c.nodes q → KeepsPairs b.nodes c.nodes → IsSameState (state_of b p) (state_of c q)
same_view b c p q h k = record {
  equations = λ e. iff_over (equations-view b p e) (equations-view c q e) (view-equations b.nodes c.nodes p q h k e);
  rules = λ r. iff_over (rules-view b p r) (rules-view c q r) (view-rules rule_kind b.nodes c.nodes p q h k r);
  constraints = λ r. iff_over (constraints-view b p r) (constraints-view c q r) (view-rules constraint_kind b.nodes c.nodes p q h k r);
}
