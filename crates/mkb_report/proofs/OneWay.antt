-- A process has at most one of the two rules of a node among its constraints, since its order orders them.
use Rattle.std.proofs.Common.{ℕ, ◌+◌, ◌<◌, ◌≡◌, refl, ap, subst, arith, ⊎_elim, List, [], ◌∷◌, flat_map, All, Contains, Bool, true, Option, Some, None, slice_get}
use Rattle.std.specs.Prelude.{option_map}
use Rattle.std.proofs.lemmas.List.Elements.{All-head, All-tail}
use Rattle.std.proofs.lemmas.Option.{slice_get_within}
use Rattle.mkb_model.proofs.commits.Views.{numbered_variant}
use Rattle.kb_lemmas.proofs.Membership.{contains_cases, contains_first, contains_behind, contains_flat_map, none_in}
use Rattle.kb_term.specs.Tree.{Tree}
use Rattle.kb_term.specs.Pair.{Pair}
use Rattle.kb_term.specs.Rule.{Rule, rule_of}
use Rattle.kb_term.specs.declared.origin.RuleRef.{RuleRef}
use Rattle.kb_lpo.specs.PathOrder.{LpoGreater}
use Rattle.kb_lpo.proofs.LpoDecides.{lpo_trans, lpo_irreflexive}
use Rattle.kb_linear.specs.LinearOrder.{LinearGreater}
use Rattle.kb_kbo.specs.KnuthBendix.{KboGreater}
use Rattle.kb_kbo.proofs.KboCases.{kbo_trans, kbo_irreflexive}
use Rattle.kb_cert.specs.Family.{Orders}
use Rattle.kb_cert.specs.declared.certificate.Certificate.{Certificate}
use Rattle.kb_cert.specs.declared.certificate.Certificate.TheVariants.{Lpo, Linear, Kbo}
use Rattle.kb_cert.proofs.Ordering.{IsRenamedOf, orders_among, orders_renamed}
use Rattle.kb_label.specs.Names.{Name, has}
use Rattle.kb_node.specs.declared.node.LabelKind.{LabelKind}
use Rattle.mkb_model.specs.Plain.{Plain, PlainNode, node_numbers, directions, label_or_none, constraint_kind, is_constraint, constraints_of, pair_at, rule_at, rules_at}
use Rattle.mkb_model.proofs.Lists.{in_filter, in_filter_map, in_numbers}

-- ---- no order orders both directions

module _ (s t : Tree) where
  abbrev forth : Rule
  forth = record { left = s; right = t }

  abbrev back : Rule
  back = record { left = t; right = s }

  both_pass : (P : Rule → Type 0) → All P (forth ∷ back ∷ []) → P forth × P back
  both_pass P h = (All-head P forth (back ∷ []) h, All-head P back [] (All-tail P forth (back ∷ []) h))

  never_both : (c : Certificate) → ¬ Orders c (forth ∷ back ∷ [])
  never_both (Lpo p) h = let k = both_pass (λ (r : Rule). LpoGreater p r.left r.right) h in lpo_irreflexive p s (lpo_trans p s t s k.0 k.1)
  never_both (Linear i) h =
      let k = both_pass (λ (r : Rule). LinearGreater i r.left r.right) h in
      let there = k.0 (λ n. 0) in
      let again = k.1 (λ n. 0) in
      omega (arith, there, again)
  never_both (Kbo o) h = let k = both_pass (λ (r : Rule). KboGreater o r.left r.right) h in kbo_irreflexive o s (kbo_trans o s t s k.0 k.1)

-- nor both rules of a pair
module _ (q : Pair) where
  abbrev both : List Rule
  both = rule_of q 0 ∷ rule_of q 1 ∷ []

  abbrev there : Rule
  there = forth q.first q.second

  abbrev again : Rule
  again = back q.first q.second

  is_there : IsRenamedOf both there
  is_there = let v = numbered_variant q.first q.second in (rule_of q 0, contains_first (rule_of q 0) (rule_of q 1 ∷ []), v.1, v.2.back_again, v.3.back_again)

  is_again : IsRenamedOf both again
  is_again = let v = numbered_variant q.second q.first in (rule_of q 1, contains_behind (rule_of q 0) (rule_of q 1 ∷ []) (rule_of q 1) (contains_first (rule_of q 1) []), v.1, v.2.back_again, v.3.back_again)

  renamed : (r : Rule) → Contains (there ∷ again ∷ []) r → IsRenamedOf both r
  renamed r i = ⊎_elim
      (λ e. subst {A = Rule} (IsRenamedOf both) e is_there)
      (λ d. ⊎_elim (λ e. subst {A = Rule} (IsRenamedOf both) e is_again) (λ d. none_in d) (contains_cases again [] r d))
      (contains_cases there (again ∷ []) r i)

  never_both_rules : (c : Certificate) → ¬ Orders c both
  never_both_rules c h = never_both q.first q.second c (orders_renamed c both (there ∷ again ∷ []) renamed h)

-- ---- constraints

labelled : (o : Option PlainNode) (kind : LabelKind) (p : Name) → has (label_or_none o kind) p ≡ true → (x : PlainNode) × (o ≡ Some x)
labelled None kind p h = absurd (cc)
labelled (Some x) kind p h = (x, refl)

module _ (b : Plain) (p : Name) (c : Certificate) (h : Orders c (rules_at b (constraints_of b p))) where
  -- a constraint is one of the list
  listed : (a : RuleRef) (x : PlainNode) → slice_get b.nodes a.node ≡ Some x → Contains (directions a.node) a → is_constraint b p a ≡ true → Contains (rules_at b (constraints_of b p)) (rule_of x.pair a.dir)
  listed a x at d t =
      in_filter_map (rule_at b) (constraints_of b p) a (rule_of x.pair a.dir)
      (in_filter (is_constraint b p) (flat_map directions (node_numbers b)) a (contains_flat_map directions (node_numbers b) a.node a (in_numbers 0 _ a.node (omega arith) (omega (arith, slice_get_within b.nodes a.node x at))) d) t)
      (ap (λ (o : Option PlainNode). option_map (λ (q : Pair). rule_of q a.dir) (option_map (λ (y : PlainNode). y.pair) o)) at)

  pub one_way : (n : ℕ) → is_constraint b p (record { node = n; dir = 0 }) ≡ true → is_constraint b p (record { node = n; dir = 1 }) ≡ true → ⊥
  one_way n t u =
      let x = labelled (slice_get b.nodes n) (constraint_kind 0) p t in
      let first : RuleRef = record { node = n; dir = 0 } in
      let second : RuleRef = record { node = n; dir = 1 } in
      let one = listed first x.0 x.1 (contains_first first (second ∷ [])) t in
      let two = listed second x.0 x.1 (contains_behind first (second ∷ []) second (contains_first second [])) u in
      never_both_rules x.0.pair c (orders_among c (rules_at b (constraints_of b p)) (rule_of x.0.pair 0 ∷ rule_of x.0.pair 1 ∷ []) (λ r i. ⊎_elim
      (λ e. subst {A = Rule} (Contains (rules_at b (constraints_of b p))) e one)
      (λ d. ⊎_elim (λ e. subst {A = Rule} (Contains (rules_at b (constraints_of b p))) e two) (λ d. none_in d) (contains_cases (rule_of x.0.pair 1) [] r d))
      (contains_cases (rule_of x.0.pair 0) (rule_of x.0.pair 1 ∷ []) r i)) h)
