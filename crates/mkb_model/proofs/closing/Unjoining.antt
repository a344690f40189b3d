-- A closing whose overlaps don't join adds an equation that the process doesn't have: at rest its rules are reduced by one another.
use Rattle.std.proofs.Common.{ℕ, zero, suc, ◌≡◌, ◌≢◌, ◌⊎◌, inl, inr, refl, sym, ap, ◌∙◌, subst, arith, eqb→eq, List, [], ◌∷◌, length, Contains, Bool, true, false, ◌||◌, ◌==◌, Some, ⊎_elim}
use Rattle.std.specs.Prelude.{T, option_map}
use Rattle.std.specs.List.{filter_map}
use Rattle.std.proofs.lemmas.Bool.{or_left, or_right}
use Rattle.kb_lemmas.proofs.Membership.{contains_cases, none_in, contains_mapped, contains_map}
use Rattle.kb_lemmas.proofs.Booleans.{and_gives_left, and_gives_right}
use Rattle.kb_lemmas.proofs.Options.{some_is}
use Rattle.kb_term.specs.Tree.{Tree, variable}
use Rattle.kb_term.specs.Substitution.{instance, rename, IsVariant}
use Rattle.kb_term.specs.Pair.{Pair}
use Rattle.kb_term.specs.Rule.{Rule, rule_of, rule_between, IsVariantRule}
use Rattle.kb_term.specs.Signature.{Signature, IsRuleOver}
use Rattle.kb_term.specs.Proving.{RewritesAt}
use Rattle.kb_term.specs.declared.origin.RuleRef.{RuleRef}
use Rattle.kb_term.specs.declared.origin.Origin.TheVariants.{Overlap as ByOverlap}
use Rattle.kb_term.specs.declared.origin.Found.{Found}
use Rattle.kb_term.specs.declared.origin.Found.TheVariants.{No, Variant, Strict}
use Rattle.kb_term.proofs.Variants.{rename-rename}
use Rattle.kb_term.proofs.Instances.{instance-variable, instance-instance}
use Rattle.kb_term.proofs.Subtrees.{subtree-instance}
use Rattle.kb_overlap.specs.Trace.{side}
use Rattle.kb_laws.proofs.Renamings.{rewrites_instance}
use Rattle.kb_rewrite.specs.NormalForm.{IsNormal, IsFound, Encompasses}
use Rattle.kb_label.specs.Names.{Name, has}
use Rattle.kb_node.specs.declared.node.LabelKind.{LabelKind}
use Rattle.kb_node.specs.declared.node.LabelKind.TheVariants.{R0, R1, E, C0, C1, X}
use Rattle.kb_node.specs.declared.job.Deduced.{Deduced}
use Rattle.mkb_model.specs.Jobs.{ref_eq}
use Rattle.mkb_model.specs.Plain.{Plain, PlainNode, label_at, rule_kind, other, node_numbers, pair_in, pair_at, rule_at, rules_of, equations_of, is_equation, is_rule, state_of, sides}
use Rattle.mkb_model.specs.DueJobs.{is_usable, is_node_of}
use Rattle.mkb_model.specs.Effects.{added}
use Rattle.mkb_model.specs.Proposals.{NamedRule, as_rules, rules_on, equations_on, IsUnjoining}
use Rattle.mkb_model.specs.Invariants.{FactsHold}
use Rattle.mkb_model.specs.Ready.{IsOn, IsRole, OneRole}
use Rattle.mkb_model.proofs.Lists.{clash, decide, filter_in, in_filter, filter_map_in, in_filter_map, in_numbers}
use Rattle.mkb_model.proofs.commits.Roles.{kind_number, numbers_decide, on_there, equation-no_rule, keeps-with_node}
use Rattle.mkb_model.proofs.nodes.Pairs.{pairs-added}
use Rattle.mkb_model.proofs.commits.Views.{from_side, to_side, rule_of-between, rule_listed}
use Rattle.mkb_model.proofs.commits.Adding.{rule_role, add_one, place, add-place, add-equations, add-others}
use Rattle.mkb_model.proofs.runs.Readiness.{named_rule}
use Rattle.mkb_model.proofs.closing.LeftAlone.{IsBit, Rests, rules_in, in_rules, known_holds, node_one}
use Rattle.mkb_model.proofs.commits.Proper.{IsOrdered}
use Rattle.mkb_model.proofs.commits.Endless.{right_irreducible}
use Rattle.mkb_model.proofs.commits.RewritingActs.{ordered_halts}
use Rattle.mkb_model.proofs.closing.NormalTerms.{rewrites_encompassed}
use Rattle.mkb_model.proofs.closing.Interreduced.{IsHeld, AreReduced, some_new}

-- ---- directions

other_twice : (d : ℕ) → IsBit d → other (other d) ≡ d
other_twice zero h = refl
other_twice (suc d) (inl e) = absurd (omega (arith, e))
other_twice (suc d) (inr e) = omega (arith, e)

other_bit : (d : ℕ) → IsBit (other d)
other_bit zero = inr refl
other_bit (suc d) = inl refl

same_direction : (c d : ℕ) → IsBit c → IsBit d → rule_kind c ≡ rule_kind d → c ≡ d
same_direction zero zero h k e = refl
same_direction (suc c) (suc d) (inr h) (inr k) e = h ∙ sym k
same_direction zero (suc d) h k e = absurd (omega (arith, ap kind_number e))
same_direction (suc c) zero h k e = absurd (omega (arith, ap kind_number e))
same_direction (suc c) (suc d) (inl h) k e = absurd (omega (arith, h))
same_direction (suc c) (suc d) h (inl k) e = absurd (omega (arith, k))

from_is : (q : Pair) (d : ℕ) → from_side q d ≡ side q d
from_is q zero = refl
from_is q (suc d) = refl

to_is : (q : Pair) (d : ℕ) → to_side q d ≡ side q (other d)
to_is q zero = refl
to_is q (suc d) = refl

same_ref : (a c : RuleRef) → ref_eq a c ≡ true → (a.node ≡ c.node) × (a.dir ≡ c.dir)
same_ref a c h = (equal a.node c.node (and_gives_left (a.node == c.node) (a.dir == c.dir) h), equal a.dir c.dir (and_gives_right (a.node == c.node) (a.dir == c.dir) h))
  where
    equal : (x y : ℕ) → (x == y) ≡ true → x ≡ y
    equal x y e = eqb→eq x y (subst {A = Bool} T (sym e) tt)

encompasses_instance : (d : ℕ → Tree) (t s : Tree) → Encompasses t s → Encompasses (instance d t) s
encompasses_instance d t s (p, (u, there, (m, e))) = (p, (instance d u, subtree-instance d p t u there, ((λ n. instance d (m n)), sym (instance-instance d m s) ∙ ap (instance d) e)))

-- ---- a process at rest

module _ (g : Signature) (b : Plain) (p : Name) (rest : Rests b p) (facts : FactsHold b) (one : OneRole b.nodes p) (ordered : IsOrdered g (state_of b p)) where
  -- a rule of the process, with its pair
  record OfBoard (x : NamedRule) : Type 0 where
    bit : IsBit x.ref.dir
    on : is_rule b p x.ref ≡ true
    pair : Pair
    there : pair_in b.nodes x.ref.node ≡ Some pair
    is : rule_of pair x.ref.dir ≡ x.rule
    over : IsRuleOver g x.rule
    at : rule_at b x.ref ≡ Some x.rule

  of_board : (x : NamedRule) → Contains (rules_on b p) x → OfBoard x
  of_board x i =
      let k = named_rule b (rules_of b p) x.ref x.rule i in
      let r = rules_in b p x.ref k.0 in
      record {
        bit = r.0;
        on = r.1;
        pair = k.1.0;
        there = k.1.1;
        is = k.1.2;
        over = subst {A = Rule} (IsRuleOver g) k.1.2 (ordered.sound.rules (rule_of k.1.0 x.ref.dir) (rule_listed b p x.ref k.1.0 r.1 k.1.1));
        at = ap (option_map (λ q. rule_of q x.ref.dir)) k.1.1 ∙ ap Some k.1.2;
      }

  between : (x : NamedRule) (o : OfBoard x) → IsVariantRule x.rule (rule_between (side o.pair x.ref.dir) (side o.pair (other x.ref.dir)))
  between x o = subst {A = Rule} (λ r. IsVariantRule r (rule_between (side o.pair x.ref.dir) (side o.pair (other x.ref.dir)))) o.is (subst {A = Tree} (λ s. IsVariantRule (rule_of o.pair x.ref.dir) (rule_between s (side o.pair (other x.ref.dir)))) (from_is o.pair x.ref.dir) (subst {A = Tree} (λ t. IsVariantRule (rule_of o.pair x.ref.dir) (rule_between (from_side o.pair x.ref.dir) t)) (to_is o.pair x.ref.dir) (rule_of-between o.pair x.ref.dir)))

  -- a rule elsewhere that a side encompasses is a variant of it, and the side is neither an equation's nor a right one
  at_side : (n w : ℕ) (q : Pair) (y : NamedRule) → is_node_of b p n ≡ true → IsBit w → pair_at b n ≡ Some q → (o : OfBoard y) → y.ref.node ≢ n → Encompasses (side q w) y.rule.left
      → IsVariant (side q w) y.rule.left × ((is_equation b p n || is_rule b p (record { node = n; dir = other w })) ≡ false)
  at_side n w q y node bit there o away e =
      let k = rest.reduced n w y.ref node bit o.bit o.on away in
      let f = known_holds b n w y.ref k.0 facts k.1 q there y.rule o.at in
      go k.0 f.0 f.1 k.2
    where
      go : (v : Found) → IsFound (side q w) y.rule v → v ≢ Strict → is_usable b p n w v ≡ false → IsVariant (side q w) y.rule.left × ((is_equation b p n || is_rule b p (record { node = n; dir = other w })) ≡ false)
      go No f s u = absurd (f e)
      go Variant f s u = (f, u)
      go Strict f s u = absurd (s refl)

  -- rules of the process at one node are one
  same_node : (x y : NamedRule) → OfBoard x → OfBoard y → y.ref.node ≡ x.ref.node → x.rule ≡ y.rule
  same_node x y o k e =
      let d : x.ref.dir ≡ y.ref.dir = same_direction x.ref.dir y.ref.dir o.bit k.bit (one x.ref.node (rule_kind x.ref.dir) (rule_kind y.ref.dir) (rule_role x.ref.dir) (rule_role y.ref.dir) o.on (subst {A = ℕ} (λ m. IsOn b.nodes p m (rule_kind y.ref.dir)) e k.on)) in
      let q : o.pair ≡ k.pair = some_is (sym o.there ∙ ap (pair_in b.nodes) (sym e) ∙ k.there) in
      sym o.is ∙ ap (λ z. rule_of z x.ref.dir) q ∙ ap (rule_of k.pair) d ∙ k.is

  -- a rule that steps is one of the process
  by_rule : (rule : Rule) → Contains (as_rules (rules_on b p)) rule → (y : NamedRule) × Contains (rules_on b p) y × (y.rule ≡ rule)
  by_rule rule i = contains_mapped (λ (r : NamedRule). r.rule) (rules_on b p) rule i

  right_normal : (x : NamedRule) → Contains (rules_on b p) x → IsNormal (as_rules (rules_on b p)) x.rule.right
  right_normal x i u (rule, c, at, h) = go (by_rule rule c)
    where
      o : OfBoard x
      o = of_board x i

      v : IsVariantRule x.rule (rule_between (side o.pair x.ref.dir) (side o.pair (other x.ref.dir)))
      v = between x o

      go : (y : NamedRule) × Contains (rules_on b p) y × (y.rule ≡ rule) → ⊥
      go (y, k, e) = ⊎_elim own elsewhere (numbers_decide y.ref.node x.ref.node)
        where
          steps : RewritesAt y.rule at x.rule.right u
          steps = subst {A = Rule} (λ r. RewritesAt r at x.rule.right u) (sym e) h

          own : y.ref.node ≡ x.ref.node → ⊥
          own q = right_irreducible (state_of b p).rules x.rule (subst {A = Rule} (Contains (state_of b p).rules) o.is (rule_listed b p x.ref o.pair o.on o.there)) (ordered_halts g (state_of b p) ordered x.rule.left o.over.left) at u
              (subst {A = Rule} (λ r. RewritesAt r at x.rule.right u) (sym (same_node x y o (of_board y k) q)) steps)

          elsewhere : y.ref.node ≢ x.ref.node → ⊥
          elsewhere d =
              let moved = rewrites_instance (λ n. variable (v.0 n)) y.rule at x.rule.right u steps in
              let seen = subst {A = Tree} (λ t. Encompasses t y.rule.left) v.3.there (rewrites_encompassed y.rule at (rename v.0 x.rule.right) (rename v.0 u) moved) in
              let r = at_side x.ref.node (other x.ref.dir) o.pair y (node_one b p x.ref.node x.ref.dir o.on) (other_bit x.ref.dir) o.there (of_board y k) d seen in
              clash (or_right (is_equation b p x.ref.node) (is_rule b p (record { node = x.ref.node; dir = other (other x.ref.dir) })) (subst {A = ℕ} (λ z. is_rule b p (record { node = x.ref.node; dir = z }) ≡ true) (sym (other_twice x.ref.dir o.bit)) o.on)) r.1

  left_variants : (x y : NamedRule) → Contains (rules_on b p) x → Contains (rules_on b p) y → Encompasses x.rule.left y.rule.left → IsVariant x.rule.left y.rule.left
  left_variants x y i k e = ⊎_elim own elsewhere (numbers_decide y.ref.node x.ref.node)
    where
      o : OfBoard x
      o = of_board x i

      v : IsVariantRule x.rule (rule_between (side o.pair x.ref.dir) (side o.pair (other x.ref.dir)))
      v = between x o

      own : y.ref.node ≡ x.ref.node → IsVariant x.rule.left y.rule.left
      own q = subst {A = Rule} (λ r. IsVariant x.rule.left r.left) (same_node x y o (of_board y k) q) ((λ n. n), (λ n. n), record { there = instance-variable x.rule.left; back_again = instance-variable x.rule.left })

      elsewhere : y.ref.node ≢ x.ref.node → IsVariant x.rule.left y.rule.left
      elsewhere d =
          let seen = subst {A = Tree} (λ t. Encompasses t y.rule.left) v.2.there (encompasses_instance (λ n. variable (v.0 n)) x.rule.left y.rule.left e) in
          let r = (at_side x.ref.node x.ref.dir o.pair y (node_one b p x.ref.node x.ref.dir o.on) o.bit o.there (of_board y k) d seen).0 in (
            (λ n. r.0 (v.0 n)),
            (λ n. v.1 (r.1 n)),
            record {
              there = sym (rename-rename r.0 v.0 x.rule.left) ∙ ap (rename r.0) v.2.there ∙ r.2.there;
              back_again = sym (rename-rename v.1 r.1 y.rule.left) ∙ ap (rename v.1) r.2.back_again ∙ v.2.back_again;
            },
          )

  equation_sides : (n : ℕ) (q : Pair) → is_equation b p n ≡ true → pair_at b n ≡ Some q → (w : ℕ) → IsBit w → IsNormal (as_rules (rules_on b p)) (side q w)
  equation_sides n q on there w bit u (rule, c, at, h) = go (by_rule rule c)
    where
      go : (y : NamedRule) × Contains (rules_on b p) y × (y.rule ≡ rule) → ⊥
      go (y, k, e) = ⊎_elim
          (λ q. equation-no_rule y.ref.dir (one n E (rule_kind y.ref.dir) tt (rule_role y.ref.dir) on (subst {A = ℕ} (λ m. IsOn b.nodes p m (rule_kind y.ref.dir)) q (of_board y k).on)))
          (λ d. clash (or_left (is_equation b p n) (is_rule b p (record { node = n; dir = other w })) on)
          (at_side n w q y (or_left (is_equation b p n) (is_rule b p (record { node = n; dir = 0 }) || is_rule b p (record { node = n; dir = 1 })) on) bit there (of_board y k) d (rewrites_encompassed y.rule at (side q w) u (subst {A = Rule} (λ r. RewritesAt r at (side q w) u) (sym e) h))).1)
          (numbers_decide y.ref.node n)

  equations_normal : (e : Tree × Tree) → Contains (equations_on b p) e → IsNormal (as_rules (rules_on b p)) e.0 × IsNormal (as_rules (rules_on b p)) e.1
  equations_normal e i =
      let m = contains_mapped sides (filter_map (pair_at b) (equations_of b p)) e i in
      let f = filter_map_in (pair_at b) (equations_of b p) m.0 m.1 in
      let k = filter_in (is_equation b p) (node_numbers b) f.0 f.1 in (
        subst {A = Tree} (IsNormal (as_rules (rules_on b p))) (ap (λ (z : Tree × Tree). z.0) m.2) (equation_sides f.0 m.0 k.1 f.2 0 (inl refl)),
        subst {A = Tree} (IsNormal (as_rules (rules_on b p))) (ap (λ (z : Tree × Tree). z.1) m.2) (equation_sides f.0 m.0 k.1 f.2 1 (inr refl)),
      )

  are_reduced : AreReduced (rules_on b p) (equations_on b p)
  are_reduced = record {
    are_rules = λ x i. (of_board x i).over.is_rule;
    right = right_normal;
    left = left_variants;
    equations = equations_normal;
    named = λ x y i k e. same_node x y (of_board x i) (of_board y k) (sym (same_ref x.ref y.ref e).0);
  }

  rule_on : (z : Pair) (m d : ℕ) → IsBit d → is_rule b p (record { node = m; dir = d }) ≡ true → pair_in b.nodes m ≡ Some z → Contains (rules_on b p) (record { ref = record { node = m; dir = d }; rule = rule_of z d })
  rule_on z m d bit on there = in_filter_map (λ a. option_map {U = NamedRule} (λ r. record { ref = a; rule = r }) (rule_at b a)) (rules_of b p) (record { node = m; dir = d }) (record { ref = record { node = m; dir = d }; rule = rule_of z d })
      (in_rules b p (record { node = m; dir = d }) bit on) (ap (λ o. option_map {U = NamedRule} (λ r. record { ref = record { node = m; dir = d }; rule = r }) (option_map (λ q. rule_of q d) o)) there)

  -- a pair whose node the process has is held
  held : (z : Pair) (m : ℕ) (j : LabelKind) → IsRole j → IsOn b.nodes p m j → pair_in b.nodes m ≡ Some z → IsHeld (rules_on b p) (equations_on b p) z
  held z m E role on there = inl (contains_map sides (filter_map (pair_at b) (equations_of b p)) z (in_filter_map (pair_at b) (equations_of b p) m z (in_filter (is_equation b p) (node_numbers b) m (in_numbers 0 (length b.nodes) m (omega arith) (let l = on_there b.nodes p m E on in omega (arith, l))) on) there))
  held z m R0 role on there = inr (record { ref = record { node = m; dir = 0 }; rule = rule_of z 0 }, rule_on z m 0 (inl refl) on there, inl (rule_of-between z 0))
  held z m R1 role on there = inr (record { ref = record { node = m; dir = 1 }; rule = rule_of z 1 }, rule_on z m 1 (inr refl) on there, inr (rule_of-between z 1))
  held z m C0 role on there = absurd role
  held z m C1 role on there = absurd role
  held z m X role on there = absurd role

  -- the process doesn't have all pairs of its overlaps that don't join
  pub never_all : (ds : List Deduced) → IsUnjoining (rules_on b p) (equations_on b p) ds → ((d : Deduced) → Contains ds d → (m : ℕ) × (j : LabelKind) × IsRole j × IsOn b.nodes p m j × (pair_in b.nodes m ≡ Some d.pair)) → ⊥
  never_all ds u has_all = some_new (rules_on b p) (equations_on b p) are_reduced ds u (λ d i. let k = has_all d i in held d.pair k.0 k.1 k.2 k.3 k.4)

-- ---- what is added

-- roles stay where pairs are added
kept_added : (l : List Name) (ds : List Deduced) (xs : List PlainNode) (p : Name) → has l p ≡ true → (m : ℕ) (j : LabelKind) → IsOn xs p m j → IsOn (added l ds xs) p m j
kept_added l [] xs p named m j o = o
kept_added l (d ∷ ds) xs p named m j o = kept_added l ds (add_one l d xs) p named m j (go j o)
  where
    go : (j : LabelKind) → IsOn xs p m j → IsOn (add_one l d xs) p m j
    go E o = (add-equations l d xs p named m).1 (inl o)
    go R0 o = (add-others l d xs p named m R0 (λ e. omega (arith, ap kind_number e))).1 o
    go R1 o = (add-others l d xs p named m R1 (λ e. omega (arith, ap kind_number e))).1 o
    go C0 o = (add-others l d xs p named m C0 (λ e. omega (arith, ap kind_number e))).1 o
    go C1 o = (add-others l d xs p named m C1 (λ e. omega (arith, ap kind_number e))).1 o
    go X o = (add-others l d xs p named m X (λ e. omega (arith, ap kind_number e))).1 o

-- each pair that is added is one that the process has
pub added_had : (l : List Name) (ds : List Deduced) (xs : List PlainNode) (p : Name) → has l p ≡ true → (d : Deduced) → Contains ds d → (m : ℕ) × (j : LabelKind) × IsRole j × IsOn (added l ds xs) p m j × (pair_in (added l ds xs) m ≡ Some d.pair)
added_had l [] xs p named d i = none_in i
added_had l (x ∷ ds) xs p named d i = ⊎_elim (λ e. now e) (λ k. added_had l ds (add_one l x xs) p named d k) (contains_cases x ds d i)
  where
    there : pair_in (added l ds (add_one l x xs)) (place l x xs p named) ≡ Some x.pair
    there = pairs-added l ds (add_one l x xs) (place l x xs p named) x.pair (add-place l x xs p named)

    role : (j : LabelKind) × IsRole j × IsOn (add_one l x xs) p (place l x xs p named) j
    role = go (decide (has (label_at xs (place l x xs p named) R0) p)) (decide (has (label_at xs (place l x xs p named) R1) p))
      where
        go : (has (label_at xs (place l x xs p named) R0) p ≡ true) ⊎ (has (label_at xs (place l x xs p named) R0) p ≡ false) → (has (label_at xs (place l x xs p named) R1) p ≡ true) ⊎ (has (label_at xs (place l x xs p named) R1) p ≡ false)
            → (j : LabelKind) × IsRole j × IsOn (add_one l x xs) p (place l x xs p named) j
        go (inl h) k = (R0, tt, (add-others l x xs p named (place l x xs p named) R0 (λ e. equation-no_rule 0 (sym e))).1 h)
        go (inr h) (inl k) = (R1, tt, (add-others l x xs p named (place l x xs p named) R1 (λ e. equation-no_rule 1 (sym e))).1 k)
        go (inr h) (inr k) = (E, tt, (add-equations l x xs p named (place l x xs p named)).1 (inr (refl, ((λ o. clash ((keeps-with_node x.pair (ByOverlap x.outer x.inner x.position) xs p (place l x xs p named) R0).0 o) h), λ o. clash ((keeps-with_node x.pair (ByOverlap x.outer x.inner x.position) xs p (place l x xs p named) R1).0 o) k))))

    now : x ≡ d → (m : ℕ) × (j : LabelKind) × IsRole j × IsOn (added l ds (add_one l x xs)) p m j × (pair_in (added l ds (add_one l x xs)) m ≡ Some d.pair)
    now e = (place l x xs p named, role.0, role.1, kept_added l ds (add_one l x xs) p named (place l x xs p named) role.0 role.2, there ∙ ap (λ (z : Deduced). Some z.pair) e)
