-- The three cases of a rewriting: an equation is simplified, a rule composed, a rule collapsed.
use Rattle.std.proofs.Common.{ℕ, ◌<◌, ◌≡◌, ◌≢◌, ◌⊎◌, ◌↔◌, inl, inr, refl, sym, ap, ◌∙◌, subst, List, length, Some, ⊎_elim, Contains, true, false}
use Rattle.std.specs.Prelude.{⊤}
use Rattle.kb_lemmas.proofs.Options.{some_is}
use Rattle.kb_term.specs.Tree.{Tree}
use Rattle.kb_term.specs.Pair.{Pair, IsSameEquation}
use Rattle.kb_term.specs.Signature.{Signature}
use Rattle.kb_term.specs.Rule.{Rule, rule_of, IsVariantRule, rule_between}
use Rattle.kb_rewrite.specs.NormalForm.{IsFound}
use Rattle.kb_overlap.specs.Trace.{side, other_side}
use Rattle.kb_laws.specs.Completion.{Keeps}
use Rattle.kb_term.specs.declared.origin.RuleRef.{RuleRef}
use Rattle.kb_term.specs.declared.origin.Found.{Found}
use Rattle.kb_label.specs.Names.{Name, has}
use Rattle.mkb_model.specs.Plain.{Plain, PlainNode, label_at, rule_kind, constraint_kind, other, state_of, pair_in, sides}
use Rattle.mkb_model.specs.Effects.{gains_equation, is_strict}
use Rattle.kb_node.specs.declared.node.LabelKind.{LabelKind}
use Rattle.kb_node.specs.declared.node.LabelKind.TheVariants.{R0, R1, E}
use Rattle.mkb_model.specs.Ready.{IsOn, KeepsPairs, IsRewriteOn}
use Rattle.mkb_model.proofs.Lists.{clash, decide}
use Rattle.mkb_model.proofs.commits.Roles.{numbers_decide, on-gains_equation, KeepsRoles}
use Rattle.mkb_model.proofs.commits.Views.{same_sym, same_trans, rule_sym, rule_trans, EqView, RuleView, iff_over, pair_back, equations-view, rules-view, constraints-view, rule_listed}
use Rattle.mkb_model.proofs.commits.Steps.{Steps, HasEq, HasRule, IsSettled, simplified, composed, collapsed}
use Rattle.mkb_model.proofs.commits.RoleChanges.{Fits, same_node, lean_state, same_from_rules, rule_by_kind, eq_change, rule_change}
use Rattle.mkb_model.proofs.commits.Adding.{view-rules_only}
use Rattle.mkb_model.proofs.commits.RewritingRuns.{side_pair, rule_of-side, rule_of-other, strict_is}

-- ---- the cases, by what becomes of the roles

module _ (g : Signature) (b : Plain) (p : Name) (n w : ℕ) (at : List ℕ) (a : RuleRef) (kind : Found) (u : Tree) (f : IsRewriteOn b.nodes n w at a kind u) (has_rule : IsOn b.nodes p a.node (rule_kind a.dir))
    (c : Plain) (keeps : KeepsPairs b.nodes c.nodes) (fits : Fits c.nodes) (same_constraints : (m d : ℕ) → IsOn c.nodes p m (constraint_kind d) ↔ IsOn b.nodes p m (constraint_kind d)) where
  s : Tree
  s = side f.pair w

  t : Tree
  t = other_side f.pair w

  constraints : Keeps (IsVariantRule) (state_of b p).constraints (state_of c p).constraints
  constraints r = iff_over (constraints-view b p r) (constraints-view c p r) (view-rules_only constraint_kind b.nodes c.nodes p p same_constraints keeps r)

  rule_in : Contains (state_of b p).rules (rule_of f.by a.dir)
  rule_in = rule_listed b p a f.by has_rule f.by_there

  -- an equation is simplified
  pub simplify_case : IsOn b.nodes p n E → (k : ℕ) (z : Pair) (Gained : Type 0) → pair_in c.nodes k ≡ Some z
      → ((m : ℕ) → IsOn c.nodes p m E ↔ ((IsOn b.nodes p m E × ¬ ((m ≡ n) × ⊤)) ⊎ ((m ≡ k) × Gained)))
      → ((m d : ℕ) → IsOn c.nodes p m (rule_kind d) ↔ IsOn b.nodes p m (rule_kind d))
      → (Gained → IsSameEquation (u, other_side f.pair w) (sides z)) → IsSettled (state_of c p) (u, other_side f.pair w) → Steps g (state_of b p) (state_of c p)
  simplify_case on k z Gained hz eq_roles rule_roles same settles =
      simplified g (state_of b p) (state_of c p) (lean_state c p fits) (side f.pair w) (other_side f.pair w) u (rule_of f.by a.dir, rule_in, at, f.step)
      ((equations-view b p (side f.pair w, other_side f.pair w)).1 (n, f.pair, on, f.there, side_pair f.pair w))
      (λ y. (
        (λ h. ⊎_elim (λ q. inl ((equations-view c p y).1 ((eqs y).1 (inl ((equations-view b p y).0 q.0, λ i. q.1 (same_trans (side f.pair w, other_side f.pair w) (sides f.pair) y (same_sym (sides f.pair) (side f.pair w, other_side f.pair w) (side_pair f.pair w)) i.0)))))) (λ q. inr q) h),
        λ h. ⊎_elim (λ q. ⊎_elim (λ v. inl ((equations-view b p y).1 v.0, λ i. v.1 (same_trans (sides f.pair) (side f.pair w, other_side f.pair w) y (side_pair f.pair w) i, tt))) (λ v. inr (same_trans (u, other_side f.pair w) (sides z) y (same v.1) v.0)) ((eqs y).0 ((equations-view c p y).0 q))) (λ q. inr q) h,
      ))
      (λ r. iff_over (rules-view b p r) (rules-view c p r) (view-rules_only rule_kind b.nodes c.nodes p p rule_roles keeps r))
      constraints settles
    where
      eqs : (y : Tree × Tree) → EqView c.nodes p y ↔ ((EqView b.nodes p y × ¬ (IsSameEquation (sides f.pair) y × ⊤)) ⊎ (IsSameEquation (sides z) y × Gained))
      eqs = eq_change b.nodes c.nodes p p fits keeps n f.pair ⊤ f.there k z Gained hz eq_roles

  -- a rule is collapsed
  pub collapse_case : IsOn b.nodes p n (rule_kind w) → is_strict kind ≡ true → ((d : ℕ) → IsOn b.nodes p n (rule_kind d) → rule_kind d ≡ rule_kind w) → (k : ℕ) (z : Pair) (Gained : Type 0) → pair_in c.nodes k ≡ Some z
      → ((m : ℕ) → IsOn c.nodes p m E ↔ ((IsOn b.nodes p m E × ¬ ((m ≡ n) × ⊥)) ⊎ ((m ≡ k) × Gained)))
      → ((m d : ℕ) → IsOn c.nodes p m (rule_kind d) ↔ ((IsOn b.nodes p m (rule_kind d) × ¬ ((m ≡ n) × (rule_kind d ≡ rule_kind w) × ⊤)) ⊎ ((m ≡ n) × (rule_kind d ≡ rule_kind w) × ⊥)))
      → (Gained → IsSameEquation (u, other_side f.pair w) (sides z)) → IsSettled (state_of c p) (u, other_side f.pair w) → Steps g (state_of b p) (state_of c p)
  collapse_case on strict alone k z Gained hz eq_roles rule_roles same settles =
      collapsed g (state_of b p) (state_of c p) (lean_state c p fits) (side f.pair w) (other_side f.pair w) u (rule_of f.by a.dir) at rule_in
      (subst {A = Found} (IsFound (side f.pair w) (rule_of f.by a.dir)) (strict_is kind strict) f.found).1 f.step
      (λ y. (
        (λ h. ⊎_elim (λ q. inl ((equations-view c p y).1 ((eqs y).1 (inl ((equations-view b p y).0 q, λ i. i.1))))) (λ q. inr q) h),
        λ h. ⊎_elim (λ q. ⊎_elim (λ v. inl ((equations-view b p y).1 v.0)) (λ v. inr (same_trans (u, other_side f.pair w) (sides z) y (same v.1) v.0)) ((eqs y).0 ((equations-view c p y).0 q))) (λ q. inr q) h,
      )) (
        (rules-view b p (rule_between (side f.pair w) (other_side f.pair w))).1 (n, w, f.pair, on, f.there, rule_of-side f.pair w),
        λ r. (
          (λ h. (rules-view c p r).1 ((rules r).1 (inl ((rules-view b p r).0 h.0, λ i. h.1 (rule_trans (rule_between (side f.pair w) (other_side f.pair w)) (rule_of f.pair w) r (rule_sym (rule_of f.pair w) (rule_between (side f.pair w) (other_side f.pair w)) (rule_of-side f.pair w)) i.0))))),
          λ h. ⊎_elim (λ v. ((rules-view b p r).1 v.0, λ i. v.1 (rule_trans (rule_of f.pair w) (rule_between (side f.pair w) (other_side f.pair w)) r (rule_of-side f.pair w) i, tt))) (λ v. absurd v.1) ((rules r).0 ((rules-view c p r).0 h)),
        ),
      )
      constraints settles
    where
      eqs : (y : Tree × Tree) → EqView c.nodes p y ↔ ((EqView b.nodes p y × ¬ (IsSameEquation (sides f.pair) y × ⊥)) ⊎ (IsSameEquation (sides z) y × Gained))
      eqs = eq_change b.nodes c.nodes p p fits keeps n f.pair ⊥ f.there k z Gained hz eq_roles

      rules : (r : Rule) → RuleView rule_kind c.nodes p r ↔ ((RuleView rule_kind b.nodes p r × ¬ (IsVariantRule (rule_of f.pair w) r × ⊤)) ⊎ (IsVariantRule (rule_of f.pair w) r × ⊥))
      rules = rule_change b.nodes c.nodes p p fits keeps rule_kind rule_by_kind n w f.pair ⊤ f.there (λ d l o. alone d o) n w f.pair ⊥ (keeps n f.pair f.there) rule_roles

  -- a rule is composed
  pub compose_case : IsOn b.nodes p n (rule_kind (other w)) → ((d : ℕ) → IsOn b.nodes p n (rule_kind d) → rule_kind d ≡ rule_kind (other w)) → (k d : ℕ) (z : Pair) → pair_in c.nodes k ≡ Some z → IsVariantRule (rule_of z d) (rule_between (other_side f.pair w) u)
      → IsOn c.nodes p k (rule_kind d)
      → ((m : ℕ) → IsOn c.nodes p m E ↔ (IsOn b.nodes p m E × ¬ (m ≡ k)))
      → ((m e : ℕ) → IsOn c.nodes p m (rule_kind e) ↔ ((IsOn b.nodes p m (rule_kind e) × ¬ ((m ≡ n) × (rule_kind e ≡ rule_kind (other w)) × ⊤)) ⊎ ((m ≡ k) × (rule_kind e ≡ rule_kind d) × ⊤)))
      → IsSameEquation (other_side f.pair w, u) (sides z) → Steps g (state_of b p) (state_of c p)
  compose_case on alone k d z hz v made eq_roles rule_roles same =
      composed g (state_of b p) (state_of c p) (lean_state c p fits) (other_side f.pair w) (side f.pair w) u (rule_of f.by a.dir) at rule_in
      (λ h. f.other_node ((same_node c.nodes fits a.node n f.by f.pair (keeps a.node f.by f.by_there) (keeps n f.pair f.there)
      (same_from_rules f.by f.pair a.dir (other w) (rule_trans (rule_of f.by a.dir) (rule_between (other_side f.pair w) (side f.pair w)) (rule_of f.pair (other w)) h (rule_sym (rule_of f.pair (other w)) (rule_between (other_side f.pair w) (side f.pair w)) (rule_of-other f.pair w))))).1))
      f.step (equations (decide (has (label_at b.nodes k E) p))) (
        (rules-view b p (rule_between (other_side f.pair w) (side f.pair w))).1 (n, other w, f.pair, on, f.there, rule_of-other f.pair w),
        λ r. (
          (λ h. (rules-view c p r).1 ((rules r).1 (⊎_elim (λ q. inl ((rules-view b p r).0 q.0, λ i. q.1 (rule_trans (rule_between (other_side f.pair w) (side f.pair w)) (rule_of f.pair (other w)) r (rule_sym (rule_of f.pair (other w)) (rule_between (other_side f.pair w) (side f.pair w)) (rule_of-other f.pair w)) i.0))) (λ q. inr (rule_trans (rule_of z d) (rule_between (other_side f.pair w) u) r v q, tt)) h))),
          λ h. ⊎_elim (λ q. inl ((rules-view b p r).1 q.0, λ i. q.1 (rule_trans (rule_of f.pair (other w)) (rule_between (other_side f.pair w) (side f.pair w)) r (rule_of-other f.pair w) i, tt))) (λ q. inr (rule_trans (rule_between (other_side f.pair w) u) (rule_of z d) r (rule_sym (rule_of z d) (rule_between (other_side f.pair w) u) v) q.0)) ((rules r).0 ((rules-view c p r).0 h)),
        ),
      )
      constraints
    where
      rules : (r : Rule) → RuleView rule_kind c.nodes p r ↔ ((RuleView rule_kind b.nodes p r × ¬ (IsVariantRule (rule_of f.pair (other w)) r × ⊤)) ⊎ (IsVariantRule (rule_of z d) r × ⊤))
      rules = rule_change b.nodes c.nodes p p fits keeps rule_kind rule_by_kind n (other w) f.pair ⊤ f.there (λ e l o. alone e o) k d z ⊤ hz rule_roles

      equations : (has (label_at b.nodes k E) p ≡ true) ⊎ (has (label_at b.nodes k E) p ≡ false)
          → Keeps IsSameEquation (state_of b p).equations (state_of c p).equations
          ⊎ (HasEq (state_of b p).equations (other_side f.pair w, u) × (¬ HasEq (state_of c p).equations (other_side f.pair w, u)) × HasRule (state_of c p).rules (other_side f.pair w) u × ((y : Tree × Tree) → HasEq (state_of b p).equations y ↔ (HasEq (state_of c p).equations y ⊎ IsSameEquation (other_side f.pair w, u) y)))
      equations (inr off) = inl (λ y. iff_over (equations-view b p y) (equations-view c p y) (
        (λ q. (q.0, q.1, (eq_roles q.0).1 (q.2, λ e. clash (subst {A = ℕ} (λ m. IsOn b.nodes p m E) e q.2) off), keeps q.0 q.1 q.3, q.4)),
        λ q. let o = (eq_roles q.0).0 q.2 in (q.0, q.1, o.0, pair_back b.nodes c.nodes p q.0 E q.1 keeps o.0 q.3, q.4),
      ))
      equations (inl o) = inr (
        (equations-view b p (other_side f.pair w, u)).1 (k, z, o, here, same_sym (other_side f.pair w, u) (sides z) same),
        (λ h. let q = (equations-view c p (other_side f.pair w, u)).0 h in
            let e = (same_node c.nodes fits q.0 k q.1 z q.3 hz (same_trans (sides q.1) (other_side f.pair w, u) (sides z) q.4 same)).1 in
            ((eq_roles q.0).0 q.2).1 e),
        (rule_of z d, rule_listed c p (record { node = k; dir = d }) z made hz, v),
        λ y. (
          (λ h. split y ((equations-view b p y).0 h)),
          λ h. ⊎_elim (λ q. (equations-view b p y).1 (((eqs y).0 ((equations-view c p y).0 q)).0)) (λ q. (equations-view b p y).1 (k, z, o, here, same_trans (sides z) (other_side f.pair w, u) y (same_sym (other_side f.pair w, u) (sides z) same) q)) h,
        ),
      )
        where
          here : pair_in b.nodes k ≡ Some z
          here = pair_back b.nodes c.nodes p k E z keeps o hz

          eqs : (y : Tree × Tree) → EqView c.nodes p y ↔ (EqView b.nodes p y × ¬ IsSameEquation (sides z) y)
          eqs y = let e = eq_change b.nodes c.nodes p p fits keeps k z ⊤ here k z ⊥ hz (λ m. ((λ i. let j = (eq_roles m).0 i in inl (j.0, λ q. j.1 q.0)), λ i. ⊎_elim (λ j. (eq_roles m).1 (j.0, λ q. j.1 (q, tt))) (λ j. absurd j.1) i)) y in
              ((λ i. ⊎_elim (λ j. (j.0, λ q. j.1 (q, tt))) (λ j. absurd j.1) (e.0 i)), λ i. e.1 (inl (i.0, λ q. i.1 q.0)))

          split : (y : Tree × Tree) → EqView b.nodes p y → HasEq (state_of c p).equations y ⊎ IsSameEquation (other_side f.pair w, u) y
          split y q = go (numbers_decide q.0 k)
            where
              go : (q.0 ≡ k) ⊎ (q.0 ≢ k) → HasEq (state_of c p).equations y ⊎ IsSameEquation (other_side f.pair w, u) y
              go (inl e) = inr (same_trans (other_side f.pair w, u) (sides z) y same (subst {A = Pair} (λ v. IsSameEquation (sides v) y) (some_is (sym q.3 ∙ ap (pair_in b.nodes) e ∙ here)) q.4))
              go (inr h) = inl ((equations-view c p y).1 (q.0, q.1, (eq_roles q.0).1 (q.2, h), keeps q.0 q.1 q.3, q.4))

-- ---- the roles that follow

-- an equation is gained by one list, and the others leave the process alone
pub eq_gain : (xs zs ys : List PlainNode) (p : Name) (k : ℕ) (l : List Name) → KeepsRoles xs zs p → k < length zs → has l p ≡ true → KeepsRoles (gains_equation k l zs) ys p
    → (m : ℕ) → IsOn ys p m E ↔ (IsOn xs p m E ⊎ ((m ≡ k) × ((¬ IsOn xs p k R0) × (¬ IsOn xs p k R1))))
eq_gain xs zs ys p k l before there named after m = (
  (λ o. ⊎_elim (λ h. inl ((before m E).0 h)) (λ h. inr (h.0.0, ((λ i. h.3 ((before k R0).1 i)), λ i. h.4 ((before k R1).1 i)))) ((on-gains_equation k l zs p m E).0 ((after m E).0 o))),
  λ h. (after m E).1 ((on-gains_equation k l zs p m E).1 (⊎_elim (λ i. inl ((before m E).1 i)) (λ i. inr ((i.0, refl), there, named, (λ j. i.1.0 ((before k R0).0 j)), λ j. i.1.1 ((before k R1).0 j))) h)),
)

pub others_gain : (xs zs ys : List PlainNode) (p : Name) (k : ℕ) (l : List Name) → KeepsRoles xs zs p → KeepsRoles (gains_equation k l zs) ys p → (m : ℕ) (j : LabelKind) → j ≢ E → IsOn ys p m j ↔ IsOn xs p m j
others_gain xs zs ys p k l before after m j n = (
  (λ o. ⊎_elim (λ h. (before m j).0 h) (λ h. absurd (n h.0.1)) ((on-gains_equation k l zs p m j).0 ((after m j).0 o))),
  λ h. (after m j).1 ((on-gains_equation k l zs p m j).1 (inl ((before m j).1 h))),
)
