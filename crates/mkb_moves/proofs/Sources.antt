-- What a rewriting does to the roles in which a process of its label has the nodes.
use Rattle.std.proofs.Common.{ℕ, zero, suc, arith, ◌<◌, ◌≡◌, ◌≢◌, ◌⊎◌, ◌↔◌, inl, inr, refl, sym, ap, ◌∙◌, subst, List, length, Option, Some, None, true, false, ⊎_elim}
use Rattle.kb_lemmas.proofs.Options.{none_some, some_is}
use Rattle.kb_term.specs.Tree.{Tree}
use Rattle.kb_term.specs.Pair.{Pair}
use Rattle.kb_overlap.specs.Trace.{other_side}
use Rattle.kb_term.specs.declared.origin.RuleRef.{RuleRef}
use Rattle.kb_term.specs.declared.origin.Found.{Found}
use Rattle.kb_term.specs.declared.origin.Found.TheVariants.{Strict}
use Rattle.kb_term.specs.declared.origin.Origin.TheVariants.{Rewrite as ByRewrite}
use Rattle.kb_label.specs.Names.{Name, has, meet}
use Rattle.kb_node.specs.declared.node.LabelKind.{LabelKind}
use Rattle.kb_node.specs.declared.node.LabelKind.TheVariants.{R0, R1, E}
use Rattle.mkb_model.specs.Plain.{PlainNode, label_at, rule_kind, other, pair_in}
use Rattle.mkb_model.specs.Effects.{with_node, node_of, loses, gains_rule, gains_equation, direction, is_strict, if_strict}
use Rattle.mkb_model.specs.Ready.{IsOn, OneRole}
use Rattle.mkb_model.proofs.Lists.{clash, false_unless}
use Rattle.mkb_model.proofs.commits.Roles.{kind_number, on-gains_rule, keeps-with_node, keeps-gains_rule, keeps-gains_equation, equation-no_rule, KeepsRoles, keeps_trans, length-put}
use Rattle.mkb_model.proofs.nodes.Pairs.{pairs-gains_equation, pairs-gains_rule, node-with_node}
use Rattle.mkb_model.proofs.commits.RoleChanges.{Fits}
use Rattle.mkb_model.proofs.commits.Adding.{rule_role}
use Rattle.mkb_model.proofs.commits.RewritingRuns.{strict_is, IsSource, on-lost, gains_from, gains_own, has-if_strict, if_strict-has}
use Rattle.mkb_model.proofs.commits.RewritingCases.{eq_gain, others_gain}
use Rattle.mkb_model.proofs.commits.RewritingSteps.{lost_nodes, moved_nodes}

-- the node has the pair, if there is one
abbrev pub IsAt : Option Pair → List PlainNode → ℕ → Type 0
IsAt o ys m = (z : Pair) × (o ≡ Some z) × (pair_in ys m ≡ Some z)

-- and the rule is that from the rest to the result
abbrev pub IsRuleAt : Option Pair → Tree → Tree → List PlainNode → ℕ → ℕ → Type 0
IsRuleAt o rest u ys m d = (z : Pair) × (o ≡ Some z) × (pair_in ys m ≡ Some z) × (rule_kind d ≡ rule_kind (direction rest u z))

abbrev pub NoRuleOn : List PlainNode → Name → ℕ → Type 0
NoRuleOn ys p m = (¬ IsOn ys p m R0) × (¬ IsOn ys p m R1)

-- an equation is simplified
abbrev pub IsSimplified : List PlainNode → List PlainNode → Name → ℕ → Option Pair → Type 0
IsSimplified xs ys p n o =
    ((m : ℕ) → IsOn ys p m E ↔ ((IsOn xs p m E × (m ≢ n)) ⊎ (IsAt o ys m × NoRuleOn ys p m)))
    × ((m d : ℕ) → IsOn ys p m (rule_kind d) ↔ IsOn xs p m (rule_kind d))

-- a rule is composed
abbrev pub IsComposed : List PlainNode → List PlainNode → Name → ℕ → ℕ → Option Pair → Tree → Tree → Type 0
IsComposed xs ys p n s o rest u =
    ((m : ℕ) → IsOn ys p m E ↔ (IsOn xs p m E × ¬ IsAt o ys m))
    × ((m d : ℕ) → IsOn ys p m (rule_kind d) ↔ ((IsOn xs p m (rule_kind d) × ¬ ((m ≡ n) × (rule_kind d ≡ rule_kind s))) ⊎ IsRuleAt o rest u ys m d))

-- a rule is collapsed
abbrev pub IsCollapsed : List PlainNode → List PlainNode → Name → ℕ → ℕ → Option Pair → Type 0
IsCollapsed xs ys p n s o =
    ((m : ℕ) → IsOn ys p m E ↔ (IsOn xs p m E ⊎ (IsAt o ys m × NoRuleOn ys p m)))
    × ((m d : ℕ) → IsOn ys p m (rule_kind d) ↔ (IsOn xs p m (rule_kind d) × ¬ ((m ≡ n) × (rule_kind d ≡ rule_kind s))))

-- one of the three, by the role in which the process has the node
abbrev pub IsMoved : List PlainNode → List PlainNode → Name → ℕ → ℕ → Found → Option Pair → Tree → Tree → Type 0
IsMoved xs ys p n w kind o rest u =
    (IsOn xs p n E × IsSimplified xs ys p n o)
    ⊎ ((IsOn xs p n (rule_kind (other w)) × IsComposed xs ys p n (other w) o rest u)
    ⊎ ((kind ≡ Strict) × IsOn xs p n (rule_kind w) × IsCollapsed xs ys p n w o))

pub other-rule : (w : ℕ) → rule_kind w ≢ rule_kind (other w)
other-rule zero e = omega (arith, ap kind_number e)
other-rule (suc w) e = omega (arith, ap kind_number e)

rule_other : (d : ℕ) → rule_kind d ≢ E
rule_other d e = equation-no_rule d (sym e)

-- what is gained at the node k, told by its pair
gained : (x3 y3 : List PlainNode) (p : Name) (k : ℕ) (z : Pair) → Fits y3 → pair_in y3 k ≡ Some z → ((m : ℕ) → IsOn y3 p m E ↔ (IsOn x3 p m E ⊎ ((m ≡ k) × ((¬ IsOn x3 p k R0) × (¬ IsOn x3 p k R1))))) → ((m : ℕ) (j : LabelKind) → j ≢ E → IsOn y3 p m j ↔ IsOn x3 p m j)
    → (m : ℕ) → IsOn y3 p m E ↔ (IsOn x3 p m E ⊎ (IsAt (Some z) y3 m × NoRuleOn y3 p m))
gained x3 y3 p k z fits there eqs others m = (
  (λ o. ⊎_elim (λ h. inl h)
      (λ h. inr ((z, refl, ap (pair_in y3) h.0 ∙ there), ((λ v. h.1.0 ((others k R0 (rule_other 0)).0 (subst {A = ℕ} (λ i. IsOn y3 p i R0) h.0 v))), λ v. h.1.1 ((others k R1 (rule_other 1)).0 (subst {A = ℕ} (λ i. IsOn y3 p i R1) h.0 v)))))
      ((eqs m).0 o)),
  λ o. (eqs m).1 (⊎_elim (λ h. inl h)
      (λ h. let e : m ≡ k = fits.distinct m k z (h.0.2 ∙ sym h.0.1) there in
      inr (e, ((λ v. h.1.0 (subst {A = ℕ} (λ i. IsOn y3 p i R0) (sym e) ((others k R0 (rule_other 0)).1 v))), λ v. h.1.1 (subst {A = ℕ} (λ i. IsOn y3 p i R1) (sym e) ((others k R1 (rule_other 1)).1 v)))))
      o),
)

-- the pair of the result has the node that gains it
pub result_at : (l : List Name) (n w : ℕ) (at : List ℕ) (a : RuleRef) (kind : Found) (u : Tree) (q : Pair) (xs : List PlainNode) (y : Pair)
    → pair_in (moved_nodes l n w at a kind u q (Some y) xs) (node_of (with_node y (ByRewrite n w at a) (lost_nodes l n w kind xs)) y) ≡ Some y
result_at l n w at a kind u q xs y =
    let ws : List PlainNode = with_node y (ByRewrite n w at a) (lost_nodes l n w kind xs) in
    let k : ℕ = node_of ws y in
    let r : RuleRef = record { node = k; dir = direction (other_side q w) u y } in
    let y1 : List PlainNode = gains_rule r (meet l (label_at xs n (rule_kind (other w)))) ws in
    let y2 : List PlainNode = gains_equation k (meet l (label_at xs n E)) y1 in
    pairs-gains_equation k (if_strict kind (meet l (label_at xs n (rule_kind w)))) y2 k ∙ pairs-gains_equation k (meet l (label_at xs n E)) y1 k ∙ pairs-gains_rule r (meet l (label_at xs n (rule_kind (other w)))) ws k
    ∙ (node-with_node y (ByRewrite n w at a) (lost_nodes l n w kind xs)).0

pub result_there : (l : List Name) (n w : ℕ) (at : List ℕ) (a : RuleRef) (kind : Found) (u : Tree) (q : Pair) (xs : List PlainNode) (o : Option Pair) (z : Pair) → o ≡ Some z → (k : ℕ) × (pair_in (moved_nodes l n w at a kind u q o xs) k ≡ Some z)
result_there l n w at a kind u q xs None z e = none_some e
result_there l n w at a kind u q xs (Some y) z e = (node_of (with_node y (ByRewrite n w at a) (lost_nodes l n w kind xs)) y, result_at l n w at a kind u q xs y ∙ e)

module _ (xs : List PlainNode) (p : Name) (l : List Name) (named : has l p ≡ true) (n w : ℕ) (at : List ℕ) (a : RuleRef) (kind : Found) (u : Tree) (q : Pair) (one : OneRole xs p) where
  abbrev x3 : List PlainNode
  x3 = lost_nodes l n w kind xs

  abbrev le : List Name
  le = meet l (label_at xs n E)

  abbrev lr : List Name
  lr = meet l (label_at xs n (rule_kind (other w)))

  abbrev ll : List Name
  ll = if_strict kind (meet l (label_at xs n (rule_kind w)))

  strict_off : has (meet l (label_at xs n (rule_kind w))) p ≡ false → has ll p ≡ false
  strict_off h = false_unless (has ll p) (λ e. clash (if_strict-has kind (meet l (label_at xs n (rule_kind w))) p e).1 h)

  -- what the process gains beside what is left of its roles
  abbrev Gains : Option Pair → Type 0
  Gains o = ((m : ℕ) → IsOn (moved_nodes l n w at a kind u q o xs) p m E ↔ (IsOn (lost_nodes l n w kind xs) p m E ⊎ (IsAt o (moved_nodes l n w at a kind u q o xs) m × NoRuleOn (moved_nodes l n w at a kind u q o xs) p m)))
      × ((m : ℕ) (j : LabelKind) → j ≢ E → IsOn (moved_nodes l n w at a kind u q o xs) p m j ↔ IsOn (lost_nodes l n w kind xs) p m j)

  abbrev Makes : Option Pair → Type 0
  Makes o = ((m : ℕ) → IsOn (moved_nodes l n w at a kind u q o xs) p m E ↔ (IsOn (lost_nodes l n w kind xs) p m E × ¬ IsAt o (moved_nodes l n w at a kind u q o xs) m))
      × ((m d : ℕ) → IsOn (moved_nodes l n w at a kind u q o xs) p m (rule_kind d) ↔ (IsOn (lost_nodes l n w kind xs) p m (rule_kind d) ⊎ IsRuleAt o (other_side q w) u (moved_nodes l n w at a kind u q o xs) m d))

  gains_none : Gains None
  gains_none = (λ m. ((λ o. inl o), λ h. ⊎_elim (λ o. o) (λ i. none_some i.0.1) h), λ m j h. ((λ o. o), λ o. o))

  makes_none : Makes None
  makes_none = (λ m. ((λ o. (o, λ i. none_some i.1)), λ h. h.0), λ m d. ((λ o. inl o), λ h. ⊎_elim (λ o. o) (λ i. none_some i.1) h))

  module _ (z : Pair) (fits : Fits (moved_nodes l n w at a kind u q (Some z) xs)) where
    abbrev ws : List PlainNode
    ws = with_node z (ByRewrite n w at a) (lost_nodes l n w kind xs)

    abbrev k : ℕ
    k = node_of (with_node z (ByRewrite n w at a) (lost_nodes l n w kind xs)) z

    abbrev dir : ℕ
    dir = direction (other_side q w) u z

    abbrev y1 : List PlainNode
    y1 = gains_rule (record { node = k; dir = dir }) lr ws

    abbrev y2 : List PlainNode
    y2 = gains_equation k le y1

    abbrev y3 : List PlainNode
    y3 = gains_equation k ll y2

    there_ws : k < length ws
    there_ws = (node-with_node z (ByRewrite n w at a) x3).1

    there1 : k < length y1
    there1 = subst {A = ℕ} (λ i. k < i) (sym (length-put (loses k E lr ws) k (rule_kind dir) _ ∙ length-put ws k E _)) there_ws

    there2 : k < length y2
    there2 = subst {A = ℕ} (λ i. k < i) (sym (length-put y1 k E _)) there1

    pair3 : pair_in y3 k ≡ Some z
    pair3 = pairs-gains_equation k ll y2 k ∙ pairs-gains_equation k le y1 k ∙ pairs-gains_rule (record { node = k; dir = dir }) lr ws k ∙ (node-with_node z (ByRewrite n w at a) x3).0

    w1 : has lr p ≡ false → KeepsRoles x3 y1 p
    w1 h = keeps_trans x3 ws y1 p (keeps-with_node z (ByRewrite n w at a) x3 p) (keeps-gains_rule (record { node = k; dir = dir }) lr ws p h)

    from_equation : IsOn xs p n E → Gains (Some z)
    from_equation on =
        let so : IsSource w kind E = inl refl in
        let off_r : has lr p ≡ false = gains_from l n w kind xs p named one E so on (rule_kind (other w)) (rule_role (other w)) (rule_other (other w)) in
        let off_l : has ll p ≡ false = strict_off (gains_from l n w kind xs p named one E so on (rule_kind w) (rule_role w) (rule_other w)) in
        let others : (m : ℕ) (j : LabelKind) → j ≢ E → IsOn y3 p m j ↔ IsOn x3 p m j = others_gain x3 y1 y3 p k le (w1 off_r) (keeps-gains_equation k ll y2 p off_l) in
        (gained x3 y3 p k z fits pair3 (eq_gain x3 y1 y3 p k le (w1 off_r) there1 (gains_own l n w kind xs p named one E so on) (keeps-gains_equation k ll y2 p off_l)) others, others)

    from_left : is_strict kind ≡ true → IsOn xs p n (rule_kind w) → Gains (Some z)
    from_left strict on =
        let so : IsSource w kind (rule_kind w) = inr (inr (refl, strict)) in
        let off_r : has lr p ≡ false = gains_from l n w kind xs p named one (rule_kind w) so on (rule_kind (other w)) (rule_role (other w)) (λ i. other-rule w (sym i)) in
        let off_e : has le p ≡ false = gains_from l n w kind xs p named one (rule_kind w) so on E tt (equation-no_rule w) in
        let own : has ll p ≡ true = has-if_strict kind (meet l (label_at xs n (rule_kind w))) p strict (gains_own l n w kind xs p named one (rule_kind w) so on) in
        let w2 : KeepsRoles x3 y2 p = keeps_trans x3 y1 y2 p (w1 off_r) (keeps-gains_equation k le y1 p off_e) in
        let others : (m : ℕ) (j : LabelKind) → j ≢ E → IsOn y3 p m j ↔ IsOn x3 p m j = others_gain x3 y2 y3 p k ll w2 (λ m j. ((λ o. o), λ o. o)) in
        (gained x3 y3 p k z fits pair3 (eq_gain x3 y2 y3 p k ll w2 there2 own (λ m j. ((λ o. o), λ o. o))) others, others)

    from_right : IsOn xs p n (rule_kind (other w)) → Makes (Some z)
    from_right on =
        let so : IsSource w kind (rule_kind (other w)) = inr (inl refl) in
        let off_e : has le p ≡ false = gains_from l n w kind xs p named one (rule_kind (other w)) so on E tt (equation-no_rule (other w)) in
        let off_l : has ll p ≡ false = strict_off (gains_from l n w kind xs p named one (rule_kind (other w)) so on (rule_kind w) (rule_role w) (other-rule w)) in
        let own : has lr p ≡ true = gains_own l n w kind xs p named one (rule_kind (other w)) so on in
        let last : KeepsRoles y1 y3 p = keeps_trans y1 y2 y3 p (keeps-gains_equation k le y1 p off_e) (keeps-gains_equation k ll y2 p off_l) in
        let made : (m : ℕ) (j : LabelKind) → IsOn y1 p m j ↔ ((IsOn ws p m j × ¬ (((m ≡ k) × (j ≡ E)) × (has lr p ≡ true))) ⊎ (((m ≡ k) × (j ≡ rule_kind dir)) × (k < length ws) × (has lr p ≡ true))) = on-gains_rule (record { node = k; dir = dir }) lr ws p in
        let found : KeepsRoles x3 ws p = keeps-with_node z (ByRewrite n w at a) x3 p in (
          λ m. (
            (λ o. ⊎_elim (λ h. ((found m E).0 h.0, λ i. h.1 ((fits.distinct m k z (i.2 ∙ sym i.1) pair3, refl), own))) (λ h. absurd (equation-no_rule dir h.0.1)) ((made m E).0 ((last m E).0 o))),
            λ o. (last m E).1 ((made m E).1 (inl ((found m E).1 o.0, λ i. o.1 (z, refl, ap (pair_in y3) i.0.0 ∙ pair3)))),
          ),
          λ m d. (
            (λ o. ⊎_elim (λ h. inl ((found m (rule_kind d)).0 h.0)) (λ h. inr (z, refl, ap (pair_in y3) h.0.0 ∙ pair3, h.0.1)) ((made m (rule_kind d)).0 ((last m (rule_kind d)).0 o))),
            λ o. (last m (rule_kind d)).1 ((made m (rule_kind d)).1 (⊎_elim (λ h. inl ((found m (rule_kind d)).1 h, λ i. rule_other d i.0.1))
                (λ h. inr ((fits.distinct m k z (h.2 ∙ sym h.1) pair3, h.3 ∙ ap (λ (y : Pair). rule_kind (direction (other_side q w) u y)) (sym (some_is h.1))), there_ws, own)) o)),
          ),
        )

  gains_at : (o : Option Pair) → Fits (moved_nodes l n w at a kind u q o xs) → IsOn xs p n E ⊎ ((is_strict kind ≡ true) × IsOn xs p n (rule_kind w)) → Gains o
  gains_at None fits h = gains_none
  gains_at (Some z) fits (inl on) = from_equation z fits on
  gains_at (Some z) fits (inr h) = from_left z fits h.0 h.1

  makes_at : (o : Option Pair) → Fits (moved_nodes l n w at a kind u q o xs) → IsOn xs p n (rule_kind (other w)) → Makes o
  makes_at None fits on = makes_none
  makes_at (Some z) fits on = from_right z fits on

  -- the process is moved by the role in which it has the node
  pub moved_by : (o : Option Pair) → Fits (moved_nodes l n w at a kind u q o xs) → (s : LabelKind) → IsSource w kind s → IsOn xs p n s → IsMoved xs (moved_nodes l n w at a kind u q o xs) p n w kind o (other_side q w) u
  moved_by o fits s (inl e) on =
      let on' : IsOn xs p n E = subst {A = LabelKind} (IsOn xs p n) e on in
      let g = gains_at o fits (inl on') in
      let lost : (m : ℕ) (j : LabelKind) → IsOn x3 p m j ↔ (IsOn xs p m j × ¬ ((m ≡ n) × (j ≡ E))) = on-lost l n w kind xs p named one E (inl refl) on' in
      inl (
        on',
        (
          λ m. (
            (λ v. ⊎_elim (λ h. let r = (lost m E).0 h in inl (r.0, λ i. r.1 (i, refl))) (λ h. inr h) ((g.0 m).0 v)),
            λ v. (g.0 m).1 (⊎_elim (λ h. inl ((lost m E).1 (h.0, λ i. h.1 i.0))) (λ h. inr h) v),
          ),
          λ m d. ((λ v. ((lost m (rule_kind d)).0 ((g.1 m (rule_kind d) (rule_other d)).0 v)).0), λ v. (g.1 m (rule_kind d) (rule_other d)).1 ((lost m (rule_kind d)).1 (v, λ i. rule_other d i.1))),
        ),
      )
  moved_by o fits s (inr (inl e)) on =
      let on' : IsOn xs p n (rule_kind (other w)) = subst {A = LabelKind} (IsOn xs p n) e on in
      let g = makes_at o fits on' in
      let lost : (m : ℕ) (j : LabelKind) → IsOn x3 p m j ↔ (IsOn xs p m j × ¬ ((m ≡ n) × (j ≡ rule_kind (other w)))) = on-lost l n w kind xs p named one (rule_kind (other w)) (inr (inl refl)) on' in
      inr (inl (
        on',
        (
          λ m. (
            (λ v. let r = (g.0 m).0 v in (((lost m E).0 r.0).0, r.1)),
            λ v. (g.0 m).1 ((lost m E).1 (v.0, λ i. equation-no_rule (other w) i.1), v.1),
          ),
          λ m d. (
            (λ v. ⊎_elim (λ h. inl ((lost m (rule_kind d)).0 h)) (λ h. inr h) ((g.1 m d).0 v)),
            λ v. (g.1 m d).1 (⊎_elim (λ h. inl ((lost m (rule_kind d)).1 h)) (λ h. inr h) v),
          ),
        ),
      ))
  moved_by o fits s (inr (inr e)) on =
      let on' : IsOn xs p n (rule_kind w) = subst {A = LabelKind} (IsOn xs p n) e.0 on in
      let g = gains_at o fits (inr (e.1, on')) in
      let lost : (m : ℕ) (j : LabelKind) → IsOn x3 p m j ↔ (IsOn xs p m j × ¬ ((m ≡ n) × (j ≡ rule_kind w))) = on-lost l n w kind xs p named one (rule_kind w) (inr (inr (refl, e.1))) on' in
      inr (inr (
        strict_is kind e.1,
        on',
        (
          λ m. (
            (λ v. ⊎_elim (λ h. inl ((lost m E).0 h).0) (λ h. inr h) ((g.0 m).0 v)),
            λ v. (g.0 m).1 (⊎_elim (λ h. inl ((lost m E).1 (h, λ i. equation-no_rule w i.1))) (λ h. inr h) v),
          ),
          λ m d. ((λ v. (lost m (rule_kind d)).0 ((g.1 m (rule_kind d) (rule_other d)).0 v)), λ v. (g.1 m (rule_kind d) (rule_other d)).1 ((lost m (rule_kind d)).1 v)),
        ),
      ))
