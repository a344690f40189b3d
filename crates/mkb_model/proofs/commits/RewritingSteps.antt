-- Each process of the effect label of a rewriting makes steps of completion; others keep their roles.
use Rattle.std.proofs.Common.{ℕ, zero, suc, ◌<◌, ◌≡◌, ◌≢◌, ◌⊎◌, ◌↔◌, inl, inr, refl, sym, ap, ◌∙◌, subst, arith, List, length, Option, Some, None, ⊎_elim, true, false}
use Rattle.kb_term.specs.Tree.{Tree}
use Rattle.kb_term.specs.Pair.{Pair, canonical_pair, IsSameEquation}
use Rattle.kb_term.specs.Signature.{Signature}
use Rattle.kb_overlap.specs.Trace.{other_side}
use Rattle.kb_term.specs.declared.origin.RuleRef.{RuleRef}
use Rattle.kb_term.specs.declared.origin.Found.{Found}
use Rattle.kb_term.specs.declared.origin.Origin.TheVariants.{Rewrite as ByRewrite}
use Rattle.kb_label.specs.Names.{Name, has, meet}
use Rattle.mkb_model.specs.Plain.{Plain, PlainNode, label_at, rule_kind, constraint_kind, other, state_of, pair_in, sides}
use Rattle.mkb_model.specs.Effects.{loses, gains_rule, gains_equation, with_node, node_of, moved_to, rewritten, direction, if_strict, on_nodes}
use Rattle.kb_node.specs.declared.node.LabelKind.{LabelKind}
use Rattle.kb_node.specs.declared.node.LabelKind.TheVariants.{R0, R1, E, C0, C1, X}
use Rattle.kb_term.proofs.CanonicalPairs.{same_from_canonical}
use Rattle.mkb_model.specs.Ready.{IsOn, KeepsPairs, IsRole, OneRole, IsRewriteOn}
use Rattle.mkb_model.proofs.Lists.{clash, decide, false_unless}
use Rattle.mkb_model.proofs.commits.Roles.{kind_number, on-gains_rule, keeps-with_node, keeps-gains_rule, keeps-gains_equation, equation-no_rule, equation-no_constraint, rule-no_constraint, KeepsRoles, keeps_trans, length-put}
use Rattle.mkb_model.proofs.nodes.Pairs.{pairs_trans, pairs-gains_equation, pairs-gains_rule, pairs-loses, pairs-moved_to, node-with_node}
use Rattle.mkb_model.proofs.commits.Views.{same_trans, same_turned, pair_back}
use Rattle.mkb_model.proofs.commits.Steps.{Steps}
use Rattle.mkb_model.proofs.commits.RoleChanges.{Fits}
use Rattle.mkb_model.proofs.commits.Adding.{rule_role, settled_at}
use Rattle.mkb_model.proofs.commits.RewritingRuns.{trivial_none, some_canonical, direction-rule, one_role_kept, IsSource, on-lost, gains_from, gains_own, has-if_strict, if_strict-has}
use Rattle.mkb_model.proofs.commits.RewritingCases.{simplify_case, collapse_case, compose_case, eq_gain, others_gain}

other-rule : (w : ℕ) → rule_kind w ≢ rule_kind (other w)
other-rule zero e = omega (arith, ap kind_number e)
other-rule (suc w) e = omega (arith, ap kind_number e)

-- the nodes after the sources lost the label
abbrev pub lost_nodes : List Name → ℕ → ℕ → Found → List PlainNode → List PlainNode
lost_nodes l n w kind xs = loses n E l (loses n (rule_kind (other w)) l (loses n (rule_kind w) (if_strict kind l) xs))

-- the nodes after the rewriting, where the new pair is as given
abbrev pub moved_nodes : List Name → ℕ → ℕ → List ℕ → RuleRef → Found → Tree → Pair → Option Pair → List PlainNode → List PlainNode
moved_nodes l n w at a kind u q o xs =
    moved_to o (ByRewrite n w at a) (other_side q w) u (meet l (label_at xs n E)) (meet l (label_at xs n (rule_kind (other w)))) (if_strict kind (meet l (label_at xs n (rule_kind w)))) (lost_nodes l n w kind xs)

pub pairs-lost : (l : List Name) (n w : ℕ) (kind : Found) (xs : List PlainNode) → KeepsPairs xs (lost_nodes l n w kind xs)
pairs-lost l n w kind xs m q e = pairs-loses n E l (loses n (rule_kind (other w)) l (loses n (rule_kind w) (if_strict kind l) xs)) m ∙ pairs-loses n (rule_kind (other w)) l (loses n (rule_kind w) (if_strict kind l) xs) m ∙ pairs-loses n (rule_kind w) (if_strict kind l) xs m ∙ e

pub pairs-moved : (l : List Name) (n w : ℕ) (at : List ℕ) (a : RuleRef) (kind : Found) (u : Tree) (q : Pair) (o : Option Pair) (xs : List PlainNode) → KeepsPairs xs (moved_nodes l n w at a kind u q o xs)
pairs-moved l n w at a kind u q o xs = pairs_trans xs (lost_nodes l n w kind xs) (moved_nodes l n w at a kind u q o xs) (pairs-lost l n w kind xs)
    (pairs-moved_to o (ByRewrite n w at a) (other_side q w) u (meet l (label_at xs n E)) (meet l (label_at xs n (rule_kind (other w)))) (if_strict kind (meet l (label_at xs n (rule_kind w)))) (lost_nodes l n w kind xs))

-- a rule is lost and one gained, whose node is no equation afterwards and no other rule before
one_role_composed : (xs ys : List PlainNode) (p : Name) (k dir : ℕ) → OneRole xs p → ((m : ℕ) → IsOn ys p m E → IsOn xs p m E × ¬ (m ≡ k)) → ((m d : ℕ) → IsOn ys p m (rule_kind d) → IsOn xs p m (rule_kind d) ⊎ ((m ≡ k) × (rule_kind d ≡ rule_kind dir)))
    → ((d : ℕ) → IsOn xs p k (rule_kind d) → rule_kind d ≡ rule_kind dir) → OneRole ys p
one_role_composed xs ys p k dir one eqs rules other_rule n i j ri rj oi oj = go i j ri rj oi oj
  where
    mixed : (d : ℕ) → IsOn ys p n E → IsOn ys p n (rule_kind d) → E ≡ rule_kind d
    mixed d o r = let e = eqs n o in ⊎_elim (λ h. one n E (rule_kind d) tt (rule_role d) e.0 h) (λ h. absurd (e.1 h.0)) (rules n d r)

    at_k : (d : ℕ) → n ≡ k → IsOn xs p n (rule_kind d) → rule_kind d ≡ rule_kind dir
    at_k d e o = other_rule d (subst {A = ℕ} (λ m. IsOn xs p m (rule_kind d)) e o)

    both : (c d : ℕ) → IsOn xs p n (rule_kind c) ⊎ ((n ≡ k) × (rule_kind c ≡ rule_kind dir)) → IsOn xs p n (rule_kind d) ⊎ ((n ≡ k) × (rule_kind d ≡ rule_kind dir)) → rule_kind c ≡ rule_kind d
    both c d (inl h) (inl i) = one n (rule_kind c) (rule_kind d) (rule_role c) (rule_role d) h i
    both c d (inl h) (inr i) = at_k c i.0 h ∙ sym i.1
    both c d (inr h) (inl i) = h.1 ∙ sym (at_k d h.0 i)
    both c d (inr h) (inr i) = h.1 ∙ sym i.1

    go : (i j : LabelKind) → IsRole i → IsRole j → IsOn ys p n i → IsOn ys p n j → i ≡ j
    go E E ri rj oi oj = refl
    go R0 R0 ri rj oi oj = refl
    go R1 R1 ri rj oi oj = refl
    go E R0 ri rj oi oj = mixed 0 oi oj
    go E R1 ri rj oi oj = mixed 1 oi oj
    go R0 E ri rj oi oj = sym (mixed 0 oj oi)
    go R1 E ri rj oi oj = sym (mixed 1 oj oi)
    go R0 R1 ri rj oi oj = both 0 1 (rules n 0 oi) (rules n 1 oj)
    go R1 R0 ri rj oi oj = both 1 0 (rules n 1 oi) (rules n 0 oj)
    go C0 j ri rj oi oj = absurd ri
    go C1 j ri rj oi oj = absurd ri
    go X j ri rj oi oj = absurd ri
    go i C0 ri rj oi oj = absurd rj
    go i C1 ri rj oi oj = absurd rj
    go i X ri rj oi oj = absurd rj

module _ (g : Signature) (b : Plain) (p : Name) (l : List Name) (named : has l p ≡ true) (n w : ℕ) (at : List ℕ) (a : RuleRef) (kind : Found) (u : Tree)
    (f : IsRewriteOn b.nodes n w at a kind u) (has_rule : IsOn b.nodes p a.node (rule_kind a.dir)) (one : OneRole b.nodes p) where
  -- the board where the new pair is as given
  abbrev after : Option Pair → Plain
  after o = on_nodes (moved_nodes l n w at a kind u f.pair o) b

  keeps : (o : Option Pair) → KeepsPairs b.nodes (moved_nodes l n w at a kind u f.pair o b.nodes)
  keeps o = pairs-moved l n w at a kind u f.pair o b.nodes

  abbrev le : List Name
  le = meet l (label_at b.nodes n E)

  abbrev lr : List Name
  lr = meet l (label_at b.nodes n (rule_kind (other w)))

  abbrev ll : List Name
  ll = if_strict kind (meet l (label_at b.nodes n (rule_kind w)))

  strict_off : has (meet l (label_at b.nodes n (rule_kind w))) p ≡ false → has ll p ≡ false
  strict_off h = false_unless (has ll p) (λ e. clash (if_strict-has kind (meet l (label_at b.nodes n (rule_kind w))) p e).1 h)

  -- a trivial pair: the source is lost, and nothing is gained
  module _ (s : LabelKind) (source : IsSource w kind s) (on : IsOn b.nodes p n s) where
    away : (m : ℕ) (j : LabelKind) → j ≢ s → IsOn (lost_nodes l n w kind b.nodes) p m j ↔ IsOn b.nodes p m j
    away m j h = ((λ o. ((on-lost l n w kind b.nodes p named one s source on m j).0 o).0), λ o. (on-lost l n w kind b.nodes p named one s source on m j).1 (o, λ i. h i.1))

    source-no_constraint : (d : ℕ) → constraint_kind d ≢ s
    source-no_constraint d e = go source
      where
        go : IsSource w kind s → ⊥
        go (inl i) = equation-no_constraint d (sym (e ∙ i))
        go (inr (inl i)) = rule-no_constraint (other w) d (sym (e ∙ i))
        go (inr (inr i)) = rule-no_constraint w d (sym (e ∙ i.0))

  trivial_steps : canonical_pair u (other_side f.pair w) ≡ None → Fits (moved_nodes l n w at a kind u f.pair None b.nodes) → (IsOn b.nodes p n (rule_kind (other w)) → u ≢ other_side f.pair w) → (s : LabelKind) → IsSource w kind s → IsOn b.nodes p n s
      → Steps g (state_of b p) (state_of (after None) p)
  trivial_steps none fits proper s (inl e) on =
      let on' : IsOn b.nodes p n E = subst {A = LabelKind} (IsOn b.nodes p n) e on in
      simplify_case g b p n w at a kind u f has_rule (after None) (keeps None) fits (λ m d. away E (inl refl) on' m (constraint_kind d) (λ i. equation-no_constraint d (sym i))) on' n f.pair ⊥ (keeps None n f.pair f.there)
      (λ m. ((λ o. let h = (on-lost l n w kind b.nodes p named one E (inl refl) on' m E).0 o in inl (h.0, λ i. h.1 (i.0, refl))), λ o. ⊎_elim (λ h. (on-lost l n w kind b.nodes p named one E (inl refl) on' m E).1 (h.0, λ i. h.1 (i.0, tt))) (λ h. absurd h.1) o))
      (λ m d. away E (inl refl) on' m (rule_kind d) (λ i. equation-no_rule d (sym i)))
      (λ h. absurd h) (inr (inl (trivial_none u (other_side f.pair w) none)))
  trivial_steps none fits proper s (inr (inl e)) on = absurd (proper (subst {A = LabelKind} (IsOn b.nodes p n) e on) (trivial_none u (other_side f.pair w) none))
  trivial_steps none fits proper s (inr (inr e)) on =
      let on' : IsOn b.nodes p n (rule_kind w) = subst {A = LabelKind} (IsOn b.nodes p n) e.0 on in
      let so : IsSource w kind (rule_kind w) = inr (inr (refl, e.1)) in
      collapse_case g b p n w at a kind u f has_rule (after None) (keeps None) fits (λ m d. away (rule_kind w) so on' m (constraint_kind d) (λ i. rule-no_constraint w d (sym i))) on' e.1 (λ d o. one n (rule_kind d) (rule_kind w) (rule_role d) (rule_role w) o on') n f.pair ⊥ (keeps None n f.pair f.there)
      (λ m. ((λ o. inl ((away (rule_kind w) so on' m E (equation-no_rule w)).0 o, λ i. i.1)), λ o. ⊎_elim (λ h. (away (rule_kind w) so on' m E (equation-no_rule w)).1 h.0) (λ h. absurd h.1) o))
      (λ m d. ((λ o. let h = (on-lost l n w kind b.nodes p named one (rule_kind w) so on' m (rule_kind d)).0 o in inl (h.0, λ i. h.1 (i.0, i.1))), λ o. ⊎_elim (λ h. (on-lost l n w kind b.nodes p named one (rule_kind w) so on' m (rule_kind d)).1 (h.0, λ i. h.1 (i.0, i.1, tt))) (λ h. absurd h.2) o))
      (λ h. absurd h) (inr (inl (trivial_none u (other_side f.pair w) none)))

  -- a pair that is not trivial: its node is found or made
  module _ (z : Pair) (some : canonical_pair u (other_side f.pair w) ≡ Some z) (fits : Fits (moved_nodes l n w at a kind u f.pair (Some z) b.nodes)) where
    abbrev x3 : List PlainNode
    x3 = lost_nodes l n w kind b.nodes

    abbrev ws : List PlainNode
    ws = with_node z (ByRewrite n w at a) (lost_nodes l n w kind b.nodes)

    abbrev k : ℕ
    k = node_of (with_node z (ByRewrite n w at a) (lost_nodes l n w kind b.nodes)) z

    abbrev dir : ℕ
    dir = direction (other_side f.pair w) u z

    abbrev y1 : List PlainNode
    y1 = gains_rule (record { node = k; dir = dir }) lr ws

    abbrev y2 : List PlainNode
    y2 = gains_equation k le y1

    abbrev y3 : List PlainNode
    y3 = gains_equation k ll y2

    there_ws : k < length ws
    there_ws = (node-with_node z (ByRewrite n w at a) x3).1

    there1 : k < length y1
    there1 = subst {A = ℕ} (λ i. k < i) (sym (length-put (loses k E lr ws) k (rule_kind dir) _ ∙ length-put ws k E _)) there_ws

    there2 : k < length y2
    there2 = subst {A = ℕ} (λ i. k < i) (sym (length-put y1 k E _)) there1

    pair_ws : pair_in ws k ≡ Some z
    pair_ws = (node-with_node z (ByRewrite n w at a) x3).0

    pair3 : pair_in y3 k ≡ Some z
    pair3 = pairs-gains_equation k ll y2 k ∙ pairs-gains_equation k le y1 k ∙ pairs-gains_rule (record { node = k; dir = dir }) lr ws k ∙ pair_ws

    same : IsSameEquation (u, other_side f.pair w) (sides z)
    same = same_from_canonical u (other_side f.pair w) z.first z.second (some_canonical u (other_side f.pair w) z some ∙ sym (fits.canonical k z pair3))

    w1 : has lr p ≡ false → KeepsRoles x3 y1 p
    w1 h = keeps_trans x3 ws y1 p (keeps-with_node z (ByRewrite n w at a) x3 p) (keeps-gains_rule (record { node = k; dir = dir }) lr ws p h)

    outcome : ((m : ℕ) (j : LabelKind) → j ≢ E → IsOn y3 p m j ↔ IsOn x3 p m j) → ((m : ℕ) → IsOn y3 p m E ↔ (IsOn x3 p m E ⊎ ((m ≡ k) × ((¬ IsOn x3 p k R0) × (¬ IsOn x3 p k R1)))))
        → IsOn y3 p k E ⊎ (IsOn y3 p k R0 ⊎ IsOn y3 p k R1)
    outcome others eqs = go (decide (has (label_at x3 k R0) p)) (decide (has (label_at x3 k R1) p))
      where
        go : (has (label_at x3 k R0) p ≡ true) ⊎ (has (label_at x3 k R0) p ≡ false) → (has (label_at x3 k R1) p ≡ true) ⊎ (has (label_at x3 k R1) p ≡ false) → IsOn y3 p k E ⊎ (IsOn y3 p k R0 ⊎ IsOn y3 p k R1)
        go (inl h) i = inr (inl ((others k R0 (λ e. equation-no_rule 0 (sym e))).1 h))
        go (inr h) (inl i) = inr (inr ((others k R1 (λ e. equation-no_rule 1 (sym e))).1 i))
        go (inr h) (inr i) = inl ((eqs k).1 (inr (refl, ((λ o. clash o h), λ o. clash o i))))

    one_after : ((m : ℕ) (j : LabelKind) → j ≢ E → IsOn y3 p m j ↔ IsOn x3 p m j) → ((m : ℕ) → IsOn y3 p m E ↔ (IsOn x3 p m E ⊎ ((m ≡ k) × ((¬ IsOn x3 p k R0) × (¬ IsOn x3 p k R1)))))
        → ((m : ℕ) (j : LabelKind) → IsOn x3 p m j → IsOn b.nodes p m j) → OneRole y3 p
    one_after others eqs old = one_role_kept b.nodes y3 p k one
        (λ m o. ⊎_elim (λ h. inl (old m E h)) (λ h. inr (h.0, (λ i. h.1.0 ((others k R0 (λ e. equation-no_rule 0 (sym e))).0 i)), λ i. h.1.1 ((others k R1 (λ e. equation-no_rule 1 (sym e))).0 i))) ((eqs m).0 o))
        (λ m d o. old m (rule_kind d) ((others m (rule_kind d) (λ e. equation-no_rule d (sym e))).0 o))

    move_steps : (s : LabelKind) → IsSource w kind s → IsOn b.nodes p n s → Steps g (state_of b p) (state_of (after (Some z)) p)
    move_steps s (inl e) on =
        let on' : IsOn b.nodes p n E = subst {A = LabelKind} (IsOn b.nodes p n) e on in
        let so : IsSource w kind E = inl refl in
        let off_r : has lr p ≡ false = gains_from l n w kind b.nodes p named one E so on' (rule_kind (other w)) (rule_role (other w)) (λ i. equation-no_rule (other w) (sym i)) in
        let off_l : has ll p ≡ false = strict_off (gains_from l n w kind b.nodes p named one E so on' (rule_kind w) (rule_role w) (λ i. equation-no_rule w (sym i))) in
        let eqs : (m : ℕ) → IsOn y3 p m E ↔ (IsOn x3 p m E ⊎ ((m ≡ k) × ((¬ IsOn x3 p k R0) × (¬ IsOn x3 p k R1)))) = eq_gain x3 y1 y3 p k le (w1 off_r) there1 (gains_own l n w kind b.nodes p named one E so on') (keeps-gains_equation k ll y2 p off_l) in
        let others : (m : ℕ) (j : LabelKind) → j ≢ E → IsOn y3 p m j ↔ IsOn x3 p m j = others_gain x3 y1 y3 p k le (w1 off_r) (keeps-gains_equation k ll y2 p off_l) in
        let lost : (m : ℕ) (j : LabelKind) → IsOn x3 p m j ↔ (IsOn b.nodes p m j × ¬ ((m ≡ n) × (j ≡ E))) = on-lost l n w kind b.nodes p named one E so on' in
        simplify_case g b p n w at a kind u f has_rule (after (Some z)) (keeps (Some z)) fits
        (λ m d. ((λ o. ((lost m (constraint_kind d)).0 ((others m (constraint_kind d) (λ i. equation-no_constraint d (sym i))).0 o)).0), λ o. (others m (constraint_kind d) (λ i. equation-no_constraint d (sym i))).1 ((lost m (constraint_kind d)).1 (o, λ i. equation-no_constraint d (sym i.1)))))
        on' k z ((¬ IsOn x3 p k R0) × (¬ IsOn x3 p k R1)) pair3
        (λ m. ((λ o. ⊎_elim (λ h. let v = (lost m E).0 h in inl (v.0, λ i. v.1 (i.0, refl))) (λ h. inr h) ((eqs m).0 o)), λ o. (eqs m).1 (⊎_elim (λ h. inl ((lost m E).1 (h.0, λ i. h.1 (i.0, tt)))) (λ h. inr h) o)))
        (λ m d. ((λ o. ((lost m (rule_kind d)).0 ((others m (rule_kind d) (λ i. equation-no_rule d (sym i))).0 o)).0), λ o. (others m (rule_kind d) (λ i. equation-no_rule d (sym i))).1 ((lost m (rule_kind d)).1 (o, λ i. equation-no_rule d (sym i.1)))))
        (λ h. same) (settled_at (after (Some z)) p fits (one_after others eqs (λ m j o. ((lost m j).0 o).0)) k z pair3 (u, other_side f.pair w) same (outcome others eqs))
    move_steps s (inr (inr e)) on =
        let on' : IsOn b.nodes p n (rule_kind w) = subst {A = LabelKind} (IsOn b.nodes p n) e.0 on in
        let so : IsSource w kind (rule_kind w) = inr (inr (refl, e.1)) in
        let off_r : has lr p ≡ false = gains_from l n w kind b.nodes p named one (rule_kind w) so on' (rule_kind (other w)) (rule_role (other w)) (λ i. other-rule w (sym i)) in
        let off_e : has le p ≡ false = gains_from l n w kind b.nodes p named one (rule_kind w) so on' E tt (equation-no_rule w) in
        let own : has ll p ≡ true = has-if_strict kind (meet l (label_at b.nodes n (rule_kind w))) p e.1 (gains_own l n w kind b.nodes p named one (rule_kind w) so on') in
        let w2 : KeepsRoles x3 y2 p = keeps_trans x3 y1 y2 p (w1 off_r) (keeps-gains_equation k le y1 p off_e) in
        let eqs : (m : ℕ) → IsOn y3 p m E ↔ (IsOn x3 p m E ⊎ ((m ≡ k) × ((¬ IsOn x3 p k R0) × (¬ IsOn x3 p k R1)))) = eq_gain x3 y2 y3 p k ll w2 there2 own (λ m j. ((λ o. o), λ o. o)) in
        let others : (m : ℕ) (j : LabelKind) → j ≢ E → IsOn y3 p m j ↔ IsOn x3 p m j = others_gain x3 y2 y3 p k ll w2 (λ m j. ((λ o. o), λ o. o)) in
        let lost : (m : ℕ) (j : LabelKind) → IsOn x3 p m j ↔ (IsOn b.nodes p m j × ¬ ((m ≡ n) × (j ≡ rule_kind w))) = on-lost l n w kind b.nodes p named one (rule_kind w) so on' in
        collapse_case g b p n w at a kind u f has_rule (after (Some z)) (keeps (Some z)) fits
        (λ m d. ((λ o. ((lost m (constraint_kind d)).0 ((others m (constraint_kind d) (λ i. equation-no_constraint d (sym i))).0 o)).0), λ o. (others m (constraint_kind d) (λ i. equation-no_constraint d (sym i))).1 ((lost m (constraint_kind d)).1 (o, λ i. rule-no_constraint w d (sym i.1)))))
        on' e.1 (λ d o. one n (rule_kind d) (rule_kind w) (rule_role d) (rule_role w) o on') k z ((¬ IsOn x3 p k R0) × (¬ IsOn x3 p k R1)) pair3
        (λ m. ((λ o. ⊎_elim (λ h. inl (((lost m E).0 h).0, λ i. i.1)) (λ h. inr h) ((eqs m).0 o)), λ o. (eqs m).1 (⊎_elim (λ h. inl ((lost m E).1 (h.0, λ i. equation-no_rule w i.1))) (λ h. inr h) o)))
        (λ m d. ((λ o. let v = (lost m (rule_kind d)).0 ((others m (rule_kind d) (λ i. equation-no_rule d (sym i))).0 o) in inl (v.0, λ i. v.1 (i.0, i.1))), λ o. ⊎_elim (λ h. (others m (rule_kind d) (λ i. equation-no_rule d (sym i))).1 ((lost m (rule_kind d)).1 (h.0, λ i. h.1 (i.0, i.1, tt)))) (λ h. absurd h.2) o))
        (λ h. same) (settled_at (after (Some z)) p fits (one_after others eqs (λ m j o. ((lost m j).0 o).0)) k z pair3 (u, other_side f.pair w) same (outcome others eqs))
    move_steps s (inr (inl e)) on =
        let on' : IsOn b.nodes p n (rule_kind (other w)) = subst {A = LabelKind} (IsOn b.nodes p n) e on in
        let so : IsSource w kind (rule_kind (other w)) = inr (inl refl) in
        let off_e : has le p ≡ false = gains_from l n w kind b.nodes p named one (rule_kind (other w)) so on' E tt (equation-no_rule (other w)) in
        let off_l : has ll p ≡ false = strict_off (gains_from l n w kind b.nodes p named one (rule_kind (other w)) so on' (rule_kind w) (rule_role w) (other-rule w)) in
        let own : has lr p ≡ true = gains_own l n w kind b.nodes p named one (rule_kind (other w)) so on' in
        let last : KeepsRoles y1 y3 p = keeps_trans y1 y2 y3 p (keeps-gains_equation k le y1 p off_e) (keeps-gains_equation k ll y2 p off_l) in
        let made : (m : ℕ) (j : LabelKind) → IsOn y1 p m j ↔ ((IsOn ws p m j × ¬ (((m ≡ k) × (j ≡ E)) × (has lr p ≡ true))) ⊎ (((m ≡ k) × (j ≡ rule_kind dir)) × (k < length ws) × (has lr p ≡ true))) = on-gains_rule (record { node = k; dir = dir }) lr ws p in
        let found : KeepsRoles x3 ws p = keeps-with_node z (ByRewrite n w at a) x3 p in
        let lost : (m : ℕ) (j : LabelKind) → IsOn x3 p m j ↔ (IsOn b.nodes p m j × ¬ ((m ≡ n) × (j ≡ rule_kind (other w)))) = on-lost l n w kind b.nodes p named one (rule_kind (other w)) so on' in
        compose_case g b p n w at a kind u f has_rule (after (Some z)) (keeps (Some z)) fits
        (λ m d. (
          (λ o. ⊎_elim (λ h. ((lost m (constraint_kind d)).0 ((found m (constraint_kind d)).0 h.0)).0) (λ h. absurd (rule-no_constraint dir d (sym h.0.1))) ((made m (constraint_kind d)).0 ((last m (constraint_kind d)).0 o))),
          λ o. (last m (constraint_kind d)).1 ((made m (constraint_kind d)).1 (inl ((found m (constraint_kind d)).1 ((lost m (constraint_kind d)).1 (o, λ i. rule-no_constraint (other w) d (sym i.1))), λ i. equation-no_constraint d (sym i.0.1)))),
        ))
        on' (λ d o. one n (rule_kind d) (rule_kind (other w)) (rule_role d) (rule_role (other w)) o on') k dir z pair3 (direction-rule (other_side f.pair w) u z some)
        ((last k (rule_kind dir)).1 ((made k (rule_kind dir)).1 (inr ((refl, refl), there_ws, own))))
        (λ m. (
          (λ o. ⊎_elim (λ h. (((lost m E).0 ((found m E).0 h.0)).0, λ i. h.1 ((i, refl), own))) (λ h. absurd (equation-no_rule dir h.0.1)) ((made m E).0 ((last m E).0 o))),
          λ o. (last m E).1 ((made m E).1 (inl ((found m E).1 ((lost m E).1 (o.0, λ i. equation-no_rule (other w) i.1)), λ i. o.1 i.0.0))),
        ))
        (λ m d. (
          (λ o. ⊎_elim (λ h. let v = (lost m (rule_kind d)).0 ((found m (rule_kind d)).0 h.0) in inl (v.0, λ i. v.1 (i.0, i.1))) (λ h. inr (h.0.0, h.0.1, tt)) ((made m (rule_kind d)).0 ((last m (rule_kind d)).0 o))),
          λ o. (last m (rule_kind d)).1 ((made m (rule_kind d)).1 (⊎_elim (λ h. inl ((found m (rule_kind d)).1 ((lost m (rule_kind d)).1 (h.0, λ i. h.1 (i.0, i.1, tt))), λ i. equation-no_rule d (sym i.0.1))) (λ h. inr ((h.0, h.1), there_ws, own)) o)),
        ))
        (same_trans (other_side f.pair w, u) (u, other_side f.pair w) (sides z) (same_turned (other_side f.pair w) u) same)

    -- the process keeps one role for each node, where it has no rule that is the reverse of a composed one
    move_one_role : ((d : ℕ) → IsOn b.nodes p n (rule_kind (other w)) → IsOn b.nodes p k (rule_kind d) → rule_kind d ≡ rule_kind dir) → (s : LabelKind) → IsSource w kind s → IsOn b.nodes p n s → OneRole (moved_nodes l n w at a kind u f.pair (Some z) b.nodes) p
    move_one_role proper s (inl e) on =
        let on' : IsOn b.nodes p n E = subst {A = LabelKind} (IsOn b.nodes p n) e on in
        let so : IsSource w kind E = inl refl in
        let off_r : has lr p ≡ false = gains_from l n w kind b.nodes p named one E so on' (rule_kind (other w)) (rule_role (other w)) (λ i. equation-no_rule (other w) (sym i)) in
        let off_l : has ll p ≡ false = strict_off (gains_from l n w kind b.nodes p named one E so on' (rule_kind w) (rule_role w) (λ i. equation-no_rule w (sym i))) in
        one_after (others_gain x3 y1 y3 p k le (w1 off_r) (keeps-gains_equation k ll y2 p off_l)) (eq_gain x3 y1 y3 p k le (w1 off_r) there1 (gains_own l n w kind b.nodes p named one E so on') (keeps-gains_equation k ll y2 p off_l)) (λ m j o. ((on-lost l n w kind b.nodes p named one E so on' m j).0 o).0)
    move_one_role proper s (inr (inr e)) on =
        let on' : IsOn b.nodes p n (rule_kind w) = subst {A = LabelKind} (IsOn b.nodes p n) e.0 on in
        let so : IsSource w kind (rule_kind w) = inr (inr (refl, e.1)) in
        let off_r : has lr p ≡ false = gains_from l n w kind b.nodes p named one (rule_kind w) so on' (rule_kind (other w)) (rule_role (other w)) (λ i. other-rule w (sym i)) in
        let off_e : has le p ≡ false = gains_from l n w kind b.nodes p named one (rule_kind w) so on' E tt (equation-no_rule w) in
        let own : has ll p ≡ true = has-if_strict kind (meet l (label_at b.nodes n (rule_kind w))) p e.1 (gains_own l n w kind b.nodes p named one (rule_kind w) so on') in
        let w2 : KeepsRoles x3 y2 p = keeps_trans x3 y1 y2 p (w1 off_r) (keeps-gains_equation k le y1 p off_e) in
        one_after (others_gain x3 y2 y3 p k ll w2 (λ m j. ((λ o. o), λ o. o))) (eq_gain x3 y2 y3 p k ll w2 there2 own (λ m j. ((λ o. o), λ o. o))) (λ m j o. ((on-lost l n w kind b.nodes p named one (rule_kind w) so on' m j).0 o).0)
    move_one_role proper s (inr (inl e)) on =
        let on' : IsOn b.nodes p n (rule_kind (other w)) = subst {A = LabelKind} (IsOn b.nodes p n) e on in
        let so : IsSource w kind (rule_kind (other w)) = inr (inl refl) in
        let off_e : has le p ≡ false = gains_from l n w kind b.nodes p named one (rule_kind (other w)) so on' E tt (equation-no_rule (other w)) in
        let off_l : has ll p ≡ false = strict_off (gains_from l n w kind b.nodes p named one (rule_kind (other w)) so on' (rule_kind w) (rule_role w) (other-rule w)) in
        let own : has lr p ≡ true = gains_own l n w kind b.nodes p named one (rule_kind (other w)) so on' in
        let last : KeepsRoles y1 y3 p = keeps_trans y1 y2 y3 p (keeps-gains_equation k le y1 p off_e) (keeps-gains_equation k ll y2 p off_l) in
        let made : (m : ℕ) (j : LabelKind) → IsOn y1 p m j ↔ ((IsOn ws p m j × ¬ (((m ≡ k) × (j ≡ E)) × (has lr p ≡ true))) ⊎ (((m ≡ k) × (j ≡ rule_kind dir)) × (k < length ws) × (has lr p ≡ true))) = on-gains_rule (record { node = k; dir = dir }) lr ws p in
        let found : KeepsRoles x3 ws p = keeps-with_node z (ByRewrite n w at a) x3 p in
        one_role_composed b.nodes y3 p k dir one
        (λ m o. ⊎_elim (λ h. (((on-lost l n w kind b.nodes p named one (rule_kind (other w)) so on' m E).0 ((found m E).0 h.0)).0, λ i. h.1 ((i, refl), own))) (λ h. absurd (equation-no_rule dir h.0.1)) ((made m E).0 ((last m E).0 o)))
        (λ m d o. ⊎_elim (λ h. inl ((on-lost l n w kind b.nodes p named one (rule_kind (other w)) so on' m (rule_kind d)).0 ((found m (rule_kind d)).0 h.0)).0) (λ h. inr h.0) ((made m (rule_kind d)).0 ((last m (rule_kind d)).0 o)))
        (λ d o. proper d on' o)

  moves : (o : Option Pair) → canonical_pair u (other_side f.pair w) ≡ o → Fits (moved_nodes l n w at a kind u f.pair o b.nodes) → (IsOn b.nodes p n (rule_kind (other w)) → u ≢ other_side f.pair w) → (s : LabelKind) → IsSource w kind s → IsOn b.nodes p n s → Steps g (state_of b p) (state_of (after o) p)
  moves None e fits proper s source on = trivial_steps e fits proper s source on
  moves (Some z) e fits proper s source on = move_steps z e fits s source on

  -- a process that has the rule and the node in a source makes steps of completion; no composed rule may be trivial
  pub rewriting_steps : Fits (rewritten l n w at a kind u f.pair b.nodes) → (IsOn b.nodes p n (rule_kind (other w)) → u ≢ other_side f.pair w) → (s : LabelKind) → IsSource w kind s → IsOn b.nodes p n s
      → Steps g (state_of b p) (state_of (on_nodes (rewritten l n w at a kind u f.pair) b) p)
  rewriting_steps fits proper s source on = moves (canonical_pair u (other_side f.pair w)) refl fits proper s source on

  -- the process keeps one role for each node
  pub rewriting_one_role : ((z : Pair) (k d : ℕ) → canonical_pair u (other_side f.pair w) ≡ Some z → IsOn b.nodes p n (rule_kind (other w)) → IsOn b.nodes p k (rule_kind d) → pair_in b.nodes k ≡ Some z → rule_kind d ≡ rule_kind (direction (other_side f.pair w) u z))
      → Fits (rewritten l n w at a kind u f.pair b.nodes) → (s : LabelKind) → IsSource w kind s → IsOn b.nodes p n s → OneRole (rewritten l n w at a kind u f.pair b.nodes) p
  rewriting_one_role proper fits s source on = go (canonical_pair u (other_side f.pair w)) refl fits
    where
      go : (o : Option Pair) → canonical_pair u (other_side f.pair w) ≡ o → Fits (moved_nodes l n w at a kind u f.pair o b.nodes) → OneRole (moved_nodes l n w at a kind u f.pair o b.nodes) p
      go None e fits = λ m i j ri rj oi oj. one m i j ri rj ((on-lost l n w kind b.nodes p named one s source on m i).0 oi).0 ((on-lost l n w kind b.nodes p named one s source on m j).0 oj).0
      go (Some z) e fits = move_one_role z e fits (λ d on' o. proper z (k z e fits) d e on' o (pair_back b.nodes (moved_nodes l n w at a kind u f.pair (Some z) b.nodes) p (k z e fits) (rule_kind d) z (keeps (Some z)) o (pair3 z e fits))) s source on
