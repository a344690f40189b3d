-- Each commit keeps that a process has each node as an equation, as one of the two rules, or not at all.
use Rattle.std.proofs.Common.{ℕ, zero, suc, ◌≡◌, ◌≢◌, refl, sym, ◌∙◌, subst, List, [], ◌∷◌, map, Option, Some, None, ⊎_elim, Bool, true, false}
use Rattle.std.specs.Prelude.{IsFalse}
use Rattle.std.specs.Option.{option_map_or}
use Rattle.kb_lemmas.proofs.Options.{some_is, none_some}
use Rattle.kb_term.specs.Tree.{Tree}
use Rattle.kb_term.specs.View.{tree_of}
use Rattle.kb_term.specs.Pair.{Pair, canonical_pair}
use Rattle.kb_term.specs.Signature.{Signature}
use Rattle.kb_term.specs.Rule.{rule_of, IsVariantRule, rule_between}
use Rattle.kb_overlap.specs.Trace.{side, other_side}
use Rattle.kb_term.specs.declared.origin.RuleRef.{RuleRef}
use Rattle.kb_term.specs.declared.origin.Found.{Found}
use Rattle.kb_label.specs.Names.{Name, has, name_eq, child}
use Rattle.mkb_model.specs.Plain.{Plain, PlainNode, rule_kind, other, state_of, pair_at, pair_in}
use Rattle.mkb_model.specs.Effects.{gains, oriented, added, rewritten, rewrite_label, overlap_label, direction, applied, is_dropped, forked_node}
use Rattle.kb_node.specs.declared.node.LabelKind.{LabelKind}
use Rattle.kb_node.specs.declared.node.LabelKind.TheVariants.{R0, R1, E, C0, C1, X}
use Rattle.kb_node.specs.declared.job.Deduced.{Deduced}
use Rattle.mkb_model.specs.declared.proposed.Proposed.{Proposed}
use Rattle.mkb_model.specs.declared.proposed.Proposed.TheVariants.{Facts, Rewrite, One, Both, Refuse, Deduce, Unjoined, Closed, Limit}
use Rattle.kb_label.proofs.Members.{name_eq-eq}
use Rattle.mkb_model.specs.Ready.{IsOn, IsRole, OneRole, IsRewriteOn, IsReady, IsNew}
use Rattle.mkb_model.proofs.Lists.{decide}
use Rattle.mkb_model.proofs.commits.Roles.{on_there, kinds_decide, on-gains, equation-no_rule}
use Rattle.mkb_model.proofs.commits.Views.{SameRoles, rule_sym, rule_trans, rule_of-between, rules-view, rule_listed}
use Rattle.mkb_model.proofs.commits.RoleChanges.{Fits}
use Rattle.mkb_model.proofs.commits.Orienting.{OrientRoles, orient-roles, keeps-oriented}
use Rattle.mkb_model.proofs.commits.Adding.{rule_role, add_one, add-one_role, keeps-added}
use Rattle.mkb_model.proofs.commits.RewritingRuns.{source_of, rule_of-other, direction-rule}
use Rattle.mkb_model.proofs.commits.RewritingSteps.{rewriting_one_role}
use Rattle.mkb_model.proofs.commits.Proper.{IsOrdered, composed_not_reversed}
use Rattle.mkb_model.proofs.commits.Commits.{IsNoFork, IsApartFrom, keeps-rewritten, orients, fork_other, bit_number, fork_roles}

pub one_role_keeps : (xs ys : List PlainNode) (p q : Name) → SameRoles xs p ys q → OneRole xs p → OneRole ys q
one_role_keeps xs ys p q s one n i j ri rj oi oj = one n i j ri rj ((s n i).0 oi) ((s n j).0 oj)

-- the equation of a node becomes a rule
pub one_role_oriented : (xs ys : List PlainNode) (p q : Name) (a : RuleRef) → OrientRoles xs p ys q a → IsOn xs p a.node E → OneRole xs p → OneRole ys q
one_role_oriented xs ys p q a r on one n i j ri rj oi oj = go i j ri rj oi oj
  where
    mixed : (d : ℕ) → IsOn ys q n E → IsOn ys q n (rule_kind d) → E ≡ rule_kind d
    mixed d o k = ⊎_elim (λ h. ⊎_elim (λ i. one n E (rule_kind d) tt (rule_role d) h.0 i.0) (λ i. absurd (h.1 (i.0, tt))) ((r.rules n d).0 k)) (λ h. absurd h.1) ((r.equations n).0 o)

    none : (d : ℕ) → n ≡ a.node → IsOn xs p n (rule_kind d) → ⊥
    none d e o = equation-no_rule d (one n E (rule_kind d) tt (rule_role d) (subst {A = ℕ} (λ m. IsOn xs p m E) (sym e) on) o)

    both : (c d : ℕ) → IsOn ys q n (rule_kind c) → IsOn ys q n (rule_kind d) → rule_kind c ≡ rule_kind d
    both c d o k = ⊎_elim
        (λ h. ⊎_elim (λ i. one n (rule_kind c) (rule_kind d) (rule_role c) (rule_role d) h.0 i.0) (λ i. absurd (none c i.0 h.0)) ((r.rules n d).0 k))
        (λ h. ⊎_elim (λ i. absurd (none d h.0 i.0)) (λ i. h.1 ∙ sym i.1) ((r.rules n d).0 k)) ((r.rules n c).0 o)

    go : (i j : LabelKind) → IsRole i → IsRole j → IsOn ys q n i → IsOn ys q n j → i ≡ j
    go E E ri rj oi oj = refl
    go R0 R0 ri rj oi oj = refl
    go R1 R1 ri rj oi oj = refl
    go E R0 ri rj oi oj = mixed 0 oi oj
    go E R1 ri rj oi oj = mixed 1 oi oj
    go R0 E ri rj oi oj = sym (mixed 0 oj oi)
    go R1 E ri rj oi oj = sym (mixed 1 oj oi)
    go R0 R1 ri rj oi oj = both 0 1 oi oj
    go R1 R0 ri rj oi oj = both 1 0 oi oj
    go C0 j ri rj oi oj = absurd ri
    go C1 j ri rj oi oj = absurd ri
    go X j ri rj oi oj = absurd ri
    go i C0 ri rj oi oj = absurd rj
    go i C1 ri rj oi oj = absurd rj
    go i X ri rj oi oj = absurd rj

pub one_role_added : (l : List Name) (ds : List Deduced) (xs : List PlainNode) (q : Name) → has l q ≡ true → OneRole xs q → OneRole (added l ds xs) q
one_role_added l [] xs q h one = one
one_role_added l (d ∷ ds) xs q h one = one_role_added l ds (add_one l d xs) q h (add-one_role l d xs q h one)

-- rules of one pair in different directions are the reverses of one another
pub reversed_rule : (z : Pair) (d e : ℕ) (s u : Tree) → rule_kind d ≢ rule_kind e → IsVariantRule (rule_of z e) (rule_between s u) → IsVariantRule (rule_of z d) (rule_between u s)
reversed_rule z zero zero s u h v = absurd (h refl)
reversed_rule z (suc d) (suc e) s u h v = absurd (h refl)
reversed_rule z zero (suc e) s u h v =
    let w = rule_trans (rule_between z.second z.first) (rule_of z (suc e)) (rule_between s u) (rule_sym (rule_of z (suc e)) (rule_between z.second z.first) (rule_of-between z (suc e))) v in
    rule_trans (rule_of z 0) (rule_between z.first z.second) (rule_between u s) (rule_of-between z 0) (w.0, w.1, w.3, w.2)
reversed_rule z (suc d) zero s u h v =
    let w = rule_trans (rule_between z.first z.second) (rule_of z 0) (rule_between s u) (rule_sym (rule_of z 0) (rule_between z.first z.second) (rule_of-between z 0)) v in
    rule_trans (rule_of z (suc d)) (rule_between z.second z.first) (rule_between u s) (rule_of-between z (suc d)) (w.0, w.1, w.3, w.2)

-- where the state is ordered, the process has no rule that is the reverse of the composed one
no_reverse : (g : Signature) (b : Plain) (p : Name) (n w : ℕ) (at : List ℕ) (a : RuleRef) (kind : Found) (u : Tree) (f : IsRewriteOn b.nodes n w at a kind u) → IsOn b.nodes p a.node (rule_kind a.dir) → IsOrdered g (state_of b p)
    → (z : Pair) (k d : ℕ) → canonical_pair u (other_side f.pair w) ≡ Some z → IsOn b.nodes p n (rule_kind (other w)) → IsOn b.nodes p k (rule_kind d) → pair_in b.nodes k ≡ Some z → rule_kind d ≡ rule_kind (direction (other_side f.pair w) u z)
no_reverse g b p n w at a kind u f has_rule ordered z k d some on o there = ⊎_elim (λ e. e)
    (λ h. absurd (composed_not_reversed g (state_of b p) ordered (other_side f.pair w) (side f.pair w) u
    ((rules-view b p (rule_between (other_side f.pair w) (side f.pair w))).1 (n, other w, f.pair, on, f.there, rule_of-other f.pair w))
    (rule_of f.by a.dir, rule_listed b p a f.by has_rule f.by_there, at, f.step)
    ((rules-view b p (rule_between u (other_side f.pair w))).1 (k, d, z, o, there, reversed_rule z d (direction (other_side f.pair w) u z) (other_side f.pair w) u h (direction-rule (other_side f.pair w) u z some)))))
    (kinds_decide (rule_kind d) (rule_kind (direction (other_side f.pair w) u z)))

-- each commit but a fork keeps one role
pub one_role_applied : (g : Signature) (b : Plain) (x : Proposed) → IsReady g b x → IsFalse (is_dropped b x) → ((q : Name) → IsOrdered g (state_of b q)) → Fits (applied b x).nodes → IsNoFork x → (q : Name) → OneRole b.nodes q → OneRole (applied b x).nodes q
one_role_applied g b (Facts fs) ready acts ordered fits plain q one = one
one_role_applied g b (Rewrite n w at a kind t) (f, proper) acts ordered fits plain q one = go (pair_at b n.0) f.there fits
  where
    at_pair : Fits (rewritten (rewrite_label b n.0 w a kind) n.0 w at a kind (tree_of t) f.pair b.nodes) → OneRole (rewritten (rewrite_label b n.0 w a kind) n.0 w at a kind (tree_of t) f.pair b.nodes) q
    at_pair fits = ⊎_elim
        (λ h. let s = source_of b n.0 w a kind q h in
        rewriting_one_role g b q (rewrite_label b n.0 w a kind) h n.0 w at a kind (tree_of t) f s.0 one (no_reverse g b q n.0 w at a kind (tree_of t) f s.0 (ordered q)) fits s.1.0 s.1.1 s.1.2)
        (λ h. one_role_keeps b.nodes (rewritten (rewrite_label b n.0 w a kind) n.0 w at a kind (tree_of t) f.pair b.nodes) q q (keeps-rewritten (rewrite_label b n.0 w a kind) n.0 w at a kind (tree_of t) f.pair b.nodes q h) one)
        (decide (has (rewrite_label b n.0 w a kind) q))

    go : (o : Option Pair) → o ≡ Some f.pair → Fits (option_map_or (λ z. rewritten (rewrite_label b n.0 w a kind) n.0 w at a kind (tree_of t) z) o (λ xs. xs) b.nodes)
        → OneRole (option_map_or (λ z. rewritten (rewrite_label b n.0 w a kind) n.0 w at a kind (tree_of t) z) o (λ xs. xs) b.nodes) q
    go None e fits = none_some e
    go (Some z) e fits = rw (some_is e) (at_pair (subst {A = Pair} (λ y. Fits (rewritten (rewrite_label b n.0 w a kind) n.0 w at a kind (tree_of t) y b.nodes)) (some_is e) fits))
one_role_applied g b (One p n d c) ready acts ordered fits plain q one = ⊎_elim
    (λ e. subst {A = Name} (λ z. OneRole (oriented p (record { node = n.0; dir = d }) b.nodes) z) (sym (name_eq-eq q p e))
    (one_role_oriented b.nodes (oriented p (record { node = n.0; dir = d }) b.nodes) p p (record { node = n.0; dir = d }) (orient-roles p (record { node = n.0; dir = d }) b.nodes (on_there b.nodes p n.0 E (orients b p n.0 acts))) (orients b p n.0 acts) (subst {A = Name} (OneRole b.nodes) (name_eq-eq q p e) one)))
    (λ e. one_role_keeps b.nodes (oriented p (record { node = n.0; dir = d }) b.nodes) q q (keeps-oriented p (record { node = n.0; dir = d }) b.nodes q e) one)
    (decide (name_eq q p))
one_role_applied g b (Both p n c0 c1) ready acts ordered fits plain q one = absurd plain
one_role_applied g b (Refuse p n) ready acts ordered fits plain q one = λ m i j ri rj oi oj. one m i j ri rj (back m i ri oi) (back m j rj oj)
  where
    not_refused : (j : LabelKind) → IsRole j → j ≢ X
    not_refused j r e = absurd (subst {A = LabelKind} IsRole e r)

    back : (m : ℕ) (j : LabelKind) → IsRole j → IsOn (gains n.0 X (p ∷ []) b.nodes) q m j → IsOn b.nodes q m j
    back m j r o = ⊎_elim (λ i. i) (λ i. absurd (not_refused j r i.0.1)) ((on-gains n.0 X (p ∷ []) b.nodes q m j).0 o)
one_role_applied g b (Deduce a c ds) ready acts ordered fits plain q one = ⊎_elim (λ h. one_role_added (overlap_label b a c) ds b.nodes q h one) (λ h. one_role_keeps b.nodes (added (overlap_label b a c) ds b.nodes) q q (keeps-added (overlap_label b a c) ds b.nodes q h) one) (decide (has (overlap_label b a c) q))
one_role_applied g b (Unjoined p ds) ready acts ordered fits plain q one = ⊎_elim (λ h. one_role_added (p ∷ []) ds b.nodes q h one) (λ h. one_role_keeps b.nodes (added (p ∷ []) ds b.nodes) q q (keeps-added (p ∷ []) ds b.nodes q h) one) (decide (has (p ∷ []) q))
one_role_applied g b (Closed p) ready acts ordered fits plain q one = one
one_role_applied g b (Limit j cause) ready acts ordered fits plain q one = one

-- a fork keeps it for the two children and for all others
pub one_role_forked : (b : Plain) (p : Name) (n : ℕ) → IsNew b.nodes p → IsOn b.nodes p n E → OneRole b.nodes p → (bit : Bool)
    → OneRole (oriented (child p true) (record { node = n; dir = 1 }) (oriented (child p false) (record { node = n; dir = 0 }) (map (forked_node p) b.nodes))) (child p bit)
one_role_forked b p n new on one bit = one_role_oriented b.nodes (oriented (child p true) (record { node = n; dir = 1 }) (oriented (child p false) (record { node = n; dir = 0 }) (map (forked_node p) b.nodes))) p (child p bit) (record { node = n; dir = bit_number bit }) (fork_roles b.nodes p n new on bit) on one

pub one_role_fork_other : (b : Plain) (p : Name) (n : ℕ) (q : Name) → IsApartFrom p q → OneRole b.nodes q
    → OneRole (oriented (child p true) (record { node = n; dir = 1 }) (oriented (child p false) (record { node = n; dir = 0 }) (map (forked_node p) b.nodes))) q
one_role_fork_other b p n q h one = one_role_keeps b.nodes (oriented (child p true) (record { node = n; dir = 1 }) (oriented (child p false) (record { node = n; dir = 0 }) (map (forked_node p) b.nodes))) q q (fork_other b p n q h) one
