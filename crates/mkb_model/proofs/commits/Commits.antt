-- What each commit is for each process: zero or more steps of completion.
use Rattle.std.proofs.Common.{ℕ, ◌≡◌, ◌≢◌, ◌↔◌, inl, refl, sym, ap, ◌∙◌, subst, arith, List, [], ◌∷◌, ◌++◌, map, Option, Some, None, ⊎_elim, Bool, true, false, cond, Contains}
use Rattle.std.specs.Prelude.{⊤, IsFalse}
use Rattle.std.specs.Option.{option_map_or}
use Rattle.std.proofs.lemmas.Bool.{and_right}
use Rattle.kb_lemmas.proofs.Options.{some_is, none_some}
use Rattle.kb_term.specs.Tree.{Tree}
use Rattle.kb_term.specs.View.{tree_of}
use Rattle.kb_term.specs.Pair.{Pair, canonical_pair}
use Rattle.kb_term.specs.Signature.{Signature}
use Rattle.kb_overlap.specs.Trace.{other_side}
use Rattle.kb_cert.specs.Family.{IsOrderable}
use Rattle.kb_laws.specs.Completion.{KbReaches, IsSameState}
use Rattle.kb_term.specs.declared.origin.RuleRef.{RuleRef}
use Rattle.kb_term.specs.declared.origin.Found.{Found}
use Rattle.kb_term.specs.declared.origin.Origin.TheVariants.{Rewrite as ByRewrite}
use Rattle.kb_label.specs.Names.{Name, has, name_eq, child, meet, is_empty}
use Rattle.mkb_model.specs.Plain.{Plain, PlainNode, label_at, rule_kind, constraint_kind, other, state_of, pair_at, rules_at, constraints_of, is_equation, pair_in}
use Rattle.mkb_model.specs.Effects.{loses, gains, gains_rule, gains_equation, with_node, node_of, rewritten, rewrite_label, overlap_label, orient_label, direction, if_strict, on_nodes, oriented, added, applied, is_dropped, forked_node}
use Rattle.kb_node.specs.declared.node.LabelKind.{LabelKind}
use Rattle.kb_node.specs.declared.node.LabelKind.TheVariants.{E, X}
use Rattle.kb_node.specs.declared.job.Deduced.{Deduced}
use Rattle.mkb_model.specs.declared.proposed.Proposed.{Proposed}
use Rattle.mkb_model.specs.declared.proposed.Proposed.TheVariants.{Facts, Rewrite, One, Both, Refuse, Deduce, Unjoined, Closed, Limit}
use Rattle.kb_label.proofs.Members.{has-meet, name_eq-eq}
use Rattle.mkb_model.specs.Ready.{IsOn, KeepsPairs, OneRole, IsDeducedFrom, IsReady, IsNew}
use Rattle.mkb_model.proofs.Lists.{clash, decide, false_unless}
use Rattle.mkb_model.proofs.commits.Roles.{on_there, on-gains, has-one, keeps-with_node, keeps-gains_rule, keeps-gains_equation, keeps-loses, keeps-fork, on-fork, KeepsRoles, keeps_trans, refused-no_rule, refused-no_constraint, kind_number}
use Rattle.mkb_model.proofs.nodes.Pairs.{same_kept, pairs-oriented, pairs-gains, pairs-added, pairs-rewritten, pairs-fork}
use Rattle.mkb_model.proofs.commits.Views.{SameRoles, same_view, equations-view, rules-view, constraints-view, iff_over, pair_back}
use Rattle.mkb_model.proofs.commits.Steps.{one_step, reaches_by_steps, reaches_same, same_state}
use Rattle.mkb_model.proofs.commits.RoleChanges.{Fits}
use Rattle.mkb_model.proofs.commits.Orienting.{OrientRoles, orient-roles, orient_before, orient_after, keeps-oriented, orient_step}
use Rattle.mkb_model.proofs.commits.Adding.{view-rules_only, adding_steps, keeps-added}
use Rattle.mkb_model.proofs.commits.RewritingRuns.{source_of, if_strict-has}
use Rattle.mkb_model.proofs.commits.RewritingSteps.{lost_nodes, moved_nodes, rewriting_steps}

-- ---- who is not named by a rewriting keeps its roles

pub keeps-rewritten : (l : List Name) (n w : ℕ) (at : List ℕ) (a : RuleRef) (kind : Found) (u : Tree) (z : Pair) (xs : List PlainNode) (q : Name) → has l q ≡ false → KeepsRoles xs (rewritten l n w at a kind u z xs) q
keeps-rewritten l n w at a kind u z xs q h = moved (canonical_pair u (other_side z w))
  where
    not_met : (m : List Name) → has (meet l m) q ≡ false
    not_met m = has-meet l m q ∙ and_right (has m q) (has l q) h

    not_strict : (m : List Name) → has m q ≡ false → has (if_strict kind m) q ≡ false
    not_strict m e = false_unless (has (if_strict kind m) q) (λ i. clash (if_strict-has kind m q i).1 e)

    lost : KeepsRoles xs (lost_nodes l n w kind xs) q
    lost = keeps_trans xs (loses n (rule_kind w) (if_strict kind l) xs) (lost_nodes l n w kind xs) q (keeps-loses n (rule_kind w) (if_strict kind l) xs q (not_strict l h))
        (keeps_trans (loses n (rule_kind w) (if_strict kind l) xs) (loses n (rule_kind (other w)) l (loses n (rule_kind w) (if_strict kind l) xs)) (lost_nodes l n w kind xs) q
        (keeps-loses n (rule_kind (other w)) l (loses n (rule_kind w) (if_strict kind l) xs) q h) (keeps-loses n E l (loses n (rule_kind (other w)) l (loses n (rule_kind w) (if_strict kind l) xs)) q h))

    moved : (o : Option Pair) → KeepsRoles xs (moved_nodes l n w at a kind u z o xs) q
    moved None = lost
    moved (Some y) =
        let x3 : List PlainNode = lost_nodes l n w kind xs in
        let ws : List PlainNode = with_node y (ByRewrite n w at a) x3 in
        let k : ℕ = node_of ws y in
        let r : RuleRef = record { node = k; dir = direction (other_side z w) u y } in
        let y1 : List PlainNode = gains_rule r (meet l (label_at xs n (rule_kind (other w)))) ws in
        let y2 : List PlainNode = gains_equation k (meet l (label_at xs n E)) y1 in
        let y3 : List PlainNode = gains_equation k (if_strict kind (meet l (label_at xs n (rule_kind w)))) y2 in
        keeps_trans xs x3 y3 q lost (keeps_trans x3 ws y3 q (keeps-with_node y (ByRewrite n w at a) x3 q) (keeps_trans ws y1 y3 q (keeps-gains_rule r (meet l (label_at xs n (rule_kind (other w)))) ws q (not_met (label_at xs n (rule_kind (other w)))))
        (keeps_trans y1 y2 y3 q (keeps-gains_equation k (meet l (label_at xs n E)) y1 q (not_met (label_at xs n E))) (keeps-gains_equation k (if_strict kind (meet l (label_at xs n (rule_kind w)))) y2 q (not_strict (meet l (label_at xs n (rule_kind w))) (not_met (label_at xs n (rule_kind w))))))))

-- ---- a proposal that is right on the board on which it is committed

-- the proposal forks no process
abbrev pub IsNoFork : Proposed → Type 0
IsNoFork (Both p n c0 c1) = ⊥
IsNoFork x = ⊤

-- pairs stay where they are at each commit
pub pairs-applied : (b : Plain) (x : Proposed) → KeepsPairs b.nodes (applied b x).nodes
pairs-applied b (Facts fs) = λ n q e. e
pairs-applied b (Rewrite n w at a kind t) = go (pair_at b n.0)
  where
    go : (o : Option Pair) → KeepsPairs b.nodes (option_map_or (λ q. rewritten (rewrite_label b n.0 w a kind) n.0 w at a kind (tree_of t) q) o (λ xs. xs) b.nodes)
    go None = λ m q e. e
    go (Some z) = pairs-rewritten (rewrite_label b n.0 w a kind) n.0 w at a kind (tree_of t) z b.nodes
pairs-applied b (One p n d c) = same_kept b.nodes (oriented p (record { node = n.0; dir = d }) b.nodes) (pairs-oriented p (record { node = n.0; dir = d }) b.nodes)
pairs-applied b (Both p n c0 c1) =
    let x0 : List PlainNode = map (forked_node p) b.nodes in
    let x1 : List PlainNode = oriented (child p false) (record { node = n.0; dir = 0 }) x0 in
    λ m q e. pairs-oriented (child p true) (record { node = n.0; dir = 1 }) x1 m ∙ pairs-oriented (child p false) (record { node = n.0; dir = 0 }) x0 m ∙ pairs-fork p b.nodes m ∙ e
pairs-applied b (Refuse p n) = same_kept b.nodes (gains n.0 X (p ∷ []) b.nodes) (pairs-gains n.0 X (p ∷ []) b.nodes)
pairs-applied b (Deduce a c ds) = pairs-added (overlap_label b a c) ds b.nodes
pairs-applied b (Unjoined p ds) = pairs-added (p ∷ []) ds b.nodes
pairs-applied b (Closed p) = λ n q e. e
pairs-applied b (Limit j cause) = λ n q e. e

-- equations, rules and constraints alone decide the state
same_parts : (b c : Plain) (q : Name) → ((m : ℕ) → IsOn c.nodes q m E ↔ IsOn b.nodes q m E) → ((m d : ℕ) → IsOn c.nodes q m (rule_kind d) ↔ IsOn b.nodes q m (rule_kind d)) → ((m d : ℕ) → IsOn c.nodes q m (constraint_kind d) ↔ IsOn b.nodes q m (constraint_kind d)) → KeepsPairs b.nodes c.nodes
    → IsSameState (state_of b q) (state_of c q)
same_parts b c q he hr hc k = record {
  equations = λ e. iff_over (equations-view b q e) (equations-view c q e) ((λ v. (v.0, v.1, (he v.0).1 v.2, k v.0 v.1 v.3, v.4)), λ v. let o = (he v.0).0 v.2 in (v.0, v.1, o, pair_back b.nodes c.nodes q v.0 E v.1 k o v.3, v.4));
  rules = λ r. iff_over (rules-view b q r) (rules-view c q r) (view-rules_only rule_kind b.nodes c.nodes q q hr k r);
  constraints = λ r. iff_over (constraints-view b q r) (constraints-view c q r) (view-rules_only constraint_kind b.nodes c.nodes q q hc k r);
}

pub is_p : (p q : Name) → has (p ∷ []) q ≡ true → q ≡ p
is_p p q h = name_eq-eq q p (sym (has-one p q) ∙ h)

-- an orienting commit acts on a process that has the equation
pub orients : (b : Plain) (p : Name) (n : ℕ) → is_empty (orient_label b p n) ≡ false → is_equation b p n ≡ true
orients b p n h = go (is_equation b p n) h
  where
    go : (x : Bool) → is_empty (cond x (p ∷ []) []) ≡ false → x ≡ true
    go true k = refl
    go false k = clash refl k

-- each commit but a fork is zero or more steps of each process
pub applied_reaches : (g : Signature) (b : Plain) (x : Proposed) → IsNoFork x → IsReady g b x → IsFalse (is_dropped b x) → (q : Name) → OneRole b.nodes q → Fits (applied b x).nodes → KbReaches g (state_of b q) (state_of (applied b x) q)
applied_reaches g b (Facts fs) plain ready acts q one fits = reaches_same g (state_of b q) (state_of b q) (same_state (state_of b q))
applied_reaches g b (Rewrite n w at a kind t) plain (f, proper) acts q one fits = go (pair_at b n.0) f.there fits
  where
    l : List Name
    l = rewrite_label b n.0 w a kind

    at_pair : (z : Pair) → z ≡ f.pair → Fits (rewritten (rewrite_label b n.0 w a kind) n.0 w at a kind (tree_of t) f.pair b.nodes) → KbReaches g (state_of b q) (state_of (on_nodes (rewritten (rewrite_label b n.0 w a kind) n.0 w at a kind (tree_of t) f.pair) b) q)
    at_pair z e fits = ⊎_elim
        (λ h. let s = source_of b n.0 w a kind q h in
        reaches_by_steps g (state_of b q) (state_of (on_nodes (rewritten (rewrite_label b n.0 w a kind) n.0 w at a kind (tree_of t) f.pair) b) q)
        (rewriting_steps g b q (rewrite_label b n.0 w a kind) h n.0 w at a kind (tree_of t) f s.0 one fits (proper q s.0) s.1.0 s.1.1 s.1.2))
        (λ h. reaches_same g (state_of b q) (state_of (on_nodes (rewritten (rewrite_label b n.0 w a kind) n.0 w at a kind (tree_of t) f.pair) b) q)
        (same_view b (on_nodes (rewritten (rewrite_label b n.0 w a kind) n.0 w at a kind (tree_of t) f.pair) b) q q (keeps-rewritten (rewrite_label b n.0 w a kind) n.0 w at a kind (tree_of t) f.pair b.nodes q h) (pairs-rewritten (rewrite_label b n.0 w a kind) n.0 w at a kind (tree_of t) f.pair b.nodes)))
        (decide (has (rewrite_label b n.0 w a kind) q))

    go : (o : Option Pair) → o ≡ Some f.pair → Fits (option_map_or (λ z. rewritten (rewrite_label b n.0 w a kind) n.0 w at a kind (tree_of t) z) o (λ xs. xs) b.nodes)
        → KbReaches g (state_of b q) (state_of (on_nodes (option_map_or (λ z. rewritten (rewrite_label b n.0 w a kind) n.0 w at a kind (tree_of t) z) o (λ xs. xs)) b) q)
    go None e fits = none_some e
    go (Some z) e fits = rw (some_is e) (at_pair z (some_is e) (subst {A = Pair} (λ y. Fits (rewritten (rewrite_label b n.0 w a kind) n.0 w at a kind (tree_of t) y b.nodes)) (some_is e) fits))
applied_reaches g b (One p n d c) plain (r, there, orders) acts q one fits = ⊎_elim at_p elsewhere (decide (name_eq q p))
  where
    a : RuleRef
    a = record { node = n.0; dir = d }

    has_it : IsOn b.nodes p n.0 E
    has_it = orients b p n.0 acts

    c' : Plain
    c' = on_nodes (oriented p (record { node = n.0; dir = d })) b

    at_p : name_eq q p ≡ true → KbReaches g (state_of b q) (state_of (on_nodes (oriented p (record { node = n.0; dir = d })) b) q)
    at_p e = subst {A = Name} (λ z. KbReaches g (state_of b z) (state_of (on_nodes (oriented p (record { node = n.0; dir = d })) b) z)) (sym (name_eq-eq q p e))
        (reaches_by_steps g (state_of b p) (state_of (on_nodes (oriented p (record { node = n.0; dir = d })) b) p) (one_step g (state_of b p) (state_of (on_nodes (oriented p (record { node = n.0; dir = d })) b) p)
        (orient_step g b (on_nodes (oriented p (record { node = n.0; dir = d })) b) p p (record { node = n.0; dir = d }) r (orient-roles p (record { node = n.0; dir = d }) b.nodes (on_there b.nodes p n.0 E has_it)) (pairs-applied b (One p n d c)) fits there has_it orders)))

    elsewhere : name_eq q p ≡ false → KbReaches g (state_of b q) (state_of (on_nodes (oriented p (record { node = n.0; dir = d })) b) q)
    elsewhere e = reaches_same g (state_of b q) (state_of (on_nodes (oriented p (record { node = n.0; dir = d })) b) q) (same_view b (on_nodes (oriented p (record { node = n.0; dir = d })) b) q q (keeps-oriented p (record { node = n.0; dir = d }) b.nodes q e) (pairs-applied b (One p n d c)))
applied_reaches g b (Both p n c0 c1) plain ready acts q one fits = absurd plain
applied_reaches g b (Refuse p n) plain ready acts q one fits = reaches_same g (state_of b q) (state_of (on_nodes (gains n.0 X (p ∷ [])) b) q)
    (same_parts b (on_nodes (gains n.0 X (p ∷ [])) b) q (λ m. other_kept m E (λ e. omega (arith, ap kind_number e))) (λ m d. other_kept m (rule_kind d) (refused-no_rule d)) (λ m d. other_kept m (constraint_kind d) (refused-no_constraint d)) (pairs-applied b (Refuse p n)))
  where
    other_kept : (m : ℕ) (j : LabelKind) → j ≢ X → IsOn (gains n.0 X (p ∷ []) b.nodes) q m j ↔ IsOn b.nodes q m j
    other_kept m j h = ((λ o. ⊎_elim (λ i. i) (λ i. absurd (h i.0.1)) ((on-gains n.0 X (p ∷ []) b.nodes q m j).0 o)), λ o. (on-gains n.0 X (p ∷ []) b.nodes q m j).1 (inl o))
applied_reaches g b (Deduce a c ds) plain ready acts q one fits = ⊎_elim
    (λ h. reaches_by_steps g (state_of b q) (state_of (on_nodes (added (overlap_label b a c) ds) b) q) (adding_steps g ds b q (overlap_label b a c) h one fits (ready q h)))
    (λ h. reaches_same g (state_of b q) (state_of (on_nodes (added (overlap_label b a c) ds) b) q) (same_view b (on_nodes (added (overlap_label b a c) ds) b) q q (keeps-added (overlap_label b a c) ds b.nodes q h) (pairs-added (overlap_label b a c) ds b.nodes)))
    (decide (has (overlap_label b a c) q))
applied_reaches g b (Unjoined p ds) plain ready acts q one fits = ⊎_elim
    (λ h. reaches_by_steps g (state_of b q) (state_of (on_nodes (added (p ∷ []) ds) b) q) (adding_steps g ds b q (p ∷ []) h one fits (subst {A = Name} (λ z. (d : Deduced) → Contains ds d → IsDeducedFrom g b.nodes z d.pair) (sym (is_p p q h)) ready)))
    (λ h. reaches_same g (state_of b q) (state_of (on_nodes (added (p ∷ []) ds) b) q) (same_view b (on_nodes (added (p ∷ []) ds) b) q q (keeps-added (p ∷ []) ds b.nodes q h) (pairs-added (p ∷ []) ds b.nodes)))
    (decide (has (p ∷ []) q))
applied_reaches g b (Closed p) plain ready acts q one fits = reaches_same g (state_of b q) (state_of b q) (same_state (state_of b q))
applied_reaches g b (Limit j cause) plain ready acts q one fits = reaches_same g (state_of b q) (state_of b q) (same_state (state_of b q))

-- ---- a fork

-- the name is neither that of the forked process nor of a child
pub record IsApartFrom (p q : Name) : Type 0 where
  pub not_itself : name_eq q p ≡ false
  pub not_first : name_eq q (child p false) ≡ false
  pub not_second : name_eq q (child p true) ≡ false

-- another process keeps its state at a fork
pub fork_other : (b : Plain) (p : Name) (n : ℕ) (q : Name) → IsApartFrom p q → KeepsRoles b.nodes (oriented (child p true) (record { node = n; dir = 1 }) (oriented (child p false) (record { node = n; dir = 0 }) (map (forked_node p) b.nodes))) q
fork_other b p n q h =
    let x0 : List PlainNode = map (forked_node p) b.nodes in
    let x1 : List PlainNode = oriented (child p false) (record { node = n; dir = 0 }) x0 in
    keeps_trans b.nodes x0 (oriented (child p true) (record { node = n; dir = 1 }) x1) q (keeps-fork p b.nodes q h.not_itself h.not_first h.not_second)
    (keeps_trans x0 x1 (oriented (child p true) (record { node = n; dir = 1 }) x1) q (keeps-oriented (child p false) (record { node = n; dir = 0 }) x0 q h.not_first) (keeps-oriented (child p true) (record { node = n; dir = 1 }) x1 q h.not_second))

-- the names of two children differ
pub children_differ : (p : Name) → (name_eq (child p false) (child p true) ≡ false) × (name_eq (child p true) (child p false) ≡ false)
children_differ [] = (refl, refl)
children_differ (false ∷ p) = children_differ p
children_differ (true ∷ p) = children_differ p

-- the direction that a child of a fork takes
abbrev pub bit_number : Bool → ℕ
bit_number false = 0
bit_number true = 1

-- at a fork each child orients the equation in its own direction, from the roles of the forked process
pub fork_roles : (xs : List PlainNode) (p : Name) (n : ℕ) → IsNew xs p → IsOn xs p n E → (bit : Bool)
    → OrientRoles xs p (oriented (child p true) (record { node = n; dir = 1 }) (oriented (child p false) (record { node = n; dir = 0 }) (map (forked_node p) xs))) (child p bit) (record { node = n; dir = bit_number bit })
fork_roles xs p n new on bit = go bit
  where
    x0 : List PlainNode
    x0 = map (forked_node p) xs

    a0 : RuleRef
    a0 = record { node = n; dir = 0 }

    a1 : RuleRef
    a1 = record { node = n; dir = 1 }

    x1 : List PlainNode
    x1 = oriented (child p false) a0 x0

    x2 : List PlainNode
    x2 = oriented (child p true) a1 x1

    here0 : SameRoles xs p x0 (child p false)
    here0 = on-fork p false xs (new false)

    here1 : SameRoles xs p x1 (child p true)
    here1 m j =
        let k = keeps-oriented (child p false) a0 x0 (child p true) (children_differ p).1 m j in
        let h = on-fork p true xs (new true) m j in
        ((λ o. h.0 (k.0 o)), λ o. k.1 (h.1 o))

    roles0 : OrientRoles xs p x2 (child p false) a0
    roles0 = orient_after xs p x1 (child p false) x2 a0 (orient_before xs p x0 (child p false) x1 (child p false) a0 here0 (orient-roles (child p false) a0 x0 (on_there x0 (child p false) n E ((here0 n E).1 on)))) (keeps-oriented (child p true) a1 x1 (child p false) (children_differ p).0)

    roles1 : OrientRoles xs p x2 (child p true) a1
    roles1 = orient_before xs p x1 (child p true) x2 (child p true) a1 here1 (orient-roles (child p true) a1 x1 (on_there x1 (child p true) n E ((here1 n E).1 on)))

    go : (bit : Bool) → OrientRoles xs p (oriented (child p true) (record { node = n; dir = 1 }) (oriented (child p false) (record { node = n; dir = 0 }) (map (forked_node p) xs))) (child p bit) (record { node = n; dir = bit_number bit })
    go false = roles0
    go true = roles1

-- each commit of a fork is zero steps of each other process, and one step for each child from the state of the forked process
pub fork_reaches : (g : Signature) (b : Plain) (p : Name) (n : ℕ) (c : Plain) → c.nodes ≡ oriented (child p true) (record { node = n; dir = 1 }) (oriented (child p false) (record { node = n; dir = 0 }) (map (forked_node p) b.nodes))
    → Fits c.nodes → IsNew b.nodes p → IsOn b.nodes p n E → (r : Pair) → pair_in b.nodes n ≡ Some r
    → IsOrderable g (rules_at b (constraints_of b p ++ record { node = n; dir = 0 } ∷ [])) → IsOrderable g (rules_at b (constraints_of b p ++ record { node = n; dir = 1 } ∷ []))
    → KbReaches g (state_of b p) (state_of c (child p false)) × KbReaches g (state_of b p) (state_of c (child p true)) × ((q : Name) → IsApartFrom p q → KbReaches g (state_of b q) (state_of c q))
fork_reaches g b p n c nodes fits new on r there orders0 orders1 = (
  reaches_by_steps g (state_of b p) (state_of c (child p false)) (one_step g (state_of b p) (state_of c (child p false)) (orient_step g b c p (child p false) a0 r roles0 keeps fits there on orders0)),
  reaches_by_steps g (state_of b p) (state_of c (child p true)) (one_step g (state_of b p) (state_of c (child p true)) (orient_step g b c p (child p true) a1 r roles1 keeps fits there on orders1)),
  λ q h. reaches_same g (state_of b q) (state_of c q) (same_view b c q q (subst {A = List PlainNode} (λ ys. KeepsRoles b.nodes ys q) (sym nodes) (fork_other b p n q h)) keeps),
)
  where
    a0 : RuleRef
    a0 = record { node = n; dir = 0 }

    a1 : RuleRef
    a1 = record { node = n; dir = 1 }

    x0 : List PlainNode
    x0 = map (forked_node p) b.nodes

    x1 : List PlainNode
    x1 = oriented (child p false) a0 x0

    keeps : KeepsPairs b.nodes c.nodes
    keeps = subst {A = List PlainNode} (KeepsPairs b.nodes) (sym nodes) (λ m q e. pairs-oriented (child p true) a1 x1 m ∙ pairs-oriented (child p false) a0 x0 m ∙ pairs-fork p b.nodes m ∙ e)

    roles0 : OrientRoles b.nodes p c.nodes (child p false) a0
    roles0 = subst {A = List PlainNode} (λ ys. OrientRoles b.nodes p ys (child p false) a0) (sym nodes) (fork_roles b.nodes p n new on false)

    roles1 : OrientRoles b.nodes p c.nodes (child p true) a1
    roles1 = subst {A = List PlainNode} (λ ys. OrientRoles b.nodes p ys (child p true) a1) (sym nodes) (fork_roles b.nodes p n new on true)
