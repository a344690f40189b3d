-- Of which rules a commit changes whether some process has them.
use Rattle.std.proofs.Common.{ℕ, ◌≡◌, ◌≢◌, ◌⊎◌, inl, inr, refl, ap, ◌∙◌, List, [], ◌∷◌, map, Bool, true, false, cond, not, Option, Some, None, ⊎_elim}
use Rattle.std.specs.Option.{option_map_or}
use Rattle.std.specs.declared.cmp.Ordering.{Ordering}
use Rattle.std.specs.declared.cmp.Ordering.TheVariants.{Less, Equal, Greater}
use Rattle.kb_term.specs.Tree.{Tree}
use Rattle.kb_term.specs.View.{tree_of}
use Rattle.kb_term.specs.Pair.{Pair, canonical_pair}
use Rattle.kb_term.specs.declared.term.Term.{Term}
use Rattle.kb_term.specs.declared.origin.RuleRef.{RuleRef}
use Rattle.kb_term.specs.declared.origin.Found.{Found}
use Rattle.kb_term.specs.declared.origin.Origin.TheVariants.{Rewrite as ByRewrite}
use Rattle.kb_overlap.specs.Trace.{other_side}
use Rattle.kb_cert.specs.declared.certificate.Certificate.{Certificate}
use Rattle.kb_label.specs.Names.{Name, name_cmp, by_order, has, child, add, join, meet, minus, relabel, is_empty}
use Rattle.kb_label.specs.declared.verdict.Reason.{Reason}
use Rattle.kb_node.specs.declared.node.NodeId.{NodeId}
use Rattle.kb_node.specs.declared.node.LabelKind.{LabelKind}
use Rattle.kb_node.specs.declared.node.LabelKind.TheVariants.{R0, R1, E}
use Rattle.kb_node.specs.declared.job.Deduced.{Deduced}
use Rattle.kb_node.specs.declared.job.Fact.{Fact}
use Rattle.mkb_model.specs.Plain.{Plain, PlainNode, label, label_at, rule_kind, constraint_kind, other, pair_at, pair_in}
use Rattle.mkb_model.specs.Effects.{with_node, node_of, loses, gains, gains_rule, gains_equation, forked_node, direction, if_strict, oriented, overlap_label, rewrite_label, rewritten}
use Rattle.mkb_model.specs.Journals.{Moment, IsCommitting}
use Rattle.mkb_model.specs.declared.entry.Effect.TheVariants.{Over, Made}
use Rattle.mkb_model.specs.declared.proposed.Proposed.TheVariants.{Facts, Rewrite, One, Both, Refuse, Deduce, Unjoined, Closed}
use Rattle.mkb_model.proofs.commits.Roles.{numbers_decide, put_other, label-with_node, label-fork, refused-no_rule, rule-no_constraint}
use Rattle.mkb_model.proofs.commits.RewritingSteps.{lost_nodes, moved_nodes}
use Rattle.mkb_moves.specs.Changes.{IsAnother, is_in_use, IsUsedAsBefore, KeepsRulesInUse, KeepsRulesElsewhere}
use Rattle.mkb_moves.proofs.Sight.{rule_ref, same_direction}
use Rattle.mkb_moves.proofs.Makes.{IsMaking, making, stopping}
use Rattle.mkb_moves.proofs.Refused.{labels_added}
use Rattle.mkb_moves.proofs.Sources.{result_at}
use Rattle.mkb_moves.proofs.Turning.{direction_bit, refusal_labels}
use Rattle.mkb_moves.proofs.Added.{rule_other}
use Rattle.mkb_moves.proofs.OpenedWork.{bit_below}

-- the same label says the same of its rule
used_same : (b c : Plain) (a : RuleRef) → label c a.node (rule_kind a.dir) ≡ label b a.node (rule_kind a.dir) → IsUsedAsBefore b c a
used_same b c a e = ap (λ l. not (is_empty l)) e

-- ---- facts, refusals, closings, deduced pairs and limits

pub facts_rules : (past : List Moment) (b : Plain) (w t : ℕ) (fs : List Fact) (next : Plain) → IsCommitting past b w t (Made (Facts fs)) next → KeepsRulesInUse b next
facts_rules past b w t fs next f a = ap (λ (z : Plain). is_in_use z a) (making past b w t (Facts fs) next f).leads_to

pub refusal_rules : (past : List Moment) (b : Plain) (w t : ℕ) (p : Name) (n : NodeId) (next : Plain) → IsCommitting past b w t (Made (Refuse p n)) next → KeepsRulesInUse b next
refusal_rules past b w t p n next f a = used_same b next a (refusal_labels past b w t p n next f a.node (rule_kind a.dir) (inr (refused-no_rule a.dir)))

pub closing_rules : (past : List Moment) (b : Plain) (w t : ℕ) (p : Name) (next : Plain) → IsCommitting past b w t (Made (Closed p)) next → KeepsRulesInUse b next
closing_rules past b w t p next f a = ap (λ (z : Plain). is_in_use z a) (making past b w t (Closed p) next f).leads_to

pub deduce_rules : (past : List Moment) (b : Plain) (w t : ℕ) (a c : RuleRef) (ds : List Deduced) (next : Plain) → IsCommitting past b w t (Made (Deduce a c ds)) next → KeepsRulesInUse b next
deduce_rules past b w t a c ds next f e = used_same b next e
    (ap (λ (z : Plain). label z e.node (rule_kind e.dir)) (making past b w t (Deduce a c ds) next f).leads_to ∙ labels_added (overlap_label b a c) ds b.nodes e.node (rule_kind e.dir) (rule_other e.dir))

pub unjoined_rules : (past : List Moment) (b : Plain) (w t : ℕ) (p : Name) (ds : List Deduced) (next : Plain) → IsCommitting past b w t (Made (Unjoined p ds)) next → KeepsRulesInUse b next
unjoined_rules past b w t p ds next f e = used_same b next e
    (ap (λ (z : Plain). label z e.node (rule_kind e.dir)) (making past b w t (Unjoined p ds) next f).leads_to ∙ labels_added (p ∷ []) ds b.nodes e.node (rule_kind e.dir) (rule_other e.dir))

pub limit_rules : (past : List Moment) (b : Plain) (w t : ℕ) (r : Reason) (next : Plain) → IsCommitting past b w t (Over r) next → KeepsRulesInUse b next
limit_rules past b w t r next f a = ap (λ (z : Plain). is_in_use z a) (stopping past b w t r next f)

-- ---- orientations

-- another rule's label stays where one is oriented
labels_oriented : (p : Name) (a : RuleRef) (xs : List PlainNode) (m d : ℕ) → (m ≢ a.node) ⊎ (rule_kind d ≢ rule_kind a.dir) → label_at (oriented p a xs) m (rule_kind d) ≡ label_at xs m (rule_kind d)
labels_oriented p a xs m d h =
    let x1 : List PlainNode = loses a.node E (p ∷ []) xs in
    let x2 : List PlainNode = gains a.node (rule_kind a.dir) (p ∷ []) x1 in
    put_other x2 a.node m (constraint_kind a.dir) (rule_kind d) (join (label_at x2 a.node (constraint_kind a.dir)) (p ∷ [])) (inr (rule-no_constraint d a.dir))
    ∙ put_other x1 a.node m (rule_kind a.dir) (rule_kind d) (join (label_at x1 a.node (rule_kind a.dir)) (p ∷ [])) h
    ∙ put_other xs a.node m E (rule_kind d) (minus (label_at xs a.node E) (p ∷ [])) (inr (rule_other d))

pub one_rules : (past : List Moment) (b : Plain) (w t : ℕ) (p : Name) (n : NodeId) (d : ℕ) (c : Certificate) (next : Plain) → IsCommitting past b w t (Made (One p n d c)) next
    → (e : RuleRef) → IsAnother (record { node = n.0; dir = d }) e → IsUsedAsBefore b next e
one_rules past b w t p n d c next f e h = used_same b next e (ap (λ (z : Plain). label z e.node (rule_kind e.dir)) k.leads_to ∙ labels_oriented p a b.nodes e.node e.dir (⊎_elim same_node (λ o. inl o) (numbers_decide e.node n.0)))
  where
    k : IsMaking past b w t (One p n d c) next
    k = making past b w t (One p n d c) next f

    a : RuleRef
    a = record { node = n.0; dir = d }

    same_node : e.node ≡ n.0 → (e.node ≢ n.0) ⊎ (rule_kind e.dir ≢ rule_kind d)
    same_node i = inr (λ o. h.1 (rule_ref a e i (same_direction e.dir d (bit_below e.dir h.0) (direction_bit k.finishing.before k.job p n d c k.finishing.proposed) o)))

-- ---- forks

add_filled : (p : Name) (l : List Name) → is_empty (add p l) ≡ false
add_filled p [] = refl
add_filled p (q ∷ l) = go (name_cmp p q)
  where
    go : (o : Ordering) → is_empty (by_order o (p ∷ q ∷ l) (q ∷ l) (q ∷ add p l)) ≡ false
    go Less = refl
    go Equal = refl
    go Greater = refl

-- a label has names after a fork where it had some
relabel_filled : (p : Name) (l : List Name) → is_empty (relabel p l) ≡ is_empty l
relabel_filled p [] = refl
relabel_filled p (q ∷ l) = go (has (q ∷ l) p)
  where
    go : (x : Bool) → is_empty (cond x (add (child p false) (add (child p true) (minus (q ∷ l) (p ∷ [])))) (q ∷ l)) ≡ false
    go true = add_filled (child p false) (add (child p true) (minus (q ∷ l) (p ∷ [])))
    go false = refl

pub fork_rules : (past : List Moment) (b : Plain) (w t : ℕ) (p : Name) (n : NodeId) (c0 c1 : Certificate) (next : Plain) → IsCommitting past b w t (Made (Both p n c0 c1)) next → (e : RuleRef) → e.node ≢ n.0 → IsUsedAsBefore b next e
fork_rules past b w t p n c0 c1 next f e h = ap (λ l. not (is_empty l)) labels ∙ ap not (relabel_filled p (label b e.node (rule_kind e.dir)))
  where
    labels : label next e.node (rule_kind e.dir) ≡ relabel p (label b e.node (rule_kind e.dir))
    labels = ap (λ (z : Plain). label z e.node (rule_kind e.dir)) (making past b w t (Both p n c0 c1) next f).leads_to
        ∙ labels_oriented (child p true) (record { node = n.0; dir = 1 }) (oriented (child p false) (record { node = n.0; dir = 0 }) (map (forked_node p) b.nodes)) e.node e.dir (inl h)
        ∙ labels_oriented (child p false) (record { node = n.0; dir = 0 }) (map (forked_node p) b.nodes) e.node e.dir (inl h)
        ∙ label-fork p b.nodes e.node (rule_kind e.dir)

-- ---- rewritings

module _ (l : List Name) (n w : ℕ) (at : List ℕ) (a : RuleRef) (kind : Found) (u : Tree) (q : Pair) (xs : List PlainNode) (m : ℕ) (j : LabelKind) (away : m ≢ n) where
  labels_lost : label_at (lost_nodes l n w kind xs) m j ≡ label_at xs m j
  labels_lost =
      let x1 : List PlainNode = loses n (rule_kind w) (if_strict kind l) xs in
      let x2 : List PlainNode = loses n (rule_kind (other w)) l x1 in
      put_other x2 n m E j (minus (label_at x2 n E) l) (inl away) ∙ put_other x1 n m (rule_kind (other w)) j (minus (label_at x1 n (rule_kind (other w))) l) (inl away)
      ∙ put_other xs n m (rule_kind w) j (minus (label_at xs n (rule_kind w)) (if_strict kind l)) (inl away)

  -- the labels of a node stay, if its pair is neither the rewritten one nor that of the result
  labels_moved : (o : Option Pair) → ((z : Pair) → o ≡ Some z → m ≢ node_of (with_node z (ByRewrite n w at a) (lost_nodes l n w kind xs)) z) → label_at (moved_nodes l n w at a kind u q o xs) m j ≡ label_at xs m j
  labels_moved None h = labels_lost
  labels_moved (Some z) h =
      let ws : List PlainNode = with_node z (ByRewrite n w at a) (lost_nodes l n w kind xs) in
      let k : ℕ = node_of ws z in
      let d : ℕ = direction (other_side q w) u z in
      let le : List Name = meet l (label_at xs n E) in
      let lr : List Name = meet l (label_at xs n (rule_kind (other w))) in
      let ll : List Name = if_strict kind (meet l (label_at xs n (rule_kind w))) in
      let v1 : List PlainNode = loses k E lr ws in
      let y1 : List PlainNode = gains_rule (record { node = k; dir = d }) lr ws in
      let y2 : List PlainNode = gains_equation k le y1 in
      put_other y2 k m E j (join (label_at y2 k E) (minus (minus ll (label_at y2 k R0)) (label_at y2 k R1))) (inl (h z refl))
      ∙ put_other y1 k m E j (join (label_at y1 k E) (minus (minus le (label_at y1 k R0)) (label_at y1 k R1))) (inl (h z refl))
      ∙ put_other v1 k m (rule_kind d) j (join (label_at v1 k (rule_kind d)) lr) (inl (h z refl))
      ∙ put_other ws k m E j (minus (label_at ws k E) lr) (inl (h z refl))
      ∙ label-with_node z (ByRewrite n w at a) (lost_nodes l n w kind xs) m j ∙ labels_lost

pub rewriting_rules : (past : List Moment) (b : Plain) (v s : ℕ) (m : NodeId) (w : ℕ) (at : List ℕ) (a : RuleRef) (kind : Found) (t : Term) (next : Plain) → IsCommitting past b v s (Made (Rewrite m w at a kind t)) next → KeepsRulesElsewhere b next m w t
rewriting_rules past b v s m w at a kind t next f q there e h = used_same b next e
    (ap (λ xs. label_at xs e.node (rule_kind e.dir)) nodes ∙ labels_moved l m.0 w at a kind (tree_of t) q b.nodes e.node (rule_kind e.dir) h.0 (canonical_pair (tree_of t) (other_side q w)) (λ z is same. h.1 (z, is, at_place z is same)))
  where
    l : List Name
    l = rewrite_label b m.0 w a kind

    nodes : next.nodes ≡ rewritten l m.0 w at a kind (tree_of t) q b.nodes
    nodes = ap (λ (z : Plain). z.nodes) (making past b v s (Rewrite m w at a kind t) next f).leads_to ∙ ap (λ (o : Option Pair). option_map_or (λ r. rewritten l m.0 w at a kind (tree_of t) r) o (λ xs. xs) b.nodes) there

    at_place : (z : Pair) → canonical_pair (tree_of t) (other_side q w) ≡ Some z → e.node ≡ node_of (with_node z (ByRewrite m.0 w at a) (lost_nodes l m.0 w kind b.nodes)) z → pair_at next e.node ≡ Some z
    at_place z is same = ap (pair_at next) same ∙ ap (λ xs. pair_in xs (node_of (with_node z (ByRewrite m.0 w at a) (lost_nodes l m.0 w kind b.nodes)) z)) nodes
        ∙ ap (λ o. pair_in (moved_nodes l m.0 w at a kind (tree_of t) q o b.nodes) (node_of (with_node z (ByRewrite m.0 w at a) (lost_nodes l m.0 w kind b.nodes)) z)) is
        ∙ result_at l m.0 w at a kind (tree_of t) q b.nodes z
