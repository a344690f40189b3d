-- What a commit leaves of the rules in use, told between the board before it and the state after it.
use Rattle.std.proofs.Common.{ℕ, ◌≡◌, ◌≢◌, ◌<◌, refl, sym, ap, ◌∙◌, subst, List, not, Option, Some, None}
use Rattle.std.specs.Option.{option_map_or}
use Rattle.std.specs.Prelude.{⊤}
use Rattle.kb_term.specs.View.{tree_of}
use Rattle.kb_term.specs.Pair.{Pair}
use Rattle.kb_term.specs.declared.origin.RuleRef.{RuleRef}
use Rattle.kb_term.specs.declared.origin.Found.{Found}
use Rattle.kb_cert.specs.declared.certificate.Certificate.{Certificate}
use Rattle.kb_overlap.specs.Trace.{other_side}
use Rattle.kb_label.specs.Names.{Name, is_empty}
use Rattle.kb_label.specs.declared.verdict.Reason.{Reason}
use Rattle.kb_node.specs.declared.node.NodeId.{NodeId}
use Rattle.kb_term.specs.declared.term.Term.{Term}
use Rattle.mkb_model.specs.Plain.{Plain, PlainNode, label_at, pair_at, pair_in, rule_kind}
use Rattle.mkb_model.specs.Effects.{limit_of, rewritten, rewrite_label}
use Rattle.mkb_model.specs.Journals.{Moment, IsCommitting, IsFreeJob}
use Rattle.mkb_model.specs.Ready.{KeepsPairs}
use Rattle.mkb_model.specs.declared.entry.Effect.{Effect}
use Rattle.mkb_model.specs.declared.entry.Effect.TheVariants.{Over, Made}
use Rattle.mkb_model.specs.declared.entry.Entry.TheVariants.{Commit as Committed}
use Rattle.mkb_model.specs.declared.proposed.Proposed.{Proposed}
use Rattle.mkb_model.specs.declared.proposed.Proposed.TheVariants.{Facts, Rewrite, One, Both, Refuse, Deduce, Unjoined, Closed, Limit}
use Rattle.mkb_model.proofs.nodes.DistinctPairs.{pairs_follow}
use Rattle.mkb_moves.specs.Changes.{IsElsewhere, is_in_use, IsUsedAsBefore}
use Rattle.mkb_moves.proofs.Makes.{making}
use Rattle.mkb_moves.proofs.RulesInUse.{facts_rules, refusal_rules, closing_rules, deduce_rules, unjoined_rules, limit_rules, one_rules, fork_rules, rewriting_rules}
use Rattle.mkb_rules.specs.Applying.{applied_as}
use Rattle.mkb_rules.specs.declared.applied.Applied.TheVariants.{Done}
use Rattle.rule_index.specs.declared.index.RuleIndex.{RuleIndex}
use Rattle.mkb_agenda.specs.Following.{IsCommitOn}
use Rattle.mkb_agenda.specs.declared.following.Commit.{Commit}
use Rattle.rules_in_use.specs.InUse.{IsIndexOf, IsPutRightAt, HoldsLeftSides}
use Rattle.rules_in_use.proofs.Indexed.{carried, sides_carried, right_at_all, right_after}

-- the rules of the node are left as they are where the proposal has its effect
abbrev pub IsLeft : Plain → Plain → Proposed → ℕ → Type 0
IsLeft b c (Rewrite n w at a found t) m = (q : Pair) → pair_at b n.0 ≡ Some q → IsElsewhere c n.0 (other_side q w) (tree_of t) m
IsLeft b c (One p n d x) m = m ≢ n.0
IsLeft b c (Both p n c0 c1) m = m ≢ n.0
IsLeft b c x m = ⊤

-- a rule of a node that is left is in use just where it was
left_rules : (past : List Moment) (b : Plain) (w t : ℕ) (x : Proposed) (c : Plain) → IsCommitting past b w t (Made x) c → (a : RuleRef) → a.dir < 2 → IsLeft b c x a.node → IsUsedAsBefore b c a
left_rules past b w t (Facts fs) c f a bit h = facts_rules past b w t fs c f a
left_rules past b w t (Rewrite n v at r found u) c f a bit h = go (pair_at b n.0) refl
  where
    go : (o : Option Pair) → pair_at b n.0 ≡ o → IsUsedAsBefore b c a
    go None e = ap (λ (z : Plain). is_in_use z a) (making past b w t (Rewrite n v at r found u) c f).leads_to
        ∙ ap (λ (o : Option Pair). not (is_empty (label_at (option_map_or (λ q. rewritten (rewrite_label b n.0 v r found) n.0 v at r found (tree_of u) q) o (λ xs. xs) b.nodes) a.node (rule_kind a.dir)))) e
    go (Some q) e = rewriting_rules past b w t n v at r found u c f q e a (h q e)
left_rules past b w t (One p n d x) c f a bit h = one_rules past b w t p n d x c f a (bit, λ e. h (ap (λ (z : RuleRef). z.node) e))
left_rules past b w t (Both p n c0 c1) c f a bit h = fork_rules past b w t p n c0 c1 c f a h
left_rules past b w t (Refuse p n) c f a bit h = refusal_rules past b w t p n c f a
left_rules past b w t (Deduce r s ds) c f a bit h = deduce_rules past b w t r s ds c f a
left_rules past b w t (Unjoined p ds) c f a bit h = unjoined_rules past b w t p ds c f a
left_rules past b w t (Closed p) c f a bit h = closing_rules past b w t p c f a
left_rules past b w t (Limit j cause) c f a bit h = ap (λ (z : Plain). is_in_use z a) (making past b w t (Limit j cause) c f).leads_to

-- each rule is left by what neither rewrites nor orients
pub all_left : (b c : Plain) (x : Proposed)
    → ((n : NodeId) (w : ℕ) (at : List ℕ) (a : RuleRef) (found : Found) (t : Term) → x ≡ Rewrite n w at a found t → ⊥)
    → ((p : Name) (n : NodeId) (d : ℕ) (o : Certificate) → x ≡ One p n d o → ⊥)
    → ((p : Name) (n : NodeId) (c0 c1 : Certificate) → x ≡ Both p n c0 c1 → ⊥) → (m : ℕ) → IsLeft b c x m
all_left b c (Facts fs) r o f m = tt
all_left b c (Rewrite n w at a found t) r o f m = absurd (r n w at a found t refl)
all_left b c (One p n d y) r o f m = absurd (o p n d y refl)
all_left b c (Both p n c0 c1) r o f m = absurd (f p n c0 c1 refl)
all_left b c (Refuse p n) r o f m = tt
all_left b c (Deduce a e ds) r o f m = tt
all_left b c (Unjoined p ds) r o f m = tt
all_left b c (Closed p) r o f m = tt
all_left b c (Limit j cause) r o f m = tt

-- the same on boards with the same nodes
same_left : (b c d : Plain) (x : Proposed) (m : ℕ) → c.nodes ≡ d.nodes → IsLeft b c x m → IsLeft b d x m
same_left b c d (Facts fs) m e h = h
same_left b c d (Rewrite n w at a found t) m e h = λ q there. ((h q there).0, λ k. (h q there).1 (k.0, k.1, ap (λ xs. pair_in xs m) e ∙ k.2))
same_left b c d (One p n y z) m e h = h
same_left b c d (Both p n c0 c1) m e h = h
same_left b c d (Refuse p n) m e h = h
same_left b c d (Deduce r s ds) m e h = h
same_left b c d (Unjoined p ds) m e h = h
same_left b c d (Closed p) m e h = h
same_left b c d (Limit j cause) m e h = h

module _ (b c : Plain) (x : Commit) (k : IsCommitOn b x c) where
  same_nodes : c.nodes ≡ k.next.nodes
  same_nodes = ap (λ (z : Plain). z.nodes) k.makes ∙ sym (ap (λ (z : Plain). z.nodes) k.commit.leads_to)

  pub pairs_kept : KeepsPairs b.nodes c.nodes
  pairs_kept = subst {A = List PlainNode} (KeepsPairs b.nodes) (sym same_nodes) (pairs_follow IsFreeJob k.past b (Committed k.worker k.ticket k.effect) k.next k.commit)

  used_here : (a : RuleRef) → IsUsedAsBefore b k.next a → IsUsedAsBefore b c a
  used_here a h = ap (λ xs. not (is_empty (label_at xs a.node (rule_kind a.dir)))) same_nodes ∙ h

  pub left_here : (a : RuleRef) → a.dir < 2 → (x.applied ≡ Done → IsLeft b c x.proposal.now a.node) → IsUsedAsBefore b c a
  left_here a bit h = used_here a (go (limit_of b k.commit.proposal) refl)
    where
      go : (o : Option Reason) → limit_of b k.commit.proposal ≡ o → IsUsedAsBefore b k.next a
      go None e = left_rules k.past b k.worker k.ticket x.proposal.now k.next
          (subst {A = Effect} (λ z. IsCommitting k.past b k.worker k.ticket z k.next) (k.commit.names_effect ∙ ap (λ (o : Option Reason). option_map_or Over o (Made k.commit.proposal)) e ∙ ap Made (sym k.proposal)) k.commit) a bit
          (same_left b c k.next x.proposal.now a.node same_nodes (h (k.applied ∙ ap applied_as e)))
      go (Some r) e = limit_rules k.past b k.worker k.ticket r k.next
          (subst {A = Effect} (λ z. IsCommitting k.past b k.worker k.ticket z k.next) (k.commit.names_effect ∙ ap (λ (o : Option Reason). option_map_or Over o (Made k.commit.proposal)) e) k.commit) a

  -- ---- what follows for an index

  module _ (old : RuleIndex) (is : IsIndexOf b old) where
    pub sides_follow : HoldsLeftSides c old
    sides_follow = sides_carried b c old pairs_kept is

    -- nothing is looked at
    pub follows_none : (x.applied ≡ Done → (m : ℕ) → IsLeft b c x.proposal.now m) → IsIndexOf c old
    follows_none h = right_at_all (λ m. x.applied ≡ Done → IsLeft b c x.proposal.now m) c old (λ m e. h e m) (carried (λ m. x.applied ≡ Done → IsLeft b c x.proposal.now m) b c old pairs_kept left_here is)

    -- one node is looked at
    pub follows_one : (n : ℕ) (new : RuleIndex) → (x.applied ≡ Done → (m : ℕ) → m ≢ n → IsLeft b c x.proposal.now m) → IsPutRightAt c n old new → IsIndexOf c new
    follows_one n new h put = right_at_all (λ m. ⊤) c new (λ m. tt)
        (right_after (λ m. x.applied ≡ Done → IsLeft b c x.proposal.now m) (λ m. ⊤) c n old new (λ m q differs e. h e m differs)
        (carried (λ m. x.applied ≡ Done → IsLeft b c x.proposal.now m) b c old pairs_kept left_here is) put)

    -- two nodes are looked at
    pub follows_two : (n m : ℕ) (mid new : RuleIndex) → (x.applied ≡ Done → (i : ℕ) → i ≢ n → i ≢ m → IsLeft b c x.proposal.now i) → IsPutRightAt c n old mid → IsPutRightAt c m mid new → IsIndexOf c new
    follows_two n m mid new h first second = right_at_all (λ i. ⊤) c new (λ i. tt)
        (right_after (λ i. i ≢ m) (λ i. ⊤) c m mid new (λ i q differs. differs)
        (right_after (λ i. x.applied ≡ Done → IsLeft b c x.proposal.now i) (λ i. i ≢ m) c n old mid (λ i q differs e. h e i differs q)
        (carried (λ i. x.applied ≡ Done → IsLeft b c x.proposal.now i) b c old pairs_kept left_here is) first) second)
