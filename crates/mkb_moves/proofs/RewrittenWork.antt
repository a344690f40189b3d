-- Which work a rewriting ends, and which it leaves.
use Rattle.std.proofs.Common.{ℕ, zero, suc, ◌≡◌, ◌≢◌, ◌⊎◌, ◌↔◌, inl, inr, refl, sym, ap, ◌∙◌, subst, List, [], ◌∷◌, Contains, false, not, ◌&&◌, Option, Some, ⊎_elim}
use Rattle.std.specs.Option.{option_map_or}
use Rattle.std.proofs.lemmas.Bool.{and_right, or_from}
use Rattle.kb_lemmas.proofs.Membership.{contains_cases, none_in}
use Rattle.kb_lemmas.proofs.Options.{some_is}
use Rattle.kb_term.specs.Tree.{Tree, variable}
use Rattle.kb_term.specs.View.{tree_of}
use Rattle.kb_term.specs.Substitution.{instance, rename}
use Rattle.kb_term.specs.Pair.{Pair, canonical_pair, IsSameEquation}
use Rattle.kb_term.specs.Rule.{rule_of}
use Rattle.kb_term.specs.Signature.{Problem, IsWithinLimits}
use Rattle.kb_term.specs.declared.term.Term.{Term}
use Rattle.kb_term.specs.declared.origin.RuleRef.{RuleRef}
use Rattle.kb_term.specs.declared.origin.Found.{Found}
use Rattle.kb_term.specs.declared.origin.Found.TheVariants.{Strict}
use Rattle.kb_term.proofs.Instances.{instance-instance}
use Rattle.kb_overlap.specs.Trace.{side, other_side}
use Rattle.kb_label.specs.Names.{Name, has}
use Rattle.kb_node.specs.declared.node.NodeId.{NodeId}
use Rattle.kb_node.specs.declared.node.LabelKind.{LabelKind}
use Rattle.kb_node.specs.declared.node.LabelKind.TheVariants.{R0, R1, E, X}
use Rattle.kb_node.specs.declared.job.Job.{Job}
use Rattle.kb_node.specs.declared.job.Job.TheVariants.{Reduce, Orient, Overlap, Close}
use Rattle.mkb_model.specs.Jobs.{process_of, ref_le}
use Rattle.mkb_model.specs.Plain.{Plain, PlainNode, label, label_at, other, rule_kind, sides, state_of, is_equation, is_rule, equations_of, rules_of, done_in, done_of, known, job_nodes}
use Rattle.mkb_model.specs.DueJobs.{is_node_of, is_reducible, is_work_due}
use Rattle.mkb_model.specs.Effects.{rewrite_label, rewritten}
use Rattle.mkb_model.specs.Journals.{Moment, IsPossibleRun, IsCommitting}
use Rattle.mkb_model.specs.Ready.{IsOn, OneRole, KeepsPairs, IsRewriteOn}
use Rattle.mkb_model.specs.declared.entry.Effect.TheVariants.{Made}
use Rattle.mkb_model.specs.declared.proposed.Proposed.TheVariants.{Rewrite}
use Rattle.mkb_model.specs.declared.settings.Settings.{Settings}
use Rattle.mkb_model.proofs.Lists.{clash, false_unless}
use Rattle.mkb_model.proofs.commits.Adding.{rule_role}
use Rattle.mkb_model.proofs.commits.Endless.{never_instance}
use Rattle.mkb_model.proofs.commits.RewritingActs.{ordered_halts}
use Rattle.mkb_model.proofs.commits.RewritingRuns.{some_canonical, side_pair}
use Rattle.mkb_model.proofs.commits.Roles.{equation-no_rule}
use Rattle.mkb_model.proofs.commits.Views.{same_trans, rule_listed}
use Rattle.mkb_model.proofs.closing.LeftAlone.{IsBit}
use Rattle.mkb_model.proofs.nodes.DistinctPairs.{canonical_same}
use Rattle.mkb_model.proofs.nodes.Pairs.{pairs-rewritten}
use Rattle.mkb_model.proofs.nodes.Sizes.{limited_run, sides_limited}
use Rattle.mkb_model.proofs.runs.AllFine.{goes, states_ordered, commits_fine}
use Rattle.mkb_moves.specs.Moves.{IsNodeOf, Simplifies, Composes, Collapses, Rewrites, RewritesLabel}
use Rattle.mkb_moves.specs.Changes.{IsElsewhere, LeavesWorkElsewhere, LeavesLabelsWork}
use Rattle.mkb_moves.proofs.Sight.{equations_are, rules_are, same_direction, kept_test}
use Rattle.mkb_moves.proofs.Makes.{IsMaking, making, taken_keeps}
use Rattle.mkb_moves.proofs.Refused.{refusals_rewritten}
use Rattle.mkb_moves.proofs.Sources.{other-rule}
use Rattle.mkb_moves.proofs.Rewriting.{read, rewriting_moves}
use Rattle.mkb_moves.proofs.DueWork.{IsSameAt, node_same, side_same, reduce_same, orient_same, overlap_same, reduce_carried}

-- what holds of the rules' two labels holds of those of each direction
each_direction : (P : LabelKind → Type 0) → P R0 → P R1 → (d : ℕ) → P (rule_kind d)
each_direction P h k zero = h
each_direction P h k (suc d) = k

-- ---- the lists of a process before and after

module _ (b c : Plain) (p : Name) (n w : ℕ) (rest u : Tree) where
  -- the process has the node in no role any more, and each other node but that of the result as before
  record IsTakenFrom : Type 0 where
    no_equation : ¬ Contains (equations_of c p) n
    no_rule : (d : ℕ) → ¬ Contains (rules_of c p) (record { node = n; dir = d })
    equations : (k : ℕ) → IsElsewhere c n rest u k → Contains (equations_of c p) k ↔ Contains (equations_of b p) k
    rules : (k d : ℕ) → IsElsewhere c n rest u k → Contains (rules_of c p) (record { node = k; dir = d }) ↔ Contains (rules_of b p) (record { node = k; dir = d })
    uncomposed : ¬ IsOn b.nodes p n (rule_kind (other w)) → (k d : ℕ) → k ≢ n → Contains (rules_of c p) (record { node = k; dir = d }) ↔ Contains (rules_of b p) (record { node = k; dir = d })
    same_rules : IsOn b.nodes p n E → rules_of c p ≡ rules_of b p
    fewer_rules : IsOn b.nodes p n (rule_kind w) → (e : RuleRef) → Contains (rules_of c p) e → Contains (rules_of b p) e

  module _ (one : OneRole b.nodes p) (apart : ¬ IsNodeOf c u rest n) where
    not_both : (d : ℕ) → IsOn b.nodes p n E → IsOn b.nodes p n (rule_kind d) → ⊥
    not_both d o r = equation-no_rule d (one n E (rule_kind d) tt (rule_role d) o r)

    one_rule : (d s : ℕ) → Contains (rules_of b p) (record { node = n; dir = d }) → Contains (rules_of b p) (record { node = n; dir = s }) → d ≡ s
    one_rule d s i j =
        let h = (rules_are b p (record { node = n; dir = d })).0 i in
        let k = (rules_are b p (record { node = n; dir = s })).0 j in
        same_direction d s h.0 k.0 (one n (rule_kind d) (rule_kind s) (rule_role d) (rule_role s) h.1 k.1)

    by_simplifying : Simplifies b c p n rest u → IsTakenFrom
    by_simplifying h = record {
      no_equation = λ i. ⊎_elim (λ o. o.1 refl) (λ o. apart o.0) ((h.equations n).0 i);
      no_rule = λ d i. not_both d on ((rules_are b p (record { node = n; dir = d })).0 (subst {A = List RuleRef} (λ rs. Contains rs (record { node = n; dir = d })) h.rules i)).1;
      equations = λ k e. ((λ i. ⊎_elim (λ o. o.0) (λ o. absurd (e.1 o.0)) ((h.equations k).0 i)), λ i. (h.equations k).1 (inl (i, e.0)));
      rules = λ k d e. kept k d;
      uncomposed = λ o k d e. kept k d;
      same_rules = λ o. h.rules;
      fewer_rules = λ o e i. absurd (not_both w on o);
    }
      where
        on : IsOn b.nodes p n E
        on = (equations_are b p n).0 h.had

        kept : (k d : ℕ) → Contains (rules_of c p) (record { node = k; dir = d }) ↔ Contains (rules_of b p) (record { node = k; dir = d })
        kept k d = ((λ i. subst {A = List RuleRef} (λ rs. Contains rs (record { node = k; dir = d })) h.rules i), λ i. subst {A = List RuleRef} (λ rs. Contains rs (record { node = k; dir = d })) (sym h.rules) i)

    by_composing : Composes b c p (record { node = n; dir = other w }) rest u → IsTakenFrom
    by_composing h = record {
      no_equation = λ i. not_both (other w) ((equations_are b p n).0 ((h.equations n).0 i).0) on;
      no_rule = λ d i. ⊎_elim (λ o. o.1 (ap (λ s. record { node = n; dir = s }) (one_rule d (other w) o.0 h.had))) (λ o. apart (o.0, o.1, o.2)) ((h.rules (record { node = n; dir = d })).0 i);
      equations = λ k e. ((λ i. ((h.equations k).0 i).0), λ i. (h.equations k).1 (i, e.1));
      rules = λ k d e. ((λ i. ⊎_elim (λ o. o.0) (λ o. absurd (e.1 (o.0, o.1, o.2))) ((h.rules (record { node = k; dir = d })).0 i)), λ i. (h.rules (record { node = k; dir = d })).1 (inl (i, λ r. e.0 (ap (λ (z : RuleRef). z.node) r))));
      uncomposed = λ o k d e. absurd (o on);
      same_rules = λ o. absurd (not_both (other w) o on);
      fewer_rules = λ o e i. absurd (other-rule w (one n (rule_kind w) (rule_kind (other w)) (rule_role w) (rule_role (other w)) o on));
    }
      where
        on : IsOn b.nodes p n (rule_kind (other w))
        on = ((rules_are b p (record { node = n; dir = other w })).0 h.had).1

    by_collapsing : Collapses b c p (record { node = n; dir = w }) rest u → IsTakenFrom
    by_collapsing h = record {
      no_equation = λ i. ⊎_elim (λ o. not_both w ((equations_are b p n).0 o) on) (λ o. apart o.0) ((h.equations n).0 i);
      no_rule = λ d i. let o = (h.rules (record { node = n; dir = d })).0 i in o.1 (ap (λ s. record { node = n; dir = s }) (one_rule d w o.0 h.had));
      equations = λ k e. ((λ i. ⊎_elim (λ o. o) (λ o. absurd (e.1 o.0)) ((h.equations k).0 i)), λ i. (h.equations k).1 (inl i));
      rules = λ k d e. kept k d e.0;
      uncomposed = λ o. kept;
      same_rules = λ o. absurd (not_both w o on);
      fewer_rules = λ o e i. ((h.rules e).0 i).0;
    }
      where
        on : IsOn b.nodes p n (rule_kind w)
        on = ((rules_are b p (record { node = n; dir = w })).0 h.had).1

        kept : (k d : ℕ) → k ≢ n → Contains (rules_of c p) (record { node = k; dir = d }) ↔ Contains (rules_of b p) (record { node = k; dir = d })
        kept k d e = ((λ i. ((h.rules (record { node = k; dir = d })).0 i).0), λ i. (h.rules (record { node = k; dir = d })).1 (i, λ r. e (ap (λ (z : RuleRef). z.node) r)))

  -- ---- and its work

  module _ (t : IsTakenFrom) (refused : (m : ℕ) → IsSameAt b c p p m X) (done : c.done ≡ b.done) (facts : c.facts ≡ b.facts) where
    equation_off : is_equation c p n ≡ false
    equation_off = false_unless (is_equation c p n) (λ o. t.no_equation ((equations_are c p n).1 o))

    rule_off : (d : ℕ) → has (label_at c.nodes n (rule_kind d)) p ≡ false
    rule_off = each_direction (λ j. has (label_at c.nodes n j) p ≡ false) (off 0 (inl refl)) (off 1 (inr refl))
      where
        off : (d : ℕ) → IsBit d → has (label_at c.nodes n (rule_kind d)) p ≡ false
        off d bit = false_unless (has (label_at c.nodes n (rule_kind d)) p) (λ o. t.no_rule d ((rules_are c p (record { node = n; dir = d })).1 (bit, o)))

    node_off : is_node_of c p n ≡ false
    node_off = or_from (is_equation c p n) _ equation_off (or_from (is_rule c p (record { node = n; dir = 0 })) (is_rule c p (record { node = n; dir = 1 })) (rule_off 0) (rule_off 1))

    equation_same : (k : ℕ) → IsElsewhere c n rest u k → IsSameAt b c p p k E
    equation_same k e = kept_test b.nodes c.nodes p p k E ((λ o. (equations_are b p k).0 ((t.equations k e).0 ((equations_are c p k).1 o))), λ o. (equations_are c p k).0 ((t.equations k e).1 ((equations_are b p k).1 o)))

    rule_kept : (k : ℕ) → ((d : ℕ) → Contains (rules_of c p) (record { node = k; dir = d }) ↔ Contains (rules_of b p) (record { node = k; dir = d })) → (d : ℕ) → IsSameAt b c p p k (rule_kind d)
    rule_kept k h = each_direction (IsSameAt b c p p k) (same 0 (inl refl)) (same 1 (inr refl))
      where
        same : (d : ℕ) → IsBit d → IsSameAt b c p p k (rule_kind d)
        same d bit = kept_test b.nodes c.nodes p p k (rule_kind d) (
          (λ o. ((rules_are b p (record { node = k; dir = d })).0 ((h d).0 ((rules_are c p (record { node = k; dir = d })).1 (bit, o)))).1),
          λ o. ((rules_are c p (record { node = k; dir = d })).0 ((h d).1 ((rules_are b p (record { node = k; dir = d })).1 (bit, o)))).1,
        )

    rule_same : (k : ℕ) → IsElsewhere c n rest u k → (d : ℕ) → IsSameAt b c p p k (rule_kind d)
    rule_same k e = rule_kept k (λ d. t.rules k d e)

    known_same : (m v : ℕ) (a : RuleRef) → known c m v a ≡ known b m v a
    known_same m v a = ap (λ fs. known (record b { facts = fs }) m v a) facts

    no_work : (j : Job) → process_of j ≡ p → Contains (job_nodes j) n → is_work_due c j ≡ false
    no_work (Reduce q m) e i = subst {A = Name} (λ z. is_work_due c (Reduce z m) ≡ false) (sym e)
        (⊎_elim (λ k. subst {A = ℕ} (λ z. (is_node_of c p z && is_reducible c p z) ≡ false) (sym k) (ap (λ z. z && is_reducible c p n) node_off)) (λ k. none_in k) (contains_cases m.0 [] n i))
    no_work (Orient q m) e i = subst {A = Name} (λ z. is_work_due c (Orient z m) ≡ false) (sym e)
        (⊎_elim (λ k. subst {A = ℕ} (λ z. (is_equation c p z && not (has (label c z X) p)) ≡ false) (sym k) (ap (λ z. z && not (has (label c n X) p)) equation_off)) (λ k. none_in k) (contains_cases m.0 [] n i))
    no_work (Overlap q a d) e i = subst {A = Name} (λ z. is_work_due c (Overlap z a d) ≡ false) (sym e)
        (⊎_elim (λ k. ap (λ z. (z && is_rule c p d) && (ref_le a d && not (has (done_of c a d) p))) (off a k))
        (λ k. ⊎_elim (λ h. ap (λ z. z && (ref_le a d && not (has (done_of c a d) p))) (and_right (is_rule c p a) (is_rule c p d) (off d h))) (λ h. none_in h) (contains_cases d.node [] n k)) (contains_cases a.node (d.node ∷ []) n i))
      where
        off : (r : RuleRef) → r.node ≡ n → is_rule c p r ≡ false
        off r k = subst {A = ℕ} (λ z. has (label_at c.nodes z (rule_kind r.dir)) p ≡ false) (sym k) (rule_off r.dir)
    no_work (Close q) e i = none_in i

    leaves_elsewhere : LeavesWorkElsewhere b c p n w rest u
    leaves_elsewhere = record {
      ended = no_work;
      orients = λ k e. orient_same b c p p k (equation_same k.0 e) (refused k.0);
      overlaps = λ a d h k. overlap_same b c p p a d (rule_same a.node h a.dir) (rule_same d.node k d.dir) (ap (λ ds. has (done_in ds a d) p) done);
      uncomposed = λ off a d h k. overlap_same b c p p a d (rule_kept a.node (λ i. t.uncomposed (λ o. clash o off) a.node i h) a.dir) (rule_kept d.node (λ i. t.uncomposed (λ o. clash o off) d.node i k) d.dir) (ap (λ ds. has (done_in ds a d) p) done);
      simplified = λ on k e. reduce_same b c p p k (equation_same k.0 e) (rule_same k.0 e) (t.same_rules on) (known_same k.0);
      collapsed = λ on k e. reduce_carried c b p p k (λ o. sym (node_same b c p p k.0 (equation_same k.0 e) (rule_same k.0 e)) ∙ o) (λ a _ i. t.fewer_rules on a i)
          (λ v a o. sym (side_same b c p p k.0 v a (equation_same k.0 e) (rule_same k.0 e) (known_same k.0 v a)) ∙ o);
    }

-- ---- the equation of the result has another node

renamed_instance : (u s o : Tree) → IsSameEquation (u, o) (s, o) → (m : ℕ → Tree) × (u ≡ instance m s)
renamed_instance u s o (inl (r, back, v, v')) = ((λ n. variable (back n)), sym v.back_again)
renamed_instance u s o (inr (r, back, v, v')) = ((λ n. variable (back (back n))), sym v.back_again ∙ ap (rename back) (sym v'.back_again) ∙ instance-instance (λ n. variable (back n)) (λ n. variable (back n)) s)

pub rewriting_leaves : (P : Problem) (n : Settings) (past : List Moment) (b : Plain) → IsWithinLimits P → IsPossibleRun P n past b → (v s : ℕ) (m : NodeId) (w : ℕ) (at : List ℕ) (a : RuleRef) (kind : Found) (t : Term) (next : Plain) → IsCommitting past b v s (Made (Rewrite m w at a kind t)) next
    → LeavesLabelsWork b next m w a kind t
rewriting_leaves P n past b within run v s m w at a kind t next f =
    (r.pair, r.there, λ p named. leaves p (subst {A = Pair} (λ q. Rewrites b next p m.0 w a kind q (tree_of t)) (some_is (sym moved.1 ∙ r.there)) (moved.2 p named)))
  where
    k : IsMaking past b v s (Rewrite m w at a kind t) next
    k = making past b v s (Rewrite m w at a kind t) next f

    r : IsRewriteOn b.nodes m.0 w at a kind (tree_of t)
    r = (read k.finishing.before b (taken_keeps P n past b v s k.job (Rewrite m w at a kind t) run k.finishing) m w at a kind t k.job k.finishing.proposed).0

    moved : RewritesLabel b next m w a kind t
    moved = rewriting_moves P n past b within run v s m w at a kind t next f

    nodes : next.nodes ≡ rewritten (rewrite_label b m.0 w a kind) m.0 w at a kind (tree_of t) r.pair b.nodes
    nodes = ap (λ (z : Plain). z.nodes) k.leads_to ∙ ap (λ (o : Option Pair). option_map_or (λ q. rewritten (rewrite_label b m.0 w a kind) m.0 w at a kind (tree_of t) q) o (λ xs. xs) b.nodes) r.there

    keeps : KeepsPairs b.nodes next.nodes
    keeps = subst {A = List PlainNode} (KeepsPairs b.nodes) (sym nodes) (pairs-rewritten (rewrite_label b m.0 w a kind) m.0 w at a kind (tree_of t) r.pair b.nodes)

    refused : (p : Name) (i : ℕ) → IsSameAt b next p p i X
    refused p i = ap (λ xs. has (label_at xs i X) p) nodes ∙ ap (λ ns. has ns p) (refusals_rewritten (rewrite_label b m.0 w a kind) m.0 w at a kind (tree_of t) r.pair b.nodes i)

    other_pair : (p : Name) → IsOn b.nodes p a.node (rule_kind a.dir) → canonical_pair (tree_of t) (other_side r.pair w) ≢ Some r.pair
    other_pair p on e =
        let same : IsSameEquation (tree_of t, other_side r.pair w) (sides r.pair) = subst {A = Pair} (λ z. IsSameEquation (tree_of t, other_side r.pair w) (sides z)) (some_canonical (tree_of t) (other_side r.pair w) r.pair e) (canonical_same (tree_of t) (other_side r.pair w)) in
        let i = renamed_instance (tree_of t) (side r.pair w) (other_side r.pair w) (same_trans (tree_of t, other_side r.pair w) (sides r.pair) (side r.pair w, other_side r.pair w) same (side_pair r.pair w)) in
        never_instance (state_of b p).rules (side r.pair w) (tree_of t) i.0 (ordered_halts P.signature (state_of b p) (states_ordered P n past b within run (commits_fine P n past b within run) p) (side r.pair w) (sides_limited P.signature r.pair w (limited_run P n past b within run m.0 r.pair r.there)).0)
        (rule_of r.by a.dir, rule_listed b p a r.by on r.by_there, at, r.step) i.1

    apart : (p : Name) → IsOn b.nodes p a.node (rule_kind a.dir) → ¬ IsNodeOf next (tree_of t) (other_side r.pair w) m.0
    apart p on i = other_pair p on (i.1 ∙ sym i.2 ∙ keeps m.0 r.pair r.there)

    leaves : (p : Name) → Rewrites b next p m.0 w a kind r.pair (tree_of t) → LeavesWorkElsewhere b next p m.0 w (other_side r.pair w) (tree_of t)
    leaves p h = leaves_elsewhere b next p m.0 w (other_side r.pair w) (tree_of t) (go h.moves) (refused p) (ap (λ (z : Plain). z.done) k.leads_to) (ap (λ (z : Plain). z.facts) k.leads_to)
      where
        one : OneRole b.nodes p
        one = (goes P n past b within run).1 p

        off : ¬ IsNodeOf next (tree_of t) (other_side r.pair w) m.0
        off = apart p ((rules_are b p a).0 h.by).1

        go : Simplifies b next p m.0 (other_side r.pair w) (tree_of t) ⊎ (Composes b next p (record { node = m.0; dir = other w }) (other_side r.pair w) (tree_of t) ⊎ ((kind ≡ Strict) × Collapses b next p (record { node = m.0; dir = w }) (other_side r.pair w) (tree_of t)))
            → IsTakenFrom b next p m.0 w (other_side r.pair w) (tree_of t)
        go (inl x) = by_simplifying b next p m.0 w (other_side r.pair w) (tree_of t) one off x
        go (inr (inl x)) = by_composing b next p m.0 w (other_side r.pair w) (tree_of t) one off x
        go (inr (inr x)) = by_collapsing b next p m.0 w (other_side r.pair w) (tree_of t) one off x.1
