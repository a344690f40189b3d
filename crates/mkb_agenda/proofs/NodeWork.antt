-- The work of a process that a rewriting of one of its nodes leaves as it was.
use Rattle.std.proofs.Common.{ℕ, zero, suc, ◌≡◌, ◌≢◌, ◌⊎◌, ◌↔◌, inl, inr, refl, sym, ap, ◌∙◌, subst, arith, List, [], ◌∷◌, ◌++◌, map, Contains, true, false, not, ◌&&◌, ◌||◌, ⊎_elim}
use Rattle.std.proofs.lemmas.Bool.{and_right, or_left, or_right, or_cases}
use Rattle.std.proofs.lemmas.List.Elements.{Contains-append_left, Contains-append_right}
use Rattle.kb_lemmas.proofs.Membership.{contains_first, contains_behind, contains_map, contains_flat_map}
use Rattle.kb_term.specs.Tree.{Tree}
use Rattle.kb_term.specs.Pair.{Pair}
use Rattle.kb_term.specs.declared.origin.RuleRef.{RuleRef}
use Rattle.kb_term.specs.declared.origin.Found.{Found}
use Rattle.kb_overlap.specs.Trace.{other_side}
use Rattle.kb_label.specs.Names.{Name, has}
use Rattle.kb_node.specs.declared.node.NodeId.{NodeId}
use Rattle.kb_node.specs.declared.node.LabelKind.TheVariants.{E}
use Rattle.kb_node.specs.declared.job.Job.{Job}
use Rattle.kb_node.specs.declared.job.Job.TheVariants.{Reduce, Orient, Overlap}
use Rattle.mkb_model.specs.Jobs.{ref_le}
use Rattle.mkb_model.specs.Plain.{Plain, other, rule_kind, is_equation, is_rule, equations_of, rules_of, done_of, known}
use Rattle.mkb_model.specs.DueJobs.{is_node_of, is_reducible, is_work_due}
use Rattle.mkb_model.specs.Ready.{IsOn, OneRole}
use Rattle.mkb_model.proofs.Lists.{clash, decide, false_unless}
use Rattle.mkb_model.proofs.commits.Adding.{rule_role}
use Rattle.mkb_model.proofs.commits.Roles.{numbers_decide, equation-no_rule}
use Rattle.mkb_model.proofs.closing.LeftAlone.{IsBit}
use Rattle.mkb_moves.specs.Moves.{IsNodeOf, Rewrites}
use Rattle.mkb_moves.specs.Changes.{IsElsewhere, LeavesWorkElsewhere}
use Rattle.mkb_pick.specs.declared.task.Work.{Work}
use Rattle.mkb_pick.specs.declared.task.Work.TheVariants.{Reducing, Orienting, Overlapping, Closing}
use Rattle.mkb_pick.specs.Tasks.{job_of}
use Rattle.mkb_agenda.specs.Looking.{is_gained, jobs_on, overlap_of, overlaps_with, reductions_of}
use Rattle.mkb_agenda.specs.Following.{jobs_by_nodes, rules_at_both}
use Rattle.mkb_agenda.proofs.DueJobs.{IsProper}
use Rattle.mkb_agenda.proofs.ByRule.{overlap_first, overlap_second, reduces_own}
use Rattle.mkb_agenda.proofs.Gained.{gained_by}
use Rattle.mkb_moves.proofs.DueWork.{IsSameAt}
use Rattle.mkb_moves.proofs.Sight.{equations_are, kept_test, rules_are, rule_ref}
use Rattle.mkb_moves.proofs.OpenedWork.{bit_below}

-- ---- jobs on nodes

pub node_ref : (k n : NodeId) → k.0 ≡ n.0 → n ≡ k
node_ref k n e = ap (λ i. record { 0 = i }) (sym e)

pub reduce_on : (p : Name) (ns : List NodeId) (n : NodeId) → Contains ns n → Contains (jobs_on p ns) (Reduce p n)
reduce_on p ns n i = contains_flat_map (λ (n : NodeId). Reduce p n ∷ Orient p n ∷ []) ns n (Reduce p n) i (contains_first (Reduce p n) (Orient p n ∷ []))

pub orient_on : (p : Name) (ns : List NodeId) (n : NodeId) → Contains ns n → Contains (jobs_on p ns) (Orient p n)
orient_on p ns n i = contains_flat_map (λ (n : NodeId). Reduce p n ∷ Orient p n ∷ []) ns n (Orient p n) i (contains_behind (Reduce p n) (Orient p n ∷ []) (Orient p n) (contains_first (Orient p n) []))

-- ---- work that is not due

no_overlap : (b : Plain) (p : Name) (e f : RuleRef) → (is_rule b p e ≡ false) ⊎ (is_rule b p f ≡ false) → is_work_due b (Overlap p e f) ≡ false
no_overlap b p e f (inl h) = ap (λ z. (z && is_rule b p f) && (ref_le e f && not (has (done_of b e f) p))) h
no_overlap b p e f (inr h) = ap (λ z. z && (ref_le e f && not (has (done_of b e f) p))) (and_right (is_rule b p e) (is_rule b p f) h)

disordered : (b : Plain) (p : Name) (e f : RuleRef) → ref_le e f ≡ false → is_work_due b (Overlap p e f) ≡ false
disordered b p e f h = and_right (is_rule b p e && is_rule b p f) (ref_le e f && not (has (done_of b e f) p)) (ap (λ z. z && not (has (done_of b e f) p)) h)

no_reduction : (b : Plain) (p : Name) (k : NodeId) → is_node_of b p k.0 ≡ false → is_work_due b (Reduce p k) ≡ false
no_reduction b p k h = ap (λ z. z && is_reducible b p k.0) h

-- ---- what is rewritten

-- the process has each other node but that of the result as it had it
pub record KeepsElsewhere (b c : Plain) (p : Name) (n : ℕ) (rest u : Tree) : Type 0 where
  pub equations : (k : ℕ) → IsElsewhere c n rest u k → Contains (equations_of c p) k ↔ Contains (equations_of b p) k
  pub rules : (e : RuleRef) → IsElsewhere c n rest u e.node → Contains (rules_of c p) e ↔ Contains (rules_of b p) e

pub rewriting_keeps : (b c : Plain) (p : Name) (n w : ℕ) (a : RuleRef) (found : Found) (pair : Pair) (u : Tree) → Rewrites b c p n w a found pair u → KeepsElsewhere b c p n (other_side pair w) u
rewriting_keeps b c p n w a found pair u h = ⊎_elim
    (λ s. record {
      equations = λ k e. ((λ i. ⊎_elim (λ o. o.0) (λ o. absurd (e.1 o.0)) ((s.equations k).0 i)), λ i. (s.equations k).1 (inl (i, e.0)));
      rules = λ e out. ((λ i. subst {A = List RuleRef} (λ rs. Contains rs e) s.rules i), λ i. subst {A = List RuleRef} (λ rs. Contains rs e) (sym s.rules) i);
    })
    (λ o. ⊎_elim
    (λ s. record {
      equations = λ k e. ((λ i. ((s.equations k).0 i).0), λ i. (s.equations k).1 (i, e.1));
      rules = λ e out. ((λ i. ⊎_elim (λ o. o.0) (λ o. absurd (out.1 (o.0, o.1, o.2))) ((s.rules e).0 i)), λ i. (s.rules e).1 (inl (i, λ r. out.0 (ap (λ (z : RuleRef). z.node) r))));
    })
    (λ t. let s = t.1 in record {
      equations = λ k e. ((λ i. ⊎_elim (λ o. o) (λ o. absurd (e.1 o.0)) ((s.equations k).0 i)), λ i. (s.equations k).1 (inl i));
      rules = λ e out. ((λ i. ((s.rules e).0 i).0), λ i. (s.rules e).1 (i, λ r. out.0 (ap (λ (z : RuleRef). z.node) r)));
    }) o) h.moves

module _ (b c : Plain) (p : Name) (n m : NodeId) (w : ℕ) (rest u : Tree) (one : OneRole b.nodes p) (target : (i : ℕ) → IsNodeOf c u rest i → i ≡ m.0) (leaves : LeavesWorkElsewhere b c p n.0 w rest u) (keeps : KeepsElsewhere b c p n.0 rest u) where
  away : (k : ℕ) → k ≢ n.0 → k ≢ m.0 → IsElsewhere c n.0 rest u k
  away k h g = (h, λ i. g (target k i))

  -- a node with a job on it that is not looked at again
  apart : (k : NodeId) → ¬ Contains (n ∷ m ∷ []) k → (k.0 ≢ n.0) × (k.0 ≢ m.0)
  apart k out = ((λ e. out (subst {A = NodeId} (Contains (n ∷ m ∷ [])) (node_ref k n e) (contains_first n (m ∷ [])))), λ e. out (subst {A = NodeId} (Contains (n ∷ m ∷ [])) (node_ref k m e) (contains_behind n (m ∷ []) m (contains_first m []))))

  aside : (k : NodeId) → ¬ Contains (n ∷ m ∷ []) k → IsElsewhere c n.0 rest u k.0
  aside k out = let s = apart k out in away k.0 s.0 s.1

  -- ---- where the node was an equation

  module _ (on : is_equation b p n.0 ≡ true) where
    rule_off : (e : RuleRef) → e.node ≡ n.0 → is_rule b p e ≡ false
    rule_off e i = false_unless (is_rule b p e) (λ o. equation-no_rule e.dir (one n.0 E (rule_kind e.dir) tt (rule_role e.dir) on (subst {A = ℕ} (λ z. IsOn b.nodes p z (rule_kind e.dir)) i o)))

    overlap_left : (e f : RuleRef) → is_work_due c (Overlap p e f) ≡ is_work_due b (Overlap p e f)
    overlap_left e f = go (numbers_decide e.node n.0) (numbers_decide f.node n.0)
      where
        go : (e.node ≡ n.0) ⊎ (e.node ≢ n.0) → (f.node ≡ n.0) ⊎ (f.node ≢ n.0) → is_work_due c (Overlap p e f) ≡ is_work_due b (Overlap p e f)
        go (inl i) j = leaves.ended (Overlap p e f) refl (subst {A = ℕ} (Contains (e.node ∷ f.node ∷ [])) i (contains_first e.node (f.node ∷ []))) ∙ sym (no_overlap b p e f (inl (rule_off e i)))
        go (inr i) (inl j) = leaves.ended (Overlap p e f) refl (subst {A = ℕ} (Contains (e.node ∷ f.node ∷ [])) j (contains_behind e.node (f.node ∷ []) f.node (contains_first f.node []))) ∙ sym (no_overlap b p e f (inr (rule_off f j)))
        go (inr i) (inr j) = leaves.uncomposed (rule_off (record { node = n.0; dir = other w }) refl) e f i j

    pub equation_work : (x : Work) → ¬ Contains (jobs_on p (n ∷ m ∷ [])) (job_of p x) → is_work_due c (job_of p x) ≡ is_work_due b (job_of p x)
    equation_work (Reducing k) out = leaves.simplified on k (aside k (λ i. out (reduce_on p (n ∷ m ∷ []) k i)))
    equation_work (Orienting k) out = leaves.orients k (aside k (λ i. out (orient_on p (n ∷ m ∷ []) k i)))
    equation_work (Overlapping e f) out = overlap_left e f
    equation_work Closing out = refl

  -- ---- whatever the node was

  -- a rule of one of the two nodes
  placed : (e : RuleRef) → IsBit e.dir → Contains (rules_at_both n m) e ⊎ IsElsewhere c n.0 rest u e.node
  placed e bit = go (numbers_decide e.node n.0) (numbers_decide e.node m.0) bit
    where
      r : NodeId → ℕ → RuleRef
      r k d = record { node = k.0; dir = d }

      go : (e.node ≡ n.0) ⊎ (e.node ≢ n.0) → (e.node ≡ m.0) ⊎ (e.node ≢ m.0) → IsBit e.dir → Contains (rules_at_both n m) e ⊎ IsElsewhere c n.0 rest u e.node
      go (inl i) j (inl d) = inl (subst {A = RuleRef} (Contains (rules_at_both n m)) (sym (rule_ref (r n 0) e i d)) (0, omega arith, refl))
      go (inl i) j (inr d) = inl (subst {A = RuleRef} (Contains (rules_at_both n m)) (sym (rule_ref (r n 1) e i d)) (1, omega arith, refl))
      go (inr i) (inl j) (inl d) = inl (subst {A = RuleRef} (Contains (rules_at_both n m)) (sym (rule_ref (r m 0) e j d)) (2, omega arith, refl))
      go (inr i) (inl j) (inr d) = inl (subst {A = RuleRef} (Contains (rules_at_both n m)) (sym (rule_ref (r m 1) e j d)) (3, omega arith, refl))
      go (inr i) (inr j) d = inr (away e.node i j)

  equation_aside : (k : ℕ) → IsElsewhere c n.0 rest u k → IsSameAt b c p p k E
  equation_aside k out = kept_test b.nodes c.nodes p p k E ((λ o. (equations_are b p k).0 ((keeps.equations k out).0 ((equations_are c p k).1 o))), λ o. (equations_are c p k).0 ((keeps.equations k out).1 ((equations_are b p k).1 o)))

  bit_aside : (k : ℕ) → IsElsewhere c n.0 rest u k → (d : ℕ) → IsBit d → IsSameAt b c p p k (rule_kind d)
  bit_aside k out d bit =
      let e : RuleRef = record { node = k; dir = d } in
      kept_test b.nodes c.nodes p p k (rule_kind d) ((λ o. ((rules_are b p e).0 ((keeps.rules e out).0 ((rules_are c p e).1 (bit, o)))).1), λ o. ((rules_are c p e).0 ((keeps.rules e out).1 ((rules_are b p e).1 (bit, o)))).1)

  rule_aside : (k : ℕ) → IsElsewhere c n.0 rest u k → (d : ℕ) → IsSameAt b c p p k (rule_kind d)
  rule_aside k out zero = bit_aside k out 0 (inl refl)
  rule_aside k out (suc d) = bit_aside k out 1 (inr refl)

  -- another node comes to be reduced by a rule of one of the two alone
  pub gained_aside : ((i v : ℕ) (a : RuleRef) → known c i v a ≡ known b i v a) → (k : NodeId) → ¬ Contains (n ∷ m ∷ []) k → is_work_due c (Reduce p k) ≡ true → (is_work_due b (Reduce p k) ≡ true) ⊎ (is_gained c p (rules_at_both n m) k.0 ≡ true)
  gained_aside facts k out = gained_by b c p p (rules_at_both n m) facts k (equation_aside k.0 (aside k out)) (rule_aside k.0 (aside k out))
      (λ e i. ⊎_elim (λ o. inl o) (λ o. inr ((keeps.rules e o).0 i)) (placed e ((rules_are c p e).0 i).0))

  -- where the process had the rule elsewhere, it has it
  rule_gone : (e : RuleRef) → IsBit e.dir → IsElsewhere c n.0 rest u e.node → is_rule c p e ≡ false → is_rule b p e ≡ false
  rule_gone e bit out h = false_unless (is_rule b p e) (λ o. clash ((rules_are c p e).0 ((keeps.rules e out).1 ((rules_are b p e).1 (bit, o)))).1 h)

  node_gone : (k : ℕ) → IsElsewhere c n.0 rest u k → is_node_of c p k ≡ false → is_node_of b p k ≡ false
  node_gone k out h = false_unless (is_node_of b p k) (λ o. ⊎_elim
      (λ e. clash (or_left (is_equation c p k) (is_rule c p r0 || is_rule c p r1) ((equations_are c p k).0 ((keeps.equations k out).1 ((equations_are b p k).1 e)))) h)
      (λ e. clash (or_right (is_equation c p k) (is_rule c p r0 || is_rule c p r1) (⊎_elim
      (λ r. or_left (is_rule c p r0) (is_rule c p r1) ((rules_are c p r0).0 ((keeps.rules r0 out).1 ((rules_are b p r0).1 (inl refl, r)))).1)
      (λ r. or_right (is_rule c p r0) (is_rule c p r1) ((rules_are c p r1).0 ((keeps.rules r1 out).1 ((rules_are b p r1).1 (inr refl, r)))).1)
      (or_cases (is_rule b p r0) (is_rule b p r1) e))) h)
      (or_cases (is_equation b p k) (is_rule b p r0 || is_rule b p r1) o))
    where
      r0 : RuleRef
      r0 = record { node = k; dir = 0 }

      r1 : RuleRef
      r1 = record { node = k; dir = 1 }

  abbrev both : List RuleRef
  both = rules_at_both n m

  abbrev overlaps : List Job
  overlaps = overlaps_with c p (rules_at_both n m)

  module _ (x : Work) (out : ¬ Contains (jobs_by_nodes c p n m) (job_of p x)) where
    not_on : ¬ Contains (jobs_on p (n ∷ m ∷ [])) (job_of p x)
    not_on i = out (Contains-append_left (jobs_on p (n ∷ m ∷ [])) (reductions_of c p ++ (overlaps ++ [])) (job_of p x) i)

    not_reduction : ¬ Contains (reductions_of c p) (job_of p x)
    not_reduction i = out (Contains-append_right (jobs_on p (n ∷ m ∷ [])) (reductions_of c p ++ (overlaps ++ [])) (job_of p x) (Contains-append_left (reductions_of c p) (overlaps ++ []) (job_of p x) i))

    not_overlap : ¬ Contains overlaps (job_of p x)
    not_overlap i = out (Contains-append_right (jobs_on p (n ∷ m ∷ [])) (reductions_of c p ++ (overlaps ++ [])) (job_of p x) (Contains-append_right (reductions_of c p) (overlaps ++ []) (job_of p x) (Contains-append_left overlaps [] (job_of p x) i)))

  -- a rule that overlaps one of the two nodes, in an overlap that is not looked at again, is a rule of another node, and none of the process
  module _ (e f : RuleRef) (bits : IsBit e.dir × IsBit f.dir) (fresh : ¬ Contains overlaps (Overlap p e f)) (le : ref_le e f ≡ true) where
    listed : (d : RuleRef) → IsBit d.dir → ¬ Contains (rules_of c p ++ both) d → (is_rule c p d ≡ false) × (is_rule b p d ≡ false)
    listed d bit unlisted =
        let off : is_rule c p d ≡ false = false_unless (is_rule c p d) (λ o. unlisted (Contains-append_left (rules_of c p) both d ((rules_are c p d).1 (bit, o)))) in
        (off, ⊎_elim (λ i. absurd (unlisted (Contains-append_right (rules_of c p) both d i))) (λ away. rule_gone d bit away off) (placed d bit))

    by_first : Contains both e → (is_rule c p f ≡ false) × (is_rule b p f ≡ false)
    by_first i = listed f bits.1 (λ j. fresh (contains_flat_map (λ (a : RuleRef). map (overlap_of p a) (rules_of c p ++ both)) both e (Overlap p e f) i
        (subst {A = Job} (Contains (map (overlap_of p e) (rules_of c p ++ both))) (overlap_first p e f le) (contains_map (overlap_of p e) (rules_of c p ++ both) f j))))

    by_last : Contains both f → (is_rule c p e ≡ false) × (is_rule b p e ≡ false)
    by_last i = listed e bits.0 (λ j. fresh (contains_flat_map (λ (a : RuleRef). map (overlap_of p a) (rules_of c p ++ both)) both f (Overlap p e f) i
        (subst {A = Job} (Contains (map (overlap_of p f) (rules_of c p ++ both))) (overlap_second p f e le) (contains_map (overlap_of p f) (rules_of c p ++ both) e j))))

    ordered_overlap : Contains both e ⊎ IsElsewhere c n.0 rest u e.node → Contains both f ⊎ IsElsewhere c n.0 rest u f.node → is_work_due c (Overlap p e f) ≡ is_work_due b (Overlap p e f)
    ordered_overlap (inl i) j = let r = by_first i in no_overlap c p e f (inr r.0) ∙ sym (no_overlap b p e f (inr r.1))
    ordered_overlap (inr i) (inl j) = let r = by_last j in no_overlap c p e f (inl r.0) ∙ sym (no_overlap b p e f (inl r.1))
    ordered_overlap (inr i) (inr j) = leaves.overlaps e f i j

  pub rule_work : (x : Work) → ¬ Contains (jobs_by_nodes c p n m) (job_of p x) → IsProper (job_of p x) → is_work_due c (job_of p x) ≡ is_work_due b (job_of p x)
  rule_work (Reducing k) out proper = no_reduction c p k off ∙ sym (no_reduction b p k (node_gone k.0 (aside k (λ i. not_on (Reducing k) out (reduce_on p (n ∷ m ∷ []) k i))) off))
    where
      off : is_node_of c p k.0 ≡ false
      off = false_unless (is_node_of c p k.0) (λ o. not_reduction (Reducing k) out (reduces_own c p k o))
  rule_work (Orienting k) out proper = leaves.orients k (aside k (λ i. not_on (Orienting k) out (orient_on p (n ∷ m ∷ []) k i)))
  rule_work (Overlapping e f) out proper = go (decide (ref_le e f))
    where
      go : (ref_le e f ≡ true) ⊎ (ref_le e f ≡ false) → is_work_due c (Overlap p e f) ≡ is_work_due b (Overlap p e f)
      go (inl le) = let bits : IsBit e.dir × IsBit f.dir = (bit_below e.dir proper.0, bit_below f.dir proper.1) in ordered_overlap e f bits (not_overlap (Overlapping e f) out) le (placed e bits.0) (placed f bits.1)
      go (inr h) = disordered c p e f h ∙ sym (disordered b p e f h)
  rule_work Closing out proper = refl
