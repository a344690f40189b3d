-- The jobs that a new rule may change: all other work is due as it was before.
use Rattle.std.proofs.Common.{ℕ, ◌<◌, ◌≤◌, ◌≡◌, ◌≢◌, ◌⊎◌, inl, inr, refl, sym, ap, ap₂, ◌∙◌, subst, arith, List, [], ◌∷◌, ◌++◌, map, Contains, Bool, true, false, cond, not, ◌&&◌, ⊎_elim, Ordering, Less, Equal, Greater, is_le, nat_cmp}
use Rattle.std.specs.Ordering.{ordering_then, MatchOrdering}
use Rattle.std.proofs.lemmas.Cmp.{ranked}
use Rattle.std.proofs.lemmas.List.Elements.{Contains-append_left, Contains-append_right}
use Rattle.kb_lemmas.proofs.Booleans.{and_gives_left, and_gives_right}
use Rattle.kb_lemmas.proofs.Membership.{contains_first, contains_behind, contains_map}
use Rattle.kb_label.specs.Names.{Name, has}
use Rattle.kb_term.specs.declared.origin.RuleRef.{RuleRef}
use Rattle.kb_node.specs.declared.node.NodeId.{NodeId}
use Rattle.kb_node.specs.declared.job.Job.{Job}
use Rattle.kb_node.specs.declared.job.Job.TheVariants.{Reduce, Orient, Overlap, Close}
use Rattle.mkb_model.specs.Jobs.{process_of, ref_le}
use Rattle.mkb_model.specs.Plain.{Plain, node_numbers, is_rule, rules_of, done_of}
use Rattle.mkb_model.specs.DueJobs.{is_node_of, is_reducible, is_work_due}
use Rattle.mkb_model.proofs.Lists.{clash, false_unless, in_filter}
use Rattle.mkb_model.proofs.commits.Roles.{numbers_decide}
use Rattle.mkb_model.proofs.closing.LeftAlone.{in_rules}
use Rattle.mkb_moves.specs.Changes.{LeavesOtherWork}
use Rattle.mkb_rules.specs.Roles.{is_in_use, roles_of, held_of}
use Rattle.mkb_pick.specs.Tasks.{job_of, work_of}
use Rattle.mkb_agenda.specs.Looking.{jobs_on, overlap_of, overlaps_with, reductions_of}
use Rattle.mkb_agenda.specs.Following.{jobs_by_rule}
use Rattle.mkb_moves.proofs.OpenedWork.{bit_below}
use Rattle.mkb_moves.proofs.Sight.{rule_ref}
use Rattle.mkb_agenda.proofs.DueJobs.{IsProper, node_there, number_in}

-- ---- references

rules_decide : (a c : RuleRef) → (a ≡ c) ⊎ (a ≢ c)
rules_decide a c = ⊎_elim
    (λ e. ⊎_elim (λ f. inl (rule_ref c a e f)) (λ f. inr (λ g. f (ap (λ (z : RuleRef). z.dir) g))) (numbers_decide a.dir c.dir))
    (λ e. inr (λ g. e (ap (λ (z : RuleRef). z.node) g))) (numbers_decide a.node c.node)

le_means : (m n i j : ℕ) → is_le (ordering_then (nat_cmp m n) (nat_cmp i j)) ≡ true → (m < n) ⊎ ((m ≡ n) × (i ≤ j))
le_means m n i j = go (nat_cmp m n) (nat_cmp i j) (ranked m n (nat_cmp m n) refl) (ranked i j (nat_cmp i j) refl)
  where
    go : (o r : Ordering) → MatchOrdering o (m < n) (m ≡ n) (n < m) → MatchOrdering r (i < j) (i ≡ j) (j < i) → is_le (ordering_then o r) ≡ true → (m < n) ⊎ ((m ≡ n) × (i ≤ j))
    go Less r h k e = inl h
    go Equal Less h k e = inr (h, omega (arith, k))
    go Equal Equal h k e = inr (h, omega (arith, k))
    go Equal Greater h k e = clash e refl
    go Greater r h k e = clash e refl

pub both_ordered : (a c : RuleRef) → ref_le a c ≡ true → ref_le c a ≡ true → a ≡ c
both_ordered a c h k = go (le_means a.node c.node a.dir c.dir h) (le_means c.node a.node c.dir a.dir k)
  where
    go : (a.node < c.node) ⊎ ((a.node ≡ c.node) × (a.dir ≤ c.dir)) → (c.node < a.node) ⊎ ((c.node ≡ a.node) × (c.dir ≤ a.dir)) → a ≡ c
    go (inl l) (inl m) = absurd (omega (arith, l, m))
    go (inl l) (inr m) = absurd (let e = m.0 in omega (arith, l, e))
    go (inr l) (inl m) = absurd (let e = l.0 in omega (arith, e, m))
    go (inr l) (inr m) = rule_ref c a l.0 (let i = l.1 in let j = m.1 in omega (arith, i, j))

-- the overlap of two ordered rules, made from either
pub overlap_first : (p : Name) (a e : RuleRef) → ref_le a e ≡ true → overlap_of p a e ≡ Overlap p a e
overlap_first p a e h = ap (λ (z : Bool). cond z (Overlap p a e) (Overlap p e a)) h

pub overlap_second : (p : Name) (a e : RuleRef) → ref_le e a ≡ true → overlap_of p a e ≡ Overlap p e a
overlap_second p a e h = go (ref_le a e) refl
  where
    go : (z : Bool) → ref_le a e ≡ z → cond z (Overlap p a e) (Overlap p e a) ≡ Overlap p e a
    go true k = let i = both_ordered a e k h in ap₂ (Overlap p) i (sym i)
    go false k = refl

-- ---- what the jobs are

pub reduces_own : (c : Plain) (q : Name) (m : NodeId) → is_node_of c q m.0 ≡ true → Contains (reductions_of c q) (Reduce q m)
reduces_own c q m h = contains_map (λ n. Reduce q (record { 0 = n })) (held_of c q) m.0 (in_filter (λ n. is_in_use (roles_of c q n)) (node_numbers c) m.0 (number_in c q m.0 (node_there c q m.0 h)) h)

module _ (c : Plain) (q : Name) (a : RuleRef) where
  abbrev on_node : List Job
  on_node = jobs_on q (record { 0 = a.node } ∷ [])

  abbrev rest : List Job
  rest = overlaps_with c q (a ∷ []) ++ []

  reduces_node : (m : NodeId) → m.0 ≡ a.node → Contains (jobs_by_rule c q a) (Reduce q m)
  reduces_node m e = Contains-append_left on_node (reductions_of c q ++ rest) (Reduce q m) (subst {A = ℕ} (λ z. Contains on_node (Reduce q (record { 0 = z }))) (sym e) (contains_first (Reduce q (record { 0 = a.node })) (Orient q (record { 0 = a.node }) ∷ [])))

  orients_node : (m : NodeId) → m.0 ≡ a.node → Contains (jobs_by_rule c q a) (Orient q m)
  orients_node m e = Contains-append_left on_node (reductions_of c q ++ rest) (Orient q m)
      (subst {A = ℕ} (λ z. Contains on_node (Orient q (record { 0 = z }))) (sym e) (contains_behind (Reduce q (record { 0 = a.node })) (Orient q (record { 0 = a.node }) ∷ []) (Orient q (record { 0 = a.node })) (contains_first (Orient q (record { 0 = a.node })) [])))

  reduces_held : (m : NodeId) → is_node_of c q m.0 ≡ true → Contains (jobs_by_rule c q a) (Reduce q m)
  reduces_held m h = Contains-append_right on_node (reductions_of c q ++ rest) (Reduce q m) (Contains-append_left (reductions_of c q) rest (Reduce q m) (reduces_own c q m h))

  overlaps_rule : (e : RuleRef) → e.dir < 2 → is_rule c q e ≡ true → Contains (jobs_by_rule c q a) (overlap_of q a e)
  overlaps_rule e d h = Contains-append_right on_node (reductions_of c q ++ rest) (overlap_of q a e) (Contains-append_right (reductions_of c q) rest (overlap_of q a e)
      (Contains-append_left (overlaps_with c q (a ∷ [])) [] (overlap_of q a e) (Contains-append_left (map (overlap_of q a) (rules_of c q ++ a ∷ [])) [] (overlap_of q a e)
      (contains_map (overlap_of q a) (rules_of c q ++ a ∷ []) e (Contains-append_left (rules_of c q) (a ∷ []) e (in_rules c q e (bit_below e.dir d) h))))))

-- ---- all other work

module _ (b c : Plain) (p q : Name) (a : RuleRef) (h : LeavesOtherWork b p c q a) (new : is_rule b p a ≡ false) where
  abbrev Apart : Job → Type 0
  Apart j = ¬ Contains (jobs_by_rule c q a) j

  reduce_by_rule : (m : NodeId) → Apart (Reduce q m) → is_work_due c (Reduce q m) ≡ is_work_due b (Reduce p m)
  reduce_by_rule m o = after ∙ sym before
    where
      after : is_work_due c (Reduce q m) ≡ false
      after = false_unless (is_work_due c (Reduce q m)) (λ d. o (reduces_held c q a m (and_gives_left (is_node_of c q m.0) (is_reducible c q m.0) d)))

      before : is_work_due b (Reduce p m) ≡ false
      before = false_unless (is_work_due b (Reduce p m)) (λ d. clash (h.reduces m (λ e. o (reduces_node c q a m e)) d) after)

  -- an overlap with the new rule
  with_new : (e f : RuleRef) → (e ≡ a) ⊎ (f ≡ a) → IsProper (Overlap q e f) → Apart (Overlap q e f) → is_work_due c (Overlap q e f) ≡ is_work_due b (Overlap p e f)
  with_new e f k d o = false_unless (is_work_due c (Overlap q e f)) (λ u.
      let r = and_gives_left (is_rule c q e && is_rule c q f) (ref_le e f && not (has (done_of c e f) q)) u in
      let le = and_gives_left (ref_le e f) (not (has (done_of c e f) q)) (and_gives_right (is_rule c q e && is_rule c q f) (ref_le e f && not (has (done_of c e f) q)) u) in
      ⊎_elim
      (λ i. o (subst {A = Job} (Contains (jobs_by_rule c q a)) (ap (λ z. overlap_of q z f) (sym i) ∙ overlap_first q e f le) (overlaps_rule c q a f d.1 (and_gives_right (is_rule c q e) (is_rule c q f) r))))
      (λ i. o (subst {A = Job} (Contains (jobs_by_rule c q a)) (ap (λ z. overlap_of q z e) (sym i) ∙ overlap_second q f e le) (overlaps_rule c q a e d.0 (and_gives_left (is_rule c q e) (is_rule c q f) r)))) k)
      ∙ sym (false_unless (is_work_due b (Overlap p e f)) (λ u.
      let r = and_gives_left (is_rule b p e && is_rule b p f) (ref_le e f && not (has (done_of b e f) p)) u in
      ⊎_elim (λ i. clash (and_gives_left (is_rule b p e) (is_rule b p f) r) (ap (is_rule b p) i ∙ new)) (λ i. clash (and_gives_right (is_rule b p e) (is_rule b p f) r) (ap (is_rule b p) i ∙ new)) k))

  overlap_by_rule : (e f : RuleRef) → IsProper (Overlap q e f) → Apart (Overlap q e f) → is_work_due c (Overlap q e f) ≡ is_work_due b (Overlap p e f)
  overlap_by_rule e f d o = ⊎_elim (λ i. with_new e f (inl i) d o) (λ i. ⊎_elim (λ j. with_new e f (inr j) d o) (λ j. h.overlaps e f (d.0, i) (d.1, j)) (rules_decide f a)) (rules_decide e a)

  pub work_by_rule : (j : Job) → process_of j ≡ q → Apart j → IsProper j → is_work_due c j ≡ is_work_due b (job_of p (work_of j))
  work_by_rule (Reduce r m) e o d = ap (λ z. is_work_due c (Reduce z m)) e ∙ reduce_by_rule m (λ i. o (subst {A = Name} (λ z. Contains (jobs_by_rule c q a) (Reduce z m)) (sym e) i))
  work_by_rule (Orient r m) e o d = ap (λ z. is_work_due c (Orient z m)) e ∙ h.orients m (λ i. o (subst {A = Name} (λ z. Contains (jobs_by_rule c q a) (Orient z m)) (sym e) (orients_node c q a m i)))
  work_by_rule (Overlap r f g) e o d = ap (λ z. is_work_due c (Overlap z f g)) e ∙ overlap_by_rule f g d (λ i. o (subst {A = Name} (λ z. Contains (jobs_by_rule c q a) (Overlap z f g)) (sym e) i))
  work_by_rule (Close r) e o d = refl
