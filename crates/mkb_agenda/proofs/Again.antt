-- What looking again at a process comes to.
use Rattle.std.proofs.Common.{ℕ, ◌≤◌, ◌≡◌, ◌≢◌, ◌⊎◌, ◌↔◌, inl, inr, ⊎_elim, refl, sym, ap, ◌∙◌, subst, arith, List, [], ◌∷◌, ◌++◌, map, flat_map, All, Contains, Bool, true, false, not, cond, ◌&&◌, Option, Some, None, Result, Ok, Err, OnOk, OnErr}
use Rattle.std.specs.Prelude.{IsTrue}
use Rattle.std.specs.List.{list_any}
use Rattle.std.specs.Option.{option_map_or}
use Rattle.std.proofs.lemmas.Bool.{and_from}
use Rattle.std.proofs.lemmas.List.Elements.{Contains-append_cases, Contains-append_left}
use Rattle.kb_lemmas.proofs.Booleans.{and_gives_left, and_gives_right}
use Rattle.kb_lemmas.proofs.Membership.{contains_cases, none_in, only_member, contains_mapped, contains_flat_map_back}
use Rattle.kb_label.specs.Names.{Name, has}
use Rattle.kb_term.specs.declared.origin.RuleRef.{RuleRef}
use Rattle.kb_node.specs.declared.node.NodeId.{NodeId}
use Rattle.kb_node.specs.declared.job.Job.{Job}
use Rattle.kb_node.specs.declared.job.Job.TheVariants.{Reduce, Orient, Overlap, Close}
use Rattle.mkb_model.specs.Jobs.{process_of, ref_le}
use Rattle.mkb_model.specs.Plain.{Plain, cost, weight, weight_by, rules_of, node_numbers}
use Rattle.mkb_model.specs.declared.settings.Selection.{Selection}
use Rattle.mkb_model.specs.declared.settings.Selection.TheVariants.{Stated, Size as BySize}
use Rattle.mkb_model.specs.DueJobs.{is_working, is_work_due, is_due, is_close_due, work_of as all_work}
use Rattle.mkb_model.proofs.Lists.{clash, filter_in, in_filter, none_any, any_none, false_unless, not_of_false, not_true}
use Rattle.mkb_rules.specs.Named.{IsRuleThere}
use Rattle.mkb_rules.specs.Roles.{held_of}
use Rattle.mkb_pick.specs.Tasks.{job_of, work_of}
use Rattle.mkb_pick.specs.Listings.{Listed, IsListed, IsProcess, HasJob, SetsCost}
use Rattle.mkb_pick.proofs.Viewed.{job_again, process_again}
use Rattle.mkb_agenda.specs.Agendas.{IsDueJob, IsListedAs, ListsJobsAs}
use Rattle.mkb_agenda.specs.Looking.{AreThere, HasOverlapThere, KeepsOthers, ListsAnew, ListsClosing, ListsWork, ComesFrom, jobs_on, reductions_of, overlaps_with, overlap_of, touched_jobs}
use Rattle.mkb_agenda.specs.declared.looking.Touched.{Touched}
use Rattle.mkb_agenda.proofs.DueJobs.{IsProper, due_is, is_listed_due}
use Rattle.mkb_agenda.proofs.Anew.{SameProcesses, process_of_listed, jobs_decide, jobs_listed, rules_there}

-- ---- which work is due

pub due_working : (b : Plain) (j : Job) → is_due b j ≡ true → is_working b (process_of j) ≡ true
due_working b (Reduce p n) h = and_gives_left (is_working b p) (is_work_due b (Reduce p n)) h
due_working b (Orient p n) h = and_gives_left (is_working b p) (is_work_due b (Orient p n)) h
due_working b (Overlap p a e) h = and_gives_left (is_working b p) (is_work_due b (Overlap p a e)) h
due_working b (Close p) h = and_gives_left (is_working b p) (is_close_due b p) h

work_is_due : (b : Plain) (j : Job) → is_working b (process_of j) ≡ true → is_work_due b j ≡ true → is_due b j ≡ true
work_is_due b (Reduce p n) h k = and_from (is_working b p) (is_work_due b (Reduce p n)) h k
work_is_due b (Orient p n) h k = and_from (is_working b p) (is_work_due b (Orient p n)) h k
work_is_due b (Overlap p a e) h k = and_from (is_working b p) (is_work_due b (Overlap p a e)) h k
work_is_due b (Close p) h k = clash k refl

work_seen : (b : Plain) (j : Job) → j ≢ Close (process_of j) → is_due b j ≡ true → is_work_due b j ≡ true
work_seen b (Reduce p n) h k = and_gives_right (is_working b p) (is_work_due b (Reduce p n)) k
work_seen b (Orient p n) h k = and_gives_right (is_working b p) (is_work_due b (Orient p n)) k
work_seen b (Overlap p a e) h k = and_gives_right (is_working b p) (is_work_due b (Overlap p a e)) k
work_seen b (Close p) h k = absurd (h refl)

-- due work is among the work that the process might have
pub due_work : (b : Plain) (q : Name) (j : Job) → process_of j ≡ q → j ≢ Close q → IsDueJob b j → Contains (all_work b q) j × (is_work_due b j ≡ true)
due_work b q j e n d = (
  ⊎_elim (λ i. i) (λ i. absurd (n (sym (only_member (Close q) j i)))) (Contains-append_cases (all_work b q) (Close q ∷ []) j (subst {A = Name} (λ z. Contains (all_work b z ++ Close z ∷ []) j) e (filter_in (is_due b) (all_work b (process_of j) ++ Close (process_of j) ∷ []) j d).0)),
  work_seen b j (λ k. n (k ∙ ap Close e)) (due_is b j d).0,
)

-- ---- weights

pub close_weight : (b : Plain) (q : Name) → weight b (Close q) ≡ 0
close_weight b q = go b.settings.selection
  where
    go : (s : Selection) → weight_by s b (Close q) ≡ 0
    go Stated = refl
    go BySize = refl

-- a job weighs the same for each process
pub weight_for : (b : Plain) (p : Name) (j : Job) → weight b (job_of p (work_of j)) ≡ weight b j
weight_for b p j = go b.settings.selection j
  where
    go : (s : Selection) (j : Job) → weight_by s b (job_of p (work_of j)) ≡ weight_by s b j
    go Stated j = refl
    go BySize (Reduce q n) = refl
    go BySize (Orient q n) = refl
    go BySize (Overlap q a e) = refl
    go BySize (Close q) = refl

-- ---- whose jobs are looked at

-- a job of the process, of proper rules
abbrev pub IsOwn : Name → Job → Type 0
IsOwn q j = (process_of j ≡ q) × IsProper j

pub all_has : {X : Type 0} (P : X → Type 0) (xs : List X) → All P xs → (x : X) → Contains xs x → P x
all_has P xs h x c = subst P c.2 (h c.0 x c.1)

overlap_own : (p : Name) (a e : RuleRef) → a.dir ≤ 1 → e.dir ≤ 1 → IsOwn p (overlap_of p a e)
overlap_own p a e h k = go (ref_le a e)
  where
    go : (t : Bool) → IsOwn p (cond t (Overlap p a e) (Overlap p e a))
    go true = (refl, (omega (arith, h), omega (arith, k)))
    go false = (refl, (omega (arith, k), omega (arith, h)))

pub on_own : (p : Name) (ns : List NodeId) (j : Job) → Contains (jobs_on p ns) j → IsOwn p j
on_own p ns j d = let r = contains_flat_map_back (λ (n : NodeId). Reduce p n ∷ Orient p n ∷ []) ns j d in
    ⊎_elim (λ e. subst {A = Job} (IsOwn p) e (refl, tt)) (λ i. subst {A = Job} (IsOwn p) (only_member (Orient p r.0) j i) (refl, tt)) (contains_cases (Reduce p r.0) (Orient p r.0 ∷ []) j r.2)

pub among_own : (b : Plain) (p : Name) (rules : List RuleRef) → All (IsRuleThere b) rules → (j : Job) → Contains (overlaps_with b p rules) j → IsOwn p j
among_own b p rules h j d =
    let r = contains_flat_map_back (λ (a : RuleRef). map (overlap_of p a) (rules_of b p ++ rules)) rules j d in
    let s = contains_mapped (overlap_of p r.0) (rules_of b p ++ rules) j r.2 in
    subst {A = Job} (IsOwn p) s.2 (overlap_own p r.0 s.0 (all_has (IsRuleThere b) rules h r.0 r.1).1
    (⊎_elim (λ i. (rules_there b p s.0 i).1) (λ i. (all_has (IsRuleThere b) rules h s.0 i).1) (Contains-append_cases (rules_of b p) rules s.0 s.1)))

pub one_own : (b : Plain) (p : Name) (o : Option (RuleRef × RuleRef)) → HasOverlapThere b o → (j : Job) → Contains (option_map_or (λ (o : RuleRef × RuleRef). Overlap p o.0 o.1 ∷ []) o []) j → IsOwn p j
one_own b p None k j d = none_in d
one_own b p (Some o) k j d = subst {A = Job} (IsOwn p) (only_member (Overlap p o.0 o.1) j d) (refl, (omega (arith, k.0.1), omega (arith, k.1.1)))

pub touched_own : (b : Plain) (t : Touched) → AreThere b t → (j : Job) → Contains (touched_jobs b t) j → IsOwn t.process.now j
touched_own b t h j c = ⊎_elim (on_own p t.nodes.now j) (λ d. ⊎_elim (wide t.is_wide) (λ e. ⊎_elim (among_own b p t.rules.now h.rules j) (one_own b p t.overlap h.overlap j) (Contains-append_cases (overlaps_with b p t.rules.now) (option_map_or (λ (o : RuleRef × RuleRef). Overlap p o.0 o.1 ∷ []) t.overlap []) j e))
    (Contains-append_cases (cond t.is_wide (reductions_of b p) []) (overlaps_with b p t.rules.now ++ option_map_or (λ (o : RuleRef × RuleRef). Overlap p o.0 o.1 ∷ []) t.overlap []) j d))
    (Contains-append_cases (jobs_on p t.nodes.now) (cond t.is_wide (reductions_of b p) [] ++ (overlaps_with b p t.rules.now ++ option_map_or (λ (o : RuleRef × RuleRef). Overlap p o.0 o.1 ∷ []) t.overlap [])) j c)
  where
    p : Name
    p = t.process.now

    wide : (w : Bool) → Contains (cond w (reductions_of b p) []) j → IsOwn p j
    wide true d = let r = contains_mapped (λ n. Reduce p (record { 0 = n })) (held_of b p) j d in subst {A = Job} (IsOwn p) r.2 (refl, tt)
    wide false d = none_in d

-- ---- a process that is looked at again

pub process_set : (ps qs : List Listed) (q : Name) (x : ℕ) → SetsCost ps q x qs → IsProcess ps q → IsProcess qs q
process_set ps qs q x h l = process_of_listed qs q x l.0.resting ((h q x l.0.resting).1 (inl (refl, refl, (l.0.cost, (l.0, l.1, l.2, refl, refl)))))

-- one that is not listed
pub not_listed : (b : Plain) (p : Name) (c : Plain) (q : Name) (js : List Job) (ps : List Listed) → ¬ IsProcess ps q → IsListedAs b p q ps → ComesFrom b p c q js → IsListedAs c q q ps
not_listed b p c q js ps n l f = record {
  listed = λ x r. ((λ h. absurd (n (process_of_listed ps q x r h))), (λ h. absurd (idle h.0)));
  jobs = λ j w e. (
    (λ h. absurd (n (h.0, h.1, h.2 ∙ e))),
    (λ h. absurd (idle (ap (is_working c) (sym (process_again q (work_of j))) ∙ due_working c (job_of q (work_of j)) (due_is c (job_of q (work_of j)) h.0).0))),
  );
}
  where
    idle : ¬ (is_working c q ≡ true)
    idle h = n (process_of_listed ps q (cost b p) (has b.asleep p) ((l.listed (cost b p) (has b.asleep p)).1 (sym f.working ∙ h, refl, refl)))

module _ (c : Plain) (q : Name) (js : List Job) (own : (j : Job) → Contains js j → IsOwn q j) (ps ms ns qs : List Listed)
    (same : SameProcesses ps ms) (sets : SetsCost ms q (cost c q) ns) (kept : (j : Job) (w : ℕ) → HasJob ns j w ↔ HasJob ms j w)
    (last : SameProcesses ns qs) (others : (j : Job) (w : ℕ) → j ≢ Close q → HasJob qs j w ↔ HasJob ns j w)
    (closing : IsTrue (is_working c q) → ListsWork c q ns → ((w : ℕ) → HasJob ns (Close q) w → w ≡ 0) → ListsJobsAs c q q qs) where
  pub looked_again : ListsAnew c js ps ms → (b : Plain) (p : Name) → IsProcess ps q → IsListedAs b p q ps → ComesFrom b p c q js → IsListedAs c q q qs
  looked_again anew b p there l f = record { listed = λ x r. (forth x r, back x r); jobs = closing working lists zero }
    where
      was_working : is_working b p ≡ true
      was_working = ((l.listed there.0.cost there.0.resting).0 (there.0, there.1, there.2, refl, refl)).0

      working : is_working c q ≡ true
      working = f.working ∙ was_working

      forth : (x : ℕ) (r : Bool) → IsListed qs q x r → IsTrue (is_working c q) × (x ≡ cost c q) × (r ≡ has c.asleep q)
      forth x r h = elim ((sets q x r).0 ((last q x r).0 h)) [
        | inl d ↦ (working, d.1, ((l.listed d.2.0 r).0 ((same q d.2.0 r).0 d.2.1)).2 ∙ sym f.asleep)
        | inr d ↦ absurd (d.0 refl)
      ]

      back : (x : ℕ) (r : Bool) → IsTrue (is_working c q) × (x ≡ cost c q) × (r ≡ has c.asleep q) → IsListed qs q x r
      back x r h = (last q x r).1 ((sets q x r).1 (inl (refl, h.1, (cost b p, (same q (cost b p) r).1 ((l.listed (cost b p) r).1 (was_working, refl, h.2 ∙ f.asleep))))))

      same_weight : (j : Job) → IsDueJob b (job_of p (work_of j)) → weight c j ≡ weight b j
      same_weight j d = sym (weight_for c p j) ∙ f.differs.weights (job_of p (work_of j)) d ∙ weight_for b p j

      lists : ListsWork c q ns
      lists j w e n = (
        (λ h. elim ((anew j w).0 ((kept j w).0 h)) [
          | inl d ↦ (is_listed_due c j (work_is_due c j (ap (is_working c) e ∙ working) d.1.0) (own j d.0).1, d.1.1)
          | inr d ↦ let o = (l.jobs j w e).0 d.0 in let i : w ≡ weight c j = o.1 ∙ sym (same_weight j o.0) in ((f.differs.jobs j e n (λ k. d.1 (k, i))).1 o.0, i)
        ]),
        (λ h. (kept j w).1 (⊎_elim (λ i. (anew j w).1 (inl (i, (work_seen c j (λ k. n (k ∙ ap Close e)) (due_is c j h.0).0, h.1))))
            (λ i. let o = (f.differs.jobs j e n i).0 h.0 in (anew j w).1 (inr ((l.jobs j w e).1 (o, h.1 ∙ same_weight j o), λ k. i k.0))) (jobs_listed js j))),
      )

      zero : (w : ℕ) → HasJob ns (Close q) w → w ≡ 0
      zero w h = elim ((anew (Close q) w).0 ((kept (Close q) w).0 h)) [
        | inl d ↦ clash d.1.0 refl
        | inr d ↦ ((l.jobs (Close q) w refl).0 d.0).1 ∙ close_weight b q
      ]

  pub left_others : KeepsOthers q ps ms → (x : Plain) (p r : Name) → r ≢ q → IsListedAs x p r ps → IsListedAs x p r qs
  left_others beside x p r n l = record {
    listed = λ k s. (
      (λ h. (l.listed k s).0 ((same r k s).0 (unset k s ((last r k s).0 h)))),
      (λ h. (last r k s).1 ((sets r k s).1 (inr (n, (same r k s).1 ((l.listed k s).1 h))))),
    );
    jobs = λ j w e. (
      (λ h. (l.jobs j w e).0 (old j w e h)),
      (λ h. (others j w (apart j e)).1 ((kept j w).1 ((beside j w (λ k. n (sym e ∙ k))).1 ((l.jobs j w e).1 h)))),
    );
  }
    where
      unset : (k : ℕ) (s : Bool) → IsListed ns r k s → IsListed ms r k s
      unset k s h = elim ((sets r k s).0 h) [ inl d ↦ absurd (n d.0) | inr d ↦ d.1 ]

      apart : (j : Job) → process_of j ≡ r → j ≢ Close q
      apart j e k = n (sym e ∙ ap process_of k)

      old : (j : Job) (w : ℕ) → process_of j ≡ r → HasJob qs j w → HasJob ps j w
      old j w e h = (beside j w (λ k. n (sym e ∙ k))).0 ((kept j w).0 ((others j w (apart j e)).0 h))

-- ---- closing

-- what follows of an answer, whichever it is
pub on_either : {T E P Q R : Type 0} (r : Result T E) → OnOk r P → OnErr r Q → (P → R) → (Q → R) → R
on_either (Ok x) h k f g = f h
on_either (Err e) h k f g = g k

work_own : (c : Plain) (q : Name) (j : Job) → Contains (all_work c q) j → process_of j ≡ q
work_own c q j h = ⊎_elim (λ d. sym (ap process_of (contains_mapped (λ n. Reduce q (record { 0 = n })) (node_numbers c) j d).2))
    (λ d. ⊎_elim (λ d. sym (ap process_of (contains_mapped (λ n. Orient q (record { 0 = n })) (node_numbers c) j d).2))
    (λ d. let r = contains_flat_map_back (λ (a : RuleRef). map (Overlap q a) (rules_of c q)) (rules_of c q) j d in sym (ap process_of (contains_mapped (Overlap q r.0) (rules_of c q) j r.2).2))
    (Contains-append_cases (map (λ n. Orient q (record { 0 = n })) (node_numbers c)) (flat_map (λ (a : RuleRef). map (Overlap q a) (rules_of c q)) (rules_of c q)) j d))
    (Contains-append_cases (map (λ n. Reduce q (record { 0 = n })) (node_numbers c)) (map (λ n. Orient q (record { 0 = n })) (node_numbers c) ++ flat_map (λ (a : RuleRef). map (Overlap q a) (rules_of c q)) (rules_of c q)) j h)

-- a closing that is taken off the list leaves each other job
pub removed_others : (q : Name) (ps ms : List Listed) → ((j : Job) (w : ℕ) → HasJob ms j w ↔ (HasJob ps j w × ¬ ((j ≡ Close q) × (w ≡ 0)))) → (j : Job) (w : ℕ) → j ≢ Close q → HasJob ms j w ↔ HasJob ps j w
removed_others q ps ms removed j w n = ((λ h. ((removed j w).0 h).0), (λ h. (removed j w).1 (h, λ k. n k.0)))

-- what lists the closing where it has been taken off the list lists it
pub closing_after : (c : Plain) (q : Name) (ps ms qs : List Listed) → ((j : Job) (w : ℕ) → HasJob ms j w ↔ (HasJob ps j w × ¬ ((j ≡ Close q) × (w ≡ 0)))) → ListsClosing c q ms qs → ListsClosing c q ps qs
closing_after c q ps ms qs removed h working lists zero = h working
    (λ j w e n. let u = removed_others q ps ms removed j w n in ((λ x. (lists j w e n).0 (u.0 x)), (λ x. u.1 ((lists j w e n).1 x))))
    (λ w x. zero w ((removed (Close q) w).0 x).0)

module _ (c : Plain) (q : Name) (ps : List Listed) (absent : ¬ HasJob ps (Close q) 0) (working : IsTrue (is_working c q)) (lists : ListsWork c q ps) (zero : (w : ℕ) → HasJob ps (Close q) w → w ≡ 0) where
  none_closing : (w : ℕ) → ¬ HasJob ps (Close q) w
  none_closing w h = absent (subst {A = ℕ} (HasJob ps (Close q)) (zero w h) h)

  -- no job is listed where no work is due
  idle_none : list_any (is_work_due c) (all_work c q) ≡ false → (j : Job) (w : ℕ) → process_of j ≡ q → ¬ HasJob ps j w
  idle_none none j w e h = ⊎_elim (λ i. none_closing w (subst {A = Job} (λ z. HasJob ps z w) i h)) (λ n.
      let d = due_work c q j e n ((lists j w e n).0 h).0 in
      clash d.1 (any_none (is_work_due c) (all_work c q) none j d.0)) (jobs_decide j (Close q))

  none_idle : ((j : Job) (w : ℕ) → process_of j ≡ q → ¬ HasJob ps j w) → list_any (is_work_due c) (all_work c q) ≡ false
  none_idle h = none_any (is_work_due c) (all_work c q) (λ j i. false_unless (is_work_due c j) (λ d.
      let e = work_own c q j i in
      let n : j ≢ Close q = λ k. clash d (ap (is_work_due c) k) in
      let k : IsDueJob c j = subst {A = Name} (λ z. Contains (all_work c z ++ Close z ∷ []) j → IsDueJob c j) e (λ m. in_filter (is_due c) (all_work c (process_of j) ++ Close (process_of j) ∷ []) j m (work_is_due c j (ap (is_working c) e ∙ working) d)) (Contains-append_left (all_work c q) (Close q ∷ []) j i) in
      h j (weight c j) e ((lists j (weight c j) e n).1 (k, refl))))

  lists_with : (qs : List Listed) → ((j : Job) (w : ℕ) → j ≢ Close q → HasJob qs j w ↔ HasJob ps j w) → ((w : ℕ) → HasJob qs (Close q) w ↔ (IsTrue (is_close_due c q) × (w ≡ 0))) → ListsJobsAs c q q qs
  lists_with qs others close j w e = ⊎_elim (λ i. subst {A = Job} (λ z. HasJob qs z w ↔ (IsDueJob c (job_of q (work_of z)) × (w ≡ weight c z))) (sym i) at_close) (λ n. (
    (λ h. let r = (lists j w e n).0 ((others j w n).0 h) in (subst {A = Job} (IsDueJob c) (sym named) r.0, r.1)),
    (λ h. (others j w n).1 ((lists j w e n).1 (subst {A = Job} (IsDueJob c) named h.0, h.1))),
  )) (jobs_decide j (Close q))
    where
      named : job_of q (work_of j) ≡ j
      named = ap (λ (z : Name). job_of z (work_of j)) (sym e) ∙ job_again j

      at_close : HasJob qs (Close q) w ↔ (IsDueJob c (Close q) × (w ≡ weight c (Close q)))
      at_close = (
        (λ h. let r = (close w).0 h in (is_listed_due c (Close q) (and_from (is_working c q) (is_close_due c q) working r.0) tt, r.1 ∙ sym (close_weight c q))),
        (λ h. (close w).1 (and_gives_right (is_working c q) (is_close_due c q) (due_is c (Close q) h.0).0, h.1 ∙ close_weight c q)),
      )

  -- the closing is not listed where other jobs are, or where the process is closed
  pub lists_none : (idle closed : Bool) → (IsTrue idle ↔ ((j : Job) (w : ℕ) → process_of j ≡ q → ¬ HasJob ps j w)) → closed ≡ has c.closed q → (idle && not closed) ≡ false → ListsJobsAs c q q ps
  lists_none idle closed is_idle is_closed h = lists_with ps (λ j w n. ((λ x. x), (λ x. x))) (λ w. (
    (λ k. absurd (none_closing w k)),
    (λ k. clash (and_from idle (not closed) (is_idle.1 (idle_none (not_true (and_gives_left (not (list_any (is_work_due c) (all_work c q))) (not (has c.closed q)) k.0))))
        (ap not is_closed ∙ and_gives_right (not (list_any (is_work_due c) (all_work c q))) (not (has c.closed q)) k.0)) h),
  ))

  -- and else it is
  pub lists_close : (qs : List Listed) (idle closed : Bool) → (IsTrue idle ↔ ((j : Job) (w : ℕ) → process_of j ≡ q → ¬ HasJob ps j w)) → closed ≡ has c.closed q → idle ≡ true → closed ≡ false
      → ((j : Job) (w : ℕ) → HasJob qs j w ↔ (((j ≡ Close q) × (w ≡ 0)) ⊎ HasJob ps j w)) → ListsJobsAs c q q qs
  lists_close qs idle closed is_idle is_closed h k added = lists_with qs (λ j w n. (
    (λ x. ⊎_elim (λ d. absurd (n d.0)) (λ d. d) ((added j w).0 x)),
    (λ x. (added j w).1 (inr x)),
  )) (λ w. (
    (λ x. (and_from (not (list_any (is_work_due c) (all_work c q))) (not (has c.closed q)) (not_of_false (none_idle (is_idle.0 h))) (ap not (sym is_closed) ∙ not_of_false k), ⊎_elim (λ d. d.1) (λ d. absurd (none_closing w d)) ((added (Close q) w).0 x))),
    (λ x. (added (Close q) w).1 (inl (refl, x.1))),
  ))

-- where another job of the process is listed and the closing is not, nothing is to be listed
pub lists_busy : (c : Plain) (q : Name) (ps ms : List Listed) → ((j : Job) (w : ℕ) → HasJob ms j w ↔ (HasJob ps j w × ¬ ((j ≡ Close q) × (w ≡ 0)))) → ¬ HasJob ps (Close q) 0 → ¬ ((j : Job) (w : ℕ) → process_of j ≡ q → ¬ HasJob ps j w) → ListsClosing c q ps ms
lists_busy c q ps ms removed absent busy = closing_after c q ps ms ms removed (λ working lists zero. lists_none c q ms (λ h. ((removed (Close q) 0).0 h).1 (refl, refl)) working lists zero false (has c.closed q)
    ((λ h. clash h refl), (λ none. absurd (busy (λ j w e h. none j w e ((removed j w).1 (h, λ k. absent (subst {A = ℕ} (HasJob ps (Close q)) k.1 (subst {A = Job} (λ z. HasJob ps z w) k.0 h)))))))) refl refl)
