-- Overlaps that are due, free or taken.
use Rattle.std.proofs.Common.{◌≡◌, ◌≢◌, refl, sym, ap, subst, arith, List, [], ◌∷◌, ◌++◌, map, flat_map, Contains, true, false, not, ◌&&◌, Some, ⊎_elim}
use Rattle.std.specs.List.{filter_map}
use Rattle.std.proofs.lemmas.List.Elements.{Contains-append_cases}
use Rattle.kb_lemmas.proofs.Membership.{contains_cases, none_in, contains_mapped, contains_flat_map_back, contains_flat_map}
use Rattle.kb_lemmas.proofs.Booleans.{and_gives_left, and_gives_right}
use Rattle.kb_term.specs.declared.origin.RuleRef.{RuleRef}
use Rattle.kb_label.specs.Names.{Name, has}
use Rattle.kb_label.proofs.Members.{name_eq-eq}
use Rattle.kb_node.specs.declared.job.Job.{Job}
use Rattle.kb_node.specs.declared.job.Job.TheVariants.{Reduce, Orient, Overlap, Close}
use Rattle.mkb_model.specs.Jobs.{kind_number, is_free, ref_le}
use Rattle.mkb_model.specs.Plain.{Plain, rules_of, node_numbers, is_rule, is_over, done_of}
use Rattle.mkb_model.specs.DueJobs.{awake, due_jobs, due_jobs_of, flying_jobs, is_due, is_working, is_work_due, work_of}
use Rattle.mkb_model.specs.Journals.{Moment, IsFreeJob}
use Rattle.mkb_model.specs.declared.entry.Ticket.{Ticket}
use Rattle.mkb_model.proofs.Lists.{clash, not_true, filter_in, in_filter, filter_map_in}
use Rattle.mkb_fairness.specs.Fairness.{taken_by, is_overlap_of, overlaps_taken}

-- ---- what an overlap is

parts : (p q : Name) (a c d e : RuleRef) → Overlap p a c ≡ Overlap q d e → (p ≡ q) × (a ≡ d) × (c ≡ e)
parts p q a c d e h = (cc, cc, cc)

-- an overlap among the jobs of a process is of that process and two of its rules
overlap_in : (b : Plain) (r q : Name) (a c : RuleRef) → Contains (work_of b r ++ Close r ∷ []) (Overlap q a c) → (r ≡ q) × Contains (rules_of b r) a × Contains (rules_of b r) c
overlap_in b r q a c i = ⊎_elim in_work (λ k. ⊎_elim (λ e. no_kind (Close r) e (λ z. omega (arith, z))) (λ z. none_in z) (contains_cases (Close r) [] (Overlap q a c) k)) (Contains-append_cases (work_of b r) (Close r ∷ []) (Overlap q a c) i)
  where
    reduces : List Job
    reduces = map (λ n. Reduce r (record { 0 = n })) (node_numbers b)

    orients : List Job
    orients = map (λ n. Orient r (record { 0 = n })) (node_numbers b)

    overlaps : List Job
    overlaps = flat_map (λ (x : RuleRef). map (Overlap r x) (rules_of b r)) (rules_of b r)

    no_kind : {A : Type 0} (j : Job) → j ≡ Overlap q a c → kind_number j ≢ 2 → A
    no_kind j e d = absurd (d (ap kind_number e))

    at : Contains overlaps (Overlap q a c) → (r ≡ q) × Contains (rules_of b r) a × Contains (rules_of b r) c
    at k =
        let f = contains_flat_map_back (λ (x : RuleRef). map (Overlap r x) (rules_of b r)) (rules_of b r) (Overlap q a c) k in
        let m = contains_mapped (Overlap r f.0) (rules_of b r) (Overlap q a c) f.2 in
        let e = parts r q f.0 m.0 a c m.2 in
        (e.0, subst {A = RuleRef} (Contains (rules_of b r)) e.1 f.1, subst {A = RuleRef} (Contains (rules_of b r)) e.2 m.1)

    in_work : Contains (work_of b r) (Overlap q a c) → (r ≡ q) × Contains (rules_of b r) a × Contains (rules_of b r) c
    in_work k = ⊎_elim
        (λ l. let m = contains_mapped (λ n. Reduce r (record { 0 = n })) (node_numbers b) (Overlap q a c) l in no_kind (Reduce r (record { 0 = m.0 })) m.2 (λ z. omega (arith, z)))
        (λ l. ⊎_elim (λ o. let m = contains_mapped (λ n. Orient r (record { 0 = n })) (node_numbers b) (Overlap q a c) o in no_kind (Orient r (record { 0 = m.0 })) m.2 (λ z. omega (arith, z))) at (Contains-append_cases orients overlaps (Overlap q a c) l))
        (Contains-append_cases reduces (orients ++ overlaps) (Overlap q a c) k)

-- ---- due overlaps

-- the overlap is due, and of two rules of its process in their directions
pub record IsDueOverlap (b : Plain) (p : Name) (a c : RuleRef) : Type 0 where
  pub first : Contains (rules_of b p) a
  pub second : Contains (rules_of b p) c
  pub due : is_due b (Overlap p a c) ≡ true

module _ (b : Plain) (p : Name) (a c : RuleRef) where
  due_with : (r : Name) → Contains (due_jobs_of b r) (Overlap p a c) → (r ≡ p) × IsDueOverlap b p a c
  due_with r i =
      let d = filter_in (is_due b) (work_of b r ++ Close r ∷ []) (Overlap p a c) i in
      let o = overlap_in b r p a c d.0 in
      (o.0, record { first = subst {A = Name} (λ z. Contains (rules_of b z) a) o.0 o.1; second = subst {A = Name} (λ z. Contains (rules_of b z) c) o.0 o.2; due = d.1 })

  -- one of the due jobs of its process is due
  pub due_overlap : Contains (due_jobs_of b p) (Overlap p a c) → IsDueOverlap b p a c
  due_overlap i = (due_with p i).1

  -- an overlap that may be taken is due, and its process gets jobs
  pub free_overlap : IsFreeJob b (Overlap p a c) → Contains (awake b) p × IsDueOverlap b p a c
  free_overlap free =
      let f = filter_in (is_free (flying_jobs b)) (due_jobs b) (Overlap p a c) free in
      let r = contains_flat_map_back (due_jobs_of b) (awake b) (Overlap p a c) f.0 in
      let d = due_with r.0 r.2 in
      (subst {A = Name} (Contains (awake b)) d.0 r.1, d.1)

  -- with nothing in flight a due overlap of a process that gets jobs may be taken
  pub overlap_free : Contains (awake b) p → Contains (due_jobs_of b p) (Overlap p a c) → b.flight ≡ [] → IsFreeJob b (Overlap p a c)
  overlap_free gets due empty = in_filter (is_free (flying_jobs b)) (due_jobs b) (Overlap p a c) (contains_flat_map (due_jobs_of b) (awake b) p (Overlap p a c) gets due)
      (subst {A = List Ticket} (λ ts. is_free (map (λ (t : Ticket). t.job) ts) (Overlap p a c) ≡ true) (sym empty) refl)

  module _ (due : is_due b (Overlap p a c) ≡ true) where
    works : is_working b p ≡ true
    works = and_gives_left (is_working b p) (is_work_due b (Overlap p a c)) due

    -- its process lives
    pub due_lives : has b.living p ≡ true
    due_lives = and_gives_left (has b.living p) (not (is_over b p)) works

    -- and has not given up
    pub due_not_over : is_over b p ≡ false
    due_not_over = not_true (and_gives_right (has b.living p) (not (is_over b p)) works)

    work_due : ((is_rule b p a && is_rule b p c) && (ref_le a c && not (has (done_of b a c) p))) ≡ true
    work_due = and_gives_right (is_working b p) (is_work_due b (Overlap p a c)) due

    -- it has both rules
    pub due_rules : (is_rule b p a ≡ true) × (is_rule b p c ≡ true)
    due_rules =
        let k = and_gives_left (is_rule b p a && is_rule b p c) (ref_le a c && not (has (done_of b a c) p)) work_due in
        (and_gives_left (is_rule b p a) (is_rule b p c) k, and_gives_right (is_rule b p a) (is_rule b p c) k)

    -- of which the first is not after the second
    pub due_ordered : ref_le a c ≡ true
    due_ordered = and_gives_left (ref_le a c) (not (has (done_of b a c) p)) (and_gives_right (is_rule b p a && is_rule b p c) (ref_le a c && not (has (done_of b a c) p)) work_due)

    -- and they are not noted as overlapped
    pub due_not_done : has (done_of b a c) p ≡ false
    due_not_done = not_true (and_gives_right (ref_le a c) (not (has (done_of b a c) p)) (and_gives_right (is_rule b p a && is_rule b p c) (ref_le a c && not (has (done_of b a c) p)) work_due))

-- ---- taken overlaps

-- an overlap of the process is of two rules
pub overlap_of : (p : Name) (j : Job) → is_overlap_of p j ≡ true → (d : RuleRef) × (e : RuleRef) × (j ≡ Overlap p d e)
overlap_of p (Overlap q d e) h = (d, e, ap (λ (z : Name). Overlap z d e) (name_eq-eq q p h))
overlap_of p (Reduce q n) h = clash h refl
overlap_of p (Orient q n) h = clash h refl
overlap_of p (Close q) h = clash h refl

-- what is listed was taken in some moment
pub taken_at : (p : Name) (ms : List Moment) (j : Job) → Contains (overlaps_taken p ms) j → (m : Moment) × Contains ms m × (taken_by m.entry ≡ Some j) × (is_overlap_of p j ≡ true)
taken_at p ms j i =
    let f = filter_in (is_overlap_of p) (filter_map (λ (m : Moment). taken_by m.entry) ms) j i in
    let m = filter_map_in (λ (m : Moment). taken_by m.entry) ms j f.0 in
    (m.0, m.1, m.2, f.1)
