-- What listing the processes of a board one by one comes to.
use Rattle.std.proofs.Common.{ℕ, ◌+◌, ◌≡◌, ◌≢◌, ◌⊎◌, ◌↔◌, inl, inr, ⊎_elim, refl, sym, ap, ◌∙◌, subst, List, [], ◌∷◌, ◌++◌, map, flat_map, Contains, Bool, true, false, not, cond, ◌&&◌, ◌||◌}
use Rattle.std.specs.List.{list_any}
use Rattle.std.specs.Option.{option_map_or}
use Rattle.std.proofs.lemmas.List.Elements.{Contains-append_cases, Contains-append_left, Contains-append_right}
use Rattle.kb_lemmas.proofs.Booleans.{and_gives_left, and_gives_right}
use Rattle.kb_lemmas.proofs.Membership.{contains_behind, contains_first, none_in, only_member, contains_map, contains_mapped, contains_flat_map, contains_flat_map_back}
use Rattle.kb_label.specs.Names.{Name, has}
use Rattle.kb_term.specs.declared.origin.RuleRef.{RuleRef}
use Rattle.kb_node.specs.declared.node.NodeId.{NodeId}
use Rattle.kb_node.specs.declared.node.LabelKind.TheVariants.{X}
use Rattle.kb_node.specs.declared.job.Job.{Job}
use Rattle.kb_node.specs.declared.job.Job.TheVariants.{Reduce, Orient, Overlap, Close}
use Rattle.mkb_model.specs.Jobs.{process_of, ref_le}
use Rattle.mkb_model.specs.Plain.{Plain, cost, weight, rules_of, rule_sizes, counted_rules, node_numbers, is_equation, is_rule, is_over, label, done_of}
use Rattle.mkb_model.specs.declared.settings.Selection.{Selection}
use Rattle.mkb_model.specs.declared.settings.Selection.TheVariants.{Stated, Size as BySize}
use Rattle.mkb_model.specs.DueJobs.{is_working, is_work_due, is_due, is_reducible, is_node_of, work_of as all_work}
use Rattle.mkb_model.proofs.Lists.{clash, filter_in, in_filter, not_true, false_unless}
use Rattle.mkb_model.proofs.runs.Endings.{has_in, in_has}
use Rattle.mkb_rules.specs.Roles.{held_of, roles_of, is_in_use}
use Rattle.mkb_pick.specs.Tasks.{job_of, work_of}
use Rattle.mkb_pick.specs.Listings.{Listed, IsProcess, HasJob, SetsRest}
use Rattle.mkb_pick.proofs.Replaced.{names_decide}
use Rattle.mkb_pick.proofs.Viewed.{job_again, process_again}
use Rattle.mkb_agenda.specs.Agendas.{IsDueJob, IsListedAs, IsAgendaOf, SeatsProcess}
use Rattle.mkb_agenda.specs.Looking.{ComesFrom, jobs_on, reductions_of, overlaps_with, overlap_of, touched_jobs}
use Rattle.mkb_agenda.specs.declared.looking.Touched.{Touched}
use Rattle.mkb_agenda.proofs.DueJobs.{due_is}
use Rattle.mkb_agenda.proofs.Anew.{process_of_listed, listed_decide}
use Rattle.mkb_agenda.proofs.Again.{close_weight, due_working, due_work}

-- ---- a process takes a seat

module _ (ps ms qs : List Listed) (p : Name) (absent : ¬ IsProcess ps p) where
  pub seats_resting : SeatsProcess ps p false ms → SetsRest ms p true qs → SeatsProcess ps p true qs
  seats_resting h k n c r = (
    (λ x. elim ((k n c r).0 x) [
      | inl d ↦ elim ((h n c d.2.0).0 d.2.1) [
        | inl e ↦ inl (e.0, e.1, d.1)
        | inr e ↦ absurd (absent (e.0, e.1, e.2 ∙ d.0))
      ]
      | inr d ↦ elim ((h n c r).0 d.1) [
        | inl e ↦ absurd (d.0 e.0)
        | inr e ↦ inr e
      ]
    ]),
    (λ x. elim x [
      | inl d ↦ (k n c r).1 (inl (d.0, d.2, (false, (h n c false).1 (inl (d.0, d.1, refl)))))
      | inr d ↦ (k n c r).1 (inr ((λ e. absent (d.0, d.1, d.2 ∙ e)), (h n c r).1 (inr d)))
    ]),
  )

pub seat_others : (ps qs : List Listed) (p : Name) (s : Bool) → SeatsProcess ps p s qs → ((j : Job) (w : ℕ) → HasJob qs j w ↔ HasJob ps j w) → (x : Plain) (r q : Name) → q ≢ p → IsListedAs x r q ps → IsListedAs x r q qs
seat_others ps qs p s h kept x r q n l = record {
  listed = λ c t. ((λ y. (l.listed c t).0 (⊎_elim (λ d. absurd (n d.0)) (λ d. d) ((h q c t).0 y))), (λ y. (h q c t).1 (inr ((l.listed c t).1 y))));
  jobs = λ j w e. ((λ y. (l.jobs j w e).0 ((kept j w).0 y)), (λ y. (kept j w).1 ((l.jobs j w e).1 y)));
}

-- ---- a board on which the process has nothing to do

-- the board with no node, on which the process is closed
abbrev pub bare : Plain → Name → Plain
bare b p = record b { nodes = []; closed = p ∷ [] }

bare_cost : (b : Plain) (p : Name) → cost (bare b p) p ≡ 0
bare_cost b p = ap (λ (z : ℕ). 0 + z) (go b.settings.selection)
  where
    go : (s : Selection) → rule_sizes (bare b p) (counted_rules s (bare b p) p) ≡ 0
    go Stated = refl
    go BySize = refl

due_close : (b : Plain) (p : Name) (j : Job) → IsDueJob (bare b p) j → Close (process_of j) ≡ j
due_close b p j h = only_member (Close (process_of j)) j (filter_in (is_due (bare b p)) (Close (process_of j) ∷ []) j h).0

nothing_due : (b : Plain) (p : Name) (j : Job) → process_of j ≡ p → ¬ IsDueJob (bare b p) j
nothing_due b p j e h =
    let i : j ≡ Close p = sym (due_close b p j h) ∙ ap Close e in
    let d : is_due (bare b p) (Close p) ≡ true = ap (is_due (bare b p)) (sym i) ∙ (due_is (bare b p) j h).0 in
    clash (has_in (p ∷ []) p (contains_first p [])) (not_true (and_gives_right (not (list_any (is_work_due (bare b p)) (all_work (bare b p) p))) (not (has (p ∷ []) p)) (and_gives_right (is_working b p) (not (list_any (is_work_due (bare b p)) (all_work (bare b p) p)) && not (has (p ∷ []) p)) d)))

-- a process that has taken its seat is listed as on that board
pub bare_listed : (b : Plain) (p : Name) (ps qs : List Listed) → ¬ IsProcess ps p → is_working b p ≡ true → SeatsProcess ps p (has b.asleep p) qs → ((j : Job) (w : ℕ) → HasJob qs j w ↔ HasJob ps j w) → IsListedAs (bare b p) p p qs
bare_listed b p ps qs absent working h kept = record {
  listed = λ c r. (
    (λ x. elim ((h p c r).0 x) [
      | inl d ↦ (working, d.1 ∙ sym (bare_cost b p), d.2)
      | inr d ↦ absurd (absent (process_of_listed ps p c r d))
    ]),
    (λ x. (h p c r).1 (inl (refl, x.1 ∙ bare_cost b p, x.2))),
  );
  jobs = λ j w e. (
    (λ x. let r = (kept j w).0 x in absurd (absent (r.0, r.1, r.2 ∙ e))),
    (λ x. absurd (nothing_due b p (job_of p (work_of j)) (process_again p (work_of j)) x.0)),
  );
}

module _ (b : Plain) (t : Touched) (nodes : map (λ (n : NodeId). n.0) t.nodes.now ≡ held_of b t.process.now) (rules : t.rules.now ≡ rules_of b t.process.now) where
  abbrev p : Name
  p = t.process.now

  held : (m : ℕ) → Contains (node_numbers b) m → is_node_of b p m ≡ true → (n : NodeId) × Contains t.nodes.now n × (n.0 ≡ m)
  held m c h = contains_mapped (λ (n : NodeId). n.0) t.nodes.now m (subst {A = List ℕ} (λ z. Contains z m) (sym nodes) (in_filter (λ n. is_in_use (roles_of b p n)) (node_numbers b) m c h))

  abbrev behind : List Job
  behind = cond t.is_wide (reductions_of b p) [] ++ (overlaps_with b p t.rules.now ++ option_map_or (λ (o : RuleRef × RuleRef). Overlap p o.0 o.1 ∷ []) t.overlap [])

  on_node : (n : NodeId) (j : Job) → Contains t.nodes.now n → Contains (Reduce p n ∷ Orient p n ∷ []) j → Contains (touched_jobs b t) j
  on_node n j c d = Contains-append_left (jobs_on p t.nodes.now) behind j (contains_flat_map (λ (n : NodeId). Reduce p n ∷ Orient p n ∷ []) t.nodes.now n j c d)

  covered : (j : Job) → is_work_due b j ≡ true → Contains (all_work b p) j → Contains (touched_jobs b t) j
  covered j due c = ⊎_elim reduce (λ d. ⊎_elim orient overlap (Contains-append_cases (map (λ n. Orient p (record { 0 = n })) (node_numbers b)) (flat_map (λ (a : RuleRef). map (Overlap p a) (rules_of b p)) (rules_of b p)) j d))
      (Contains-append_cases (map (λ n. Reduce p (record { 0 = n })) (node_numbers b)) (map (λ n. Orient p (record { 0 = n })) (node_numbers b) ++ flat_map (λ (a : RuleRef). map (Overlap p a) (rules_of b p)) (rules_of b p)) j c)
    where
      reduce : Contains (map (λ n. Reduce p (record { 0 = n })) (node_numbers b)) j → Contains (touched_jobs b t) j
      reduce d =
          let r = contains_mapped (λ n. Reduce p (record { 0 = n })) (node_numbers b) j d in
          let k : (is_node_of b p r.0 && is_reducible b p r.0) ≡ true = ap (is_work_due b) r.2 ∙ due in
          let s = held r.0 r.1 (and_gives_left (is_node_of b p r.0) (is_reducible b p r.0) k) in
          subst {A = Job} (Contains (touched_jobs b t)) (ap (λ (z : ℕ). Reduce p (record { 0 = z })) s.2 ∙ r.2) (on_node s.0 (Reduce p s.0) s.1 (contains_first (Reduce p s.0) (Orient p s.0 ∷ [])))

      orient : Contains (map (λ n. Orient p (record { 0 = n })) (node_numbers b)) j → Contains (touched_jobs b t) j
      orient d =
          let r = contains_mapped (λ n. Orient p (record { 0 = n })) (node_numbers b) j d in
          let k : (is_equation b p r.0 && not (has (label b r.0 X) p)) ≡ true = ap (is_work_due b) r.2 ∙ due in
          let e : is_node_of b p r.0 ≡ true = ap (λ (z : Bool). z || (is_rule b p (record { node = r.0; dir = 0 }) || is_rule b p (record { node = r.0; dir = 1 }))) (and_gives_left (is_equation b p r.0) (not (has (label b r.0 X) p)) k) in
          let s = held r.0 r.1 e in
          subst {A = Job} (Contains (touched_jobs b t)) (ap (λ (z : ℕ). Orient p (record { 0 = z })) s.2 ∙ r.2) (on_node s.0 (Orient p s.0) s.1 (contains_behind (Reduce p s.0) (Orient p s.0 ∷ []) (Orient p s.0) (contains_first (Orient p s.0) [])))

      overlap : Contains (flat_map (λ (a : RuleRef). map (Overlap p a) (rules_of b p)) (rules_of b p)) j → Contains (touched_jobs b t) j
      overlap d =
          let r = contains_flat_map_back (λ (a : RuleRef). map (Overlap p a) (rules_of b p)) (rules_of b p) j d in
          let s = contains_mapped (Overlap p r.0) (rules_of b p) j r.2 in
          let k : ((is_rule b p r.0 && is_rule b p s.0) && (ref_le r.0 s.0 && not (has (done_of b r.0 s.0) p))) ≡ true = ap (is_work_due b) s.2 ∙ due in
          let l : ref_le r.0 s.0 ≡ true = and_gives_left (ref_le r.0 s.0) (not (has (done_of b r.0 s.0) p)) (and_gives_right (is_rule b p r.0 && is_rule b p s.0) (ref_le r.0 s.0 && not (has (done_of b r.0 s.0) p)) k) in
          let e : overlap_of p r.0 s.0 ≡ j = ap (λ (z : Bool). cond z (Overlap p r.0 s.0) (Overlap p s.0 r.0)) l ∙ s.2 in
          let all = overlaps_with b p t.rules.now in
          let rest = option_map_or (λ (o : RuleRef × RuleRef). Overlap p o.0 o.1 ∷ []) t.overlap [] in
          subst {A = Job} (Contains (touched_jobs b t)) e
          (Contains-append_right (jobs_on p t.nodes.now) behind (overlap_of p r.0 s.0) (Contains-append_right (cond t.is_wide (reductions_of b p) []) (all ++ rest) (overlap_of p r.0 s.0) (Contains-append_left all rest (overlap_of p r.0 s.0)
          (contains_flat_map (λ (a : RuleRef). map (overlap_of p a) (rules_of b p ++ t.rules.now)) t.rules.now r.0 (overlap_of p r.0 s.0) (subst {A = List RuleRef} (λ z. Contains z r.0) (sym rules) r.1)
          (contains_map (overlap_of p r.0) (rules_of b p ++ t.rules.now) s.0 (Contains-append_left (rules_of b p) t.rules.now s.0 s.1))))))

  -- all work that is due is looked at where all its nodes and rules are named
  pub bare_comes : ComesFrom (bare b t.process.now) t.process.now b t.process.now (touched_jobs b t)
  bare_comes = record {
    working = refl;
    asleep = refl;
    differs = record {
      jobs = λ j e n i. (
        (λ h. let d = due_work b p j e n h in absurd (i (covered j d.1 d.0))),
        (λ h. absurd (nothing_due b p (job_of p (work_of j)) (process_again p (work_of j)) h)),
      );
      weights = λ j h. let e = due_close b p j h in sym (ap (weight b) e) ∙ close_weight b (process_of j) ∙ sym (close_weight (bare b p) (process_of j)) ∙ ap (weight (bare b p)) e;
    };
  }

-- ---- one process after another

pub and_not : (x y : Bool) → y ≡ true → (x && not y) ≡ false
and_not x y h = false_unless (x && not y) (λ k. clash h (not_true (and_gives_right x (not y) k)))

-- the board where no process lives
abbrev pub blank : Plain → Plain
blank b = record b { living = [] }

-- the processes of the list are listed as on the board, and no other
pub record IsListedUpTo (b : Plain) (names : List Name) (ps : List Listed) : Type 0 where
  pub known : (p : Name) → Contains names p → IsListedAs b p p ps
  pub unknown : (p : Name) → ¬ Contains names p → IsListedAs (blank b) p p ps

never_due : (b : Plain) (p : Name) → is_working b p ≡ false → (j : Job) → ¬ IsDueJob b (job_of p (work_of j))
never_due b p h j d = clash (ap (is_working b) (sym (process_again p (work_of j))) ∙ due_working b (job_of p (work_of j)) (due_is b (job_of p (work_of j)) d).0) h

-- a process that works on neither board is listed on one as on the other
pub idle_same : (b c : Plain) (p : Name) (ps : List Listed) → is_working b p ≡ false → is_working c p ≡ false → IsListedAs b p p ps → IsListedAs c p p ps
idle_same b c p ps h k l = record {
  listed = λ x r. ((λ y. clash ((l.listed x r).0 y).0 h), (λ y. clash y.0 k));
  jobs = λ j w e. ((λ y. absurd (never_due b p h j ((l.jobs j w e).0 y).0)), (λ y. absurd (never_due c p k j y.0)));
}

none_listed : (b : Plain) (p : Name) (ps : List Listed) → IsListedAs (blank b) p p ps → ¬ IsProcess ps p
none_listed b p ps l x = clash ((l.listed x.0.cost x.0.resting).0 (x.0, x.1, x.2, refl, refl)).0 refl

module _ (b : Plain) where
  pub up_none : IsListedUpTo b [] []
  up_none = record {
    known = λ p c. none_in c;
    unknown = λ p n. record {
      listed = λ x r. ((λ y. none_in y.1), (λ y. clash y.0 refl));
      jobs = λ j w e. ((λ y. none_in y.1), (λ y. absurd (never_due (blank b) p refl j y.0)));
    };
  }

  module _ (names : List Name) (q : Name) (ps : List Listed) (up : IsListedUpTo b names ps) where
    apart : (p : Name) → ¬ Contains (names ++ q ∷ []) p → (p ≢ q) × (¬ Contains names p)
    apart p n = ((λ e. n (Contains-append_right names (q ∷ []) p (subst {A = Name} (Contains (q ∷ [])) (sym e) (contains_first q [])))), (λ c. n (Contains-append_left names (q ∷ []) p c)))

    -- a process that lives no more, or has given up
    pub up_idle : is_working b q ≡ false → IsListedUpTo b (names ++ q ∷ []) ps
    up_idle h = record {
      known = λ p c. ⊎_elim (λ i. up.known p i) (λ n. ⊎_elim (λ i. absurd (n i)) (λ i. idle_same (blank b) b p ps refl (ap (is_working b) (sym (only_member q p i)) ∙ h) (up.unknown p n)) (Contains-append_cases names (q ∷ []) p c)) (listed_decide names_decide names p);
      unknown = λ p n. up.unknown p (apart p n).1;
    }

    -- a process that is listed
    pub up_listed : (qs : List Listed) → ((¬ IsProcess ps q) ⊎ IsListedAs b q q ps → IsListedAs b q q qs) → ((x : Plain) (p r : Name) → r ≢ q → IsListedAs x p r ps → IsListedAs x p r qs) → IsListedUpTo b (names ++ q ∷ []) qs
    up_listed qs here others = record {
      known = λ p c. ⊎_elim (λ e. subst {A = Name} (λ z. IsListedAs b z z qs) (sym e) (here (⊎_elim (λ i. inr (up.known q i)) (λ n. inl (none_listed b q ps (up.unknown q n))) (listed_decide names_decide names q))))
          (λ n. ⊎_elim (λ i. others b p p n (up.known p i)) (λ i. absurd (n (sym (only_member q p i)))) (Contains-append_cases names (q ∷ []) p c)) (names_decide p q);
      unknown = λ p n. let r = apart p n in others (blank b) p p r.0 (up.unknown p r.1);
    }

  -- where all that live have been listed it is the agenda
  pub up_all : (ps : List Listed) → IsListedUpTo b b.living ps → IsAgendaOf b ps
  up_all ps up = record {
    processes = λ p c r. (each p).listed c r;
    jobs = λ j w. subst {A = Job} (λ z. HasJob ps j w ↔ (IsDueJob b z × (w ≡ weight b j))) (job_again j) ((each (process_of j)).jobs j w refl);
  }
    where
      each : (p : Name) → IsListedAs b p p ps
      each p = ⊎_elim (λ i. up.known p i) (λ n. idle_same (blank b) b p ps refl (false_unless (is_working b p) (λ h. n (in_has b.living p (and_gives_left (has b.living p) (not (is_over b p)) h)))) (up.unknown p n)) (listed_decide names_decide b.living p)
