-- What a verdict says, that it stays, and that where none stands and nothing may be taken a ticket is in flight.
use Rattle.std.proofs.Common.{◌≡◌, ◌≢◌, ◌⊎◌, inl, inr, refl, sym, ap, ◌∙◌, subst, arith, List, length, [], ◌∷◌, ◌++◌, map, flat_map, Contains, Bool, true, false, cond, not, ◌&&◌, ◌||◌, ◌==◌, Option, Some, None, ⊎_elim}
use Rattle.std.specs.Prelude.{option_map, option_and_then}
use Rattle.std.specs.List.{find, list_any, list_all}
use Rattle.std.proofs.lemmas.List.Elements.{Contains-append_cases, Contains-append_left, Contains-append_right}
use Rattle.std.proofs.lemmas.Bool.{and_from, or_cases, or_left, or_right}
use Rattle.kb_lemmas.proofs.Membership.{contains_cases, contains_behind, contains_first, none_in, contains_mapped, contains_flat_map_back, contains_flat_map}
use Rattle.kb_lemmas.proofs.Booleans.{and_gives_left, and_gives_right}
use Rattle.kb_lemmas.proofs.Options.{none_some}
use Rattle.kb_term.specs.declared.origin.RuleRef.{RuleRef}
use Rattle.kb_label.specs.Names.{Name, has, name_eq}
use Rattle.mkb_model.specs.Jobs.{is_free}
use Rattle.mkb_model.specs.Plain.{Plain, GivenUp, equations_of, rules_of, node_numbers, is_over, over_in, over_reason}
use Rattle.mkb_model.specs.Invariants.{SleepersWait}
use Rattle.mkb_model.specs.DueJobs.{awake, is_due, is_work_due, is_close_due, is_working, work_of, due_jobs_of, due_jobs, free_jobs, flying_jobs}
use Rattle.mkb_model.specs.Effects.{first_some, some_if}
use Rattle.mkb_model.specs.Verdicts.{verdict, is_complete, first_over}
use Rattle.mkb_model.specs.Sleeping.{is_failed, no_members, is_active, working}
use Rattle.mkb_model.specs.Journals.{Moment, Follows}
use Rattle.kb_label.specs.declared.verdict.Reason.{Reason}
use Rattle.kb_label.specs.declared.verdict.Spent.TheVariants.{Commits, Over}
use Rattle.kb_label.specs.declared.verdict.Verdict.{Verdict}
use Rattle.kb_label.specs.declared.verdict.Verdict.TheVariants.{Complete, AllFailed, Spent as IsSpent}
use Rattle.kb_node.specs.declared.job.Job.{Job}
use Rattle.kb_node.specs.declared.job.Job.TheVariants.{Reduce, Orient, Overlap, Close}
use Rattle.mkb_model.specs.declared.entry.Ticket.{Ticket}
use Rattle.mkb_model.specs.declared.entry.Entry.{Entry}
use Rattle.mkb_model.specs.declared.entry.Entry.TheVariants.{Take, Commit, Drop, Abandon, Halt}
use Rattle.kb_label.proofs.Members.{name_eq-eq, name_eq-refl}
use Rattle.mkb_model.specs.Journals.{IsLeaving}
use Rattle.mkb_model.proofs.Lists.{clash, decide, false_unless, not_of_false, not_of_true, filter_in, in_filter, find_in, find_none, none_any, all_of}

-- ---- names in lists

pub has_in : (l : List Name) (p : Name) → Contains l p → has l p ≡ true
has_in [] p c = none_in c
has_in (q ∷ l) p c = ⊎_elim (λ e. or_left (name_eq p q) (has l p) (subst {A = Name} (λ z. name_eq p z ≡ true) (sym e) (name_eq-refl p))) (λ d. or_right (name_eq p q) (has l p) (has_in l p d)) (contains_cases q l p c)

pub in_has : (l : List Name) (p : Name) → has l p ≡ true → Contains l p
in_has [] p h = clash h refl
in_has (q ∷ l) p h = ⊎_elim (λ e. subst {A = Name} (Contains (q ∷ l)) (sym (name_eq-eq p q e)) (contains_first q l)) (λ d. contains_behind q l p (in_has l p d)) (or_cases (name_eq p q) (has l p) h)

-- ---- what a verdict says

pub nones : {A : Type 0} (a b c d : Option A) → first_some (a ∷ b ∷ c ∷ d ∷ []) ≡ None → (a ≡ None) × (b ≡ None) × (c ≡ None) × (d ≡ None)
nones None None None None h = (refl, refl, refl, refl)
nones None None None (Some d) h = none_some (sym h)
nones None None (Some c) d h = none_some (sym h)
nones None (Some b) c d h = none_some (sym h)
nones (Some a) b c d h = none_some (sym h)

pub no_members_is : {A : Type 0} (xs : List A) → no_members xs ≡ true → xs ≡ []
no_members_is [] h = refl
no_members_is (x ∷ xs) h = clash h refl

-- ---- a verdict stays

pub verdict-stays : (May : Plain → Job → Type 0) (past : List Moment) (b : Plain) (e : Entry) (c : Plain) (v : Verdict) → Follows May past b e c → verdict b ≡ Some v → IsLeaving e × (verdict c ≡ Some v)
verdict-stays May past b (Take w t j) c v f h = none_some (sym f.no_verdict ∙ h)
verdict-stays May past b (Commit w t e) c v f h = none_some (sym f.finishing.no_verdict ∙ h)
verdict-stays May past b (Drop w t p) c v f h = none_some (sym f.finishing.no_verdict ∙ h)
verdict-stays May past b (Abandon w t) c v f h = (tt, subst {A = Plain} (λ z. verdict z ≡ Some v) (sym f.leads_to) h)
verdict-stays May past b Halt c v f h = (tt, subst {A = Plain} (λ z. verdict z ≡ Some v) (sym f.1) h)

-- ---- where no verdict stands and nothing may be taken, a ticket is in flight

over_has_reason : (gs : List GivenUp) (p : Name) → list_any (λ (g : GivenUp). has g.names p) gs ≡ true → (r : Reason) × (over_in gs p ≡ Some r)
over_has_reason [] p h = clash h refl
over_has_reason (g ∷ gs) p h = go (has g.names p) refl (λ k. over_has_reason gs p k) (or_cases (has g.names p) (list_any (λ (g : GivenUp). has g.names p) gs) h)
  where
    go : (x : Bool) → has g.names p ≡ x → (list_any (λ (g : GivenUp). has g.names p) gs ≡ true → (r : Reason) × (over_in gs p ≡ Some r)) → (has g.names p ≡ true) ⊎ (list_any (λ (g : GivenUp). has g.names p) gs ≡ true)
        → (r : Reason) × (cond x (Some g.reason) (over_in gs p) ≡ Some r)
    go true e ih d = (g.reason, refl)
    go false e ih (inl d) = clash d e
    go false e ih (inr d) = ih d

-- a job of the work of a process is that process's
pub work_is_own : (b : Plain) (p : Name) (j : Job) → Contains (work_of b p) j → is_working b p ≡ true → is_work_due b j ≡ true → is_due b j ≡ true
work_is_own b p j c w h = ⊎_elim reduces (λ d. ⊎_elim orients overlaps (Contains-append_cases (map (λ n. Orient p (record { 0 = n })) (node_numbers b)) (flat_map (λ (a : RuleRef). map (Overlap p a) (rules_of b p)) (rules_of b p)) j d))
    (Contains-append_cases (map (λ n. Reduce p (record { 0 = n })) (node_numbers b)) (map (λ n. Orient p (record { 0 = n })) (node_numbers b) ++ flat_map (λ (a : RuleRef). map (Overlap p a) (rules_of b p)) (rules_of b p)) j c)
  where
    due : (i : Job) → i ≡ j → (is_work_due b i ≡ true → is_due b i ≡ true) → is_due b j ≡ true
    due i e f = subst {A = Job} (λ z. is_due b z ≡ true) e (f (subst {A = Job} (λ z. is_work_due b z ≡ true) (sym e) h))

    reduces : Contains (map (λ n. Reduce p (record { 0 = n })) (node_numbers b)) j → is_due b j ≡ true
    reduces d = let r = contains_mapped (λ n. Reduce p (record { 0 = n })) (node_numbers b) j d in due (Reduce p (record { 0 = r.0 })) r.2 (λ k. and_from (is_working b p) (is_work_due b (Reduce p (record { 0 = r.0 }))) w k)

    orients : Contains (map (λ n. Orient p (record { 0 = n })) (node_numbers b)) j → is_due b j ≡ true
    orients d = let r = contains_mapped (λ n. Orient p (record { 0 = n })) (node_numbers b) j d in due (Orient p (record { 0 = r.0 })) r.2 (λ k. and_from (is_working b p) (is_work_due b (Orient p (record { 0 = r.0 }))) w k)

    overlaps : Contains (flat_map (λ (a : RuleRef). map (Overlap p a) (rules_of b p)) (rules_of b p)) j → is_due b j ≡ true
    overlaps d =
        let q = contains_flat_map_back (λ (a : RuleRef). map (Overlap p a) (rules_of b p)) (rules_of b p) j d in
        let r = contains_mapped (Overlap p q.0) (rules_of b p) j q.2 in
        due (Overlap p q.0 r.0) r.2 (λ k. and_from (is_working b p) (is_work_due b (Overlap p q.0 r.0)) w k)

module _ (b : Plain) (waits : SleepersWait b) (no_verdict : verdict b ≡ None) (none_free : free_jobs b ≡ []) (nothing_flies : b.flight ≡ []) where
  all_free : (j : Job) → is_free (flying_jobs b) j ≡ true
  all_free j = subst {A = List Ticket} (λ ts. is_free (map (λ (t : Ticket). t.job) ts) j ≡ true) (sym nothing_flies) refl

  none_due : (p : Name) → Contains (awake b) p → (j : Job) → ¬ Contains (due_jobs_of b p) j
  none_due p i j c = none_in (subst {A = List Job} (λ js. Contains js j) none_free (in_filter (is_free (flying_jobs b)) (due_jobs b) j (contains_flat_map (due_jobs_of b) (awake b) p j i c) (all_free j)))

  is_none : {A : Type 0} (js : List A) → ((j : A) → ¬ Contains js j) → no_members js ≡ true
  is_none [] h = refl
  is_none (j ∷ js) h = absurd (h j (contains_first j js))

  not_complete : (p : Name) → Contains b.living p → is_complete b p ≡ false
  not_complete p i = find_none (is_complete b) b.living (empty (find (is_complete b) b.living) (nones (option_map Complete (find (is_complete b) b.living)) (some_if (list_all (is_failed b) b.living) AllFailed) (some_if (b.commits == b.settings.budget) (IsSpent Commits)) (cond (list_all (λ p. is_failed b p || is_over b p) b.living) (option_map (λ r. IsSpent (Over r)) (option_and_then (over_reason b) (first_over b))) None) no_verdict).0) p i
    where
      empty : (a : Option Name) → option_map Complete a ≡ None → a ≡ None
      empty None e = refl
      empty (Some q) e = none_some (sym e)

  -- a process that is awake and has not given up has failed
  awake_failed : (p : Name) → Contains (awake b) p → is_over b p ≡ false → is_failed b p ≡ true
  awake_failed p up o = and_from (not (is_over b p)) (not (no_members (equations_of b p)) && no_members (due_jobs_of b p)) (not_of_false o)
      (and_from (not (no_members (equations_of b p))) (no_members (due_jobs_of b p)) (not_of_false (false_unless (no_members (equations_of b p)) (λ e. clash (and_from (no_members (equations_of b p)) (has b.closed p) e closed) (not_complete p i))))
      (is_none (due_jobs_of b p) (none_due p up)))
    where
      i : Contains b.living p
      i = (filter_in (λ q. not (has b.asleep q)) b.living p up).0

      works : is_working b p ≡ true
      works = and_from (has b.living p) (not (is_over b p)) (has_in b.living p i) (not_of_false o)

      no_work : list_any (is_work_due b) (work_of b p) ≡ false
      no_work = none_any (is_work_due b) (work_of b p) (λ j c. false_unless (is_work_due b j) (λ h. none_due p up j (in_filter (is_due b) (work_of b p ++ Close p ∷ []) j (Contains-append_left (work_of b p) (Close p ∷ []) j c) (work_is_own b p j c works h))))

      closed : has b.closed p ≡ true
      closed = ⊎_elim (λ h. h) (λ h. absurd (none_due p up (Close p) (in_filter (is_due b) (work_of b p ++ Close p ∷ []) (Close p) (Contains-append_right (work_of b p) (Close p ∷ []) (Close p) (contains_first (Close p) []))
          (and_from (is_working b p) (is_close_due b p) works (and_from (not (list_any (is_work_due b) (work_of b p))) (not (has b.closed p)) (not_of_false no_work) (not_of_false h)))))) (decide (has b.closed p))

  -- no active process is awake, so none sleeps
  none_works : working b b.asleep ≡ []
  none_works = no_members_is (working b b.asleep) (is_none (working b b.asleep) (λ p c. let f = filter_in (is_active b) (awake b) p c in inactive p f.0 f.1 (decide (is_over b p))))
    where
      inactive : (p : Name) → Contains (awake b) p → is_active b p ≡ true → (is_over b p ≡ true) ⊎ (is_over b p ≡ false) → ⊥
      inactive p i a (inl o) = clash (and_gives_right (not (is_failed b p)) (not (is_over b p)) a) (not_of_true o)
      inactive p i a (inr o) = clash (and_gives_left (not (is_failed b p)) (not (is_over b p)) a) (not_of_true (awake_failed p i o))

  none_waits : (p : Name) → has b.asleep p ≡ true → is_active b p ≡ false
  none_waits = waits.none_waits (let e = ap length none_works in omega (arith, e))

  -- a process that has not given up has failed
  failed_unless_over : (p : Name) → Contains b.living p → is_over b p ≡ false → is_failed b p ≡ true
  failed_unless_over p i o = ⊎_elim
      (λ s. false_unless_not (λ k. clash (and_from (not (is_failed b p)) (not (is_over b p)) (not_of_false k) (not_of_false o)) (none_waits p s)))
      (λ s. awake_failed p (in_filter (λ q. not (has b.asleep q)) b.living p i (not_of_false s)) o)
      (decide (has b.asleep p))
    where
      false_unless_not : ((is_failed b p ≡ false) → ⊥) → is_failed b p ≡ true
      false_unless_not h = ⊎_elim (λ k. k) (λ k. absurd (h k)) (decide (is_failed b p))

  failed_or_over : list_all (λ p. is_failed b p || is_over b p) b.living ≡ true
  failed_or_over = all_of (λ p. is_failed b p || is_over b p) b.living (λ p i. ⊎_elim (λ o. or_right (is_failed b p) (is_over b p) o) (λ o. or_left (is_failed b p) (is_over b p) (failed_unless_over p i o)) (decide (is_over b p)))

  parts : (option_map Complete (find (is_complete b) b.living) ≡ None) × (some_if (list_all (is_failed b) b.living) AllFailed ≡ None) × (some_if (b.commits == b.settings.budget) (IsSpent Commits) ≡ None) × (cond (list_all (λ p. is_failed b p || is_over b p) b.living) (option_map (λ r. IsSpent (Over r)) (option_and_then (over_reason b) (first_over b))) None ≡ None)
  parts = nones (option_map Complete (find (is_complete b) b.living)) (some_if (list_all (is_failed b) b.living) AllFailed) (some_if (b.commits == b.settings.budget) (IsSpent Commits)) (cond (list_all (λ p. is_failed b p || is_over b p) b.living) (option_map (λ r. IsSpent (Over r)) (option_and_then (over_reason b) (first_over b))) None) no_verdict

  contradiction : ⊥
  contradiction = go (first_over b) refl
    where
      not_all : list_all (is_failed b) b.living ≡ true → ⊥
      not_all h = none_some (sym (subst {A = Bool} (λ x. some_if x AllFailed ≡ None) h parts.1))

      go : (o : Option Name) → first_over b ≡ o → ⊥
      go None e = not_all (all_of (is_failed b) b.living (λ p i. failed_unless_over p i (find_none (is_over b) b.living e p i)))
      go (Some q) e =
          let r = over_has_reason b.over q (find_in (is_over b) b.living q e).1 in
          let h : option_map (λ r. IsSpent (Over r)) (option_and_then (over_reason b) (first_over b)) ≡ None = subst {A = Bool} (λ x. cond x (option_map (λ r. IsSpent (Over r)) (option_and_then (over_reason b) (first_over b))) None ≡ None) failed_or_over parts.3 in
          let k : option_map (λ r. IsSpent (Over r)) (over_reason b q) ≡ None = subst {A = Option Name} (λ z. option_map (λ r. IsSpent (Over r)) (option_and_then (over_reason b) z) ≡ None) e h in
          none_some (sym (subst {A = Option Reason} (λ z. option_map (λ r. IsSpent (Over r)) z ≡ None) r.1 k))

-- where no verdict stands and no job may be taken, some ticket is in flight
pub some_flies : (b : Plain) → SleepersWait b → verdict b ≡ None → free_jobs b ≡ [] → b.flight ≢ []
some_flies b waits h k e = contradiction b waits h k e
