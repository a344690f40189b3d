-- What a verdict means for the processes.
use Rattle.std.proofs.Common.{ℕ, ◌≡◌, ◌≢◌, inl, inr, refl, sym, subst, arith, eqb→eq, List, [], ◌∷◌, ◌++◌, map, flat_map, length, Contains, Bool, true, false, cond, not, ◌&&◌, ◌||◌, ◌==◌, Option, Some, None, ⊎_elim}
use Rattle.std.specs.Prelude.{T, option_map, option_and_then}
use Rattle.std.specs.List.{find, list_any, list_all}
use Rattle.std.proofs.lemmas.Bool.{eq-eqb, and_from, and_cases, or_cases, or_left}
use Rattle.std.proofs.lemmas.List.Elements.{Contains-append_left, Contains-append_right}
use Rattle.kb_lemmas.proofs.Membership.{contains_first, none_in, contains_map}
use Rattle.kb_lemmas.proofs.Booleans.{and_gives_left, and_gives_right}
use Rattle.kb_lemmas.proofs.Options.{some_is, none_some}
use Rattle.kb_term.specs.declared.origin.RuleRef.{RuleRef}
use Rattle.kb_label.specs.Names.{Name, has}
use Rattle.kb_label.specs.declared.verdict.Reason.{Reason}
use Rattle.kb_label.specs.declared.verdict.Spent.TheVariants.{Commits, Over}
use Rattle.kb_label.specs.declared.verdict.Verdict.{Verdict}
use Rattle.kb_label.specs.declared.verdict.Verdict.TheVariants.{Complete, AllFailed, Spent as IsSpent}
use Rattle.kb_node.specs.declared.node.LabelKind.TheVariants.{E, X}
use Rattle.kb_node.specs.declared.job.Job.{Job}
use Rattle.kb_node.specs.declared.job.Job.TheVariants.{Reduce, Orient, Overlap, Close}
use Rattle.mkb_model.specs.Plain.{Plain, label, is_equation, is_rule, equations_of, rules_of, node_numbers, is_over, over_reason}
use Rattle.mkb_model.specs.DueJobs.{is_due, is_work_due, is_close_due, is_working, is_node_of, is_reducible, work_of, due_jobs_of}
use Rattle.mkb_model.specs.Effects.{first_some, some_if}
use Rattle.mkb_model.specs.Verdicts.{verdict, is_complete, first_over, HasFailed, HaveGivenUp, VerdictMeans}
use Rattle.mkb_model.specs.Sleeping.{is_failed, no_members}
use Rattle.mkb_model.proofs.Lists.{clash, false_unless, not_true, not_false, not_of_false, in_filter, find_in, none_any, of_all, in_numbers}
use Rattle.mkb_model.proofs.commits.Roles.{on_there}
use Rattle.mkb_model.proofs.runs.Endings.{has_in, in_has, nones, no_members_is, work_is_own}

-- ---- failed processes

module _ (b : Plain) (p : Name) (lives : has b.living p ≡ true) (failed : is_failed b p ≡ true) where
  not_over : is_over b p ≡ false
  not_over = not_true (and_gives_left (not (is_over b p)) (not (no_members (equations_of b p)) && no_members (due_jobs_of b p)) failed)

  rest : (not (no_members (equations_of b p)) && no_members (due_jobs_of b p)) ≡ true
  rest = and_gives_right (not (is_over b p)) (not (no_members (equations_of b p)) && no_members (due_jobs_of b p)) failed

  no_job : due_jobs_of b p ≡ []
  no_job = no_members_is (due_jobs_of b p) (and_gives_right (not (no_members (equations_of b p))) (no_members (due_jobs_of b p)) rest)

  working : is_working b p ≡ true
  working = and_from (has b.living p) (not (is_over b p)) lives (not_of_false not_over)

  none_due : (j : Job) → Contains (work_of b p ++ Close p ∷ []) j → is_due b j ≡ false
  none_due j c = false_unless (is_due b j) (λ h. none_in (subst {A = List Job} (λ js. Contains js j) no_job (in_filter (is_due b) (work_of b p ++ Close p ∷ []) j c h)))

  no_work : (j : Job) → Contains (work_of b p) j → is_work_due b j ≡ false
  no_work j c = false_unless (is_work_due b j) (λ h. clash (work_is_own b p j c working h) (none_due j (Contains-append_left (work_of b p) (Close p ∷ []) j c)))

  there : (n : ℕ) → is_equation b p n ≡ true → Contains (node_numbers b) n
  there n e = let l = on_there b.nodes p n E e in in_numbers 0 (length b.nodes) n (omega arith) (omega (arith, l))

  abbrev reduces : List Job
  reduces = map (λ n. Reduce p (record { 0 = n })) (node_numbers b)

  abbrev orients : List Job
  orients = map (λ n. Orient p (record { 0 = n })) (node_numbers b)

  abbrev overlaps : List Job
  overlaps = flat_map (λ (a : RuleRef). map (Overlap p a) (rules_of b p)) (rules_of b p)

  refused : (n : ℕ) → is_equation b p n ≡ true → has (label b n X) p ≡ true
  refused n e = ⊎_elim (λ h. clash e h) (λ h. not_false h) (and_cases (is_equation b p n) (not (has (label b n X) p))
      (no_work (Orient p (record { 0 = n })) (Contains-append_right reduces (orients ++ overlaps) (Orient p (record { 0 = n })) (Contains-append_left orients overlaps (Orient p (record { 0 = n })) (contains_map (λ n. Orient p (record { 0 = n })) (node_numbers b) n (there n e))))))

  irreducible : (n : ℕ) → is_equation b p n ≡ true → is_reducible b p n ≡ false
  irreducible n e = ⊎_elim (λ h. clash (or_left (is_equation b p n) (is_rule b p (record { node = n; dir = 0 }) || is_rule b p (record { node = n; dir = 1 })) e) h) (λ h. h) (and_cases (is_node_of b p n) (is_reducible b p n)
      (no_work (Reduce p (record { 0 = n })) (Contains-append_left reduces (orients ++ overlaps) (Reduce p (record { 0 = n })) (contains_map (λ n. Reduce p (record { 0 = n })) (node_numbers b) n (there n e)))))

  closed : has b.closed p ≡ true
  closed = ⊎_elim (λ h. clash working h) (λ h. ⊎_elim (λ k. clash (not_of_false (none_any (is_work_due b) (work_of b p) no_work)) k) (λ k. not_false k) (and_cases (not (list_any (is_work_due b) (work_of b p))) (not (has b.closed p)) h))
      (and_cases (is_working b p) (is_close_due b p) (none_due (Close p) (Contains-append_right (work_of b p) (Close p ∷ []) (Close p) (contains_first (Close p) []))))

  -- a failed process that lives is closed, and its equations are refused and have no redex
  pub has_failed : HasFailed b p
  has_failed = record {
    not_over = not_over;
    some_equation = λ e. clash (subst {A = List ℕ} (λ ns. no_members ns ≡ true) (sym e) refl) (not_true (and_gives_left (not (no_members (equations_of b p))) (no_members (due_jobs_of b p)) rest));
    no_job = no_job;
    closed = closed;
    refused = refused;
    irreducible = irreducible;
  }

-- ---- verdicts

-- what of the four parts of a verdict makes it this one
abbrev ComesOf : Option Name → Bool → Bool → Bool → Option Reason → Verdict → Type 0
ComesOf a f s o r (Complete p) = a ≡ Some p
ComesOf a f s o r AllFailed = f ≡ true
ComesOf a f s o r (IsSpent Commits) = s ≡ true
ComesOf a f s o r (IsSpent (Over k)) = (o ≡ true) × (r ≡ Some k)

comes_of : (a : Option Name) (f s o : Bool) (r : Option Reason) (v : Verdict)
    → first_some (option_map Complete a ∷ some_if f AllFailed ∷ some_if s (IsSpent Commits) ∷ cond o (option_map (λ k. IsSpent (Over k)) r) None ∷ []) ≡ Some v → ComesOf a f s o r v
comes_of (Some q) f s o r v h = subst {A = Verdict} (ComesOf (Some q) f s o r) (some_is h) refl
comes_of None true s o r v h = subst {A = Verdict} (ComesOf None true s o r) (some_is h) refl
comes_of None false true o r v h = subst {A = Verdict} (ComesOf None false true o r) (some_is h) refl
comes_of None false false true (Some k) v h = subst {A = Verdict} (ComesOf None false false true (Some k)) (some_is h) (refl, refl)
comes_of None false false true None v h = none_some h
comes_of None false false false r v h = none_some h

-- the verdict means what it says
pub verdict_means : (b : Plain) (v : Verdict) → verdict b ≡ Some v → VerdictMeans b v
verdict_means b v h = go v (comes_of (find (is_complete b) b.living) (list_all (is_failed b) b.living) (b.commits == b.settings.budget) (list_all (λ p. is_failed b p || is_over b p) b.living) (option_and_then (over_reason b) (first_over b)) v h)
  where
    over : (r : Reason) (o : Option Name) → first_over b ≡ o → option_and_then (over_reason b) o ≡ Some r → list_all (λ p. is_failed b p || is_over b p) b.living ≡ true → HaveGivenUp b r
    over r None e k all = none_some k
    over r (Some q) e k all = record {
      each = λ p lives. ⊎_elim (λ i. inl (has_failed b p lives i)) (λ i. inr i) (or_cases (is_failed b p) (is_over b p) (of_all (λ p. is_failed b p || is_over b p) b.living all p (in_has b.living p lives)));
      some = q;
      lives = has_in b.living q (find_in (is_over b) b.living q e).0;
      reason = k;
    }

    go : (v : Verdict) → ComesOf (find (is_complete b) b.living) (list_all (is_failed b) b.living) (b.commits == b.settings.budget) (list_all (λ p. is_failed b p || is_over b p) b.living) (option_and_then (over_reason b) (first_over b)) v → VerdictMeans b v
    go (Complete p) c =
        let f = find_in (is_complete b) b.living p c in
        record { lives = has_in b.living p f.0; closed = and_gives_right (no_members (equations_of b p)) (has b.closed p) f.1; no_equation = no_members_is (equations_of b p) (and_gives_left (no_members (equations_of b p)) (has b.closed p) f.1) }
    go AllFailed c = λ p lives. has_failed b p lives (of_all (is_failed b) b.living c p (in_has b.living p lives))
    go (IsSpent Commits) c = eqb→eq b.commits b.settings.budget (subst {A = Bool} T (sym c) tt)
    go (IsSpent (Over r)) c = over r (first_over b) refl c.1 c.0

-- where no verdict stands the budget is not spent
pub budget_left : (b : Plain) → verdict b ≡ None → b.commits ≢ b.settings.budget
budget_left b h e = unspent (b.commits == b.settings.budget) (eq-eqb b.commits b.settings.budget e) (nones (option_map Complete (find (is_complete b) b.living)) (some_if (list_all (is_failed b) b.living) AllFailed) (some_if (b.commits == b.settings.budget) (IsSpent Commits)) (cond (list_all (λ p. is_failed b p || is_over b p) b.living) (option_map (λ r. IsSpent (Over r)) (option_and_then (over_reason b) (first_over b))) None) h).2
  where
    unspent : (x : Bool) → x ≡ true → some_if x (IsSpent Commits) ≡ None → ⊥
    unspent true d k = none_some (sym k)
    unspent false d k = clash d refl
