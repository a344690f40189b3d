-- Where nothing is due for a process.
use Rattle.std.proofs.Common.{◌≡◌, refl, sym, ap, ◌∙◌, List, [], ◌∷◌, ◌++◌, map, filter, flat_map, Contains, Bool, true, false, cond, not, ◌&&◌, ◌||◌, Some, ⊎_elim, subst}
use Rattle.std.specs.List.{find, list_any}
use Rattle.std.specs.Option.{is_none}
use Rattle.std.proofs.lemmas.List.Elements.{Contains-append_cases}
use Rattle.std.proofs.Math.Bool.{and-true}
use Rattle.kb_lemmas.proofs.Membership.{contains_first, contains_behind, contains_mapped, contains_flat_map_back}
use Rattle.kb_term.specs.declared.origin.RuleRef.{RuleRef}
use Rattle.kb_label.specs.Names.{Name, has}
use Rattle.kb_node.specs.declared.job.Job.{Job}
use Rattle.kb_node.specs.declared.job.Job.TheVariants.{Reduce, Orient, Overlap, Close}
use Rattle.mkb_model.specs.Plain.{Plain, equations_of, node_numbers, rules_of, is_over}
use Rattle.mkb_model.specs.DueJobs.{is_due, is_working, is_work_due, is_close_due, work_of, due_jobs_of}
use Rattle.mkb_model.specs.Sleeping.{is_failed, no_members}
use Rattle.mkb_model.proofs.Lists.{clash, false_unless, none_any}
use Rattle.mkb_board.specs.Choosing.{is_choice, ClosedRest}

-- ---- lists

none_pass : {A : Type 0} (d e : A → Bool) (xs : List A) (c : A) → ((x : A) → Contains xs x → d x ≡ e x) → no_members (filter d (xs ++ c ∷ [])) ≡ (not (list_any e xs) && not (d c))
none_pass d e [] c same = go (d c)
  where
    go : (b : Bool) → no_members (cond b (c ∷ []) []) ≡ (true && not b)
    go true = refl
    go false = refl
none_pass d e (x ∷ xs) c same = ap (λ b. no_members (cond b (x ∷ filter d (xs ++ c ∷ [])) (filter d (xs ++ c ∷ [])))) (same x (contains_first x xs)) ∙ go (e x) (none_pass d e xs c (λ y i. same y (contains_behind x xs y i)))
  where
    go : (b : Bool) → no_members (filter d (xs ++ c ∷ [])) ≡ (not (list_any e xs) && not (d c)) → no_members (cond b (x ∷ filter d (xs ++ c ∷ [])) (filter d (xs ++ c ∷ []))) ≡ (not (b || list_any e xs) && not (d c))
    go true h = refl
    go false h = h

pub none_found : {A : Type 0} (q e : A → Bool) (xs : List A) → ((x : A) → q x ≡ e x) → is_none (find q xs) ≡ not (list_any e xs)
none_found q e [] same = refl
none_found q e (x ∷ xs) same = ap (λ b. is_none (cond b (Some x) (find q xs))) (same x) ∙ go (e x) (none_found q e xs same)
  where
    go : (b : Bool) → is_none (find q xs) ≡ not (list_any e xs) → is_none (cond b (Some x) (find q xs)) ≡ not (b || list_any e xs)
    go true h = refl
    go false h = h

-- ---- due jobs

pub true_and : (x : Bool) {y : Bool} → y ≡ true → (y && x) ≡ x
true_and x h = ap (λ z. z && x) h

pub due_as : (b : Plain) (p : Name) → is_working b p ≡ true → (j : Job) → Contains (work_of b p) j → is_due b j ≡ is_work_due b j
due_as b p working j i =
    ⊎_elim reduce (λ k. ⊎_elim orient overlap (Contains-append_cases (map (λ n. Orient p (record { 0 = n })) (node_numbers b)) (flat_map (λ (a : RuleRef). map (Overlap p a) (rules_of b p)) (rules_of b p)) j k))
    (Contains-append_cases (map (λ n. Reduce p (record { 0 = n })) (node_numbers b)) (map (λ n. Orient p (record { 0 = n })) (node_numbers b) ++ flat_map (λ (a : RuleRef). map (Overlap p a) (rules_of b p)) (rules_of b p)) j i)
  where
    reduce : Contains (map (λ n. Reduce p (record { 0 = n })) (node_numbers b)) j → is_due b j ≡ is_work_due b j
    reduce k =
        let m = contains_mapped (λ n. Reduce p (record { 0 = n })) (node_numbers b) j k in
        subst {A = Job} (λ z. is_due b z ≡ is_work_due b z) m.2 (true_and (is_work_due b (Reduce p (record { 0 = m.0 }))) working)

    orient : Contains (map (λ n. Orient p (record { 0 = n })) (node_numbers b)) j → is_due b j ≡ is_work_due b j
    orient k =
        let m = contains_mapped (λ n. Orient p (record { 0 = n })) (node_numbers b) j k in
        subst {A = Job} (λ z. is_due b z ≡ is_work_due b z) m.2 (true_and (is_work_due b (Orient p (record { 0 = m.0 }))) working)

    overlap : Contains (flat_map (λ (a : RuleRef). map (Overlap p a) (rules_of b p)) (rules_of b p)) j → is_due b j ≡ is_work_due b j
    overlap k =
        let q = contains_flat_map_back (λ (a : RuleRef). map (Overlap p a) (rules_of b p)) (rules_of b p) j k in
        let m = contains_mapped (Overlap p q.0) (rules_of b p) j q.2 in
        subst {A = Job} (λ z. is_due b z ≡ is_work_due b z) m.2 (true_and (is_work_due b (Overlap p q.0 m.0)) working)

pub working_so : (b : Plain) (p : Name) → has b.living p ≡ true → is_over b p ≡ false → is_working b p ≡ true
working_so b p lives going = true_and (not (is_over b p)) lives ∙ ap not going

idle_or : (any closed : Bool) → (not any && not (not any && not closed)) ≡ (closed && not any)
idle_or true true = refl
idle_or true false = refl
idle_or false true = refl
idle_or false false = refl

-- nothing is due for a process that is closed and has no other work
pub nothing_due : (b : Plain) (p : Name) → has b.living p ≡ true → is_over b p ≡ false → no_members (due_jobs_of b p) ≡ (has b.closed p && is_none (find (is_choice b []) (work_of b p)))
nothing_due b p lives going =
    let working = working_so b p lives going in
    none_pass (is_due b) (is_work_due b) (work_of b p) (Close p) (due_as b p working)
    ∙ ap (λ z. not (list_any (is_work_due b) (work_of b p)) && not z) (true_and (is_close_due b p) working)
    ∙ idle_or (list_any (is_work_due b) (work_of b p)) (has b.closed p)
    ∙ ap (λ z. has b.closed p && z) (sym (none_found (is_choice b []) (is_work_due b) (work_of b p) (λ j. and-true (is_work_due b j))))

-- where nothing is due for who is closed, nothing is due for a process just where it is closed
pub idle_closed : (b : Plain) (p : Name) → ClosedRest b → has b.living p ≡ true → is_over b p ≡ false → has b.closed p ≡ no_members (due_jobs_of b p)
idle_closed b p rest lives going = sym (nothing_due b p lives going ∙ go (has b.closed p) refl)
  where
    go : (t : Bool) → has b.closed p ≡ t → (t && is_none (find (is_choice b []) (work_of b p))) ≡ t
    go false e = refl
    go true e =
        none_found (is_choice b []) (is_work_due b) (work_of b p) (λ j. and-true (is_work_due b j))
        ∙ ap not (none_any (is_work_due b) (work_of b p) (rest p e).no_work)

-- then a process has failed just where it is closed and has an equation
pub failed_closed : (b : Plain) (p : Name) → ClosedRest b → has b.living p ≡ true → is_failed b p ≡ (has b.closed p && not (no_members (equations_of b p)))
failed_closed b p rest lives = go (is_over b p) refl
  where
    some : Bool
    some = not (no_members (equations_of b p))

    open_over : is_over b p ≡ true → has b.closed p ≡ false
    open_over over = false_unless (has b.closed p) (λ closed. clash over (rest p closed).not_over)

    swap : (x y : Bool) → (x && y) ≡ (y && x)
    swap true true = refl
    swap true false = refl
    swap false true = refl
    swap false false = refl

    go : (x : Bool) → is_over b p ≡ x → is_failed b p ≡ (has b.closed p && some)
    go true over = ap (λ z. not z && (some && no_members (due_jobs_of b p))) over ∙ sym (ap (λ z. z && some) (open_over over))
    go false going =
        ap (λ z. not z && (some && no_members (due_jobs_of b p))) going
        ∙ ap (λ z. some && z) (sym (idle_closed b p rest lives going))
        ∙ swap some (has b.closed p)
