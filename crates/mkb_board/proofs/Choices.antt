-- What a process would take first.
use Rattle.std.proofs.Common.{◌≡◌, refl, ap, ◌∙◌, List, [], ◌∷◌, ◌++◌, map, filter, flat_map, Contains, ⊎_elim, subst, Bool, true, false, cond, not, ◌&&◌, None}
use Rattle.std.specs.List.{list_any}
use Rattle.std.proofs.lemmas.List.Elements.{Contains-append_cases, filter-append}
use Rattle.std.proofs.Math.Bool.{and-false}
use Rattle.kb_lemmas.proofs.Lists.{filter_none_of}
use Rattle.kb_lemmas.proofs.Membership.{contains_mapped, contains_flat_map_back, contains_first, contains_behind}
use Rattle.kb_term.specs.declared.origin.RuleRef.{RuleRef}
use Rattle.kb_label.specs.Names.{Name, has}
use Rattle.kb_node.specs.declared.job.Job.{Job}
use Rattle.kb_node.specs.declared.job.Job.TheVariants.{Reduce, Orient, Overlap, Close}
use Rattle.mkb_model.specs.Jobs.{job_cmp, least, is_free}
use Rattle.mkb_model.specs.Plain.{Plain, node_numbers, rules_of, is_over, cost, weight}
use Rattle.mkb_model.specs.DueJobs.{is_due, is_working, is_work_due, is_close_due, work_of}
use Rattle.mkb_board.specs.Choosing.{is_choice, first_choice, merged, ClosedRest}
use Rattle.mkb_board.proofs.Idle.{due_as, working_so}
use Rattle.mkb_board.proofs.Least.{least_append, job_cmp-total}

filter_alike : {A : Type 0} (q e : A → Bool) (xs : List A) → ((x : A) → Contains xs x → q x ≡ e x) → filter q xs ≡ filter e xs
filter_alike q e [] same = refl
filter_alike q e (x ∷ xs) same =
    ap (λ b. cond b (x ∷ filter q xs) (filter q xs)) (same x (contains_first x xs))
    ∙ ap (λ zs. cond (e x) (x ∷ zs) zs) (filter_alike q e xs (λ y i. same y (contains_behind x xs y i)))

-- what is due and free among these
abbrev pub open_in : Plain → List Job → List Job → List Job
open_in b flight js = filter (λ j. is_due b j && is_free flight j) js

-- the lesser of the work and of the closing
pub choice_parts : (b : Plain) (flight : List Job) (p : Name)
    → first_choice b flight p ≡ merged (job_cmp (cost b) (weight b)) (least (job_cmp (cost b) (weight b)) (open_in b flight (work_of b p))) (least (job_cmp (cost b) (weight b)) (open_in b flight (Close p ∷ [])))
choice_parts b flight p =
    ap (least (job_cmp (cost b) (weight b))) (filter-append (λ j. is_due b j && is_free flight j) (work_of b p) (Close p ∷ []))
    ∙ least_append (job_cmp (cost b) (weight b)) (job_cmp-total (cost b) (weight b)) (open_in b flight (work_of b p)) (open_in b flight (Close p ∷ []))

-- of a process that works what is due is what is due by what it sees
pub open_works : (b : Plain) (flight : List Job) (p : Name) → has b.living p ≡ true → is_over b p ≡ false → open_in b flight (work_of b p) ≡ filter (is_choice b flight) (work_of b p)
open_works b flight p lives going =
    filter_alike (λ j. is_due b j && is_free flight j) (is_choice b flight) (work_of b p) (λ j i. ap (λ z. z && is_free flight j) (due_as b p (working_so b p lives going) j i))

due_for : (b : Plain) (p : Name) (j : Job) → Contains (work_of b p) j → is_due b j ≡ (is_working b p && is_work_due b j)
due_for b p j i =
    ⊎_elim reduce (λ k. ⊎_elim orient overlap (Contains-append_cases (map (λ n. Orient p (record { 0 = n })) (node_numbers b)) (flat_map (λ (a : RuleRef). map (Overlap p a) (rules_of b p)) (rules_of b p)) j k))
    (Contains-append_cases (map (λ n. Reduce p (record { 0 = n })) (node_numbers b)) (map (λ n. Orient p (record { 0 = n })) (node_numbers b) ++ flat_map (λ (a : RuleRef). map (Overlap p a) (rules_of b p)) (rules_of b p)) j i)
  where
    reduce : Contains (map (λ n. Reduce p (record { 0 = n })) (node_numbers b)) j → is_due b j ≡ (is_working b p && is_work_due b j)
    reduce k =
        let m = contains_mapped (λ n. Reduce p (record { 0 = n })) (node_numbers b) j k in
        subst {A = Job} (λ z. is_due b z ≡ (is_working b p && is_work_due b z)) m.2 refl

    orient : Contains (map (λ n. Orient p (record { 0 = n })) (node_numbers b)) j → is_due b j ≡ (is_working b p && is_work_due b j)
    orient k =
        let m = contains_mapped (λ n. Orient p (record { 0 = n })) (node_numbers b) j k in
        subst {A = Job} (λ z. is_due b z ≡ (is_working b p && is_work_due b z)) m.2 refl

    overlap : Contains (flat_map (λ (a : RuleRef). map (Overlap p a) (rules_of b p)) (rules_of b p)) j → is_due b j ≡ (is_working b p && is_work_due b j)
    overlap k =
        let q = contains_flat_map_back (λ (a : RuleRef). map (Overlap p a) (rules_of b p)) (rules_of b p) j k in
        let m = contains_mapped (Overlap p q.0) (rules_of b p) j q.2 in
        subst {A = Job} (λ z. is_due b z ≡ (is_working b p && is_work_due b z)) m.2 refl

-- a process that gave up takes none
pub choice_over : (b : Plain) (flight : List Job) (p : Name) → is_over b p ≡ true → first_choice b flight p ≡ None
choice_over b flight p over =
    let idle : is_working b p ≡ false = ap (λ z. has b.living p && not z) over ∙ and-false (has b.living p) in
    let R = job_cmp (cost b) (weight b) in
    choice_parts b flight p
    ∙ ap (λ js. merged R (least R js) (least R (open_in b flight (Close p ∷ []))))
    (filter_none_of (λ j. is_due b j && is_free flight j) (work_of b p) (λ j i. ap (λ z. z && is_free flight j) (due_for b p j i ∙ ap (λ z. z && is_work_due b j) idle)))
    ∙ ap (λ z. least R (cond (z && is_free flight (Close p)) (Close p ∷ []) [])) (ap (λ z. z && is_close_due b p) idle)

-- nor does one that is closed, where nothing is due for who is closed
pub choice_closed : (b : Plain) (flight : List Job) (p : Name) → ClosedRest b → has b.closed p ≡ true → first_choice b flight p ≡ None
choice_closed b flight p rest closed =
    let shut : is_close_due b p ≡ false = ap (λ z. not (list_any (is_work_due b) (work_of b p)) && not z) closed ∙ and-false (not (list_any (is_work_due b) (work_of b p))) in
    let R = job_cmp (cost b) (weight b) in
    choice_parts b flight p
    ∙ ap (λ js. merged R (least R js) (least R (open_in b flight (Close p ∷ []))))
    (filter_none_of (λ j. is_due b j && is_free flight j) (work_of b p) (λ j i. ap (λ z. z && is_free flight j) (due_for b p j i ∙ ap (λ z. is_working b p && z) ((rest p closed).no_work j i) ∙ and-false (is_working b p))))
    ∙ ap (λ z. least R (cond (z && is_free flight (Close p)) (Close p ∷ []) [])) (ap (λ z. is_working b p && z) shut ∙ and-false (is_working b p))
