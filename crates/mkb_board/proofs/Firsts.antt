-- The first job is the least of those that the processes would take first.
use Rattle.mkb_agenda.proofs.Sleeping.{cost_alike}
use Rattle.std.proofs.Common.{◌≡◌, ℕ, refl, ap, ap₂, ◌∙◌, List, [], ◌∷◌, ◌++◌, filter, flat_map, Bool, true, false, cond, ◌&&◌, Option}
use Rattle.std.proofs.lemmas.List.Elements.{filter-append}
use Rattle.kb_label.specs.Names.{Name}
use Rattle.kb_node.specs.declared.job.Job.{Job}
use Rattle.kb_node.specs.declared.job.Job.TheVariants.{Close}
use Rattle.mkb_model.specs.Jobs.{job_cmp, least, is_free}
use Rattle.mkb_model.specs.Plain.{Plain, cost, weight, weight_by}
use Rattle.mkb_model.specs.DueJobs.{is_due, work_of, due_jobs_of, first_job, awake}
use Rattle.mkb_model.specs.declared.entry.Ticket.{Ticket}
use Rattle.mkb_model.specs.declared.settings.Selection.{Selection}
use Rattle.mkb_model.specs.declared.settings.Selection.TheVariants.{Stated, Size}
use Rattle.mkb_board.specs.Choosing.{jobs_of, first_choice, merged}
use Rattle.mkb_board.proofs.Least.{least_append, job_cmp-total}

pub filter_both : {A : Type 0} (s t : A → Bool) (xs : List A) → filter s (filter t xs) ≡ filter (λ x. t x && s x) xs
filter_both s t [] = refl
filter_both s t (x ∷ xs) = go (t x) (filter_both s t xs)
  where
    go : (b : Bool) → filter s (filter t xs) ≡ filter (λ x. t x && s x) xs → filter s (cond b (x ∷ filter t xs) (filter t xs)) ≡ cond (b && s x) (x ∷ filter (λ x. t x && s x) xs) (filter (λ x. t x && s x) xs)
    go true h = ap (λ zs. cond (s x) (x ∷ zs) zs) h
    go false h = h

-- the least free job of the processes
abbrev pub least_free : Plain → List Job → List Name → Option Job
least_free b flight ps = least (job_cmp (cost b) (weight b)) (filter (is_free flight) (flat_map (due_jobs_of b) ps))

-- the least of one process is its first choice
pub one_least : (b : Plain) (flight : List Job) (p : Name) → least (job_cmp (cost b) (weight b)) (filter (is_free flight) (due_jobs_of b p)) ≡ first_choice b flight p
one_least b flight p = ap (least (job_cmp (cost b) (weight b))) (filter_both (is_free flight) (is_due b) (work_of b p ++ Close p ∷ []))

-- the lesser of the first choice of one process and what the others would take
pub least_step : (b : Plain) (flight : List Job) (p : Name) (ps : List Name) → least_free b flight (p ∷ ps) ≡ merged (job_cmp (cost b) (weight b)) (first_choice b flight p) (least_free b flight ps)
least_step b flight p ps =
    ap (least (job_cmp (cost b) (weight b))) (filter-append (is_free flight) (due_jobs_of b p) (flat_map (due_jobs_of b) ps))
    ∙ least_append (job_cmp (cost b) (weight b)) (job_cmp-total (cost b) (weight b)) (filter (is_free flight) (due_jobs_of b p)) (filter (is_free flight) (flat_map (due_jobs_of b) ps))
    ∙ ap (λ o. merged (job_cmp (cost b) (weight b)) o (least_free b flight ps)) (one_least b flight p)

-- the first job of the board with these tickets in flight
pub first_as : (b : Plain) (ts : List Ticket) → first_job (record b { flight = ts }) ≡ least_free b (jobs_of ts) (awake b)
first_as b ts = ap₂ (λ (c : Name → ℕ) (w : Job → ℕ). least (job_cmp c w) (filter (is_free (jobs_of ts)) (flat_map (due_jobs_of b) (awake b)))) (cost_alike b ts b.asleep) (weight_same b.settings.selection)
  where
    weight_same : (by : Selection) → weight_by by (record b { flight = ts }) ≡ weight_by by b
    weight_same Stated = refl
    weight_same Size = refl
