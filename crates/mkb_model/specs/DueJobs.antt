-- Which jobs are due, and which of them is taken first.
use Rattle.std.specs.Prelude.{ℕ, List, [], ◌∷◌, ◌++◌, map, Bool, true, false, ◌&&◌, ◌||◌, not, ◌==◌, filter}
use Rattle.std.specs.List.{list_any, flat_map}
use Rattle.std.specs.declared.option.Option.{Option}
use Rattle.std.specs.declared.option.Option.TheVariants.{Some, None}
use Rattle.kb_label.specs.Names.{Name, has, minus}
use Rattle.mkb_model.specs.Plain.{Plain, node_numbers, label, other, is_equation, is_rule, rules_of, done_of, known, is_over, cost, weight}
use Rattle.kb_term.specs.declared.origin.RuleRef.{RuleRef}
use Rattle.kb_term.specs.declared.origin.Found.{Found}
use Rattle.kb_term.specs.declared.origin.Found.TheVariants.{No, Variant, Strict}
use Rattle.kb_node.specs.declared.node.LabelKind.TheVariants.{X}
use Rattle.kb_node.specs.declared.job.Job.{Job}
use Rattle.kb_node.specs.declared.job.Job.TheVariants.{Reduce, Orient, Overlap, Close}
use Rattle.mkb_model.specs.declared.entry.Ticket.{Ticket}
use Rattle.mkb_model.specs.Jobs.{ref_le, job_cmp, least, is_free}

-- ---- which jobs are due

-- a redex on side w of node n is one that p may rewrite: any where p has the node as an equation, or as the rule with w on the right, and a strict one on the left
abbrev pub is_usable : Plain → Name → ℕ → ℕ → Found → Bool
is_usable b p n w No = false
is_usable b p n w Variant = is_equation b p n || is_rule b p (record { node = n; dir = other w })
is_usable b p n w Strict = true

-- nothing is known of the side and the rule, or a usable redex
abbrev pub is_open : Plain → Name → ℕ → ℕ → Option Found → Bool
is_open b p n w None = true
is_open b p n w (Some found) = is_usable b p n w found

-- the rules of p in nodes other than n
abbrev pub reducers : Plain → Name → ℕ → List RuleRef
reducers b p n = filter (λ (a : RuleRef). not (a.node == n)) (rules_of b p)

-- p has the node as an equation or a rule
abbrev pub is_node_of : Plain → Name → ℕ → Bool
is_node_of b p n = is_equation b p n || (is_rule b p (record { node = n; dir = 0 }) || is_rule b p (record { node = n; dir = 1 }))

-- some side of the node and some rule of p elsewhere are still open
abbrev pub is_reducible : Plain → Name → ℕ → Bool
is_reducible b p n = list_any (λ (a : RuleRef). list_any (λ w. is_open b p n w (known b n w a)) (0 ∷ 1 ∷ [])) (reducers b p n)

-- the process lives and has not given up
abbrev pub is_working : Plain → Name → Bool
is_working b p = has b.living p && not (is_over b p)

-- reducing, orienting and overlapping are due by what the process sees
abbrev pub is_work_due : Plain → Job → Bool
is_work_due b (Reduce p n) = is_node_of b p n.0 && is_reducible b p n.0
is_work_due b (Orient p n) = is_equation b p n.0 && not (has (label b n.0 X) p)
is_work_due b (Overlap p a c) = (is_rule b p a && is_rule b p c) && (ref_le a c && not (has (done_of b a c) p))
is_work_due b (Close p) = false

-- all jobs of the first three kinds that the process might have, in their order
abbrev pub work_of : Plain → Name → List Job
work_of b p = map (λ n. Reduce p (record { 0 = n })) (node_numbers b)
    ++ (map (λ n. Orient p (record { 0 = n })) (node_numbers b)
    ++ flat_map (λ (a : RuleRef). map (Overlap p a) (rules_of b p)) (rules_of b p))

-- closing is due where no other work is, and the process is not closed yet
abbrev pub is_close_due : Plain → Name → Bool
is_close_due b p = not (list_any (is_work_due b) (work_of b p)) && not (has b.closed p)

-- the job is due for a process that lives and has not given up
abbrev pub is_due : Plain → Job → Bool
is_due b (Reduce p n) = is_working b p && is_work_due b (Reduce p n)
is_due b (Orient p n) = is_working b p && is_work_due b (Orient p n)
is_due b (Overlap p a c) = is_working b p && is_work_due b (Overlap p a c)
is_due b (Close p) = is_working b p && is_close_due b p

-- the due jobs of a process, in their order
abbrev pub due_jobs_of : Plain → Name → List Job
due_jobs_of b p = filter (is_due b) (work_of b p ++ Close p ∷ [])

-- ---- the first job

-- the jobs in flight
abbrev pub flying_jobs : Plain → List Job
flying_jobs b = map (λ (t : Ticket). t.job) b.flight

-- the processes that get jobs: those that live and don't sleep
abbrev pub awake : Plain → List Name
awake b = minus b.living b.asleep

-- all due jobs of the processes that get jobs
abbrev pub due_jobs : Plain → List Job
due_jobs b = flat_map (due_jobs_of b) (awake b)

-- the due jobs that clash with none in flight
abbrev pub free_jobs : Plain → List Job
free_jobs b = filter (is_free (flying_jobs b)) (due_jobs b)

-- the job that is taken next: the least due job that clashes with none in flight
abbrev pub first_job : Plain → Option Job
first_job b = least (job_cmp (cost b) (weight b)) (free_jobs b)
