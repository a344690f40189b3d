-- Which jobs may be chosen.
use Rattle.std.specs.Prelude.{ℕ, List, [], ◌∷◌, ◌++◌, map, Bool, ◌&&◌, ◌+◌, filter, if◌then◌else◌, IsTrue}
use Rattle.std.specs.List.{flat_map}
use Rattle.std.specs.Option.{option_map_or}
use Rattle.kb_term.specs.declared.origin.RuleRef.{RuleRef}
use Rattle.std.specs.declared.cmp.Ordering.{Ordering}
use Rattle.std.specs.declared.option.Option.{Option}
use Rattle.std.specs.declared.option.Option.TheVariants.{Some, None}
use Rattle.kb_label.specs.Names.{Name, name_cmp, has}
use Rattle.kb_node.specs.declared.job.Job.{Job}
use Rattle.kb_node.specs.declared.job.Job.TheVariants.{Overlap, Close}
use Rattle.mkb_model.specs.Jobs.{job_cmp, is_free, lesser, least}
use Rattle.mkb_model.specs.Plain.{Plain, is_rule, is_equation, is_constraint, rules_of, cost, weight}
use Rattle.mkb_model.specs.Invariants.{IsAtRest}
use Rattle.mkb_model.specs.DueJobs.{is_work_due, is_due, work_of}
use Rattle.mkb_model.specs.declared.entry.Ticket.{Ticket}
use Rattle.mkb_model.specs.declared.settings.Selection.{Selection}
use Rattle.mkb_model.specs.declared.settings.Selection.TheVariants.{Stated, Size}
use Rattle.mkb_board.specs.declared.settling.Costed.{Costed}
use Rattle.std.specs.Ordering.{ordering_then, nat_cmp}

-- the jobs of the tickets
abbrev pub jobs_of : List Ticket → List Job
jobs_of ts = map (λ (t : Ticket). t.job) ts

-- the job is due by what its process sees, and clashes with none of these
abbrev pub is_choice : Plain → List Job → Job → Bool
is_choice b flight j = is_work_due b j && is_free flight j

-- the least job of the process that is due and clashes with none of these
abbrev pub first_choice : Plain → List Job → Name → Option Job
first_choice b flight p = least (job_cmp (cost b) (weight b)) (filter (λ j. is_due b j && is_free flight j) (work_of b p ++ Close p ∷ []))

-- all overlaps of rules of the process, in their order
abbrev pub overlaps_of : Plain → Name → List Job
overlaps_of b p = flat_map (λ (a : RuleRef). map (Overlap p a) (rules_of b p)) (rules_of b p)

-- ---- what processes cost

-- one where it is so
abbrev pub one_if : Bool → ℕ
one_if t = if t then 1 else 0

-- how often the node counts as a rule of p, in each direction, where the selection counts rules
abbrev pub rule_count : Selection → Plain → Name → ℕ → ℕ
rule_count Stated b p n = 0
rule_count Size b p n = one_if (is_rule b p (record { node = n; dir = 0 })) + one_if (is_rule b p (record { node = n; dir = 1 }))

-- how often the node counts for p: as an equation, as a constraint in each direction, and as a rule
abbrev pub role_count : Plain → Name → ℕ → ℕ
role_count b p n =
    (one_if (is_equation b p n)
    + (one_if (is_constraint b p (record { node = n; dir = 0 })) + one_if (is_constraint b p (record { node = n; dir = 1 }))))
    + rule_count b.settings.selection b p n

-- ---- the least of several

-- the lesser of both where there are two, the first where they are equal
abbrev pub merged : {A : Type 0} → (A → A → Ordering) → Option A → Option A → Option A
merged cmp None o = o
merged cmp (Some x) o = Some (option_map_or (lesser cmp x) o x)

-- ---- who sleeps

-- the order of processes by the costs that are kept beside them, then name
abbrev pub costed_cmp : Costed → Costed → Ordering
costed_cmp c d = ordering_then (nat_cmp c.cost d.cost) (name_cmp c.process.now d.process.now)

-- ---- who has nothing to do

-- nothing but a closing is due for a process that is closed
abbrev pub ClosedRest : Plain → Type 0
ClosedRest b = (p : Name) → IsTrue (has b.closed p) → IsAtRest b p
