-- The first task of the first process that is ready is the least job that is offered.
use Rattle.std.proofs.Common.{ℕ, ◌≡◌, refl, sym, ap, ap₂, ◌∙◌, subst, inl, inr, true, false, List}
use Rattle.std.specs.Prelude.{Option, Some, None}
use Rattle.std.specs.Ordering.{ordering_then, nat_cmp}
use Rattle.std.specs.Cmp.{nat_cmp_total, tied_itself}
use Rattle.std.specs.Cmp.Lexicographic.{slice_cmp}
use Rattle.std.specs.declared.cmp.Ordering.{Ordering}
use Rattle.std.specs.declared.cmp.Ordering.TheVariants.{Less, Equal, Greater}
use Rattle.kb_label.specs.Names.{Name, name_cmp}
use Rattle.kb_label.specs.NameOrder.{name_cmp-same}
use Rattle.kb_node.specs.declared.job.Job.{Job}
use Rattle.kb_node.specs.declared.job.Job.TheVariants.{Reduce, Orient, Overlap, Close}
use Rattle.mkb_pick.specs.declared.task.Work.{Work}
use Rattle.mkb_pick.specs.declared.task.Task.{Task}
use Rattle.mkb_pick.specs.declared.queue.Entry.{Entry}
use Rattle.mkb_pick.specs.declared.queue.Queue.{Queue}
use Rattle.mkb_pick.specs.Tasks.{Has}
use Rattle.mkb_pick.specs.Jobs.{Weighed}
use Rattle.mkb_model.specs.Jobs.{process_of, kind_number, job_numbers, is_free}
use Rattle.mkb_pick.specs.Tasks.{task_cmp, job_of, work_of, is_open}
use Rattle.mkb_pick.specs.Queues.{IsAt}
use Rattle.mkb_pick.specs.Firsts.{IsNext, IsReady}
use Rattle.mkb_pick.specs.Listings.{Listed, IsOffered, IsLeastOffered}
use Rattle.mkb_pick.proofs.Replaced.{found_with}
use Rattle.mkb_pick.proofs.Viewed.{IsSeen, seat_seen, job_seen, task_in, job_again, work_again, process_again}

abbrev the_weighed : ℕ → ℕ → Job → Weighed
the_weighed c w j = record { cost = c; weight = w; job = j }

abbrev the_task : Work → ℕ → Task
the_task x n = record { work = x; weight = n }

then_front : (a b c : Ordering) → ordering_then a b ≡ Less → ordering_then a (ordering_then b c) ≡ Less
then_front Less b c h = refl
then_front Equal Less c h = refl
then_front Equal Equal c h = absurd (cc)
then_front Equal Greater c h = absurd (cc)
then_front Greater b c h = absurd (cc)

then_tied : (a b : Ordering) → a ≡ Equal → ordering_then a b ≡ b
then_tied a b e = ap (λ o. ordering_then o b) e

numbers_tied : (m n : ℕ) → m ≡ n → nat_cmp m n ≡ Equal
numbers_tied m n e = ap (nat_cmp m) (sym e) ∙ tied_itself nat_cmp_total m

names_tied : (p q : Name) → p ≡ q → name_cmp p q ≡ Equal
names_tied p q e = ap (name_cmp p) (sym e) ∙ name_cmp-same p

-- the order of tasks is that of jobs of one process
kinds_less : (i j : Job) (m n : ℕ) → task_cmp (task_in i m) (task_in j n) ≡ Less → ordering_then (nat_cmp (kind_number i) (kind_number j)) (ordering_then (nat_cmp m n) (slice_cmp nat_cmp (job_numbers i) (job_numbers j))) ≡ Less
kinds_less (Reduce p a) (Reduce q b) m n h = h
kinds_less (Reduce p a) (Orient q b) m n h = refl
kinds_less (Reduce p a) (Overlap q b d) m n h = refl
kinds_less (Reduce p a) (Close q) m n h = refl
kinds_less (Orient p a) (Reduce q b) m n h = absurd (cc)
kinds_less (Orient p a) (Orient q b) m n h = h
kinds_less (Orient p a) (Overlap q b d) m n h = refl
kinds_less (Orient p a) (Close q) m n h = refl
kinds_less (Overlap p a c) (Reduce q b) m n h = absurd (cc)
kinds_less (Overlap p a c) (Orient q b) m n h = absurd (cc)
kinds_less (Overlap p a c) (Overlap q b d) m n h = h
kinds_less (Overlap p a c) (Close q) m n h = refl
kinds_less (Close p) (Reduce q b) m n h = absurd (cc)
kinds_less (Close p) (Orient q b) m n h = absurd (cc)
kinds_less (Close p) (Overlap q b d) m n h = absurd (cc)
kinds_less (Close p) (Close q) m n h = h

weighed_is : (v w : Weighed) → v.cost ≡ w.cost → v.weight ≡ w.weight → v.job ≡ w.job → v ≡ w
weighed_is v w e f g = ap (λ x. the_weighed x v.weight v.job) e ∙ (ap (λ x. the_weighed w.cost x v.job) f ∙ ap (λ x. the_weighed w.cost w.weight x) g)

-- the process of a job that is offered is ready
offered_ready : (q : Queue) (ps : List Listed) → IsSeen q ps → (flight : List Job) (w : Weighed) → IsOffered ps flight w → (e : Entry) × IsAt q (process_of w.job) e × IsReady flight (process_of w.job) e × (e.cost ≡ w.cost) × Has e.tasks (task_in w.job w.weight)
offered_ready q ps is flight w o =
    let n = process_of w.job in
    let s = (seat_seen q ps is n w.cost false).0 o.0 in
    let e : Entry = s.0 in
    let t = (found_with q is.0 n e s.1 (λ x. Has x.tasks (task_in w.job w.weight))).0 ((job_seen q ps is w.job w.weight).0 o.1) in
    (e, s.1, (s.2.1, (task_in w.job w.weight, t, ap (is_free flight) (job_again w.job) ∙ o.2)), s.2.0, t)

pub next_offered : (q : Queue) (ps : List Listed) → IsSeen q ps → (flight : List Job) (r : Option Job) → IsNext q flight r → IsLeastOffered ps flight r
next_offered q ps seen flight None none = λ w o. let r = offered_ready q ps seen flight w o in none (process_of w.job) r.0 r.1 r.2
next_offered q ps seen flight (Some job) (n, e, t, there, awake, isjob, (has_t, open_t, least_t), least) =
    let w : Weighed = the_weighed e.cost t.weight job in
    let of_n : process_of job ≡ n = ap process_of isjob ∙ process_again n t.work in
    let at_job : IsAt q (process_of job) e = subst (λ z. IsAt q z e) (sym of_n) there in
    let as_task : t ≡ task_in job t.weight = ap (λ x. the_task x t.weight) (sym (work_again n t.work) ∙ ap work_of (sym isjob)) in
    let offered : IsOffered ps flight w = (
      (seat_seen q ps seen (process_of job) e.cost false).1 (e, at_job, (refl, awake)),
      (job_seen q ps seen job t.weight).1 (e, at_job, subst (Has e.tasks) as_task has_t),
      ap (is_free flight) isjob ∙ open_t,
    ) in (
      w,
      refl,
      offered,
      λ v o.
          let r = offered_ready q ps seen flight v o in
          elim (least (process_of v.job) r.0 r.1 r.2) [
            | inl same ↦
                let u : Task = task_in v.job v.weight in
                let has_u : Has e.tasks u = subst (λ (x : Entry). Has x.tasks u) same.1 r.4 in
                let open_u : is_open flight n u ≡ true = ap (λ p. is_free flight (job_of p (work_of v.job))) (sym same.0) ∙ ap (is_free flight) (job_again v.job) ∙ o.2 in
                let cost : v.cost ≡ e.cost = sym r.3 ∙ ap (λ x. x.cost) same.1 in
                elim (least_t u has_u open_u) [
                  | inl equal ↦ inl (weighed_is v w cost (ap (λ x. x.weight) equal) (sym (job_again v.job) ∙ ap₂ job_of same.0 (ap (λ x. x.work) equal) ∙ sym isjob))
                  | inr less ↦
                      inr
                      (then_tied _ _ (numbers_tied e.cost v.cost (sym cost))
                      ∙ then_tied _ _ (names_tied (process_of job) (process_of v.job) (of_n ∙ sym same.0))
                      ∙ kinds_less job v.job t.weight v.weight (subst (λ x. task_cmp x u ≡ Less) as_task less))
                ]
            | inr less ↦
                let by_cost : ordering_then (nat_cmp e.cost v.cost) (name_cmp n (process_of v.job)) ≡ Less = subst (λ k. ordering_then (nat_cmp e.cost k) (name_cmp n (process_of v.job)) ≡ Less) r.3 less in
                inr (then_front (nat_cmp e.cost v.cost) (name_cmp (process_of job) (process_of v.job)) _ (subst (λ p. ordering_then (nat_cmp e.cost v.cost) (name_cmp p (process_of v.job)) ≡ Less) (sym of_n) by_cost))
          ],
    )
