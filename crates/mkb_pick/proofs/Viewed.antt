-- What contracts see of the lists and trees.
use Rattle.std.proofs.Common.{ℕ, ◌≡◌, refl, sym, ap, ap₂, ◌∙◌, subst, ◌⊎◌, inl, inr, Bool, false, List, ◌++◌, length, length-append, arith, ◌↔◌}
use Rattle.std.specs.Prelude.{Contains, map, zip}
use Rattle.std.proofs.lemmas.List.{length-map}
use Rattle.std.proofs.lemmas.List.Elements.{Contains-append_left, Contains-append_right, Contains-append_cases}
use Rattle.kb_lemmas.proofs.Membership.{none_in, contains_map, contains_mapped}
use Rattle.kb_label.specs.Names.{Name}
use Rattle.kb_node.specs.declared.job.Job.{Job}
use Rattle.kb_node.specs.declared.job.Job.TheVariants.{Reduce, Orient, Overlap, Close}
use Rattle.mkb_pick.specs.declared.task.Work.{Work}
use Rattle.mkb_pick.specs.declared.task.Work.TheVariants.{Reducing, Orienting, Overlapping, Closing}
use Rattle.mkb_pick.specs.declared.task.Task.{Task}
use Rattle.mkb_pick.specs.declared.queue.Entry.{Entry}
use Rattle.mkb_pick.specs.declared.queue.Queue.{Queue}
use Rattle.mkb_pick.specs.declared.tree.Tree.{Tree, Leaf, Fork'}
use Rattle.mkb_pick.specs.Runs.{Holds, size}
use Rattle.mkb_pick.specs.Trees.{HasKey, count, keys}
use Rattle.mkb_model.specs.Jobs.{process_of}
use Rattle.mkb_pick.specs.Tasks.{Has, job_of, work_of, seen, task_at}
use Rattle.mkb_pick.specs.Queues.{IsQueue, IsAt, Sits, HasTask, IsSeated}
use Rattle.mkb_pick.specs.Listings.{Listed, IsListed, IsProcess, HasJob}
use Rattle.mkb_pick.specs.Views.{job_in, listed_in, processes_of}
use Rattle.mkb_pick.proofs.Tasks.{none_in_leaf}
use Rattle.mkb_pick.proofs.Seats.{both_has, entry_of}

-- ---- what is seen of a tree

-- the list of the numbers
pub listed_keys : (tree : Tree) (k : ℕ) → Contains (keys tree) k ↔ HasKey tree k
unfolding Holds
listed_keys Leaf k = (λ c. none_in c, λ h. absurd h)
listed_keys (Fork' p left run w right) k =
    let low = listed_keys left k in
    let high = listed_keys right k in (
      λ c.
          elim (Contains-append_cases (keys left) (run.keys.items ++ keys right) k c) [
            | inl a ↦ inr (inl (low.0 a))
            | inr a ↦
                elim (Contains-append_cases run.keys.items (keys right) k a) [
                  | inl b ↦ inl b
                  | inr b ↦ inr (inr (high.0 b))
                ]
          ],
      λ h.
          elim h [
            | inl a ↦ Contains-append_right (keys left) (run.keys.items ++ keys right) k (Contains-append_left run.keys.items (keys right) k a)
            | inr a ↦
                elim a [
                  | inl b ↦ Contains-append_left (keys left) (run.keys.items ++ keys right) k (low.1 b)
                  | inr b ↦ Contains-append_right (keys left) (run.keys.items ++ keys right) k (Contains-append_right run.keys.items (keys right) k (high.1 b))
                ]
          ],
    )

keys_length : (tree : Tree) → length (keys tree) ≡ count tree
unfolding size
keys_length Leaf = refl
keys_length (Fork' p left run w right) = omega (arith, length-append (keys left) (run.keys.items ++ keys right), length-append run.keys.items (keys right), keys_length left, keys_length right)

pub seen_from : {Y : Type 0} (f : Task → Y) (tree : Tree) (y : Y) → Contains (seen f tree) y → (x : Task) × Has tree x × (f x ≡ y)
unfolding Has
seen_from f tree y c =
    let r = contains_mapped (λ k. f (task_at k)) (keys tree) y c in
    (task_at r.0, (r.0, (listed_keys tree r.0).0 r.1, refl), r.2)

pub seen_to : {Y : Type 0} (f : Task → Y) (tree : Tree) (x : Task) → Has tree x → Contains (seen f tree) (f x)
unfolding Has
seen_to f tree x h = subst (λ z. Contains (seen f tree) (f z)) h.2 (contains_map (λ k. f (task_at k)) (keys tree) h.0 ((listed_keys tree h.0).1 h.1))

pub seen_length : {Y : Type 0} (f : Task → Y) (tree : Tree) → length (seen f tree) ≡ count tree
seen_length f tree = length-map (keys tree) (λ k. f (task_at k)) ∙ keys_length tree

-- ---- jobs and tasks

-- the task of a job
abbrev pub task_in : Job → ℕ → Task
task_in j w = record { work = work_of j; weight = w }

pub job_again : (j : Job) → job_of (process_of j) (work_of j) ≡ j
job_again (Reduce p n) = refl
job_again (Orient p n) = refl
job_again (Overlap p a b) = refl
job_again (Close p) = refl

pub work_again : (p : Name) (w : Work) → work_of (job_of p w) ≡ w
work_again p (Reducing n) = refl
work_again p (Orienting n) = refl
work_again p (Overlapping a b) = refl
work_again p Closing = refl

pub process_again : (p : Name) (w : Work) → process_of (job_of p w) ≡ p
process_again p (Reducing n) = refl
process_again p (Orienting n) = refl
process_again p (Overlapping a b) = refl
process_again p Closing = refl

-- ---- the list of processes and the queue

-- these are the processes of the queue
abbrev pub IsSeen : Queue → List Listed → Type 0
IsSeen q ps = IsQueue q × (processes_of q ≡ ps)

listed_from : (q : Queue) (ps : List Listed) → IsSeen q ps → (l : Listed) → Contains ps l → (n : Name) × (e : Entry) × IsAt q n e × (listed_in (n, e) ≡ l)
listed_from q ps is l h =
    let s = contains_mapped listed_in (zip q.names.items q.entries.items) l (subst (λ xs. Contains xs l) (sym is.1) h) in
    (s.0.0, s.0.1, (both_has q.names.items q.entries.items is.0.beside s.0.0 s.0.1).0 s.1, s.2)

listed_to : (q : Queue) (ps : List Listed) → IsSeen q ps → (n : Name) (e : Entry) → IsAt q n e → Contains ps (listed_in (n, e))
listed_to q ps is n e h =
    subst (λ xs. Contains xs (listed_in (n, e))) is.1 (contains_map listed_in (zip q.names.items q.entries.items) (n, e) ((both_has q.names.items q.entries.items is.0.beside n e).1 h))

pub seat_seen : (q : Queue) (ps : List Listed) → IsSeen q ps → (n : Name) (c : ℕ) (r : Bool) → IsListed ps n c r ↔ Sits q n c r
seat_seen q ps is n c r = (
  λ h.
      let s = listed_from q ps is h.0 h.1 in
      (s.1, subst (λ z. IsAt q z s.1) (ap (λ l. l.name) s.3 ∙ h.2) s.2, (ap (λ l. l.cost) s.3 ∙ h.3, ap (λ l. l.resting) s.3 ∙ h.4)),
  λ h. (listed_in (n, h.0), listed_to q ps is n h.0 h.1, refl, h.2.0, h.2.1),
)

pub job_seen : (q : Queue) (ps : List Listed) → IsSeen q ps → (j : Job) (w : ℕ) → HasJob ps j w ↔ HasTask q (process_of j) (task_in j w)
job_seen q ps is j w = (
  λ h.
      let s = listed_from q ps is h.0 h.1 in
      let e : Entry = s.1 in
      let t = seen_from (job_in s.0) e.tasks (j, w) (subst (λ (l : Listed). Contains l.jobs (j, w)) (sym s.3) h.3) in
      let work : t.0.work ≡ work_of j = sym (work_again s.0 t.0.work) ∙ ap (λ x. work_of x.0) t.2 in
      let same : t.0 ≡ task_in j w = ap₂ (λ x y. record { work = x; weight = y }) work (ap (λ x. x.1) t.2) in
      (e, subst (λ z. IsAt q z e) (ap (λ l. l.name) s.3 ∙ h.2) s.2, subst (Has e.tasks) same t.1),
  λ h.
      let e : Entry = h.0 in
      let pair : job_in (process_of j) (task_in j w) ≡ (j, w) = ap (λ x. (x, w)) (job_again j) in
      (listed_in (process_of j, e), listed_to q ps is (process_of j) e h.1, refl, subst (Contains (seen (job_in (process_of j)) e.tasks)) pair (seen_to (job_in (process_of j)) e.tasks (task_in j w) h.2)),
)

pub seated : (q : Queue) (ps : List Listed) → IsSeen q ps → (n : Name) → IsProcess ps n ↔ IsSeated q n
seated q ps is n = (
  λ h. let s = listed_from q ps is h.0 h.1 in subst (IsSeated q) (ap (λ l. l.name) s.3 ∙ h.2) (s.2.0, s.2.1.0, s.2.1.1),
  λ h. let e = entry_of q.names.items q.entries.items is.0.beside n h in (listed_in (n, e.0), listed_to q ps is n e.0 e.1, refl),
)

-- a queue of the same lists has the same processes
pub still_seen : (q0 q1 : Queue) (ps : List Listed) → IsSeen q0 ps → IsQueue q1 → q1.names.items ≡ q0.names.items → q1.entries.items ≡ q0.entries.items → IsSeen q1 ps
still_seen q0 q1 ps is new names entries = (new, ap₂ (λ ns es. map listed_in (zip ns es)) names entries ∙ is.1)

-- ---- changes, as contracts see them

pub seats_as_before : (q0 q1 : Queue) (ps : List Listed) → IsSeen q0 ps → IsQueue q1 → ((n : Name) (c : ℕ) (r : Bool) → Sits q1 n c r ↔ Sits q0 n c r) → (n : Name) (c : ℕ) (r : Bool) → IsListed (processes_of q1) n c r ↔ IsListed ps n c r
seats_as_before q0 q1 ps is new h n c r = (
  λ x. (seat_seen q0 ps is n c r).1 ((h n c r).0 ((seat_seen q1 (processes_of q1) (new, refl) n c r).0 x)),
  λ x. (seat_seen q1 (processes_of q1) (new, refl) n c r).1 ((h n c r).1 ((seat_seen q0 ps is n c r).0 x)),
)

pub jobs_as_before : (q0 q1 : Queue) (ps : List Listed) → IsSeen q0 ps → IsQueue q1 → ((n : Name) (t : Task) → HasTask q1 n t ↔ HasTask q0 n t) → (j : Job) (w : ℕ) → HasJob (processes_of q1) j w ↔ HasJob ps j w
jobs_as_before q0 q1 ps is new h j w = (
  λ x. (job_seen q0 ps is j w).1 ((h (process_of j) (task_in j w)).0 ((job_seen q1 (processes_of q1) (new, refl) j w).0 x)),
  λ x. (job_seen q1 (processes_of q1) (new, refl) j w).1 ((h (process_of j) (task_in j w)).1 ((job_seen q0 ps is j w).0 x)),
)

same_job : (j k : Job) (v w : ℕ) → process_of j ≡ process_of k → task_in j v ≡ task_in k w → (j ≡ k) × (v ≡ w)
same_job j k v w p t = (sym (job_again j) ∙ ap₂ job_of p (ap (λ x. x.work) t) ∙ job_again k, ap (λ x. x.weight) t)

pub job_more : (q0 q1 : Queue) (ps : List Listed) → IsSeen q0 ps → IsQueue q1 → (k : Job) (v : ℕ) → ((n : Name) (t : Task) → HasTask q1 n t ↔ (((n ≡ process_of k) × (t ≡ task_in k v)) ⊎ HasTask q0 n t)) → (j : Job) (w : ℕ) → HasJob (processes_of q1) j w ↔ (((j ≡ k) × (w ≡ v)) ⊎ HasJob ps j w)
job_more q0 q1 ps is new k v h j w = (
  λ x.
      elim ((h (process_of j) (task_in j w)).0 ((job_seen q1 (processes_of q1) (new, refl) j w).0 x)) [
        | inl q ↦ inl (same_job j k w v q.0 q.1)
        | inr q ↦ inr ((job_seen q0 ps is j w).1 q)
      ],
  λ x.
      (job_seen q1 (processes_of q1) (new, refl) j w).1 ((h (process_of j) (task_in j w)).1
      (elim x [
        | inl q ↦ inl (ap process_of q.0, ap₂ task_in q.0 q.1)
        | inr q ↦ inr ((job_seen q0 ps is j w).0 q)
      ])),
)

pub job_less : (q0 q1 : Queue) (ps : List Listed) → IsSeen q0 ps → IsQueue q1 → (k : Job) (v : ℕ) → ((n : Name) (t : Task) → HasTask q1 n t ↔ (HasTask q0 n t × ¬ ((n ≡ process_of k) × (t ≡ task_in k v)))) → (j : Job) (w : ℕ) → HasJob (processes_of q1) j w ↔ (HasJob ps j w × ¬ ((j ≡ k) × (w ≡ v)))
job_less q0 q1 ps is new k v h j w = (
  λ x.
      let q = (h (process_of j) (task_in j w)).0 ((job_seen q1 (processes_of q1) (new, refl) j w).0 x) in
      ((job_seen q0 ps is j w).1 q.0, λ e. q.1 (ap process_of e.0, ap₂ task_in e.0 e.1)),
  λ x.
      (job_seen q1 (processes_of q1) (new, refl) j w).1 ((h (process_of j) (task_in j w)).1 ((job_seen q0 ps is j w).0 x.0, λ e. x.1 (same_job j k w v e.0 e.1))),
)

pub cost_seen : (q0 q1 : Queue) (ps : List Listed) → IsSeen q0 ps → IsQueue q1 → (p : Name) (k : ℕ) → ((n : Name) (c : ℕ) (r : Bool) → Sits q1 n c r ↔ (((n ≡ p) × (c ≡ k) × ((d : ℕ) × Sits q0 n d r)) ⊎ ((¬ (n ≡ p)) × Sits q0 n c r))) → (n : Name) (c : ℕ) (r : Bool) → IsListed (processes_of q1) n c r ↔ (((n ≡ p) × (c ≡ k) × ((d : ℕ) × IsListed ps n d r)) ⊎ ((¬ (n ≡ p)) × IsListed ps n c r))
cost_seen q0 q1 ps is new p k h n c r = (
  λ x.
      elim ((h n c r).0 ((seat_seen q1 (processes_of q1) (new, refl) n c r).0 x)) [
        | inl q ↦ inl (q.0, q.1, (q.2.0, (seat_seen q0 ps is n q.2.0 r).1 q.2.1))
        | inr q ↦ inr (q.0, (seat_seen q0 ps is n c r).1 q.1)
      ],
  λ x.
      (seat_seen q1 (processes_of q1) (new, refl) n c r).1 ((h n c r).1
      (elim x [
        | inl q ↦ inl (q.0, q.1, (q.2.0, (seat_seen q0 ps is n q.2.0 r).0 q.2.1))
        | inr q ↦ inr (q.0, (seat_seen q0 ps is n c r).0 q.1)
      ])),
)

pub rest_seen : (q0 q1 : Queue) (ps : List Listed) → IsSeen q0 ps → IsQueue q1 → (p : Name) (k : Bool) → ((n : Name) (c : ℕ) (r : Bool) → Sits q1 n c r ↔ (((n ≡ p) × (r ≡ k) × ((s : Bool) × Sits q0 n c s)) ⊎ ((¬ (n ≡ p)) × Sits q0 n c r))) → (n : Name) (c : ℕ) (r : Bool) → IsListed (processes_of q1) n c r ↔ (((n ≡ p) × (r ≡ k) × ((s : Bool) × IsListed ps n c s)) ⊎ ((¬ (n ≡ p)) × IsListed ps n c r))
rest_seen q0 q1 ps is new p k h n c r = (
  λ x.
      elim ((h n c r).0 ((seat_seen q1 (processes_of q1) (new, refl) n c r).0 x)) [
        | inl q ↦ inl (q.0, q.1, (q.2.0, (seat_seen q0 ps is n c q.2.0).1 q.2.1))
        | inr q ↦ inr (q.0, (seat_seen q0 ps is n c r).1 q.1)
      ],
  λ x.
      (seat_seen q1 (processes_of q1) (new, refl) n c r).1 ((h n c r).1
      (elim x [
        | inl q ↦ inl (q.0, q.1, (q.2.0, (seat_seen q0 ps is n c q.2.0).0 q.2.1))
        | inr q ↦ inr (q.0, (seat_seen q0 ps is n c r).0 q.1)
      ])),
)

pub gone_seen : (q0 q1 : Queue) (ps : List Listed) → IsSeen q0 ps → IsQueue q1 → (p : Name) → ((n : Name) (c : ℕ) (r : Bool) → Sits q1 n c r ↔ (Sits q0 n c r × ¬ (n ≡ p))) → (n : Name) (c : ℕ) (r : Bool) → IsListed (processes_of q1) n c r ↔ (IsListed ps n c r × ¬ (n ≡ p))
gone_seen q0 q1 ps is new p h n c r = (
  λ x. let q = (h n c r).0 ((seat_seen q1 (processes_of q1) (new, refl) n c r).0 x) in ((seat_seen q0 ps is n c r).1 q.0, q.1),
  λ x. (seat_seen q1 (processes_of q1) (new, refl) n c r).1 ((h n c r).1 ((seat_seen q0 ps is n c r).0 x.0, x.1)),
)

pub jobs_gone_seen : (q0 q1 : Queue) (ps : List Listed) → IsSeen q0 ps → IsQueue q1 → (p : Name) → ((n : Name) (t : Task) → HasTask q1 n t ↔ (HasTask q0 n t × ¬ (n ≡ p))) → (j : Job) (w : ℕ) → HasJob (processes_of q1) j w ↔ (HasJob ps j w × ¬ (process_of j ≡ p))
jobs_gone_seen q0 q1 ps is new p h j w = (
  λ x. let q = (h (process_of j) (task_in j w)).0 ((job_seen q1 (processes_of q1) (new, refl) j w).0 x) in ((job_seen q0 ps is j w).1 q.0, q.1),
  λ x. (job_seen q1 (processes_of q1) (new, refl) j w).1 ((h (process_of j) (task_in j w)).1 ((job_seen q0 ps is j w).0 x.0, x.1)),
)

pub come_seen : (q0 q1 : Queue) (ps : List Listed) → IsSeen q0 ps → IsQueue q1 → (p : Name) (k : ℕ) → ((n : Name) (c : ℕ) (r : Bool) → Sits q1 n c r ↔ (((n ≡ p) × ((k ≡ c) × (false ≡ r))) ⊎ Sits q0 n c r)) → (n : Name) (c : ℕ) (r : Bool) → IsListed (processes_of q1) n c r ↔ (((n ≡ p) × (c ≡ k) × (r ≡ false)) ⊎ IsListed ps n c r)
come_seen q0 q1 ps is new p k h n c r = (
  λ x.
      elim ((h n c r).0 ((seat_seen q1 (processes_of q1) (new, refl) n c r).0 x)) [
        | inl q ↦ inl (q.0, sym q.1.0, sym q.1.1)
        | inr q ↦ inr ((seat_seen q0 ps is n c r).1 q)
      ],
  λ x.
      (seat_seen q1 (processes_of q1) (new, refl) n c r).1 ((h n c r).1
      (elim x [
        | inl q ↦ inl (q.0, (sym q.1, sym q.2))
        | inr q ↦ inr ((seat_seen q0 ps is n c r).0 q)
      ])),
)

pub jobs_come_seen : (q0 q1 : Queue) (ps : List Listed) → IsSeen q0 ps → IsQueue q1 → (p : Name) → ((n : Name) (t : Task) → HasTask q1 n t ↔ (((n ≡ p) × Has Leaf t) ⊎ HasTask q0 n t)) → (j : Job) (w : ℕ) → HasJob (processes_of q1) j w ↔ HasJob ps j w
jobs_come_seen q0 q1 ps is new p h j w = (
  λ x.
      elim ((h (process_of j) (task_in j w)).0 ((job_seen q1 (processes_of q1) (new, refl) j w).0 x)) [
        | inl q ↦ absurd (none_in_leaf (task_in j w) q.1)
        | inr q ↦ (job_seen q0 ps is j w).1 q
      ],
  λ x. (job_seen q1 (processes_of q1) (new, refl) j w).1 ((h (process_of j) (task_in j w)).1 (inr ((job_seen q0 ps is j w).0 x))),
)

pub parted_seen : (q0 q1 : Queue) (ps : List Listed) → IsSeen q0 ps → IsQueue q1 → (p m0 m1 : Name) → ((n : Name) (c : ℕ) (r : Bool) → Sits q1 n c r ↔ ((((n ≡ m0) ⊎ (n ≡ m1)) × Sits q0 p c r) ⊎ ((¬ (n ≡ p)) × Sits q0 n c r))) → (n : Name) (c : ℕ) (r : Bool) → IsListed (processes_of q1) n c r ↔ ((((n ≡ m0) ⊎ (n ≡ m1)) × IsListed ps p c r) ⊎ ((¬ (n ≡ p)) × IsListed ps n c r))
parted_seen q0 q1 ps is new p m0 m1 h n c r = (
  λ x.
      elim ((h n c r).0 ((seat_seen q1 (processes_of q1) (new, refl) n c r).0 x)) [
        | inl q ↦ inl (q.0, (seat_seen q0 ps is p c r).1 q.1)
        | inr q ↦ inr (q.0, (seat_seen q0 ps is n c r).1 q.1)
      ],
  λ x.
      (seat_seen q1 (processes_of q1) (new, refl) n c r).1 ((h n c r).1
      (elim x [
        | inl q ↦ inl (q.0, (seat_seen q0 ps is p c r).0 q.1)
        | inr q ↦ inr (q.0, (seat_seen q0 ps is n c r).0 q.1)
      ])),
)

-- the same job of another process
pub job_of_other : (q : Queue) (ps : List Listed) → IsSeen q ps → (p : Name) (j : Job) (w : ℕ) → HasJob ps (job_of p (work_of j)) w ↔ HasTask q p (task_in j w)
job_of_other q ps is p j w =
    let s = job_seen q ps is (job_of p (work_of j)) w in
    let n = process_again p (work_of j) in
    let t : task_in (job_of p (work_of j)) w ≡ task_in j w = ap (λ x. record { work = x; weight = w }) (work_again p (work_of j)) in (
      λ h. subst (λ m. HasTask q m (task_in j w)) n (subst (HasTask q (process_of (job_of p (work_of j)))) t (s.0 h)),
      λ h. s.1 (subst (HasTask q (process_of (job_of p (work_of j)))) (sym t) (subst (λ m. HasTask q m (task_in j w)) (sym n) h)),
    )

pub jobs_parted_seen : (q0 q1 : Queue) (ps : List Listed) → IsSeen q0 ps → IsQueue q1 → (p m0 m1 : Name) → ((n : Name) (t : Task) → HasTask q1 n t ↔ ((((n ≡ m0) ⊎ (n ≡ m1)) × HasTask q0 p t) ⊎ ((¬ (n ≡ p)) × HasTask q0 n t))) → (j : Job) (w : ℕ) → HasJob (processes_of q1) j w ↔ ((((process_of j ≡ m0) ⊎ (process_of j ≡ m1)) × HasJob ps (job_of p (work_of j)) w) ⊎ ((¬ (process_of j ≡ p)) × HasJob ps j w))
jobs_parted_seen q0 q1 ps is new p m0 m1 h j w = (
  λ x.
      elim ((h (process_of j) (task_in j w)).0 ((job_seen q1 (processes_of q1) (new, refl) j w).0 x)) [
        | inl q ↦ inl (q.0, (job_of_other q0 ps is p j w).1 q.1)
        | inr q ↦ inr (q.0, (job_seen q0 ps is j w).1 q.1)
      ],
  λ x.
      (job_seen q1 (processes_of q1) (new, refl) j w).1 ((h (process_of j) (task_in j w)).1
      (elim x [
        | inl q ↦ inl (q.0, (job_of_other q0 ps is p j w).0 q.1)
        | inr q ↦ inr (q.0, (job_seen q0 ps is j w).0 q.1)
      ])),
)

-- as many jobs are seen of a process as its entry has tasks
pub count_seen : (q : Queue) (ps : List Listed) → IsSeen q ps → (n : Name) (l : Listed) → Contains ps l → l.name ≡ n → (e : Entry) × IsAt q n e × (length l.jobs ≡ count e.tasks)
count_seen q ps is n l h named =
    let s = listed_from q ps is l h in
    let e : Entry = s.1 in
    (e, subst (λ z. IsAt q z e) (ap (λ x. x.name) s.3 ∙ named) s.2, ap (λ (x : Listed). length x.jobs) (sym s.3) ∙ seen_length (job_in s.0) e.tasks)
