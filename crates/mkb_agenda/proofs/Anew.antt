-- Looking again at jobs, some after others.
use Rattle.std.proofs.Common.{ℕ, suc, ◌+◌, ◌<◌, ◌≤◌, ◌≡◌, ◌⊎◌, ◌↔◌, inl, inr, ⊎_elim, refl, sym, ap, ap₂, ◌∙◌, subst, arith, List, [], ◌∷◌, ◌++◌, map, flat_map, take, get_or, length, All, Contains, Bool, true, false, Ordering, Less, Equal, Greater}
use Rattle.std.proofs.lemmas.Bool.{cases_eq}
use Rattle.std.proofs.lemmas.Grind.{flat_map-append}
use Rattle.std.proofs.lemmas.List.{map-append, append-nil, take_all}
use Rattle.std.proofs.Math.Seq.{take-suc}
use Rattle.std.proofs.lemmas.List.Elements.{Contains-append_cases, Contains-append_left, Contains-append_right, Contains-get_or}
use Rattle.kb_lemmas.proofs.Membership.{contains_cases, contains_behind, contains_first, none_in, only_member, contains_map}
use Rattle.kb_label.specs.Names.{Name}
use Rattle.kb_term.specs.declared.origin.RuleRef.{RuleRef}
use Rattle.kb_node.specs.declared.node.NodeId.{NodeId}
use Rattle.kb_node.specs.declared.job.Job.{Job}
use Rattle.kb_node.specs.declared.job.Job.TheVariants.{Reduce}
use Rattle.mkb_model.specs.Jobs.{process_of}
use Rattle.mkb_model.specs.Plain.{Plain, weight, rules_of, rule_kind, node_numbers}
use Rattle.mkb_model.specs.DueJobs.{is_node_of, is_work_due}
use Rattle.mkb_model.proofs.Lists.{clash, filter_in, numbers_in}
use Rattle.mkb_model.proofs.commits.Roles.{on_there}
use Rattle.mkb_model.proofs.closing.LeftAlone.{rules_in}
use Rattle.mkb_rules.specs.Named.{IsThere, IsRuleThere}
use Rattle.mkb_rules.specs.Roles.{held_of, roles_of, is_in_use}
use Rattle.mkb_pick.specs.Tasks.{job_of, task_cmp}
use Rattle.mkb_pick.specs.Listings.{Listed, IsListed, IsProcess, HasJob}
use Rattle.mkb_pick.specs.declared.task.Task.{Task}
use Rattle.mkb_pick.proofs.Replaced.{names_decide}
use Rattle.mkb_pick.proofs.Tasks.{task_exact, task_itself}
use Rattle.mkb_pick.proofs.Viewed.{task_in, job_again}
use Rattle.mkb_agenda.specs.Looking.{KeepsOthers, ListsAnew}

-- ---- deciding

pub jobs_decide : (i j : Job) → (i ≡ j) ⊎ (¬ (i ≡ j))
jobs_decide i j = elim (names_decide (process_of i) (process_of j)) [
  | inl h ↦ go h (task_cmp (task_in i 0) (task_in j 0)) refl
  | inr h ↦ inr (λ e. h (ap process_of e))
]
  where
    apart : (o : Ordering) → task_cmp (task_in i 0) (task_in j 0) ≡ o → ¬ (o ≡ Equal) → ¬ (i ≡ j)
    apart o k n e = n (sym k ∙ task_itself (task_in i 0) (task_in j 0) (ap (λ (z : Job). task_in z 0) e))

    go : process_of i ≡ process_of j → (o : Ordering) → task_cmp (task_in i 0) (task_in j 0) ≡ o → (i ≡ j) ⊎ (¬ (i ≡ j))
    go h Equal k = inl (sym (job_again i) ∙ ap₂ job_of h (ap (λ (t : Task). t.work) (task_exact (task_in i 0) (task_in j 0) k)) ∙ job_again j)
    go h Less k = inr (apart Less k (λ e. absurd (cc)))
    go h Greater k = inr (apart Greater k (λ e. absurd (cc)))

pub listed_decide : {X : Type 0} → ((x y : X) → (x ≡ y) ⊎ (¬ (x ≡ y))) → (xs : List X) (y : X) → Contains xs y ⊎ (¬ Contains xs y)
listed_decide d [] y = inr (λ c. none_in c)
listed_decide d (x ∷ xs) y = ⊎_elim (λ e. inl (subst (Contains (x ∷ xs)) e (contains_first x xs))) (λ n. ⊎_elim (λ c. inl (contains_behind x xs y c)) (λ m. inr (λ c. ⊎_elim n m (contains_cases x xs y c))) (listed_decide d xs y)) (d x y)

pub jobs_listed : (js : List Job) (j : Job) → Contains js j ⊎ (¬ Contains js j)
jobs_listed = listed_decide jobs_decide

-- ---- one job

module _ (b : Plain) (k : Job) (v : ℕ) (ps qs : List Listed) (e : v ≡ weight b k) where
  weighs : (j : Job) (w : ℕ) → Contains (k ∷ []) j → w ≡ weight b j → (j ≡ k) × (w ≡ v)
  weighs j w c h = let i : k ≡ j = only_member k j c in (sym i, h ∙ ap (weight b) (sym i) ∙ sym e)

  is_that : (j : Job) (w : ℕ) → (j ≡ k) × (w ≡ v) → Contains (k ∷ []) j × (w ≡ weight b j)
  is_that j w h = (subst {A = Job} (Contains (k ∷ [])) (sym h.0) (contains_first k []), h.1 ∙ e ∙ ap (weight b) (sym h.0))

  moved : (j : Job) (w : ℕ) → (j ≡ k) × (w ≡ v) → HasJob ps j w → HasJob ps k v
  moved j w h x = subst {A = ℕ} (HasJob ps k) h.1 (subst {A = Job} (λ z. HasJob ps z w) h.0 x)

  moved_back : (j : Job) (w : ℕ) → (j ≡ k) × (w ≡ v) → HasJob ps k v → HasJob ps j w
  moved_back j w h x = subst {A = ℕ} (HasJob ps j) (sym h.1) (subst {A = Job} (λ z. HasJob ps z v) (sym h.0) x)

  -- a job that is not due is taken out
  pub anew_removed : is_work_due b k ≡ false → ((j : Job) (w : ℕ) → HasJob qs j w ↔ (HasJob ps j w × ¬ ((j ≡ k) × (w ≡ v)))) → ListsAnew b (k ∷ []) ps qs
  anew_removed idle h j w = (
    (λ x. let r = (h j w).0 x in inr (r.0, λ n. r.1 (weighs j w n.0 n.1))),
    (λ s. elim s [
      | inl d ↦ clash d.1.0 (ap (is_work_due b) (weighs j w d.0 d.1.1).0 ∙ idle)
      | inr d ↦ (h j w).1 (d.0, λ n. d.1 (is_that j w n))
    ]),
  )

  -- a due job that was not there is added
  pub anew_added : is_work_due b k ≡ true → ¬ HasJob ps k v → ((j : Job) (w : ℕ) → HasJob qs j w ↔ (((j ≡ k) × (w ≡ v)) ⊎ HasJob ps j w)) → ListsAnew b (k ∷ []) ps qs
  anew_added due absent h j w = (
    (λ x. elim ((h j w).0 x) [
      | inl d ↦ let r = is_that j w d in inl (r.0, (ap (is_work_due b) d.0 ∙ due, r.1))
      | inr d ↦ inr (d, λ n. absent (moved j w (weighs j w n.0 n.1) d))
    ]),
    (λ s. elim s [
      | inl d ↦ (h j w).1 (inl (weighs j w d.0 d.1.1))
      | inr d ↦ (h j w).1 (inr d.0)
    ]),
  )

  -- a due job that is there stays
  pub anew_had : is_work_due b k ≡ true → HasJob ps k v → ListsAnew b (k ∷ []) ps ps
  anew_had due there j w = (
    (λ x. ⊎_elim (λ i. ⊎_elim (λ m. let r = is_that j w (sym i, m) in inl (r.0, (ap (is_work_due b) (sym i) ∙ due, r.1))) (λ m. inr (x, λ n. m (weighs j w n.0 n.1).1)) (cases_eq w v)) (λ i. inr (x, λ n. i (sym (weighs j w n.0 n.1).0))) (jobs_decide k j)),
    (λ s. elim s [
      | inl d ↦ moved_back j w (weighs j w d.0 d.1.1) there
      | inr d ↦ d.0
    ]),
  )

-- ---- some after others

pub anew_none : (b : Plain) (ps : List Listed) → ListsAnew b [] ps ps
anew_none b ps j w = ((λ h. inr (h, λ k. none_in k.0)), (λ s. elim s [ inl k ↦ none_in k.0 | inr k ↦ k.0 ]))

pub anew_both : (b : Plain) (js ks : List Job) (ps ms qs : List Listed) → ListsAnew b js ps ms → ListsAnew b ks ms qs → ListsAnew b (js ++ ks) ps qs
anew_both b js ks ps ms qs h k j w = (
  (λ x. elim ((k j w).0 x) [
    | inl d ↦ inl (Contains-append_right js ks j d.0, d.1)
    | inr d ↦ elim ((h j w).0 d.0) [
      | inl e ↦ inl (Contains-append_left js ks j e.0, e.1)
      | inr e ↦ inr (e.0, λ n. ⊎_elim (λ i. e.1 (i, n.1)) (λ i. d.1 (i, n.1)) (Contains-append_cases js ks j n.0))
    ]
  ]),
  (λ s. elim s [
    | inl d ↦ ⊎_elim (λ m. (k j w).1 (inl (m, d.1))) (λ m. ⊎_elim (λ i. (k j w).1 (inr ((h j w).1 (inl (i, d.1)), λ n. m n.0))) (λ i. absurd (m i)) (Contains-append_cases js ks j d.0)) (jobs_listed ks j)
    | inr d ↦ (k j w).1 (inr ((h j w).1 (inr (d.0, λ n. d.1 (Contains-append_left js ks j n.0, n.1))), λ n. d.1 (Contains-append_right js ks j n.0, n.1)))
  ]),
)

next : (i : ℕ) → suc i ≡ i + 1
next i = omega arith

-- a walk along a list: the jobs of the next element
pub anew_flat : {X : Type 0} (f : X → List Job) (b : Plain) (xs : List X) (i : ℕ) (d : X) (ps ms qs : List Listed) → i < length xs → ListsAnew b (flat_map f (take i xs)) ps ms → ListsAnew b (f (get_or xs i d)) ms qs → ListsAnew b (flat_map f (take (i + 1) xs)) ps qs
anew_flat {X} f b xs i d ps ms qs l h k = subst {A = List Job} (λ js. ListsAnew b js ps qs)
    (ap (λ zs. flat_map f (take i xs) ++ zs) (sym (append-nil (f (get_or xs i d)))) ∙ sym (flat_map-append f (take i xs) (get_or xs i d ∷ [])) ∙ ap (flat_map f) (sym (take-suc xs i d l) ∙ ap (λ (z : ℕ). take z xs) (next i)))
    (anew_both b (flat_map f (take i xs)) (f (get_or xs i d)) ps ms qs h k)

-- the same where each element has one job
pub anew_map : {X : Type 0} (f : X → Job) (b : Plain) (xs : List X) (i : ℕ) (d : X) (ps ms qs : List Listed) → i < length xs → ListsAnew b (map f (take i xs)) ps ms → ListsAnew b (f (get_or xs i d) ∷ []) ms qs → ListsAnew b (map f (take (i + 1) xs)) ps qs
anew_map f b xs i d ps ms qs l h k = subst {A = List Job} (λ js. ListsAnew b js ps qs)
    (sym (map-append f (take i xs) (get_or xs i d ∷ [])) ∙ ap (map f) (sym (take-suc xs i d l) ∙ ap (λ (z : ℕ). take z xs) (next i)))
    (anew_both b (map f (take i xs)) (f (get_or xs i d) ∷ []) ps ms qs h k)

-- the walk is at the end of the list
pub anew_whole : {X : Type 0} (f : List X → List Job) (b : Plain) (xs : List X) (i : ℕ) (ps qs : List Listed) → length xs ≤ i → ListsAnew b (f (take i xs)) ps qs → ListsAnew b (f xs) ps qs
anew_whole f b xs i ps qs l h = subst {A = List Job} (λ js. ListsAnew b js ps qs) (ap f (take_all i xs l)) h

-- ---- jobs of other processes

pub others_same : (q : Name) (ps : List Listed) → KeepsOthers q ps ps
others_same q ps j w n = ((λ h. h), (λ h. h))

pub others_both : (q : Name) (ps ms qs : List Listed) → KeepsOthers q ps ms → KeepsOthers q ms qs → KeepsOthers q ps qs
others_both q ps ms qs h k j w n = ((λ x. (h j w n).0 ((k j w n).0 x)), (λ x. (k j w n).1 ((h j w n).1 x)))

-- looking at jobs of a process leaves those of others
pub anew_others : (b : Plain) (q : Name) (js : List Job) (ps qs : List Listed) → ((j : Job) → Contains js j → process_of j ≡ q) → ListsAnew b js ps qs → KeepsOthers q ps qs
anew_others b q js ps qs own h j w n = (
  (λ x. elim ((h j w).0 x) [ inl d ↦ absurd (n (own j d.0)) | inr d ↦ d.0 ]),
  (λ x. (h j w).1 (inr (x, λ d. n (own j d.0)))),
)

-- ---- which processes are listed

-- the same processes are listed, as they were
abbrev pub SameProcesses : List Listed → List Listed → Type 0
SameProcesses ps qs = (n : Name) (c : ℕ) (r : Bool) → IsListed qs n c r ↔ IsListed ps n c r

pub same_both : (ps ms qs : List Listed) → SameProcesses ps ms → SameProcesses ms qs → SameProcesses ps qs
same_both ps ms qs h k n c r = ((λ x. (h n c r).0 ((k n c r).0 x)), (λ x. (k n c r).1 ((h n c r).1 x)))

pub process_of_listed : (ps : List Listed) (n : Name) (c : ℕ) (r : Bool) → IsListed ps n c r → IsProcess ps n
process_of_listed ps n c r h = (h.0, h.1, h.2)

pub process_kept : (ps qs : List Listed) → SameProcesses ps qs → (n : Name) → IsProcess ps n → IsProcess qs n
process_kept ps qs h n x = process_of_listed qs n x.0.cost x.0.resting ((h n x.0.cost x.0.resting).1 (x.0, x.1, x.2, refl, refl))

-- ---- what is there

pub rules_there : (b : Plain) (p : Name) (a : RuleRef) → Contains (rules_of b p) a → IsRuleThere b a
rules_there b p a c = let r = rules_in b p a c in (on_there b.nodes p a.node (rule_kind a.dir) r.1, ⊎_elim (λ e. omega (arith, e)) (λ e. omega (arith, e)) r.0)

held_there : (b : Plain) (p : Name) (n : ℕ) → Contains (held_of b p) n → IsThere b n
held_there b p n c = let r = numbers_in 0 (length b.nodes) n (filter_in (λ m. is_in_use (roles_of b p m)) (node_numbers b) n c).0 in omega (arith, r.1)

pub held_all : (b : Plain) (p : Name) (ns : List NodeId) → map (λ (n : NodeId). n.0) ns ≡ held_of b p → All (λ (n : NodeId). IsThere b n.0) ns
held_all b p ns e k d l = held_there b p (get_or ns k d).0 (subst {A = List ℕ} (λ z. Contains z (get_or ns k d).0) e (contains_map (λ (n : NodeId). n.0) ns (get_or ns k d) (Contains-get_or ns k d l)))

-- a node that is held is one of the process
pub held_is : (b : Plain) (p : Name) (ns : List NodeId) → map (λ (n : NodeId). n.0) ns ≡ held_of b p → (n : NodeId) → Contains ns n → is_node_of b p n.0 ≡ true
held_is b p ns e n i = (filter_in (λ m. is_in_use (roles_of b p m)) (node_numbers b) n.0 (subst {A = List ℕ} (λ z. Contains z n.0) e (contains_map (λ (n : NodeId). n.0) ns n i))).1

pub rules_all : (b : Plain) (p : Name) (rs : List RuleRef) → rs ≡ rules_of b p → All (IsRuleThere b) rs
rules_all b p rs e k d l = rules_there b p (get_or rs k d) (subst {A = List RuleRef} (λ z. Contains z (get_or rs k d)) e (Contains-get_or rs k d l))

-- the nodes that are held, as they are kept
pub reduced : (p : Name) (ns : List NodeId) → map (Reduce p) ns ≡ map (λ n. Reduce p (record { 0 = n })) (map (λ (n : NodeId). n.0) ns)
reduced p [] = refl
reduced p (n ∷ ns) = ap (Reduce p n ∷◌) (reduced p ns)
