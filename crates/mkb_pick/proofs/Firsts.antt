-- What comes first, in an ordered tree and in the list.
use Rattle.std.proofs.Common.{ℕ, ◌≡◌, ◌<◌, ◌≤◌, ◌+◌, ◌*◌, ◌^◌, refl, sym, ap, ap₂, ◌∙◌, get_or, subst, ◌⊎◌, inl, inr, List, arith}
use Rattle.std.specs.Prelude.{Some, None, Option, true, false, MatchOption}
use Rattle.std.specs.Ordering.{ordering_then}
use Rattle.std.specs.Cmp.{nat_cmp_is}
use Rattle.std.proofs.lemmas.Bool.{cases_lt, cases_order}
use Rattle.std.proofs.lemmas.List.{get_or_default}
use Rattle.std.specs.declared.cmp.Ordering.{Ordering}
use Rattle.std.specs.declared.cmp.Ordering.TheVariants.{Less, Equal, Greater}
use Rattle.kb_label.specs.Names.{Name, name_cmp}
use Rattle.kb_node.specs.declared.job.Job.{Job}
use Rattle.kb_node.specs.declared.job.Job.TheVariants.{Close}
use Rattle.mkb_pick.specs.declared.queue.Entry.{Entry}
use Rattle.mkb_pick.specs.declared.queue.Queue.{Queue}
use Rattle.mkb_pick.specs.declared.search.Choice.{Choice}
use Rattle.mkb_pick.specs.declared.tree.Tree.{Tree}
use Rattle.mkb_pick.specs.declared.task.Task.{Task}
use Rattle.mkb_pick.specs.Runs.{Precedes}
use Rattle.mkb_pick.specs.Trees.{HasKey}
use Rattle.mkb_model.specs.Jobs.{is_free}
use Rattle.mkb_pick.specs.Tasks.{task_at, task_cmp, is_open, work_kind, Has, IsAgenda, IsWithin}
use Rattle.mkb_pick.specs.Queues.{IsQueue, Stands}
use Rattle.mkb_pick.specs.Firsts.{IsFirst, IsOffer, IsLeast, IsFirstOpen, IsReady, IsSooner, IsChoice}
use Rattle.mkb_pick.proofs.Seats.{rising}
use Rattle.mkb_pick.proofs.Tasks.{held_kinds, kinds_apart, kind_told, keys_rise}

-- the least key that is looked for is that of the first task
module _ (tasks : Tree) (is : IsAgenda tasks) (flight : List Job) (p : Name) (low high from to : ℕ) (begin : from ≡ low * 2 ^ 80) (end : to ≡ (high + 1) * 2 ^ 80) where
  -- a task of a kind from low to high has a key that is looked for
  wanted : (k : ℕ) → HasKey tasks k → IsWithin low high (task_at k) × (is_open flight p (task_at k) ≡ true) → IsOffer flight p from to k
  unfolding Has IsAgenda IsOffer Precedes
  wanted k h q = let kind = kind_told k (task_at k) (is.1 k h) in (omega (arith, kind, begin, q.0.0), omega (arith, kind, end, q.0.1), q.1)

  pub none_wanted : IsLeast (HasKey tasks) (IsOffer flight p from to) None → IsFirst tasks (λ t. IsWithin low high t × (is_open flight p t ≡ true)) None
  unfolding Has IsAgenda IsOffer Precedes
  none_wanted none y h q = none h.0 h.1 (wanted h.0 h.1 (subst (λ t. IsWithin low high t × (is_open flight p t ≡ true)) (sym h.2) q))

  pub first_wanted : (x : ℕ) → IsLeast (HasKey tasks) (IsOffer flight p from to) (Some x) → IsFirst tasks (λ t. IsWithin low high t × (is_open flight p t ≡ true)) (Some (task_at x))
  unfolding Has IsAgenda IsOffer Precedes
  first_wanted x first =
      let there = first.0 in
      let kind = kind_told x (task_at x) (is.1 x there) in (
        (x, there, refl),
        ((omega (arith, kind, begin, first.1.0), omega (arith, kind, end, first.1.1)), first.1.2),
        λ y h q.
            elim (first.2 h.0 h.1 (wanted h.0 h.1 (subst (λ t. IsWithin low high t × (is_open flight p t ≡ true)) (sym h.2) q))) [
              | inl e ↦ inl (sym h.2 ∙ ap task_at (sym e))
              | inr b ↦ inr (subst (λ t. task_cmp (task_at x) t ≡ Less) h.2 (keys_rise x h.0 (task_at x) (task_at h.0) (is.1 x there) (is.1 h.0 h.1) b))
            ],
      )

within_one : (n k : ℕ) → k ≡ n → (n ≤ k) × (k ≤ n)
within_one n k e = (omega (arith, e), omega (arith, e))

-- where a process is held, its first reduction is its first task
pub held_reduction : (tasks : Tree) (flight : List Job) (p : Name) → is_free flight (Close p) ≡ false → (x : Task) → IsFirst tasks (λ t. IsWithin 0 0 t × (is_open flight p t ≡ true)) (Some x) → IsFirst tasks (λ t. is_open flight p t ≡ true) (Some x)
held_reduction tasks flight p held x first = (
  first.0,
  first.1.1,
  λ y h q.
      elim (held_kinds flight p held y q) [
        | inl k ↦ first.2 y h (within_one 0 (work_kind y.work) k, q)
        | inr k ↦ inr (kinds_apart x y (omega (arith, first.1.0.1)) k)
      ],
)

-- where a process is held and has no reduction, its first overlap is its first task
pub held_overlap : (tasks : Tree) (flight : List Job) (p : Name) → is_free flight (Close p) ≡ false → IsFirst tasks (λ t. IsWithin 0 0 t × (is_open flight p t ≡ true)) None → (r : Option Task) → IsFirst tasks (λ t. IsWithin 2 2 t × (is_open flight p t ≡ true)) r → IsFirst tasks (λ t. is_open flight p t ≡ true) r
held_overlap tasks flight p held none None first =
    λ y h q.
    elim (held_kinds flight p held y q) [
      | inl k ↦ none y h (within_one 0 (work_kind y.work) k, q)
      | inr k ↦ first y h (within_one 2 (work_kind y.work) k, q)
    ]
held_overlap tasks flight p held none (Some x) first = (
  first.0,
  first.1.1,
  λ y h q.
      elim (held_kinds flight p held y q) [
        | inl k ↦ absurd (none y h (within_one 0 (work_kind y.work) k, q))
        | inr k ↦ first.2 y h (within_one 2 (work_kind y.work) k, q)
      ],
)

-- ---- by cost and name

then_up : (o : Ordering) → ordering_then Greater o ≡ Less → ⊥
then_up o e = cc

-- what comes sooner does not cost more
sooner_cost : (n m : Name) (e f : Entry) → IsSooner n e m f → e.cost ≤ f.cost
sooner_cost n m e f h =
    elim (cases_lt f.cost e.cost) [
      | inl b ↦ absurd (then_up (name_cmp n m) (subst (λ o. ordering_then o (name_cmp n m) ≡ Less) (sym (nat_cmp_is e.cost f.cost Greater b)) h))
      | inr b ↦ b
    ]

-- what costs less comes sooner
pub cheaper_sooner : (n m : Name) (e f : Entry) → e.cost < f.cost → IsSooner n e m f
cheaper_sooner n m e f h = ap (λ o. ordering_then o (name_cmp n m)) (sym (nat_cmp_is e.cost f.cost Less h))

-- of what costs as much, or more, the lower name comes sooner
pub lower_sooner : (n m : Name) (e f : Entry) → e.cost ≤ f.cost → name_cmp n m ≡ Less → IsSooner n e m f
lower_sooner n m e f h less =
    elim (cases_order e.cost f.cost) [
      | inl s ↦ ap (λ o. ordering_then o (name_cmp n m)) (sym (nat_cmp_is e.cost f.cost Equal s)) ∙ less
      | inr o ↦
          elim o [
            | inl b ↦ cheaper_sooner n m e f b
            | inr b ↦ absurd (omega (arith, h, b))
          ]
    ]

-- ---- one process more

module _ (q : Queue) (is : IsQueue q) (flight : List Job) (i : ℕ) (n : Name) (e : Entry) (here : Stands q.names.items q.entries.items i n e) where
  -- a place up to this one is before it, or this one with its name and its entry
  before_or_here : (k : ℕ) (m : Name) (f : Entry) → k < i + 1 → Stands q.names.items q.entries.items k m f → (k < i) ⊎ ((k ≡ i) × (m ≡ n) × (f ≡ e))
  before_or_here k m f h s =
      elim (cases_lt k i) [
        | inl b ↦ inl b
        | inr b ↦
            let same : k ≡ i = omega (arith, h, b) in
            inr (
              same,
              sym s.1 ∙ ap (λ j. get_or q.names.items j m) same ∙ get_or_default q.names.items i m n here.0 ∙ here.1,
              sym s.2 ∙ ap (λ j. get_or q.entries.items j f) same ∙ get_or_default q.entries.items i f e (omega (arith, is.beside, here.0)) ∙ here.2,
            )
      ]

  -- the choice stays, unless the process is ready and costs less
  pub choice_stays : (best : Option Choice) → IsChoice q flight i best → (IsReady flight n e → MatchOption best ⊥ (λ c. c.cost ≤ e.cost)) → IsChoice q flight (i + 1) best
  choice_stays None none passed = λ k m f h s r.
      elim (before_or_here k m f h s) [
        | inl b ↦ none k m f b s r
        | inr b ↦ passed (subst (λ x. IsReady flight n x) b.2 (subst (λ x. IsReady flight x f) b.1 r))
      ]
  choice_stays (Some c) (p, d, s, before, cost, awake, first, least) passed = (
    p,
    d,
    s,
    omega (arith, before),
    cost,
    awake,
    first,
    λ k m f h t r.
        elim (before_or_here k m f h t) [
          | inl b ↦ least k m f b t r
          | inr b ↦
              let dear = passed (subst (λ x. IsReady flight n x) b.2 (subst (λ x. IsReady flight x f) b.1 r)) in
              let order : name_cmp p n ≡ Less = ap₂ name_cmp (sym s.1 ∙ get_or_default q.names.items c.place p n s.0) (sym here.1) ∙ rising q.names.items is.in_order c.place i n before here.0 in
              inr (subst (λ x. IsSooner p d m x) (sym b.2) (lower_sooner p m d e (subst (λ x. x ≤ e.cost) cost dear) (subst (λ x. name_cmp p x ≡ Less) (sym b.1) order)))
        ],
  )

  -- the process is chosen, where it costs less than the choice
  pub choice_made : (best : Option Choice) → IsChoice q flight i best → MatchOption best Unit (λ c. e.cost < c.cost) → e.resting ≡ false → (t : Task) → IsFirstOpen flight n e (Some t) → IsChoice q flight (i + 1) (Some (record { place = i; cost = e.cost; task = t }))
  choice_made best so_far cheaper awake t first = (
    n,
    e,
    here,
    omega arith,
    refl,
    awake,
    first,
    λ k m f h s r.
        elim (before_or_here k m f h s) [
          | inl b ↦ inr (cheaper_sooner n m e f (go best so_far cheaper k m f b s r))
          | inr b ↦ inl (b.1, b.2)
        ],
  )
    where
      go : (o : Option Choice) → IsChoice q flight i o → MatchOption o Unit (λ c. e.cost < c.cost) → (k : ℕ) (m : Name) (f : Entry) → k < i → Stands q.names.items q.entries.items k m f → IsReady flight m f → e.cost < f.cost
      go None none u k m f b s r = absurd (none k m f b s r)
      go (Some c) (p, d, at, before, cost, rests, open', least) less k m f b s r =
          elim (least k m f b s r) [
            | inl same ↦ subst (λ (x : Entry). e.cost < x.cost) (sym same.1) (subst (λ x. e.cost < x) cost less)
            | inr sooner ↦ let up = sooner_cost p m d f sooner in omega (arith, up, cost, less)
          ]
