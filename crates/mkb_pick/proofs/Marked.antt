-- What marks say after a change.
use Rattle.std.proofs.Common.{ℕ, ◌≡◌, sym, ap, ◌∙◌, subst, ◌⊎◌, inl, inr, ◌↔◌}
use Rattle.kb_node.specs.declared.node.NodeId.{NodeId}
use Rattle.mkb_pick.specs.declared.marks.Mark.{Mark}
use Rattle.mkb_pick.specs.declared.marks.Mark.TheVariants.{Absent, Single, Unknown}
use Rattle.mkb_pick.specs.declared.marks.Marks.{Marks}
use Rattle.mkb_pick.specs.declared.task.Work.{Work}
use Rattle.mkb_pick.specs.declared.task.Work.TheVariants.{Reducing}
use Rattle.mkb_pick.specs.declared.task.Task.{Task}
use Rattle.mkb_pick.specs.declared.tree.Tree.{Tree}
use Rattle.mkb_pick.specs.Tasks.{Has, task_at}
use Rattle.mkb_pick.specs.Trees.{HasKey}
use Rattle.mkb_pick.specs.Marks.{mark_at, more, fewer, reducing, Tells, IsTold, IsSet}

-- a mark says the same of trees with the same reducings of the node
pub tells_same : (m : Mark) (old new : Tree) (k : ℕ) → ((w : ℕ) → Has new (reducing k w) ↔ Has old (reducing k w)) → Tells m old k → Tells m new k
tells_same Absent old new k same h = λ w x. h w ((same w).0 x)
tells_same Single old new k same h = (h.0, λ w. (λ x. (h.1 w).0 ((same w).0 x), λ e. (same w).1 ((h.1 w).1 e)))
tells_same Unknown old new k same h = tt

-- a node has another mark
pub told_set : (old new : Marks) (n : ℕ) (mark : Mark) (was now : Tree) → IsSet old new n mark → ((k w : ℕ) → ¬ (k ≡ n) → Has now (reducing k w) ↔ Has was (reducing k w)) → Tells mark now n → IsTold old was → IsTold new now
told_set old new n mark was now is same here told k =
    elim (is k) [
      | inl e ↦ subst (λ m. Tells m now k) (sym e) tt
      | inr a ↦
          elim a [
            | inl e ↦ subst (λ m. Tells m now k) (sym e.1) (subst (Tells mark now) (sym e.0) here)
            | inr e ↦ subst (λ m. Tells m now k) (sym e.1) (tells_same (mark_at old k) was now k (λ w. same k w e.0) (told k))
          ]
    ]

-- the marks are copied, or unknown
pub told_copied : (old new : Marks) (was now : Tree) → ((k : ℕ) → (mark_at new k ≡ Unknown) ⊎ (mark_at new k ≡ mark_at old k)) → ((t : Task) → Has now t ↔ Has was t) → IsTold old was → IsTold new now
told_copied old new was now is same told k =
    elim (is k) [
      | inl e ↦ subst (λ m. Tells m now k) (sym e) tt
      | inr e ↦ subst (λ m. Tells m now k) (sym e) (tells_same (mark_at old k) was now k (λ w. same (reducing k w)) (told k))
    ]

-- the node that is reduced
abbrev node_of : Work → ℕ
node_of (Reducing n) = n.0
node_of w = 0

node_same : (k n v w : ℕ) → reducing k v ≡ reducing n w → (k ≡ n) × (v ≡ w)
node_same k n v w e = (ap (λ t. node_of t.work) e, ap (λ t. t.weight) e)

-- one reducing more
tells_more : (m : Mark) (was now : Tree) (n v : ℕ) → ((t : Task) → Has now t ↔ ((t ≡ reducing n v) ⊎ Has was t)) → Tells m was n → Tells (more m) now n
tells_more Absent was now n v has h = (
  v,
  λ w. (
    λ x.
        elim ((has (reducing n w)).0 x) [
          | inl e ↦ (node_same n n w v e).1
          | inr b ↦ absurd (h w b)
        ],
    λ e. (has (reducing n w)).1 (inl (ap (reducing n) e)),
  ),
)
tells_more Single was now n v has h = tt
tells_more Unknown was now n v has h = tt

module _ (old new : Marks) (was now : Tree) (n v : ℕ) where
  pub told_more : IsSet old new n (more (mark_at old n)) → ((t : Task) → Has now t ↔ ((t ≡ reducing n v) ⊎ Has was t)) → IsTold old was → IsTold new now
  told_more is has told =
      told_set old new n (more (mark_at old n)) was now is
      (λ k w apart. (
        λ x.
            elim ((has (reducing k w)).0 x) [
              | inl e ↦ absurd (apart (node_same k n w v e).0)
              | inr b ↦ b
            ],
        λ x. (has (reducing k w)).1 (inr x),
      ))
      (tells_more (mark_at old n) was now n v has (told n)) told

-- one reducing fewer
tells_fewer : (m : Mark) (was now : Tree) (n v : ℕ) → ((t : Task) → Has now t ↔ (Has was t × ¬ (t ≡ reducing n v))) → Has was (reducing n v) → Tells m was n → Tells (fewer m) now n
tells_fewer Absent was now n v has there h = tt
tells_fewer Single was now n v has there h = λ w x. let k = (has (reducing n w)).0 x in k.1 (ap (reducing n) ((h.1 w).0 k.0 ∙ sym ((h.1 v).0 there)))
tells_fewer Unknown was now n v has there h = tt

module _ (old new : Marks) (was now : Tree) (n v : ℕ) where
  pub told_fewer : IsSet old new n (fewer (mark_at old n)) → ((t : Task) → Has now t ↔ (Has was t × ¬ (t ≡ reducing n v))) → Has was (reducing n v) → IsTold old was → IsTold new now
  told_fewer is has there told =
      told_set old new n (fewer (mark_at old n)) was now is (λ k w apart. (λ x. ((has (reducing k w)).0 x).0, λ x. (has (reducing k w)).1 (x, λ e. apart (node_same k n w v e).0)))
      (tells_fewer (mark_at old n) was now n v has there (told n)) told

-- ---- a search for a reducing

-- a task that reduces the node is there where its key is
pub reducing_key : (tasks : Tree) (n : NodeId) → ((k : ℕ) × HasKey tasks k × ((task_at k).work ≡ Reducing n)) ↔ ((w : ℕ) × Has tasks (reducing n.0 w))
unfolding Has
reducing_key tasks n = (
  λ h. ((task_at h.0).weight, (h.0, h.1, ap (λ x. record { work = x; weight = (task_at h.0).weight }) h.2)),
  λ h. (h.1.0, h.1.1, ap (λ t. t.work) h.1.2),
)
