-- The order of tasks, and which clash.
use Rattle.std.proofs.Common.{ℕ, ◌≡◌, ◌<◌, ◌≤◌, ◌+◌, ◌*◌, ◌^◌, ◌/◌, ◌%◌, refl, sym, ap, ap₂, ◌∙◌, subst, ◌⊎◌, inl, inr, true, false, List, [], ◌∷◌, get_or, arith}
use Rattle.std.specs.Prelude.{not, ◌||◌, ◌↔◌}
use Rattle.mkb_pick.specs.declared.run.Run.{Run}
use Rattle.mkb_pick.specs.declared.tree.Tree.{Tree, Leaf, Fork'}
use Rattle.mkb_pick.specs.Runs.{Holds, IsFilled, size}
use Rattle.mkb_pick.specs.Trees.{HasKey, IsOrdered, nodes, count}
use Rattle.std.specs.List.{list_any}
use Rattle.std.specs.Cmp.{IsTotalOrder, on_total, nat_cmp_total, nat_cmp_is, tied_itself}
use Rattle.std.specs.Cmp.Lexicographic.{lists_total}
use Rattle.std.proofs.lemmas.Map.Lookups.{exact_bytes}
use Rattle.kb_term.specs.declared.origin.RuleRef.{RuleRef}
use Rattle.kb_node.specs.declared.node.NodeId.{NodeId}
use Rattle.std.specs.declared.cmp.Ordering.TheVariants.{Less, Equal}
use Rattle.kb_label.specs.Names.{Name}
use Rattle.kb_node.specs.declared.job.Job.{Job}
use Rattle.kb_node.specs.declared.job.Job.TheVariants.{Reduce, Orient, Overlap, Close}
use Rattle.mkb_pick.specs.declared.task.Work.{Work}
use Rattle.mkb_pick.specs.declared.task.Work.TheVariants.{Reducing, Orienting, Overlapping, Closing}
use Rattle.mkb_pick.specs.declared.task.Task.{Task}
use Rattle.mkb_model.specs.Jobs.{clashes, is_free}
use Rattle.mkb_pick.specs.KeyOrder.{keys_order}
use Rattle.mkb_pick.proofs.Rising.{at_place}
use Rattle.mkb_pick.specs.Tasks.{IsTaskKey, IsCode, IsAgenda, Has, task_at, work_at, task_cmp, work_key, work_kind, job_of, is_open}

pub tasks_total : IsTotalOrder task_cmp
tasks_total = on_total (λ t. work_key t.work t.weight) (lists_total nat_cmp_total)

-- an Orient clashes with what a Close of its process clashes with
orient_as_close : (p : Name) (n : _) (j : Job) → clashes (Orient p n) j ≡ clashes (Close p) j
orient_as_close p n (Reduce q m) = refl
orient_as_close p n (Orient q m) = refl
orient_as_close p n (Overlap q a b) = refl
orient_as_close p n (Close q) = refl

orient_held : (p : Name) (n : _) (flight : List Job) → list_any (clashes (Orient p n)) flight ≡ list_any (clashes (Close p)) flight
orient_held p n [] = refl
orient_held p n (j ∷ flight) = ap₂ ◌||◌ (orient_as_close p n j) (orient_held p n flight)

-- where a process is held, a task of it that clashes with nothing is a reduction or an overlap
pub held_kinds : (flight : List Job) (p : Name) → is_free flight (Close p) ≡ false → (t : Task) → is_open flight p t ≡ true → (work_kind t.work ≡ 0) ⊎ (work_kind t.work ≡ 2)
held_kinds flight p held t open' = go t.work open'
  where
    go : (w : Work) → is_free flight (job_of p w) ≡ true → (work_kind w ≡ 0) ⊎ (work_kind w ≡ 2)
    go (Reducing n) h = inl refl
    go (Orienting n) h = let e : is_free flight (Orient p n) ≡ is_free flight (Close p) = ap not (orient_held p n flight) in absurd (cc)
    go (Overlapping a b) h = inr refl
    go Closing h = absurd (cc)

-- a reduction comes before an overlap
pub kinds_apart : (s t : Task) → work_kind s.work ≡ 0 → work_kind t.work ≡ 2 → task_cmp s t ≡ Less
kinds_apart s t h k = go s.work t.work h k
  where
    go : (v w : Work) → work_kind v ≡ 0 → work_kind w ≡ 2 → task_cmp (record { work = v; weight = s.weight }) (record { work = w; weight = t.weight }) ≡ Less
    go (Reducing n) (Reducing m) h k = absurd (cc)
    go (Reducing n) (Orienting m) h k = absurd (cc)
    go (Reducing n) (Overlapping a b) h k = refl
    go (Reducing n) Closing h k = absurd (cc)
    go (Orienting n) w h k = absurd (cc)
    go (Overlapping a b) w h k = absurd (cc)
    go Closing w h k = absurd (cc)

node_exact : (n m : NodeId) → n.0 ≡ m.0 → n ≡ m
node_exact n m e = ap (λ k. record { 0 = k }) e

rule_exact : (a b : RuleRef) → a.node ≡ b.node → a.dir ≡ b.dir → a ≡ b
rule_exact a b e f = ap₂ (λ n d. record { node = n; dir = d }) e f

key_exact : (v w : Work) (m n : ℕ) → work_key v m ≡ work_key w n → (v ≡ w) × (m ≡ n)
key_exact (Reducing a) (Reducing b) m n e = (ap Reducing (node_exact a b (cc)), cc)
key_exact (Reducing a) (Orienting b) m n e = absurd (cc)
key_exact (Reducing a) (Overlapping b c) m n e = absurd (cc)
key_exact (Reducing a) Closing m n e = absurd (cc)
key_exact (Orienting a) (Reducing b) m n e = absurd (cc)
key_exact (Orienting a) (Orienting b) m n e = (ap Orienting (node_exact a b (cc)), cc)
key_exact (Orienting a) (Overlapping b c) m n e = absurd (cc)
key_exact (Orienting a) Closing m n e = absurd (cc)
key_exact (Overlapping a c) (Reducing b) m n e = absurd (cc)
key_exact (Overlapping a c) (Orienting b) m n e = absurd (cc)
key_exact (Overlapping a c) (Overlapping b d) m n e = (ap₂ Overlapping (rule_exact a b (cc) (cc)) (rule_exact c d (cc) (cc)), cc)
key_exact (Overlapping a c) Closing m n e = absurd (cc)
key_exact Closing (Reducing b) m n e = absurd (cc)
key_exact Closing (Orienting b) m n e = absurd (cc)
key_exact Closing (Overlapping b c) m n e = absurd (cc)
key_exact Closing Closing m n e = (refl, cc)

-- tasks at one place are one
pub task_exact : (s t : Task) → task_cmp s t ≡ Equal → s ≡ t
task_exact s t h =
    let k = key_exact s.work t.work s.weight t.weight (exact_bytes (work_key s.work s.weight) (work_key t.work t.weight) h) in
    ap₂ (λ w n. record { work = w; weight = n }) k.0 k.1

pub task_itself : (s t : Task) → s ≡ t → task_cmp s t ≡ Equal
task_itself s t e = ap (task_cmp s) (sym e) ∙ tied_itself tasks_total s

-- a key is that of one task
pub one_task : (k : ℕ) (s t : Task) → IsTaskKey k s → IsTaskKey k t → s ≡ t
one_task k s t h i = task_exact s t (keys_order (work_key s.work s.weight) (work_key t.work t.weight) k k h i ∙ tied_itself nat_cmp_total k)

-- ---- keys and tasks

-- what the numbers in a key are
key_parts : (kind w n d m e k : ℕ) → (kind < 4) × ((w < 2 ^ 32) × ((n < 2 ^ 16) × ((d < 2 ^ 8) × ((m < 2 ^ 16) × ((e < 2 ^ 8) × Unit {0}))))) → k ≡ kind * 2 ^ 80 + (w * 2 ^ 48 + (n * 2 ^ 32 + (d * 2 ^ 24 + (m * 2 ^ 8 + (e * 1 + 0))))) → (k / 2 ^ 80 ≡ kind) × (k / 2 ^ 48 % 2 ^ 32 ≡ w) × (k / 2 ^ 32 % 2 ^ 16 ≡ n) × (k / 2 ^ 24 % 2 ^ 8 ≡ d) × (k / 2 ^ 8 % 2 ^ 16 ≡ m) × (k % 2 ^ 8 ≡ e)
key_parts kind w n d m e k all is =
    let a = all.0 in
    let b = all.1.0 in
    let f = all.1.1.0 in
    let g = all.1.1.1.0 in
    let h = all.1.1.1.1.0 in
    let i = all.1.1.1.1.1.0 in
    let first : k / 2 ^ 80 ≡ kind = omega (arith, a, b, f, g, h, i, is) in
    let weight : k / 2 ^ 48 ≡ kind * 2 ^ 32 + w = omega (arith, a, b, f, g, h, i, is) in
    let one : k / 2 ^ 32 ≡ (kind * 2 ^ 32 + w) * 2 ^ 16 + n = omega (arith, a, b, f, g, h, i, is) in
    let two : k / 2 ^ 24 ≡ ((kind * 2 ^ 32 + w) * 2 ^ 16 + n) * 2 ^ 8 + d = omega (arith, a, b, f, g, h, i, is) in
    let three : k / 2 ^ 8 ≡ (((kind * 2 ^ 32 + w) * 2 ^ 16 + n) * 2 ^ 8 + d) * 2 ^ 16 + m = omega (arith, a, b, f, g, h, i, is) in (
      first,
      omega (arith, weight, b),
      omega (arith, one, f),
      omega (arith, two, g),
      omega (arith, three, h),
      omega (arith, is, i),
    )

-- the task of these numbers
abbrev made_of : ℕ → ℕ → ℕ → ℕ → ℕ → ℕ → Task
made_of kind w n d m e = record { work = work_at kind n d m e; weight = w }

task_of_parts : (kind w n d m e k : ℕ) → (k / 2 ^ 80 ≡ kind) × (k / 2 ^ 48 % 2 ^ 32 ≡ w) × (k / 2 ^ 32 % 2 ^ 16 ≡ n) × (k / 2 ^ 24 % 2 ^ 8 ≡ d) × (k / 2 ^ 8 % 2 ^ 16 ≡ m) × (k % 2 ^ 8 ≡ e) → task_at k ≡ made_of kind w n d m e
task_of_parts kind w n d m e k (a, b, f, g, h, i) =
    ap₂ (λ x y. made_of x y (k / 2 ^ 32 % 2 ^ 16) (k / 2 ^ 24 % 2 ^ 8) (k / 2 ^ 8 % 2 ^ 16) (k % 2 ^ 8)) a b
    ∙ ap₂ (λ x y. made_of kind w x y (k / 2 ^ 8 % 2 ^ 16) (k % 2 ^ 8)) f g
    ∙ ap₂ (λ x y. made_of kind w n d x y) h i

-- a key tells its task
pub task_again : (k : ℕ) (t : Task) → IsTaskKey k t → task_at k ≡ t
task_again k t key = go t.work t.weight key
  where
    go : (v : Work) (w : ℕ) → IsTaskKey k (record { work = v; weight = w }) → task_at k ≡ record { work = v; weight = w }
    go (Reducing n) w h = task_of_parts 0 w n.0 0 0 0 k (key_parts 0 w n.0 0 0 0 k h.0 h.1)
    go (Orienting n) w h = task_of_parts 1 w n.0 0 0 0 k (key_parts 1 w n.0 0 0 0 k h.0 h.1)
    go (Overlapping a b) w h = task_of_parts 2 w a.node a.dir b.node b.dir k (key_parts 2 w a.node a.dir b.node b.dir k h.0 h.1)
    go Closing w h = task_of_parts 3 w 0 0 0 0 k (key_parts 3 w 0 0 0 0 k h.0 h.1)

pub code_of : (k : ℕ) (t : Task) → IsTaskKey k t → IsCode k
code_of k t key = subst (IsTaskKey k) (sym (task_again k t key)) key

-- the kind in a key
pub kind_told : (k : ℕ) (t : Task) → IsTaskKey k t → k / 2 ^ 80 ≡ work_kind t.work
kind_told k t key = go t.work t.weight key
  where
    go : (v : Work) (w : ℕ) → IsTaskKey k (record { work = v; weight = w }) → k / 2 ^ 80 ≡ work_kind v
    go (Reducing n) w h = (key_parts 0 w n.0 0 0 0 k h.0 h.1).0
    go (Orienting n) w h = (key_parts 1 w n.0 0 0 0 k h.0 h.1).0
    go (Overlapping a b) w h = (key_parts 2 w a.node a.dir b.node b.dir k h.0 h.1).0
    go Closing w h = (key_parts 3 w 0 0 0 0 k h.0 h.1).0

-- tasks rise as their keys do
pub keys_rise : (k m : ℕ) (s t : Task) → IsTaskKey k s → IsTaskKey m t → k < m → task_cmp s t ≡ Less
keys_rise k m s t h i less = keys_order (work_key s.work s.weight) (work_key t.work t.weight) k m h i ∙ sym (nat_cmp_is k m Less less)

-- a task has one key
one_key : (k m : ℕ) (t : Task) → IsTaskKey k t → IsTaskKey m t → k ≡ m
one_key k m t a b = a.1 ∙ sym b.1

module _ (tasks : Tree) (is : IsAgenda tasks) (x : Task) (k : ℕ) (key : IsTaskKey k x) where
  -- a task is there where its key is
  pub key_there : HasKey tasks k ↔ Has tasks x
  unfolding Has IsAgenda
  key_there = (λ h. (k, h, task_again k x key), λ h. subst (HasKey tasks) (one_key h.0 k x (subst (IsTaskKey h.0) h.2 (is.1 h.0 h.1)) key) h.1)

-- one key more
pub agenda_more : (old new : Tree) (x : Task) (k : ℕ) → IsTaskKey k x → ((m : ℕ) → HasKey new m ↔ ((m ≡ k) ⊎ HasKey old m)) → ((m : ℕ) → HasKey old m → IsCode m) → ((t : Task) → Has new t ↔ ((t ≡ x) ⊎ Has old t)) × ((m : ℕ) → HasKey new m → IsCode m)
unfolding Has IsAgenda
agenda_more old new x k key more codes = (
  λ t. (
    λ h.
        elim ((more h.0).0 h.1) [
          | inl e ↦ inl (sym h.2 ∙ ap task_at e ∙ task_again k x key)
          | inr b ↦ inr (h.0, b, h.2)
        ],
    λ h.
        elim h [
          | inl e ↦ (k, (more k).1 (inl refl), task_again k x key ∙ sym e)
          | inr b ↦ (b.0, (more b.0).1 (inr b.1), b.2)
        ],
  ),
  λ m h.
      elim ((more m).0 h) [
        | inl e ↦ subst IsCode (sym e) (code_of k x key)
        | inr b ↦ codes m b
      ],
)

-- one key fewer
pub agenda_less : (old new : Tree) (x : Task) (k : ℕ) → IsTaskKey k x → ((m : ℕ) → HasKey new m ↔ (HasKey old m × ¬ (m ≡ k))) → ((m : ℕ) → HasKey old m → IsCode m) → ((t : Task) → Has new t ↔ (Has old t × ¬ (t ≡ x))) × ((m : ℕ) → HasKey new m → IsCode m)
unfolding Has IsAgenda
agenda_less old new x k key less codes = (
  λ t. (
    λ h.
        let there = (less h.0).0 h.1 in
        ((h.0, there.0, h.2), λ e. there.1 (one_key h.0 k x (subst (IsTaskKey h.0) (h.2 ∙ e) (codes h.0 there.0)) key)),
    λ h. (h.0.0, (less h.0.0).1 (h.0.1, λ e. h.1 (sym h.0.2 ∙ ap task_at e ∙ task_again k x key)), h.0.2),
  ),
  λ m h. codes m ((less m).0 h).0,
)

-- the same keys
pub agenda_same : (old new : Tree) → ((m : ℕ) → HasKey new m ↔ HasKey old m) → ((m : ℕ) → HasKey old m → IsCode m) → ((t : Task) → Has new t ↔ Has old t) × ((m : ℕ) → HasKey new m → IsCode m)
unfolding Has IsAgenda
agenda_same old new same codes = (
  λ t. (λ h. (h.0, (same h.0).0 h.1, h.2), λ h. (h.0, (same h.0).1 h.1, h.2)),
  λ m h. codes m ((same m).0 h),
)

-- a leaf has no task
pub none_in_leaf : (t : Task) → ¬ Has Leaf t
unfolding Has
none_in_leaf t h = absurd h.1

-- a node has a task
pub some_in_fork : (p : _) (left : Tree) (run : Run) (w : ℕ) (right : Tree) → IsAgenda (Fork' p left run w right) → (t : Task) × Has (Fork' p left run w right) t
unfolding Has IsAgenda Holds IsFilled
some_in_fork p left run w right is =
    let k = get_or run.keys.items 0 0 in
    (task_at k, (k, inl (at_place run.keys.items 0 is.0.3.1), refl))

-- a tree has no more nodes than tasks
pub nodes_few : (tasks : Tree) → IsOrdered tasks → nodes tasks ≤ count tasks
unfolding IsFilled size
nodes_few Leaf is = omega arith
nodes_few (Fork' p left run w right) is = omega (arith, nodes_few left is.4, nodes_few right is.5, is.3.1)
