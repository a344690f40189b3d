-- What a change of one process does to the queue.
use Rattle.std.proofs.Common.{ℕ, ◌≡◌, ◌<◌, refl, sym, ap, ◌∙◌, subst, ◌⊎◌, inl, inr, Bool, true, false, [], ◌∷◌, ◌↔◌, length, get_or}
use Rattle.std.specs.Prelude.{Some}
use Rattle.std.specs.Vec.{with_item}
use Rattle.std.specs.declared.cmp.Ordering.{Ordering}
use Rattle.std.specs.declared.cmp.Ordering.TheVariants.{Less, Equal, Greater}
use Rattle.kb_label.specs.Names.{Name, name_cmp, child}
use Rattle.kb_label.specs.NameOrder.{name_cmp-equal, name_cmp-same}
use Rattle.mkb_pick.specs.declared.task.Task.{Task}
use Rattle.mkb_pick.specs.declared.tree.Tree.{Leaf}
use Rattle.mkb_pick.specs.declared.queue.Entry.{Entry}
use Rattle.mkb_pick.specs.declared.marks.Marks.{Marks}
use Rattle.mkb_pick.specs.declared.queue.Queue.{Queue}
use Rattle.mkb_pick.specs.Tasks.{Has}
use Rattle.mkb_pick.specs.Queues.{IsQueue, IsAt, IsSeated, With, Shows, Sits, HasTask}
use Rattle.mkb_pick.proofs.Seats.{Standing, one_entry, entry_of, after_set}

pub names_decide : (p q : Name) → (p ≡ q) ⊎ (¬ (p ≡ q))
names_decide p q = go (name_cmp p q) refl
  where
    go : (o : Ordering) → name_cmp p q ≡ o → (p ≡ q) ⊎ (¬ (p ≡ q))
    go Equal h = inl (name_cmp-equal p q h)
    go Less h = inr (λ e. let k : name_cmp p q ≡ Equal = ap (name_cmp p) (sym e) ∙ name_cmp-same p in cc)
    go Greater h = inr (λ e. let k : name_cmp p q ≡ Equal = ap (name_cmp p) (sym e) ∙ name_cmp-same p in cc)

-- a name has one entry
pub only_entry : (q : Queue) → IsQueue q → (n : Name) (d e : Entry) → IsAt q n d → IsAt q n e → e ≡ d
only_entry q is n d e s t = one_entry q.names.items q.entries.items n s.0 is.beside is.in_order s.1.0 s.1.1 d e s.1.2 t

-- what a process has is what its entry has
pub found_with : (q : Queue) → IsQueue q → (n : Name) (d : Entry) → IsAt q n d → (P : Entry → Type 0) → With q n P ↔ P d
found_with q is n d there P = (λ h. subst P (only_entry q is n d h.0 there h.1) h.2, λ h. (d, there, h))

-- the entry d of the name has become e, and all else is as before
pub record IsReplaced (old new : Queue) (n : Name) (d e : Entry) : Type 0 where
  pub queue : IsQueue old
  pub there : IsAt old n d
  pub entries : (m : Name) (x : Entry) → IsAt new m x ↔ (((m ≡ n) × (x ≡ e)) ⊎ (IsAt old m x × ¬ (m ≡ n)))

-- the queue with e at the place k
abbrev pub changed : Queue → ℕ → Entry → Queue
changed q k e = record { names = q.names; entries = with_item q.entries k e; spare = q.spare; last = q.last }

-- the entry at the place of a name is changed, after a search
pub replaced : (old mid : Queue) (n : Name) (k : ℕ) (d e : Entry) → IsQueue old → mid.names ≡ old.names → mid.entries ≡ old.entries → (k < length old.names.items) × (get_or old.names.items k n ≡ n) → d ≡ get_or mid.entries.items k d → IsReplaced old (changed mid k e) n d e
replaced old mid n k d e is names entries here was =
    subst (λ ns. IsReplaced old (record { names = ns; entries = with_item mid.entries k e; spare = mid.spare; last = mid.last }) n d e) (sym names)
    (subst (λ es. d ≡ get_or es.items k d → IsReplaced old (record { names = old.names; entries = with_item es k e; spare = mid.spare; last = mid.last }) n d e) (sym entries)
    (λ w. record { queue = is; there = (k, (here.0, here.1, sym w)); entries = after_set old.names.items old.entries.items n k is.beside is.in_order here.0 here.1 e }) was)

module _ (old new : Queue) (n : Name) (d e : Entry) (is : IsReplaced old new n d e) where
  with_new : (m : Name) (P : Entry → Type 0) → With new m P ↔ (((m ≡ n) × P e) ⊎ ((¬ (m ≡ n)) × With old m P))
  with_new m P = (
    λ h.
        elim ((is.entries m h.0).0 h.1) [
          | inl q ↦ inl (q.0, subst P q.1 h.2)
          | inr q ↦ inr (q.1, (h.0, q.0, h.2))
        ],
    λ h.
        elim h [
          | inl q ↦ (e, (is.entries m e).1 (inl (q.0, refl)), q.1)
          | inr q ↦ (q.1.0, (is.entries m q.1.0).1 (inr (q.1.1, q.0)), q.1.2)
        ],
  )

  with_old : (m : Name) (P : Entry → Type 0) → With old m P ↔ (((m ≡ n) × P d) ⊎ ((¬ (m ≡ n)) × With old m P))
  with_old m P = (
    λ h.
        elim (names_decide m n) [
          | inl k ↦ inl (k, subst P (only_entry old is.queue n d h.0 is.there (subst (λ z. IsAt old z h.0) k h.1)) h.2)
          | inr k ↦ inr (k, h)
        ],
    λ h.
        elim h [
          | inl q ↦ (d, subst (λ z. IsAt old z d) (sym q.0) is.there, q.1)
          | inr q ↦ q.1
        ],
  )

  -- what both entries have, or neither, stays
  with_stays : (m : Name) (P : Entry → Type 0) → P e ↔ P d → With new m P ↔ With old m P
  with_stays m P same = (
    λ h.
        elim ((with_new m P).0 h) [
          | inl q ↦ (with_old m P).1 (inl (q.0, same.0 q.1))
          | inr q ↦ q.1
        ],
    λ h.
        elim ((with_old m P).0 h) [
          | inl q ↦ (with_new m P).1 (inl (q.0, same.1 q.1))
          | inr q ↦ (with_new m P).1 (inr q)
        ],
  )

  -- the cost and the rest stay
  pub seats_stay : e.cost ≡ d.cost → e.resting ≡ d.resting → (m : Name) (c : ℕ) (r : Bool) → Sits new m c r ↔ Sits old m c r
  seats_stay cost rest m c r = with_stays m (Shows c r) (λ h. (sym cost ∙ h.0, sym rest ∙ h.1), λ h. (cost ∙ h.0, rest ∙ h.1))

  -- the tasks stay
  pub tasks_stay : ((t : Task) → Has e.tasks t ↔ Has d.tasks t) → (m : Name) (t : Task) → HasTask new m t ↔ HasTask old m t
  tasks_stay same m t = with_stays m (λ x. Has x.tasks t) (same t)

  -- one task more
  pub task_added : (x : Task) → ((t : Task) → Has e.tasks t ↔ ((t ≡ x) ⊎ Has d.tasks t)) → (m : Name) (t : Task) → HasTask new m t ↔ (((m ≡ n) × (t ≡ x)) ⊎ HasTask old m t)
  task_added x more m t =
      let now = with_new m (λ y. Has y.tasks t) in
      let was = with_old m (λ y. Has y.tasks t) in (
        λ h.
            elim (now.0 h) [
              | inl q ↦
                  elim ((more t).0 q.1) [
                    | inl k ↦ inl (q.0, k)
                    | inr k ↦ inr (was.1 (inl (q.0, k)))
                  ]
              | inr q ↦ inr q.1
            ],
        λ h.
            elim h [
              | inl q ↦ now.1 (inl (q.0, (more t).1 (inl q.1)))
              | inr q ↦
                  elim (was.0 q) [
                    | inl k ↦ now.1 (inl (k.0, (more t).1 (inr k.1)))
                    | inr k ↦ now.1 (inr k)
                  ]
            ],
      )

  -- one task fewer
  pub task_removed : (x : Task) → ((t : Task) → Has e.tasks t ↔ (Has d.tasks t × ¬ (t ≡ x))) → (m : Name) (t : Task) → HasTask new m t ↔ (HasTask old m t × ¬ ((m ≡ n) × (t ≡ x)))
  task_removed x less m t =
      let now = with_new m (λ y. Has y.tasks t) in
      let was = with_old m (λ y. Has y.tasks t) in (
        λ h.
            elim (now.0 h) [
              | inl q ↦ let k = (less t).0 q.1 in (was.1 (inl (q.0, k.0)), λ both. k.1 both.1)
              | inr q ↦ (q.1, λ both. q.0 both.0)
            ],
        λ h.
            elim (was.0 h.0) [
              | inl q ↦ now.1 (inl (q.0, (less t).1 (q.1, λ k. h.1 (q.0, k))))
              | inr q ↦ now.1 (inr q)
            ],
      )

  -- another cost
  pub cost_set : (k : ℕ) → e.cost ≡ k → e.resting ≡ d.resting → (m : Name) (c : ℕ) (r : Bool) → Sits new m c r ↔ (((m ≡ n) × (c ≡ k) × ((b : ℕ) × Sits old m b r)) ⊎ ((¬ (m ≡ n)) × Sits old m c r))
  cost_set k cost rest m c r = (
    λ h.
        elim ((with_new m (Shows c r)).0 h) [
          | inl q ↦ inl (q.0, sym q.1.0 ∙ cost, (d.cost, (with_old m (Shows d.cost r)).1 (inl (q.0, (refl, sym rest ∙ q.1.1)))))
          | inr q ↦ inr q
        ],
    λ h.
        elim h [
          | inl q ↦
              elim ((with_old m (Shows q.2.0 r)).0 q.2.1) [
                | inl a ↦ (with_new m (Shows c r)).1 (inl (q.0, (cost ∙ sym q.1, rest ∙ a.1.1)))
                | inr a ↦ absurd (a.0 q.0)
              ]
          | inr q ↦ (with_new m (Shows c r)).1 (inr q)
        ],
  )

  -- it rests now, or does not
  pub rest_set : (k : Bool) → e.cost ≡ d.cost → e.resting ≡ k → (m : Name) (c : ℕ) (r : Bool) → Sits new m c r ↔ (((m ≡ n) × (r ≡ k) × ((b : Bool) × Sits old m c b)) ⊎ ((¬ (m ≡ n)) × Sits old m c r))
  rest_set k cost rest m c r = (
    λ h.
        elim ((with_new m (Shows c r)).0 h) [
          | inl q ↦ inl (q.0, sym q.1.1 ∙ rest, (d.resting, (with_old m (Shows c d.resting)).1 (inl (q.0, (sym cost ∙ q.1.0, refl)))))
          | inr q ↦ inr q
        ],
    λ h.
        elim h [
          | inl q ↦
              elim ((with_old m (Shows c q.2.0)).0 q.2.1) [
                | inl a ↦ (with_new m (Shows c r)).1 (inl (q.0, (cost ∙ a.1.0, rest ∙ sym q.1)))
                | inr a ↦ absurd (a.0 q.0)
              ]
          | inr q ↦ (with_new m (Shows c r)).1 (inr q)
        ],
  )

-- what has an entry is listed
pub seat_at : (q : Queue) (n : Name) (e : Entry) → IsAt q n e → IsSeated q n
seat_at q n e s = (s.0, s.1.0, s.1.1)

-- what is listed has an entry
pub entry_at : (q : Queue) → IsQueue q → (n : Name) → IsSeated q n → (e : Entry) × IsAt q n e
entry_at q is n s = entry_of q.names.items q.entries.items is.beside n s

-- what is not listed has no entry
pub none_with : (q : Queue) (n : Name) → ¬ IsSeated q n → (P : Entry → Type 0) → ¬ With q n P
none_with q n none P h = none (seat_at q n h.0 h.1)

-- a process that is not there has no task to be taken out
pub task_lacked : (q : Queue) (n : Name) (x : Task) → ¬ IsSeated q n → (m : Name) (t : Task) → HasTask q m t ↔ (HasTask q m t × ¬ ((m ≡ n) × (t ≡ x)))
task_lacked q n x none m t = (λ h. (h, λ e. none (subst (IsSeated q) e.0 (seat_at q m h.0 h.1))), λ h. h.0)

-- a search changes no entry
pub with_same : (old new : Queue) → new.names ≡ old.names → new.entries ≡ old.entries → (m : Name) (P : Entry → Type 0) → With new m P ↔ With old m P
with_same old new names entries m P =
    subst (λ ns. ((e : Entry) × Standing ns.items new.entries.items m e × P e) ↔ With old m P) (sym names)
    (subst (λ es. ((e : Entry) × Standing old.names.items es.items m e × P e) ↔ With old m P) (sym entries) (λ h. h, λ h. h))

-- a process goes
pub with_gone : (old new : Queue) (n : Name) → ((m : Name) (x : Entry) → IsAt new m x ↔ (IsAt old m x × ¬ (m ≡ n))) → (m : Name) (P : Entry → Type 0) → With new m P ↔ (With old m P × ¬ (m ≡ n))
with_gone old new n kept m P = (
  λ h. let k = (kept m h.0).0 h.1 in ((h.0, k.0, h.2), k.1),
  λ h. (h.0.0, (kept m h.0.0).1 (h.0.1, h.1), h.0.2),
)

-- a process comes
pub with_come : (old new : Queue) (n : Name) (e : Entry) → ((m : Name) (x : Entry) → IsAt new m x ↔ (((m ≡ n) × (x ≡ e)) ⊎ IsAt old m x)) → (m : Name) (P : Entry → Type 0) → With new m P ↔ (((m ≡ n) × P e) ⊎ With old m P)
with_come old new n e more m P = (
  λ h.
      elim ((more m h.0).0 h.1) [
        | inl q ↦ inl (q.0, subst P q.1 h.2)
        | inr q ↦ inr (h.0, q, h.2)
      ],
  λ h.
      elim h [
        | inl q ↦ (e, (more m e).1 (inl (q.0, refl)), q.1)
        | inr q ↦ (q.0, (more m q.0).1 (inr q.1), q.2)
      ],
)

-- a process is taken out, and its two children are put in: the first has its entry, and the second one that has as much
pub record IsParted (old mid most new : Queue) (n m0 m1 : Name) (d f : Entry) : Type 0 where
  pub queue : IsQueue old
  pub there : IsAt old n d
  pub out : (m : Name) (x : Entry) → IsAt mid m x ↔ (IsAt old m x × ¬ (m ≡ n))
  pub first : (m : Name) (x : Entry) → IsAt most m x ↔ (((m ≡ m0) × (x ≡ d)) ⊎ IsAt mid m x)
  pub second : (m : Name) (x : Entry) → IsAt new m x ↔ (((m ≡ m1) × (x ≡ f)) ⊎ IsAt most m x)

pub with_parted : (old mid most new : Queue) (n m0 m1 : Name) (d f : Entry) → IsParted old mid most new n m0 m1 d f → (P : Entry → Type 0) → P f ↔ P d → (m : Name) → With new m P ↔ ((((m ≡ m0) ⊎ (m ≡ m1)) × With old n P) ⊎ ((¬ (m ≡ n)) × With old m P))
with_parted old mid most new n m0 m1 d f is P same m =
    let own = found_with old is.queue n d is.there P in
    let one = with_come mid most m0 d is.first m P in
    let two = with_come most new m1 f is.second m P in
    let gone = with_gone old mid n is.out m P in (
      λ h.
          elim (two.0 h) [
            | inl q ↦ inl (inr q.0, own.1 (same.0 q.1))
            | inr q ↦
                elim (one.0 q) [
                  | inl k ↦ inl (inl k.0, own.1 k.1)
                  | inr k ↦ let g = gone.0 k in inr (g.1, g.0)
                ]
          ],
      λ h.
          elim h [
            | inl q ↦
                elim q.0 [
                  | inl k ↦ two.1 (inr (one.1 (inl (k, own.0 q.1))))
                  | inr k ↦ two.1 (inl (k, same.1 (own.0 q.1)))
                ]
            | inr q ↦ two.1 (inr (one.1 (inr (gone.1 (q.1, q.0)))))
          ],
    )

children_apart : (p : Name) → child p false ≡ child p true → ⊥
children_apart [] e = cc
children_apart (b ∷ p) e = children_apart p (cc)

-- the first child is not listed when its parent goes
pub first_free : (old mid : Queue) (n m0 : Name) → IsQueue mid → ((bit : Bool) → ¬ IsSeated old (child n bit)) → ((m : Name) (x : Entry) → IsAt mid m x ↔ (IsAt old m x × ¬ (m ≡ n))) → m0 ≡ child n false → ¬ IsSeated mid m0
first_free old mid n m0 is free out first s = let e = entry_at mid is m0 s in free false (subst (IsSeated old) first (seat_at old m0 e.0 ((out m0 e.0).0 e.1).0))

-- the second child is not listed once the first is
pub second_free : (old mid most : Queue) (n m0 m1 : Name) (d : Entry) → IsQueue most → ((bit : Bool) → ¬ IsSeated old (child n bit)) → ((m : Name) (x : Entry) → IsAt mid m x ↔ (IsAt old m x × ¬ (m ≡ n))) → m0 ≡ child n false → m1 ≡ child n true → ((m : Name) (x : Entry) → IsAt most m x ↔ (((m ≡ m0) × (x ≡ d)) ⊎ IsAt mid m x)) → ¬ IsSeated most m1
second_free old mid most n m0 m1 d is free out named second one s =
    let e = entry_at most is m1 s in
    elim ((one m1 e.0).0 e.1) [
      | inl q ↦ children_apart n (sym named ∙ sym q.0 ∙ second)
      | inr q ↦ free true (subst (IsSeated old) second (seat_at old m1 e.0 ((out m1 e.0).0 q).0))
    ]

-- a process that was just listed
abbrev pub bare_entry : ℕ → Marks → Entry
bare_entry k m = record { cost = k; resting = false; tasks = Leaf; tally = Some 0; marks = m }
