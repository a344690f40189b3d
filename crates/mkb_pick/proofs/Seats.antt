-- Names in their order beside their entries, and what a change at a place leaves.
use Rattle.std.proofs.Common.{ℕ, zero, suc, ◌≡◌, ◌<◌, ◌≤◌, ◌+◌, ◌-◌, sym, ap, ap₂, ◌∙◌, subst, ◌⊎◌, inl, inr, ◌↔◌, refl, List, [], ◌∷◌, length, get_or, set, insert, remove, take, drop, zip, arith, All, Contains, Ok}
use Rattle.std.proofs.lemmas.Bool.{cases_eq, cases_lt, cases_order}
use Rattle.std.proofs.lemmas.List.{get_or_default, get_or-set_same, get_or-set_other}
use Rattle.std.proofs.lemmas.List.Edits.{length-insert, get_or-insert_below, get_or-insert_at, get_or-insert_above, length-remove, get_or-remove_below, get_or-remove_above}
use Rattle.std.proofs.lemmas.List.Elements.{All-same, All-append, All-take, All-drop, All-cons}
use Rattle.std.specs.declared.cmp.Ordering.TheVariants.{Less, Equal}
use Rattle.kb_label.specs.Names.{Name, name_cmp, IsInNameOrder}
use Rattle.kb_label.specs.NameOrder.{name_cmp-same}
use Rattle.kb_label.proofs.Ordered.{skip, ordered-left}
use Rattle.kb_label.proofs.Searched.{search-left}
use Rattle.mkb_pick.specs.declared.queue.Entry.{Entry}
use Rattle.mkb_pick.specs.Queues.{Stands}

-- names in order rise from place to place
pub rising : (l : List Name) → IsInNameOrder l → (i j : ℕ) (d : Name) → i < j → j < length l → name_cmp (get_or l i d) (get_or l j d) ≡ Less
rising [] o i j d h w = absurd (omega (arith, w))
rising (p ∷ l) o i zero d h w = absurd (omega (arith, h))
rising (p ∷ []) o i (suc j) d h w = absurd (omega (arith, w))
rising (p ∷ q ∷ l) o zero (suc zero) d h w = o.0
rising (p ∷ q ∷ l) o zero (suc (suc j)) d h w = rising (p ∷ l) (skip p q l o) zero (suc j) d (omega arith) (omega (arith, w))
rising (p ∷ q ∷ l) o (suc i) (suc j) d h w = rising (q ∷ l) o.1 i j d (omega (arith, h)) (omega (arith, w))

-- a name stands at one place
pub one_place : (l : List Name) → IsInNameOrder l → (i j : ℕ) (n : Name) → i < length l → j < length l → get_or l i n ≡ n → get_or l j n ≡ n → i ≡ j
one_place l o i j n hi hj ei ej =
    elim (cases_order i j) [
      | inl e ↦ e
      | inr s ↦
          elim s [
            | inl b ↦ absurd (below i j hj ei ej b)
            | inr b ↦ absurd (below j i hi ej ei b)
          ]
    ]
  where
    below : (x y : ℕ) → y < length l → get_or l x n ≡ n → get_or l y n ≡ n → x < y → ⊥
    below x y h a b less =
        let k : name_cmp n n ≡ Less = ap₂ name_cmp (sym a) (sym b) ∙ rising l o x y n less h in
        let same : name_cmp n n ≡ Equal = name_cmp-same n in
        cc

-- a name and an entry stand at some place
abbrev pub Standing : List Name → List Entry → Name → Entry → Type 0
Standing ns es n e = (k : ℕ) × Stands ns es k n e

-- each place of a list has an item
pub item_at : {X : Type 0} (xs : List X) (k : ℕ) → k < length xs → (x : X) × (get_or xs k x ≡ x)
item_at [] k h = absurd (omega (arith, h))
item_at (x ∷ xs) zero h = (x, refl)
item_at (x ∷ xs) (suc k) h = item_at xs k (omega (arith, h))

-- each name has an entry
pub entry_of : (ns : List Name) (es : List Entry) → length es ≡ length ns → (n : Name) → Contains ns n → (e : Entry) × Standing ns es n e
entry_of ns es beside n c = let e = item_at es c.0 (omega (arith, beside, c.1)) in (e.0, (c.0, (c.1, c.2, e.1)))

-- ---- the list of both

length_both : (ns : List Name) (es : List Entry) → length es ≡ length ns → length (zip ns es) ≡ length ns
length_both [] es h = refl
length_both (n ∷ ns) [] h = absurd (omega (arith, h))
length_both (n ∷ ns) (e ∷ es) h = ap suc (length_both ns es (omega (arith, h)))

at_both : (ns : List Name) (es : List Entry) → length es ≡ length ns → (k : ℕ) (n : Name) (e : Entry) → get_or (zip ns es) k (n, e) ≡ (get_or ns k n, get_or es k e)
at_both [] [] h k n e = refl
at_both [] (f ∷ es) h k n e = absurd (omega (arith, h))
at_both (m ∷ ns) [] h k n e = absurd (omega (arith, h))
at_both (m ∷ ns) (f ∷ es) h zero n e = refl
at_both (m ∷ ns) (f ∷ es) h (suc k) n e = at_both ns es (omega (arith, h)) k n e

-- what stands somewhere is in the list of both
pub both_has : (ns : List Name) (es : List Entry) → length es ≡ length ns → (n : Name) (e : Entry) → Contains (zip ns es) (n, e) ↔ Standing ns es n e
both_has ns es h n e = (
  λ c. let is = sym (at_both ns es h c.0 n e) ∙ c.2 in (c.0, (omega (arith, c.1, length_both ns es h), ap (λ s. s.0) is, ap (λ s. s.1) is)),
  λ s. (s.0, omega (arith, s.1.0, length_both ns es h), at_both ns es h s.0 n e ∙ ap₂ (λ m f. (m, f)) s.1.1 s.1.2),
)

-- ---- a change at the place of a name

module _ (ns : List Name) (es : List Entry) (n : Name) (k : ℕ) (beside : length es ≡ length ns) (in_order : IsInNameOrder ns) (within : k < length ns) (here : get_or ns k n ≡ n) where
  -- what stands there has the name, and nothing else has
  name_there : (m : Name) (j : ℕ) → get_or ns j m ≡ m → j ≡ k → m ≡ n
  name_there m j e s = sym e ∙ ap (λ i. get_or ns i m) s ∙ get_or_default ns k m n within ∙ here

  name_alone : (m : Name) (j : ℕ) → j < length ns → get_or ns j m ≡ m → ¬ (j ≡ k) → ¬ (m ≡ n)
  name_alone m j h e apart s = apart (one_place ns in_order j k n h within (subst (λ z. get_or ns j z ≡ z) s e) here)

  -- a name has one entry
  pub one_entry : (d e : Entry) → get_or es k d ≡ d → Standing ns es n e → e ≡ d
  one_entry d e was s =
      let same : s.0 ≡ k = one_place ns in_order s.0 k n s.1.0 within s.1.1 here in
      sym s.1.2 ∙ ap (λ i. get_or es i e) same ∙ get_or_default es k e d (omega (arith, beside, within)) ∙ was

  -- another entry is put beside the name
  pub after_set : (e : Entry) (m : Name) (x : Entry) → Standing ns (set es k e) m x ↔ (((m ≡ n) × (x ≡ e)) ⊎ (Standing ns es m x × ¬ (m ≡ n)))
  after_set e m x = (
    λ h.
        elim (cases_eq h.0 k) [
          | inl s ↦ inl (name_there m h.0 h.1.1 s, sym h.1.2 ∙ ap (λ i. get_or (set es k e) i x) s ∙ get_or-set_same es k e x (omega (arith, beside, within)))
          | inr a ↦ inr ((h.0, (h.1.0, h.1.1, sym (get_or-set_other es k h.0 e x a) ∙ h.1.2)), name_alone m h.0 h.1.0 h.1.1 a)
        ],
    λ h.
        elim h [
          | inl q ↦ (k, (within, subst (λ z. get_or ns k z ≡ z) (sym q.0) here, get_or-set_same es k e x (omega (arith, beside, within)) ∙ sym q.1))
          | inr q ↦ (q.0.0, (q.0.1.0, q.0.1.1, get_or-set_other es k q.0.0 e x (λ s. q.1 (name_there m q.0.0 q.0.1.1 s)) ∙ q.0.1.2))
        ],
  )

  -- the names that are left are in order
  pub order_after_remove : (ms : List Name) → ms ≡ remove ns k → IsInNameOrder ms
  order_after_remove ms is =
      ordered-left n ns k ms in_order is (search-left ns n in_order (Ok k) within (λ d. ap (λ z. name_cmp z n) (get_or_default ns k d n within ∙ here) ∙ name_cmp-same n))

  -- the name and its entry are taken out
  pub after_remove : (m : Name) (x : Entry) → Standing (remove ns k) (remove es k) m x ↔ (Standing ns es m x × ¬ (m ≡ n))
  after_remove m x =
      let lies : k < length es = omega (arith, beside, within) in
      let shorter = length-remove ns k within in (
        λ h.
            elim (cases_lt h.0 k) [
              | inl b ↦
                  let name = sym (get_or-remove_below ns k m h.0 b within) ∙ h.1.1 in
                  ((h.0, (omega (arith, b, within), name, sym (get_or-remove_below es k x h.0 b lies) ∙ h.1.2)), name_alone m h.0 (omega (arith, b, within)) name (omega (arith, b)))
              | inr b ↦
                  let name = sym (get_or-remove_above ns k m h.0 b within) ∙ h.1.1 in
                  ((h.0 + 1, (omega (arith, shorter, h.1.0), name, sym (get_or-remove_above es k x h.0 b lies) ∙ h.1.2)), name_alone m (h.0 + 1) (omega (arith, shorter, h.1.0)) name (omega (arith, b)))
            ],
        λ h.
            elim (cases_order h.0.0 k) [
              | inl s ↦ absurd (h.1 (name_there m h.0.0 h.0.1.1 s))
              | inr o ↦
                  elim o [
                    | inl b ↦ (h.0.0, (omega (arith, shorter, b, within), get_or-remove_below ns k m h.0.0 b within ∙ h.0.1.1, get_or-remove_below es k x h.0.0 b lies ∙ h.0.1.2))
                    | inr b ↦
                        let next : h.0.0 - 1 + 1 ≡ h.0.0 = omega (arith, b) in
                        let from : k ≤ h.0.0 - 1 = omega (arith, b) in (
                          h.0.0 - 1,
                          (
                            omega (arith, shorter, b, h.0.1.0),
                            get_or-remove_above ns k m (h.0.0 - 1) from within ∙ ap (λ i. get_or ns i m) next ∙ h.0.1.1,
                            get_or-remove_above es k x (h.0.0 - 1) from lies ∙ ap (λ i. get_or es i x) next ∙ h.0.1.2,
                          ),
                        )
                  ]
            ],
      )

-- a name and its entry are put in
pub after_insert : (ns : List Name) (es : List Entry) (n : Name) (e : Entry) (k : ℕ) → length es ≡ length ns → k ≤ length ns → (m : Name) (x : Entry) → Standing (insert ns k n) (insert es k e) m x ↔ (((m ≡ n) × (x ≡ e)) ⊎ Standing ns es m x)
after_insert ns es n e k beside within m x =
    let lies : k ≤ length es = omega (arith, beside, within) in
    let longer = length-insert ns k n within in (
      λ h.
          elim (cases_order h.0 k) [
            | inl s ↦ inl (sym h.1.1 ∙ ap (λ i. get_or (insert ns k n) i m) s ∙ get_or-insert_at ns k n m within, sym h.1.2 ∙ ap (λ i. get_or (insert es k e) i x) s ∙ get_or-insert_at es k e x lies)
            | inr o ↦
                elim o [
                  | inl b ↦ inr (h.0, (omega (arith, b, within), sym (get_or-insert_below ns k n m h.0 b within) ∙ h.1.1, sym (get_or-insert_below es k e x h.0 b lies) ∙ h.1.2))
                  | inr b ↦
                      let next : h.0 - 1 + 1 ≡ h.0 = omega (arith, b) in
                      let from : k ≤ h.0 - 1 = omega (arith, b) in
                      inr (
                        h.0 - 1,
                        (
                          omega (arith, longer, b, h.1.0),
                          sym (get_or-insert_above ns k n m (h.0 - 1) from within) ∙ ap (λ i. get_or (insert ns k n) i m) next ∙ h.1.1,
                          sym (get_or-insert_above es k e x (h.0 - 1) from lies) ∙ ap (λ i. get_or (insert es k e) i x) next ∙ h.1.2,
                        ),
                      )
                ]
          ],
      λ h.
          elim h [
            | inl q ↦ (k, (omega (arith, longer, within), get_or-insert_at ns k n m within ∙ sym q.0, get_or-insert_at es k e x lies ∙ sym q.1))
            | inr q ↦
                elim (cases_lt q.0 k) [
                  | inl b ↦ (q.0, (omega (arith, longer, q.1.0), get_or-insert_below ns k n m q.0 b within ∙ q.1.1, get_or-insert_below es k e x q.0 b lies ∙ q.1.2))
                  | inr b ↦ (q.0 + 1, (omega (arith, longer, q.1.0), get_or-insert_above ns k n m q.0 b within ∙ q.1.1, get_or-insert_above es k e x q.0 b lies ∙ q.1.2))
                ]
          ],
    )

-- ---- the same, of the lists that a change left

pub stands_after_remove : (ns ms : List Name) (es fs : List Entry) (n : Name) (k : ℕ) → length es ≡ length ns → IsInNameOrder ns → (k < length ns) × (get_or ns k n ≡ n) → ms ≡ remove ns k → fs ≡ remove es k → (m : Name) (x : Entry) → Standing ms fs m x ↔ (Standing ns es m x × ¬ (m ≡ n))
stands_after_remove ns ms es fs n k beside in_order here a b m x =
    subst (λ l. Standing l fs m x ↔ (Standing ns es m x × ¬ (m ≡ n))) (sym a) (subst (λ l. Standing (remove ns k) l m x ↔ (Standing ns es m x × ¬ (m ≡ n))) (sym b) (after_remove ns es n k beside in_order here.0 here.1 m x))

pub stands_after_insert : (ns ms : List Name) (es fs : List Entry) (n : Name) (e : Entry) (k : ℕ) → length es ≡ length ns → k ≤ length ns → ms ≡ insert ns k n → fs ≡ insert es k e → (m : Name) (x : Entry) → Standing ms fs m x ↔ (((m ≡ n) × (x ≡ e)) ⊎ Standing ns es m x)
stands_after_insert ns ms es fs n e k beside within a b m x =
    subst (λ l. Standing l fs m x ↔ (((m ≡ n) × (x ≡ e)) ⊎ Standing ns es m x)) (sym a) (subst (λ l. Standing (insert ns k n) l m x ↔ (((m ≡ n) × (x ≡ e)) ⊎ Standing ns es m x)) (sym b) (after_insert ns es n e k beside within m x))

pub all_after_remove : {X : Type 0} (P : X → Type 0) (xs ys : List X) (k : ℕ) → ys ≡ remove xs k → All P xs → All P ys
all_after_remove P xs ys k is h = All-same P ys (remove xs k) is (All-append P (take k xs) (drop (suc k) xs) (All-take P k xs h) (All-drop P (suc k) xs h))

pub all_after_insert : {X : Type 0} (P : X → Type 0) (xs ys : List X) (k : ℕ) (x : X) → ys ≡ insert xs k x → P x → All P xs → All P ys
all_after_insert P xs ys k x is p h = All-same P ys (insert xs k x) is (All-append P (take k xs) (x ∷ drop k xs) (All-take P k xs h) (All-cons P x (drop k xs) p (All-drop P k xs h)))
