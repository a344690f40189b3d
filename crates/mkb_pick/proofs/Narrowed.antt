-- Where a name can stand in a list of names in their order.
use Rattle.std.proofs.Common.{ℕ, ◌≡◌, ◌<◌, ◌≤◌, ◌+◌, sym, ap, ap₂, ◌∙◌, inl, inr, List, length, get_or, arith}
use Rattle.std.proofs.lemmas.Bool.{cases_order}
use Rattle.std.proofs.lemmas.List.{get_or_default}
use Rattle.std.specs.declared.cmp.Ordering.TheVariants.{Less, Equal, Greater}
use Rattle.std.specs.Ordering.{ordering_reverse}
use Rattle.kb_label.specs.Names.{Name, name_cmp, IsInNameOrder}
use Rattle.kb_label.specs.NameOrder.{name_cmp-same, name_cmp-total}
use Rattle.mkb_pick.proofs.Seats.{rising}

-- if the name stands somewhere, then from low on, and before high
abbrev pub IsBetween : List Name → Name → ℕ → ℕ → Type 0
IsBetween l n low high = (k : ℕ) → k < length l → get_or l k n ≡ n → (low ≤ k) × (k < high)

module _ (l : List Name) (n : Name) (o : IsInNameOrder l) (low high place : ℕ) (d : Name) (within : place < length l) (is : IsBetween l n low high) where
  order_of : (k : ℕ) → k ≡ place → get_or l k n ≡ n → name_cmp (get_or l place d) n ≡ Equal
  order_of k e h = ap (λ m. name_cmp m n) (get_or_default l place d n within ∙ ap (λ i. get_or l i n) (sym e) ∙ h) ∙ name_cmp-same n

  -- the name at the place comes before
  pub narrowed_up : name_cmp (get_or l place d) n ≡ Less → IsBetween l n (place + 1) high
  narrowed_up less k h there = (
    elim (cases_order k place) [
      | inl e ↦ let same : name_cmp (get_or l place d) n ≡ Equal = order_of k e there in absurd (cc)
      | inr apart ↦
          elim apart [
            | inl b ↦
                let up : name_cmp n (get_or l place d) ≡ Less = ap₂ name_cmp (sym there) (get_or_default l place d n within) ∙ rising l o k place n b within in
                let down : name_cmp n (get_or l place d) ≡ Greater = name_cmp-total.antisymm n (get_or l place d) ∙ ap ordering_reverse less in
                absurd (cc)
            | inr b ↦ omega (arith, b)
          ]
    ],
    (is k h there).1,
  )

  -- the name at the place comes after
  pub narrowed_down : name_cmp (get_or l place d) n ≡ Greater → IsBetween l n low place
  narrowed_down more k h there = (
    (is k h there).0,
    elim (cases_order k place) [
      | inl e ↦ let same : name_cmp (get_or l place d) n ≡ Equal = order_of k e there in absurd (cc)
      | inr apart ↦
          elim apart [
            | inl b ↦ b
            | inr b ↦
                let up : name_cmp (get_or l place d) n ≡ Less = ap₂ name_cmp (get_or_default l place d n within) (sym there) ∙ rising l o place k n b h in
                absurd (cc)
          ]
    ],
  )
