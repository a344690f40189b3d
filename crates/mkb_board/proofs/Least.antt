-- The least job of several lists.
use Rattle.std.proofs.Common.{ℕ, ◌≡◌, refl, sym, ap, ◌∙◌, List, [], ◌∷◌, ◌++◌, Bool, true, false, cond, Option, Some, None}
use Rattle.std.specs.Cmp.{IsTotalOrder}
use Rattle.std.specs.Cmp.Lexicographic.{slice_cmp}
use Rattle.std.specs.Ordering.{ordering_then, ordering_reverse, is_le, nat_cmp}
use Rattle.std.specs.declared.cmp.Ordering.{Ordering}
use Rattle.std.specs.declared.cmp.Ordering.TheVariants.{Less, Equal, Greater}
use Rattle.std.proofs.lemmas.Cmp.{alike_right, on_total, then_total, nat_cmp_total, nat_list_cmp_total}
use Rattle.kb_label.specs.Names.{Name, name_cmp}
use Rattle.kb_label.specs.NameOrder.{name_cmp-total}
use Rattle.kb_node.specs.declared.job.Job.{Job}
use Rattle.mkb_model.specs.Jobs.{process_of, kind_number, job_numbers, numbers_cmp, job_cmp, lesser, least}
use Rattle.mkb_board.specs.Choosing.{merged}
use Rattle.mkb_model.proofs.Lists.{clash, false_unless}

-- ---- the order of jobs

numbers_as : (xs ys : List ℕ) → numbers_cmp xs ys ≡ slice_cmp nat_cmp xs ys
numbers_as [] [] = refl
numbers_as [] (y ∷ ys) = refl
numbers_as (x ∷ xs) [] = refl
numbers_as (x ∷ xs) (y ∷ ys) = ap (ordering_then (nat_cmp x y)) (numbers_as xs ys)

-- jobs compared by the numbers in them as lists
abbrev by_lists : (Name → ℕ) → (Job → ℕ) → Job → Job → Ordering
by_lists cost weight i j =
    ordering_then (nat_cmp (cost (process_of i)) (cost (process_of j)))
    (ordering_then (name_cmp (process_of i) (process_of j))
    (ordering_then (nat_cmp (kind_number i) (kind_number j))
    (ordering_then (nat_cmp (weight i) (weight j)) (slice_cmp nat_cmp (job_numbers i) (job_numbers j)))))

by_lists-total : (cost : Name → ℕ) (weight : Job → ℕ) → IsTotalOrder (by_lists cost weight)
by_lists-total cost weight =
    then_total (on_total (λ j. cost (process_of j)) nat_cmp_total) (then_total (on_total process_of name_cmp-total) (then_total (on_total kind_number nat_cmp_total) (then_total (on_total weight nat_cmp_total) (on_total job_numbers nat_list_cmp_total))))

pub job_cmp-total : (cost : Name → ℕ) (weight : Job → ℕ) → IsTotalOrder (job_cmp cost weight)
job_cmp-total cost weight =
    let same = λ (i j : Job). ap (λ z. ordering_then (nat_cmp (cost (process_of i)) (cost (process_of j))) (ordering_then (name_cmp (process_of i) (process_of j)) (ordering_then (nat_cmp (kind_number i) (kind_number j)) (ordering_then (nat_cmp (weight i) (weight j)) z)))) (numbers_as (job_numbers i) (job_numbers j)) in
    let o = by_lists-total cost weight in
    record {
      antisymm = λ x y. same x y ∙ o.antisymm x y ∙ ap ordering_reverse (sym (same y x));
      trans = λ x y z h k. same x z ∙ o.trans x y z (sym (same x y) ∙ h) (sym (same y z) ∙ k);
      congr = λ x y z h. same x z ∙ o.congr x y z (sym (same x y) ∙ h) ∙ sym (same y z);
    }

le_trans_of : {A : Type 0} {R : A → A → Ordering} → IsTotalOrder R → (x y z : A) → is_le (R x y) ≡ true → is_le (R y z) ≡ true → is_le (R x z) ≡ true
le_trans_of {A = A} {R = R} o x y z h k = go (R x y) refl h (R y z) refl k
  where
    go : (a : Ordering) → R x y ≡ a → is_le a ≡ true → (c : Ordering) → R y z ≡ c → is_le c ≡ true → is_le (R x z) ≡ true
    go Less e h Less f k = ap is_le (o.trans x y z e f)
    go Less e h Equal f k = ap is_le (sym (alike_right o y z x f) ∙ e)
    go Equal e h c f k = ap is_le (o.congr x y z e ∙ f) ∙ k
    go Less e h Greater f k = clash k refl
    go Greater e h c f k = clash h refl

le_or_back : {A : Type 0} {R : A → A → Ordering} → IsTotalOrder R → (x y : A) → is_le (R x y) ≡ false → is_le (R y x) ≡ true
le_or_back {A = A} {R = R} o x y h = go (R x y) refl h
  where
    go : (a : Ordering) → R x y ≡ a → is_le a ≡ false → is_le (R y x) ≡ true
    go Less e h = clash refl h
    go Equal e h = clash refl h
    go Greater e h = ap is_le (o.antisymm y x ∙ ap ordering_reverse e)

-- ---- the least of lists that stand one after another

module _ {A : Type 0} (R : A → A → Ordering) where
  pick : (x y : A) (b : Bool) → is_le (R x y) ≡ b → lesser R x y ≡ cond b x y
  pick x y b e = ap (λ z. cond z x y) e

  lesser_both : IsTotalOrder R → (x y z : A) → lesser R (lesser R x y) z ≡ lesser R x (lesser R y z)
  lesser_both o x y z = go (is_le (R x y)) refl (is_le (R y z)) refl
    where
      go : (s : Bool) → is_le (R x y) ≡ s → (t : Bool) → is_le (R y z) ≡ t → lesser R (lesser R x y) z ≡ lesser R x (lesser R y z)
      go true e true f = ap (λ w. lesser R w z) (pick x y true e) ∙ pick x z true (le_trans_of o x y z e f) ∙ sym (pick x y true e) ∙ sym (ap (lesser R x) (pick y z true f))
      go true e false f = ap (λ w. lesser R w z) (pick x y true e) ∙ sym (ap (lesser R x) (pick y z false f))
      go false e true f = ap (λ w. lesser R w z) (pick x y false e) ∙ pick y z true f ∙ sym (pick x y false e) ∙ sym (ap (lesser R x) (pick y z true f))
      go false e false f =
          ap (λ w. lesser R w z) (pick x y false e) ∙ pick y z false f
          ∙ sym (pick x z false (false_unless (is_le (R x z)) (λ k. clash (le_trans_of o x z y k (le_or_back o y z f)) e)))
          ∙ sym (ap (lesser R x) (pick y z false f))

  pub merged_both : IsTotalOrder R → (a b c : Option A) → merged R (merged R a b) c ≡ merged R a (merged R b c)
  merged_both o None b c = refl
  merged_both o (Some x) None c = refl
  merged_both o (Some x) (Some y) None = refl
  merged_both o (Some x) (Some y) (Some z) = ap Some (lesser_both o x y z)

  pub least_append : IsTotalOrder R → (xs ys : List A) → least R (xs ++ ys) ≡ merged R (least R xs) (least R ys)
  least_append o [] ys = refl
  least_append o (x ∷ xs) ys = ap (merged R (Some x)) (least_append o xs ys) ∙ sym (merged_both o (Some x) (least R xs) (least R ys))
