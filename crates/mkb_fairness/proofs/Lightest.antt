-- Of the overlaps of one process the one that is taken first is no heavier than another.
use Rattle.std.proofs.Common.{ℕ, ◌≤◌, ◌≡◌, refl, sym, ap, ◌∙◌, subst, List, [], ◌∷◌, Contains, Bool, true, false, cond, Option, Some, None, Ordering, Less, Equal, Greater, is_le, is_lt, is_gt, nat_cmp, ⊎_elim}
use Rattle.std.specs.Cmp.{IsTotalOrder}
use Rattle.std.specs.Option.{option_map_or}
use Rattle.std.specs.Ordering.{ordering_then, ordering_reverse}
use Rattle.std.proofs.lemmas.Cmp.{upto, tied_itself, on_total, then_total, nat_cmp_total}
use Rattle.std.proofs.lemmas.Map.Keys.{le_from_is_le}
use Rattle.kb_lemmas.proofs.Membership.{contains_cases, none_in}
use Rattle.kb_lemmas.proofs.Options.{none_some, some_is}
use Rattle.kb_term.specs.declared.origin.RuleRef.{RuleRef}
use Rattle.kb_label.specs.Names.{Name, name_cmp}
use Rattle.kb_label.specs.NameOrder.{name_cmp-total}
use Rattle.kb_node.specs.declared.job.Job.{Job}
use Rattle.kb_node.specs.declared.job.Job.TheVariants.{Overlap}
use Rattle.mkb_model.specs.Jobs.{process_of, kind_number, job_numbers, numbers_cmp, job_cmp, least, lesser}
use Rattle.mkb_model.specs.Plain.{Plain, cost, weight}
use Rattle.mkb_model.specs.DueJobs.{free_jobs}
use Rattle.mkb_model.specs.Journals.{IsFirstJob, IsFreeJob}
use Rattle.mkb_model.proofs.Lists.{clash}
use Rattle.mkb_model.proofs.runs.Selections.{least-none}

-- ---- jobs compared without the numbers in them

abbrev coarse : (Name → ℕ) → (Job → ℕ) → Job → Job → Ordering
coarse cost weight i j =
    ordering_then (nat_cmp (cost (process_of i)) (cost (process_of j)))
    (ordering_then (name_cmp (process_of i) (process_of j)) (ordering_then (nat_cmp (kind_number i) (kind_number j)) (nat_cmp (weight i) (weight j))))

coarse-total : (cost : Name → ℕ) (weight : Job → ℕ) → IsTotalOrder (coarse cost weight)
coarse-total cost weight = then_total (on_total (λ j. cost (process_of j)) nat_cmp_total) (then_total (on_total process_of name_cmp-total) (then_total (on_total kind_number nat_cmp_total) (on_total weight nat_cmp_total)))

not_after : (o r s : Ordering) → (is_le r ≡ true → is_gt s ≡ false) → is_le (ordering_then o r) ≡ true → is_gt (ordering_then o s) ≡ false
not_after Less r s h k = refl
not_after Equal r s h k = h k
not_after Greater r s h k = clash k refl

not_before : (o r s : Ordering) → (is_le r ≡ false → is_lt s ≡ false) → is_le (ordering_then o r) ≡ false → is_lt (ordering_then o s) ≡ false
not_before Less r s h k = clash refl k
not_before Equal r s h k = h k
not_before Greater r s h k = refl

pub front_le : (o r : Ordering) → is_le (ordering_then o r) ≡ true → is_gt o ≡ false
front_le Less r k = refl
front_le Equal r k = refl
front_le Greater r k = clash k refl

front_gt : (o r : Ordering) → is_le (ordering_then o r) ≡ false → is_lt o ≡ false
front_gt Less r k = clash refl k
front_gt Equal r k = refl
front_gt Greater r k = refl

turned : (o : Ordering) → is_lt o ≡ false → is_gt (ordering_reverse o) ≡ false
turned Less h = clash refl h
turned Equal h = refl
turned Greater h = refl

module _ (cost : Name → ℕ) (weight : Job → ℕ) (i j : Job) where
  coarse_le : is_le (job_cmp cost weight i j) ≡ true → is_gt (coarse cost weight i j) ≡ false
  coarse_le = not_after (nat_cmp (cost (process_of i)) (cost (process_of j))) _ _ (not_after (name_cmp (process_of i) (process_of j)) _ _ (not_after (nat_cmp (kind_number i) (kind_number j)) _ _ (front_le (nat_cmp (weight i) (weight j)) (numbers_cmp (job_numbers i) (job_numbers j)))))

  coarse_gt : is_le (job_cmp cost weight i j) ≡ false → is_gt (coarse cost weight j i) ≡ false
  coarse_gt h = ap is_gt ((coarse-total cost weight).antisymm j i)
      ∙ turned (coarse cost weight i j)
      (not_before (nat_cmp (cost (process_of i)) (cost (process_of j))) _ _ (not_before (name_cmp (process_of i) (process_of j)) _ _ (not_before (nat_cmp (kind_number i) (kind_number j)) _ _ (front_gt (nat_cmp (weight i) (weight j)) (numbers_cmp (job_numbers i) (job_numbers j))))) h)

-- ---- the least of a list

module _ {A : Type 0} (R S : A → A → Ordering) (total : IsTotalOrder S) (le : (x y : A) → is_le (R x y) ≡ true → is_gt (S x y) ≡ false) (gt : (x y : A) → is_le (R x y) ≡ false → is_gt (S y x) ≡ false) where
  itself : (x y : A) → x ≡ y → is_gt (S x y) ≡ false
  itself x y e = subst {A = A} (λ z. is_gt (S x z) ≡ false) e (ap is_gt (tied_itself total x))

  -- the least by a finer order is not above another
  least_below : (xs : List A) (m : A) → least R xs ≡ Some m → (x : A) → Contains xs x → is_gt (S m x) ≡ false
  least_below [] m e x c = none_some e
  least_below (y ∷ ys) m e x c = go (least R ys) refl e (λ z f d. least_below ys z f x d)
    where
      go : (o : Option A) → least R ys ≡ o → Some (option_map_or (lesser R y) o y) ≡ Some m → ((z : A) → least R ys ≡ Some z → Contains ys x → is_gt (S z x) ≡ false) → is_gt (S m x) ≡ false
      go None f e ih = ⊎_elim (λ q. itself m x (sym (some_is e) ∙ q)) (λ d. none_in (subst {A = List A} (λ zs. Contains zs x) (least-none R ys f) d)) (contains_cases y ys x c)
      go (Some z) f e ih = by (is_le (R y z)) refl e
        where
          later : is_gt (S m z) ≡ false → Contains ys x → is_gt (S m x) ≡ false
          later h d = upto total m z x h (ih z f d)

          by : (b : Bool) → is_le (R y z) ≡ b → Some (cond b y z) ≡ Some m → is_gt (S m x) ≡ false
          by true k e = ⊎_elim (λ q. itself m x (sym (some_is e) ∙ q)) (later (subst {A = A} (λ w. is_gt (S w z) ≡ false) (some_is e) (le y z k))) (contains_cases y ys x c)
          by false k e = ⊎_elim (λ q. subst {A = A} (λ w. is_gt (S m w) ≡ false) q (subst {A = A} (λ w. is_gt (S w y) ≡ false) (some_is e) (gt y z k))) (later (itself m z (sym (some_is e)))) (contains_cases y ys x c)

-- ---- overlaps of one process

passed : (o r : Ordering) → o ≡ Equal → is_gt (ordering_then o r) ≡ false → is_gt r ≡ false
passed Less r e h = absurd (cc)
passed Equal r e h = h
passed Greater r e h = absurd (cc)

pub not_more : (m n : ℕ) → is_gt (nat_cmp m n) ≡ false → m ≤ n
not_more m n h = le_from_is_le m n (go (nat_cmp m n) h)
  where
    go : (o : Ordering) → is_gt o ≡ false → is_le o ≡ true
    go Less h = refl
    go Equal h = refl
    go Greater h = clash refl h

-- the first job, where it is an overlap, weighs no more than each overlap of its process that may be taken
pub first_weighs : (b : Plain) (p : Name) (a c d e : RuleRef) → IsFirstJob b (Overlap p a c) → IsFreeJob b (Overlap p d e) → weight b (Overlap p a c) ≤ weight b (Overlap p d e)
first_weighs b p a c d e first free = not_more (weight b i) (weight b j)
    (passed (nat_cmp 2 2) (nat_cmp (weight b i) (weight b j)) (tied_itself nat_cmp_total 2)
    (passed (name_cmp p p) by (tied_itself name_cmp-total p)
    (passed (nat_cmp (cost b p) (cost b p)) (ordering_then (name_cmp p p) by) (tied_itself nat_cmp_total (cost b p))
    (least_below (job_cmp (cost b) (weight b)) (coarse (cost b) (weight b)) (coarse-total (cost b) (weight b)) (coarse_le (cost b) (weight b)) (coarse_gt (cost b) (weight b)) (free_jobs b) i first j free))))
  where
    i : Job
    i = Overlap p a c

    j : Job
    j = Overlap p d e

    by : Ordering
    by = ordering_then (nat_cmp 2 2) (nat_cmp (weight b i) (weight b j))
