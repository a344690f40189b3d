-- The first job is the least of those that may be taken, by the order told as a relation.
use Rattle.std.proofs.Common.{ℕ, ◌<◌, ◌≡◌, ◌⊎◌, inl, inr, refl, sym, ap, ap₂, ◌∙◌, subst, arith, List, [], ◌∷◌, ◌++◌, map, flat_map, length, Contains, Bool, true, false, not, cond, Option, Some, None, Ordering, Less, Equal, Greater, is_le, nat_cmp, ⊎_elim}
use Rattle.std.specs.Option.{option_map_or}
use Rattle.std.specs.Ordering.{ordering_then, MatchOrdering}
use Rattle.std.proofs.lemmas.Cmp.{ranked}
use Rattle.std.proofs.lemmas.List.Elements.{Contains-append_cases}
use Rattle.kb_lemmas.proofs.Membership.{contains_cases, none_in, contains_mapped, contains_map, contains_flat_map_back}
use Rattle.kb_lemmas.proofs.Options.{some_is, none_some}
use Rattle.kb_term.specs.declared.origin.RuleRef.{RuleRef}
use Rattle.kb_linear.specs.Numbers.{IsLess}
use Rattle.kb_linear.proofs.Within.{less_self}
use Rattle.kb_label.specs.Names.{Name, has, name_cmp}
use Rattle.kb_label.specs.NameOrder.{name_cmp-total, name_cmp-equal, name_cmp-same}
use Rattle.kb_label.proofs.Ordered.{turned}
use Rattle.kb_node.specs.declared.node.NodeId.{NodeId}
use Rattle.kb_node.specs.declared.job.Job.{Job}
use Rattle.kb_node.specs.declared.job.Job.TheVariants.{Reduce, Orient, Overlap, Close}
use Rattle.mkb_model.specs.Jobs.{process_of, kind_number, job_numbers, numbers_cmp, job_cmp, least, lesser, clashes, is_free}
use Rattle.mkb_model.specs.Plain.{Plain, cost, weight, node_numbers, rules_of}
use Rattle.mkb_model.specs.DueJobs.{work_of, is_due, due_jobs, due_jobs_of, flying_jobs, awake, free_jobs, first_job}
use Rattle.mkb_model.specs.declared.entry.Ticket.{Ticket}
use Rattle.mkb_model.proofs.Lists.{not_true, filter_in, any_none}
use Rattle.mkb_model.proofs.runs.Selections.{least-in, least-none}
use Rattle.mkb_model.proofs.tickets.InFlight.{free_lives}
use Rattle.mkb_moves.specs.Order.{IsNameBefore, IsLessOr, IsNameBeforeOr, IsBefore, MayBeTaken}

-- ---- what comparing answers

-- the first comparison, and at a tie the second
then_means : (A E F B P Q R : Type 0) (o r : Ordering) → MatchOrdering o A E B → (E → F) → (E → MatchOrdering r P Q R) → MatchOrdering (ordering_then o r) (A ⊎ (E × P)) (E × Q) (B ⊎ (F × R))
then_means A E F B P Q R Less r h back k = inl h
then_means A E F B P Q R Equal Less h back k = inr (h, k h)
then_means A E F B P Q R Equal Equal h back k = (h, k h)
then_means A E F B P Q R Equal Greater h back k = inr (back h, k h)
then_means A E F B P Q R Greater r h back k = inl h

tied_as : (A E F B : Type 0) (o : Ordering) → (E → F) → MatchOrdering o A E B → MatchOrdering o A F B
tied_as A E F B Less f h = h
tied_as A E F B Equal f h = f h
tied_as A E F B Greater f h = h

nat_means : (m n : ℕ) → MatchOrdering (nat_cmp m n) (m < n) (m ≡ n) (n < m)
nat_means m n = ranked m n (nat_cmp m n) refl

name_means : (p q : Name) → MatchOrdering (name_cmp p q) (IsNameBefore p q) (p ≡ q) (IsNameBefore q p)
name_means p q = go (name_cmp p q) refl
  where
    go : (o : Ordering) → name_cmp p q ≡ o → MatchOrdering o (IsNameBefore p q) (p ≡ q) (IsNameBefore q p)
    go Less e = e
    go Equal e = name_cmp-equal p q e
    go Greater e = turned p q e

numbers_means : (ns ms : List ℕ) → length ns ≡ length ms → MatchOrdering (numbers_cmp ns ms) (IsLess ns ms) (ns ≡ ms) (IsLess ms ns)
numbers_means [] [] e = refl
numbers_means [] (m ∷ ms) e = absurd (omega (arith, e))
numbers_means (n ∷ ns) [] e = absurd (omega (arith, e))
numbers_means (n ∷ ns) (m ∷ ms) e = tied_as ((n < m) ⊎ ((n ≡ m) × IsLess ns ms)) ((n ≡ m) × (ns ≡ ms)) ((n ∷ ns) ≡ (m ∷ ms)) ((m < n) ⊎ ((m ≡ n) × IsLess ms ns)) (ordering_then (nat_cmp n m) (numbers_cmp ns ms)) (λ k. ap₂ {C = List ℕ} (λ z zs. z ∷ zs) k.0 k.1)
    (then_means (n < m) (n ≡ m) (m ≡ n) (m < n) (IsLess ns ms) (ns ≡ ms) (IsLess ms ns) (nat_cmp n m) (numbers_cmp ns ms) (nat_means n m) (λ k. sym k) (λ k. numbers_means ns ms (omega (arith, e))))

-- jobs of one kind name as many numbers
same_length : (i j : Job) → kind_number i ≡ kind_number j → length (job_numbers i) ≡ length (job_numbers j)
same_length (Reduce p n) (Reduce q m) e = refl
same_length (Orient p n) (Orient q m) e = refl
same_length (Overlap p a c) (Overlap q d f) e = refl
same_length (Close p) (Close q) e = refl
same_length i j e = absurd (omega (arith, e))

node_is : (n m : NodeId) → n.0 ≡ m.0 → n ≡ m
node_is n m e = ap (λ k. record { 0 = k }) e

rule_is : (a c : RuleRef) → a.node ≡ c.node → a.dir ≡ c.dir → a ≡ c
rule_is a c e f = ap₂ (λ (n d : ℕ). record { node = n; dir = d }) e f

-- the process, the kind and the numbers make up the job
same_job : (i j : Job) → process_of i ≡ process_of j → kind_number i ≡ kind_number j → job_numbers i ≡ job_numbers j → i ≡ j
same_job (Reduce p n) (Reduce q m) e k h = ap₂ Reduce e (node_is n m (cc))
same_job (Orient p n) (Orient q m) e k h = ap₂ Orient e (node_is n m (cc))
same_job (Overlap p a c) (Overlap q d f) e k h = ap (λ z. Overlap z a c) e ∙ ap₂ (Overlap q) (rule_is a d (cc) (cc)) (rule_is c f (cc) (cc))
same_job (Close p) (Close q) e k h = ap Close e
same_job i j e k h = absurd (omega (arith, k))

module _ (b : Plain) where
  -- how two jobs compare
  job_means : (i j : Job) → MatchOrdering (job_cmp (cost b) (weight b) i j) (IsBefore b i j) (i ≡ j) (IsBefore b j i)
  job_means i j = tied_as (IsBefore b i j) ((ci ≡ cj) × ((pi ≡ pj) × ((ki ≡ kj) × ((wi ≡ wj) × (ni ≡ nj))))) (i ≡ j) (IsBefore b j i) (job_cmp (cost b) (weight b) i j) (λ t. same_job i j t.1.0 t.1.1.0 t.1.1.1.1)
      (then_means (ci < cj) (ci ≡ cj) (cj ≡ ci) (cj < ci) (IsNameBeforeOr pi pj (IsLessOr ki kj (IsLessOr wi wj (IsLess ni nj)))) ((pi ≡ pj) × ((ki ≡ kj) × ((wi ≡ wj) × (ni ≡ nj)))) (IsNameBeforeOr pj pi (IsLessOr kj ki (IsLessOr wj wi (IsLess nj ni))))
      (nat_cmp ci cj) (ordering_then (name_cmp pi pj) (ordering_then (nat_cmp ki kj) (ordering_then (nat_cmp wi wj) (numbers_cmp ni nj)))) (nat_means ci cj) (λ e. sym e) (λ _.
      then_means (IsNameBefore pi pj) (pi ≡ pj) (pj ≡ pi) (IsNameBefore pj pi) (IsLessOr ki kj (IsLessOr wi wj (IsLess ni nj))) ((ki ≡ kj) × ((wi ≡ wj) × (ni ≡ nj))) (IsLessOr kj ki (IsLessOr wj wi (IsLess nj ni)))
      (name_cmp pi pj) (ordering_then (nat_cmp ki kj) (ordering_then (nat_cmp wi wj) (numbers_cmp ni nj))) (name_means pi pj) (λ e. sym e) (λ _.
      then_means (ki < kj) (ki ≡ kj) (kj ≡ ki) (kj < ki) (IsLessOr wi wj (IsLess ni nj)) ((wi ≡ wj) × (ni ≡ nj)) (IsLessOr wj wi (IsLess nj ni))
      (nat_cmp ki kj) (ordering_then (nat_cmp wi wj) (numbers_cmp ni nj)) (nat_means ki kj) (λ e. sym e) (λ k.
      then_means (wi < wj) (wi ≡ wj) (wj ≡ wi) (wj < wi) (IsLess ni nj) (ni ≡ nj) (IsLess nj ni) (nat_cmp wi wj) (numbers_cmp ni nj) (nat_means wi wj) (λ e. sym e) (λ _. numbers_means ni nj (same_length i j k))))))
    where
      ci : ℕ
      ci = cost b (process_of i)

      cj : ℕ
      cj = cost b (process_of j)

      pi : Name
      pi = process_of i

      pj : Name
      pj = process_of j

      ki : ℕ
      ki = kind_number i

      kj : ℕ
      kj = kind_number j

      wi : ℕ
      wi = weight b i

      wj : ℕ
      wj = weight b j

      ni : List ℕ
      ni = job_numbers i

      nj : List ℕ
      nj = job_numbers j

-- ---- the order is strict

less_or_trans : (P Q R : Type 0) (m n k : ℕ) → (P → Q → R) → IsLessOr m n P → IsLessOr n k Q → IsLessOr m k R
less_or_trans P Q R m n k f (inl h) (inl g) = inl (omega (arith, h, g))
less_or_trans P Q R m n k f (inl h) (inr (e, q)) = inl (omega (arith, h, e))
less_or_trans P Q R m n k f (inr (e, p)) (inl g) = inl (omega (arith, e, g))
less_or_trans P Q R m n k f (inr (e, p)) (inr (d, q)) = inr (e ∙ d, f p q)

name_or_trans : (P Q R : Type 0) (p q r : Name) → (P → Q → R) → IsNameBeforeOr p q P → IsNameBeforeOr q r Q → IsNameBeforeOr p r R
name_or_trans P Q R p q r f (inl h) (inl g) = inl (name_cmp-total.trans p q r h g)
name_or_trans P Q R p q r f (inl h) (inr (e, y)) = inl (subst {A = Name} (IsNameBefore p) e h)
name_or_trans P Q R p q r f (inr (e, x)) (inl g) = inl (subst {A = Name} (λ z. IsNameBefore z r) (sym e) g)
name_or_trans P Q R p q r f (inr (e, x)) (inr (d, y)) = inr (e ∙ d, f x y)

less_trans : (xs ys zs : List ℕ) → IsLess xs ys → IsLess ys zs → IsLess xs zs
less_trans [] [] zs h k = absurd h
less_trans [] (y ∷ ys) zs h k = absurd h
less_trans (x ∷ xs) [] zs h k = absurd h
less_trans (x ∷ xs) (y ∷ ys) [] h k = absurd k
less_trans (x ∷ xs) (y ∷ ys) (z ∷ zs) h k = less_or_trans (IsLess xs ys) (IsLess ys zs) (IsLess xs zs) x y z (less_trans xs ys zs) h k

less_or_self : (P : Type 0) (n : ℕ) → ¬ P → ¬ IsLessOr n n P
less_or_self P n h (inl l) = omega (arith, l)
less_or_self P n h (inr k) = h k.1

name_or_self : (P : Type 0) (p : Name) → ¬ P → ¬ IsNameBeforeOr p p P
name_or_self P p h (inl l) = let e : Less ≡ Equal = sym l ∙ name_cmp-same p in absurd (cc)
name_or_self P p h (inr k) = h k.1

module _ (b : Plain) where
  before_trans : (i j k : Job) → IsBefore b i j → IsBefore b j k → IsBefore b i k
  before_trans i j k = less_or_trans (N i j) (N j k) (N i k) (cost b (process_of i)) (cost b (process_of j)) (cost b (process_of k))
      (name_or_trans (K i j) (K j k) (K i k) (process_of i) (process_of j) (process_of k)
      (less_or_trans (W i j) (W j k) (W i k) (kind_number i) (kind_number j) (kind_number k)
      (less_or_trans (L i j) (L j k) (L i k) (weight b i) (weight b j) (weight b k) (less_trans (job_numbers i) (job_numbers j) (job_numbers k)))))
    where
      L : Job → Job → Type 0
      L i j = IsLess (job_numbers i) (job_numbers j)

      W : Job → Job → Type 0
      W i j = IsLessOr (weight b i) (weight b j) (IsLess (job_numbers i) (job_numbers j))

      K : Job → Job → Type 0
      K i j = IsLessOr (kind_number i) (kind_number j) (IsLessOr (weight b i) (weight b j) (IsLess (job_numbers i) (job_numbers j)))

      N : Job → Job → Type 0
      N i j = IsNameBeforeOr (process_of i) (process_of j) (IsLessOr (kind_number i) (kind_number j) (IsLessOr (weight b i) (weight b j) (IsLess (job_numbers i) (job_numbers j))))

  before_self : (i : Job) → ¬ IsBefore b i i
  before_self i = less_or_self (IsNameBeforeOr (process_of i) (process_of i) (IsLessOr (kind_number i) (kind_number i) (IsLessOr (weight b i) (weight b i) (IsLess (job_numbers i) (job_numbers i))))) (cost b (process_of i))
      (name_or_self (IsLessOr (kind_number i) (kind_number i) (IsLessOr (weight b i) (weight b i) (IsLess (job_numbers i) (job_numbers i)))) (process_of i)
      (less_or_self (IsLessOr (weight b i) (weight b i) (IsLess (job_numbers i) (job_numbers i))) (kind_number i)
      (less_or_self (IsLess (job_numbers i) (job_numbers i)) (weight b i) (less_self (job_numbers i)))))

  -- the job is the same, or comes later
  abbrev IsUpFrom : Job → Job → Type 0
  IsUpFrom i j = (j ≡ i) ⊎ IsBefore b i j

  up_trans : (i j k : Job) → IsUpFrom i j → IsUpFrom j k → IsUpFrom i k
  up_trans i j k (inl e) (inl d) = inl (d ∙ e)
  up_trans i j k (inl e) (inr g) = inr (subst {A = Job} (λ z. IsBefore b z k) e g)
  up_trans i j k (inr h) (inl d) = inr (subst {A = Job} (IsBefore b i) (sym d) h)
  up_trans i j k (inr h) (inr g) = inr (before_trans i j k h g)

  up_by : (i j : Job) (o : Ordering) → MatchOrdering o (IsBefore b i j) (i ≡ j) (IsBefore b j i) → is_le o ≡ true → IsUpFrom i j
  up_by i j Less h e = inr h
  up_by i j Equal h e = inl (sym h)
  up_by i j Greater h e = absurd (cc)

  down_by : (i j : Job) (o : Ordering) → MatchOrdering o (IsBefore b i j) (i ≡ j) (IsBefore b j i) → is_le o ≡ false → IsUpFrom j i
  down_by i j Less h e = absurd (cc)
  down_by i j Equal h e = absurd (cc)
  down_by i j Greater h e = inr h

  abbrev by : Job → Job → Ordering
  by = job_cmp (cost b) (weight b)

  -- every job of a list comes after its least, or is that
  least_up : (js : List Job) (m : Job) → least (job_cmp (cost b) (weight b)) js ≡ Some m → (k : Job) → Contains js k → IsUpFrom m k
  least_up [] m e k c = none_some e
  least_up (y ∷ ys) m e k c = go (least by ys) refl e (λ z f d. least_up ys z f k d)
    where
      go : (o : Option Job) → least by ys ≡ o → Some (option_map_or (lesser by y) o y) ≡ Some m → ((z : Job) → least by ys ≡ Some z → Contains ys k → IsUpFrom z k) → IsUpFrom m k
      go None f e ih = ⊎_elim (λ q. inl (sym q ∙ some_is e)) (λ d. none_in (subst {A = List Job} (λ zs. Contains zs k) (least-none by ys f) d)) (contains_cases y ys k c)
      go (Some z) f e ih = pick (is_le (by y z)) refl e
        where
          pick : (x : Bool) → is_le (by y z) ≡ x → Some (cond x y z) ≡ Some m → IsUpFrom m k
          pick true h e = subst {A = Job} (λ i. IsUpFrom i k) (some_is e) (⊎_elim (λ q. inl (sym q)) (λ d. up_trans y z k (up_by y z (by y z) (job_means b y z) h) (ih z f d)) (contains_cases y ys k c))
          pick false h e = subst {A = Job} (λ i. IsUpFrom i k) (some_is e) (⊎_elim (λ q. up_trans z y k (down_by y z (by y z) (job_means b y z) h) (inl (sym q))) (λ d. ih z f d) (contains_cases y ys k c))

  pub first_least : (j : Job) → first_job b ≡ Some j → Contains (free_jobs b) j × ((k : Job) → Contains (free_jobs b) k → ((k ≡ j) ⊎ IsBefore b j k) × ¬ IsBefore b k j)
  first_least j h = (least-in by (free_jobs b) j h, λ k c. let u = least_up (free_jobs b) j h k c in (u, λ l. ⊎_elim (λ e. before_self j (subst {A = Job} (λ z. IsBefore b z j) e l)) (λ g. before_self j (before_trans j k j g l)) u))

  pub no_first : first_job b ≡ None → free_jobs b ≡ []
  no_first h = least-none by (free_jobs b) h

-- ---- which jobs may be taken

process_in : (b : Plain) (p : Name) (j : Job) → Contains (work_of b p ++ Close p ∷ []) j → process_of j ≡ p
process_in b p j c = ⊎_elim (λ d. ⊎_elim reduced (λ e. ⊎_elim oriented overlapped (Contains-append_cases orients overlaps j e)) (Contains-append_cases reduces (orients ++ overlaps) j d))
    (λ d. ⊎_elim (λ e. sym (ap process_of e)) (λ e. none_in e) (contains_cases (Close p) [] j d)) (Contains-append_cases (work_of b p) (Close p ∷ []) j c)
  where
    reduces : List Job
    reduces = map (λ n. Reduce p (record { 0 = n })) (node_numbers b)

    orients : List Job
    orients = map (λ n. Orient p (record { 0 = n })) (node_numbers b)

    overlaps : List Job
    overlaps = flat_map (λ (a : RuleRef). map (Overlap p a) (rules_of b p)) (rules_of b p)

    reduced : Contains reduces j → process_of j ≡ p
    reduced d = let m = contains_mapped (λ n. Reduce p (record { 0 = n })) (node_numbers b) j d in sym (ap process_of m.2)

    oriented : Contains orients j → process_of j ≡ p
    oriented d = let m = contains_mapped (λ n. Orient p (record { 0 = n })) (node_numbers b) j d in sym (ap process_of m.2)

    overlapped : Contains overlaps j → process_of j ≡ p
    overlapped d =
        let q = contains_flat_map_back (λ (a : RuleRef). map (Overlap p a) (rules_of b p)) (rules_of b p) j d in
        let m = contains_mapped (Overlap p q.0) (rules_of b p) j q.2 in
        sym (ap process_of m.2)

-- a free job may be taken
pub free_may : (b : Plain) (j : Job) → Contains (free_jobs b) j → MayBeTaken b j
free_may b j c = record {
  due = due.1;
  lives = free_lives b j c;
  awake = subst {A = Name} (λ z. has b.asleep z ≡ false) (sym (process_in b owner.0 j due.0)) (not_true up.1);
  clear = λ t i. any_none (clashes j) (flying_jobs b) (not_true free.1) t.job (contains_map (λ (t : Ticket). t.job) b.flight t i);
}
  where
    free : Contains (due_jobs b) j × (is_free (flying_jobs b) j ≡ true)
    free = filter_in (is_free (flying_jobs b)) (due_jobs b) j c

    owner : (p : Name) × Contains (awake b) p × Contains (due_jobs_of b p) j
    owner = contains_flat_map_back (due_jobs_of b) (awake b) j free.0

    up : Contains b.living owner.0 × (not (has b.asleep owner.0) ≡ true)
    up = filter_in (λ q. not (has b.asleep q)) b.living owner.0 owner.1

    due : Contains (work_of b owner.0 ++ Close owner.0 ∷ []) j × (is_due b j ≡ true)
    due = filter_in (is_due b) (work_of b owner.0 ++ Close owner.0 ∷ []) j owner.2
