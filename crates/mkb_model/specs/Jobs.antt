-- Jobs: their order, and which clash.
use Rattle.std.specs.Prelude.{ℕ, List, [], ◌∷◌, Bool, false, ◌&&◌, not, ◌==◌, if◌then◌else◌}
use Rattle.std.specs.Ordering.{ordering_then, is_le, nat_cmp}
use Rattle.std.specs.List.{list_any}
use Rattle.std.specs.Option.{option_map_or}
use Rattle.std.specs.declared.cmp.Ordering.{Ordering}
use Rattle.std.specs.declared.cmp.Ordering.TheVariants.{Less, Equal, Greater}
use Rattle.std.specs.declared.option.Option.{Option}
use Rattle.std.specs.declared.option.Option.TheVariants.{Some, None}
use Rattle.kb_term.specs.declared.origin.RuleRef.{RuleRef}
use Rattle.kb_label.specs.Names.{Name, name_eq, name_cmp}
use Rattle.kb_node.specs.declared.job.Job.{Job}
use Rattle.kb_node.specs.declared.job.Job.TheVariants.{Reduce, Orient, Overlap, Close}

-- ---- rules by their names

-- whether two references name the same rule
abbrev pub ref_eq : RuleRef → RuleRef → Bool
ref_eq a b = (a.node == b.node) && (a.dir == b.dir)

-- a rule does not come after another, by node, then direction
abbrev pub ref_le : RuleRef → RuleRef → Bool
ref_le a b = is_le (ordering_then (nat_cmp a.node b.node) (nat_cmp a.dir b.dir))

-- ---- jobs and their order

-- the process that the job is for
abbrev pub process_of : Job → Name
process_of (Reduce p n) = p
process_of (Orient p n) = p
process_of (Overlap p a b) = p
process_of (Close p) = p

-- the four kinds of job, in their order
abbrev pub kind_number : Job → ℕ
kind_number (Reduce p n) = 0
kind_number (Orient p n) = 1
kind_number (Overlap p a b) = 2
kind_number (Close p) = 3

-- the nodes and rules that the job names
abbrev pub job_numbers : Job → List ℕ
job_numbers (Reduce p n) = n.0 ∷ []
job_numbers (Orient p n) = n.0 ∷ []
job_numbers (Overlap p a b) = a.node ∷ a.dir ∷ b.node ∷ b.dir ∷ []
job_numbers (Close p) = []

-- the first number that differs decides
abbrev pub numbers_cmp : List ℕ → List ℕ → Ordering
numbers_cmp [] [] = Equal
numbers_cmp [] (m ∷ ms) = Less
numbers_cmp (n ∷ ns) [] = Greater
numbers_cmp (n ∷ ns) (m ∷ ms) = ordering_then (nat_cmp n m) (numbers_cmp ns ms)

-- the order of jobs: by the cost of the process, its name, the kind, the weight, and the numbers in the job
abbrev pub job_cmp : (Name → ℕ) → (Job → ℕ) → Job → Job → Ordering
job_cmp cost weight i j =
    ordering_then (nat_cmp (cost (process_of i)) (cost (process_of j)))
    (ordering_then (name_cmp (process_of i) (process_of j))
    (ordering_then (nat_cmp (kind_number i) (kind_number j))
    (ordering_then (nat_cmp (weight i) (weight j)) (numbers_cmp (job_numbers i) (job_numbers j)))))

-- the lesser of two, the first where they are equal
abbrev pub lesser : {A : Type 0} → (A → A → Ordering) → A → A → A
lesser cmp x y = if is_le (cmp x y) then x else y

-- the least of a list by the order, the earlier one of equals
abbrev pub least : {A : Type 0} → (A → A → Ordering) → List A → Option A
least cmp [] = None
least cmp (x ∷ xs) = Some (option_map_or (lesser cmp x) (least cmp xs) x)

-- the greatest of a list: the least by the order turned round
abbrev pub greatest : {A : Type 0} → (A → A → Ordering) → List A → Option A
greatest cmp xs = least (λ x y. cmp y x) xs

-- ---- clashes

-- two jobs that may not be in flight together
abbrev pub clashes : Job → Job → Bool
clashes (Reduce p n) (Reduce q m) = n.0 == m.0
clashes (Orient p n) (Orient q m) = name_eq p q
clashes (Orient p n) (Close q) = name_eq p q
clashes (Close p) (Orient q m) = name_eq p q
clashes (Close p) (Close q) = name_eq p q
clashes (Overlap p a b) (Overlap q c d) = ref_eq a c && ref_eq b d
clashes i j = false

-- the job clashes with none of those in flight
abbrev pub is_free : List Job → Job → Bool
is_free flight j = not (list_any (clashes j) flight)
