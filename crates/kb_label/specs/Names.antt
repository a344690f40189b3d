-- Names of processes, and the lists of names that are labels.
use Rattle.std.specs.Prelude.{List, [], ◌∷◌, ◌++◌, length, Bool, true, false, ◌&&◌, ◌||◌, not, if◌then◌else◌, ◌≡◌, ◌<◌, filter}
use Rattle.std.proofs.Math.Dec.{ltb}
use Rattle.std.specs.Ordering.{ordering_then, is_eq, nat_cmp, bool_cmp}
use Rattle.std.specs.Cmp.Lexicographic.{slice_cmp}
use Rattle.std.specs.declared.cmp.Ordering.{Ordering}
use Rattle.std.specs.declared.cmp.Ordering.TheVariants.{Less, Equal, Greater}

-- ---- names

-- a process's name, its first bit first
abbrev pub Name : Type 0
Name = List Bool

-- the name of the first process
abbrev pub root : Name
root = []

-- the two processes that a fork puts in place of one
abbrev pub child : Name → Bool → Name
child p bit = p ++ bit ∷ []

-- 0 before 1
abbrev pub bit_cmp : Bool → Bool → Ordering
bit_cmp = bool_cmp

-- the first bit that differs decides
abbrev pub bits_cmp : Name → Name → Ordering
bits_cmp p q = slice_cmp bit_cmp p q

-- the order of names: the shorter before the longer, and of equal length 0 before 1 at the first bit that differs
abbrev pub name_cmp : Name → Name → Ordering
name_cmp p q = ordering_then (nat_cmp (length p) (length q)) (bits_cmp p q)

-- whether two names are the same
abbrev pub name_eq : Name → Name → Bool
name_eq p q = is_eq (bits_cmp p q)

-- whether the first name is the beginning of the second, so that the second stems from it by forks
abbrev pub is_beginning : Name → Name → Bool
is_beginning [] q = true
is_beginning (x ∷ p) [] = false
is_beginning (x ∷ p) (y ∷ q) = is_eq (bit_cmp x y) && is_beginning p q

-- ---- labels: lists of names in name order, none twice

-- whether the label names the process
abbrev pub has : List Name → Name → Bool
has [] p = false
has (q ∷ l) p = name_eq p q || has l p

-- the first, the second or the third, as what was compared is less, equal or greater
abbrev pub by_order : {A : Type 0} → Ordering → A → A → A → A
by_order Less x y z = x
by_order Equal x y z = y
by_order Greater x y z = z

-- the label with one name more, at its place in the order
abbrev pub add : Name → List Name → List Name
add p [] = p ∷ []
add p (q ∷ l) = by_order (name_cmp p q) (p ∷ q ∷ l) (q ∷ l) (q ∷ add p l)

-- the names of either label
abbrev pub join : List Name → List Name → List Name
join [] m = m
join (p ∷ l) m = add p (join l m)

-- the names of both labels
abbrev pub meet : List Name → List Name → List Name
meet l m = filter (has m) l

-- the names of the first label that the second lacks
abbrev pub minus : List Name → List Name → List Name
minus l m = filter (λ p. not (has m p)) l

-- the label after a fork of p: its two children stand in the place of p
abbrev pub relabel : Name → List Name → List Name
relabel p l = if has l p then add (child p false) (add (child p true) (minus l (p ∷ []))) else l

-- the label with p, of fewer than 64 bits, in the place of its two children, where it names both
abbrev pub united : Name → List Name → List Name
united p l = if ltb (length p) 64 && (has l (child p false) && has l (child p true)) then add p (minus (minus l (child p true ∷ [])) (child p false ∷ [])) else l

-- uniting the children of p, who weren't in the label when p forked, takes the fork back
abbrev pub IsTakenBack : Name → List Name → Type 0
IsTakenBack p l = length p < 64 → has l p ≡ true → has l (child p false) ≡ false → has l (child p true) ≡ false → united p (relabel p l) ≡ l

-- a label names no process
abbrev pub is_empty : List Name → Bool
is_empty [] = true
is_empty (p ∷ l) = false

-- each name comes before the next
abbrev pub IsInNameOrder : List Name → Type 0
IsInNameOrder [] = Unit {0}
IsInNameOrder (p ∷ []) = Unit {0}
IsInNameOrder (p ∷ q ∷ l) = (name_cmp p q ≡ Less) × IsInNameOrder (q ∷ l)
