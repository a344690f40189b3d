-- Names, and their numbers by first occurrence.
use Rattle.std.specs.Prelude.{ℕ, ◌+◌, List, [], ◌∷◌, ◌++◌, Bool, true, false, not, ◌||◌, cond, filter, bytes_eq}

-- the bytes of a name
abbrev pub Name : Type 0
Name = List ℕ

-- the name is one of these
abbrev pub is_among : List Name → Name → Bool
is_among [] name = false
is_among (x ∷ xs) name = bytes_eq name x || is_among xs name

-- each name once, in the order of first occurrence
abbrev pub firsts : List Name → List Name
firsts [] = []
firsts (x ∷ xs) = x ∷ filter (λ y. not (bytes_eq y x)) (firsts xs)

-- where a name first stands in a list, which it is in
abbrev pub number_of : List Name → Name → ℕ
number_of [] name = 0
number_of (x ∷ xs) name = cond (bytes_eq name x) 0 (number_of xs name + 1)

-- no name stands there twice
abbrev pub are_distinct : List Name → Bool
are_distinct [] = true
are_distinct (x ∷ xs) = cond (is_among xs x) false (are_distinct xs)

-- the different names, with one more
abbrev pub with_name : List Name → Name → List Name
with_name names x = cond (is_among names x) names (names ++ x ∷ [])
