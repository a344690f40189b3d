-- Names as a list keeps them: a short one by its first word and its length, a long one whole.
use Rattle.std.specs.Prelude.{ℕ, ◌≤◌, ◌<◌, ◌≡◌, List, [], ◌∷◌, length, get_or, insert, remove, is_ok, Option, Some, None, Result, IfOk, IfErr, Box, option_map}
use Rattle.std.specs.declared.cmp.Ordering.TheVariants.{Less, Greater}
use Rattle.std.specs.declared.alloc.Global.{Global}
use Rattle.kb_label.specs.Names.{Name, name_cmp, has, add, minus}
use Rattle.kb_label.specs.Packed.{name_in, word}

-- the name with this first word and this length, or the whole one where there is one
abbrev pub kept_name : ℕ → ℕ → Option Name → Name
kept_name first len None = name_in (first ∷ []) len
kept_name first len (Some p) = p

-- the name in the box, where there is one
abbrev pub whole_name : Option (Box Name Global) → Option Name
whole_name = option_map (λ b. b.value)

-- what has no whole name fits a word
abbrev pub fits : ℕ → Option Name → Type 0
fits len None = len ≤ 64
fits len (Some p) = Unit {0}

-- the word and the length are those of the name
abbrev pub IsKept : ℕ → ℕ → Option Name → Type 0
IsKept first len whole = (first ≡ word 64 (kept_name first len whole)) × (len ≡ length (kept_name first len whole)) × fits len whole

-- the names of the list before this place, which is in the list or its end, come before the name
abbrev pub AreBefore : List Name → ℕ → Name → Type 0
AreBefore l k p = (k ≤ length l) × ((i : ℕ) (d : Name) → i < k → name_cmp (get_or l i d) p ≡ Less)

-- the names of the list from this place on come after the name
abbrev pub AreAfter : List Name → ℕ → Name → Type 0
AreAfter l k p = (i : ℕ) (d : Name) → k ≤ i → i < length l → name_cmp (get_or l i d) p ≡ Greater

-- where the name stands in the list, or else where it would have to be put
pub record IsPlaceOf (l : List Name) (p : Name) (r : Result ℕ ℕ) : Type 0 where
  pub found : is_ok r ≡ has l p
  pub present : IfOk r (λ _. add p l ≡ l)
  pub there : IfOk r (λ k. k < length l)
  pub left : IfOk r (λ k. remove l k ≡ minus l (p ∷ []))
  pub within : IfErr r (λ k. k ≤ length l)
  pub absent : IfErr r (λ k. insert l k p ≡ add p l)
