-- Names packed into words of 64 bits, the first bit of a name in the highest bit of the first word.
use Rattle.std.specs.Prelude.{ℕ, zero, suc, ◌+◌, ◌-◌, ◌*◌, ◌/◌, ◌%◌, ◌^◌, List, [], ◌∷◌, Bool, true, false, ◌==◌, slice_index, drop, map}
use Rattle.std.specs.List.{range_with_len}
use Rattle.kb_label.specs.Names.{Name}

-- 1 for a bit that is set, else 0
abbrev pub digit : Bool → ℕ
digit true = 1
digit false = 0

-- bit i of the words: in the word i / 64 the bit of weight 2 ^ (63 - i % 64)
unfoldable pub bit_at : List ℕ → ℕ → Bool
bit_at words i = (slice_index words (i / 64) / 2 ^ (63 - i % 64)) % 2 == 1

-- the name of so many bits that stands in the words
unfoldable pub name_in : List ℕ → ℕ → Name
name_in words n = map (bit_at words) (range_with_len 0 n)

-- the word of k bits that begins with the name, and has 0 after its end
unfoldable pub word : ℕ → Name → ℕ
word zero p = 0
word (suc k) [] = 0
word (suc k) (bit ∷ p) = digit bit * 2 ^ k + word k p

-- so many words of 64 bits that begin with the name, and have 0 after its end
unfoldable pub words_of : ℕ → Name → List ℕ
words_of zero p = []
words_of (suc n) p = word 64 p ∷ words_of n (drop 64 p)
