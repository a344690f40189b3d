-- Places of a list of hashes, found by their hashes.
--     IsLast, HasNone      the last place below an end that has a hash, and that there is none
--     slot_of, IsLink, IsChained      how the places are linked
use Rattle.std.specs.Prelude.{ℕ, ◌≡◌, ◌+◌, ◌-◌, ◌<◌, ◌≤◌, List, length, map, slice_get, Some}
use Rattle.std.specs.Int.Bits.{bit_and}
use Rattle.term_bank.specs.declared.chains.Link.{Link}

-- below the end no place has the hash
abbrev pub HasNone : List ℕ → ℕ → ℕ → Type 0
HasNone hashes hash end = (j : ℕ) → j < end → slice_get hashes j ≡ Some hash → ⊥

-- the place is the last below the end that has the hash
pub record IsLast (hashes : List ℕ) (hash end place : ℕ) : Type 0 where
  pub below : place < end
  pub has : slice_get hashes place ≡ Some hash
  pub last : (j : ℕ) → place < j → j < end → slice_get hashes j ≡ Some hash → ⊥

-- the slot at which the chain of a hash begins, of so many slots
abbrev pub slot_of : ℕ → ℕ → ℕ
slot_of slots hash = bit_and hash (slots - 1)

-- the link leads to the last place below the end whose hash has the slot: it is one more than the place, or 0 where there is none
pub record IsLink (slots : ℕ) (hashes : List ℕ) (slot end link : ℕ) : Type 0 where
  pub low : link ≤ end
  pub here : (i h : ℕ) → link ≡ i + 1 → slice_get hashes i ≡ Some h → slot_of slots h ≡ slot
  pub none : (j h : ℕ) → link ≤ j → j < end → slice_get hashes j ≡ Some h → slot_of slots h ≡ slot → ⊥

-- the hashes of the places
abbrev pub hashes_of : List Link → List ℕ
hashes_of links = map (λ (l : Link). l.hash) links

-- each place leads to the one before it in its slot
abbrev pub AreLinked : ℕ → List Link → Type 0
AreLinked slots links = (i : ℕ) (l : Link) → slice_get links i ≡ Some l → IsLink slots (hashes_of links) (slot_of slots l.hash) i l.next

-- each slot leads to its last place below the end
abbrev pub AreHeads : List ℕ → List ℕ → ℕ → Type 0
AreHeads heads hashes end = (slot link : ℕ) → slice_get heads slot ≡ Some link → IsLink (length heads) hashes slot end link

-- each slot leads to its last place, and each place to the one before it in its slot
pub record IsChained (heads : List ℕ) (links : List Link) : Type 0 where
  pub room : length links ≤ length heads
  pub few : length links ≤ 4194304
  pub starts : AreHeads heads (hashes_of links) (length links)
  pub nexts : AreLinked (length heads) links
