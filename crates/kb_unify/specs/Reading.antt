-- What is read off a measured table.
use Rattle.std.specs.Prelude.{ℕ, ◌+◌, ◌≤◌, ◌<◌, ◌≡◌, List, length, replicate, get_or, Option, Some, None, All, AllPairs, cond, nat_lt}
use Rattle.kb_term.specs.Tree.{Tree, variable}
use Rattle.kb_term.specs.declared.limit.Limit.{Limit}
use Rattle.kb_term.specs.declared.limit.Limit.TheVariants.{Size, Depth, Variables}
use Rattle.kb_term.specs.Substitution.{substitution_of}
use Rattle.kb_unify.specs.Table.{slot_at, IsTable, IsFree, IsFlattened}
use Rattle.kb_unify.specs.Extent.{IsSolution}
use Rattle.kb_unify.specs.declared.table.Slot.{Slot}
use Rattle.kb_unify.specs.declared.table.Slot.TheVariants.{Free}
use Rattle.kb_unify.specs.declared.extent.Extent.{Extent}

abbrev pub size_at : List Extent → ℕ → ℕ
size_at extents i = (get_or extents i (record { size = 0; depth = 0 })).size

abbrev pub depth_at : List Extent → ℕ → ℕ
depth_at extents i = (get_or extents i (record { size = 0; depth = 0 })).depth

-- the limit that the extent of one of so many variables passes: the size, else the depth
abbrev pub IsLimitPassed : ℕ → List Extent → Option Limit → Type 0
IsLimitPassed variables extents None = ((i : ℕ) → i < variables → size_at extents i ≤ 512) × ((i : ℕ) → i < variables → depth_at extents i ≤ 64)
IsLimitPassed variables extents (Some Size) = (i : ℕ) × (i < variables) × (512 < size_at extents i)
IsLimitPassed variables extents (Some Depth) = ((i : ℕ) → i < variables → size_at extents i ≤ 512) × ((i : ℕ) × (i < variables) × (64 < depth_at extents i))
IsLimitPassed variables extents (Some Variables) = ⊥

-- the table with its extents has a solution; only variables are free, which are below 128
pub record IsReadable (slots : List Slot) (extents : List Extent) : Type 0 where
  pub table : IsTable slots
  pub free : (i : ℕ) → i < length slots → IsFree (slot_at slots i) → i < 128
  pub solution : (w : ℕ → Tree) × IsSolution slots extents w

-- the list gives to the first n variables what w gives them, and leaves the others
abbrev pub ListsBelow : ℕ → (ℕ → Tree) → List (ℕ × Tree) → Type 0
ListsBelow n w es = (i : ℕ) → substitution_of es i ≡ cond (nat_lt i n) (w i) (variable i)

-- the list has some of so many variables, of which something is known, in their order and each once
pub record ListsBound (variables : ℕ) (slots : List Slot) (es : List (ℕ × Tree)) : Type 0 where
  pub in_order : AllPairs (λ (d e : ℕ × Tree). d.0 < e.0) es
  pub bound : All (λ (e : ℕ × Tree). (e.0 < variables) × ¬ IsFree (slot_at slots e.0)) es

-- the table of two terms, at the two places behind those of so many variables
abbrev pub IsTableOf : ℕ → Tree → Tree → List Slot → Type 0
IsTableOf variables s t slots = (one : List Slot) × IsFlattened (replicate (variables + 2) Free) one variables s × IsFlattened one slots (variables + 1) t
