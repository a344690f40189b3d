-- What a source that keeps its bytes has kept.
use Rattle.std.specs.Prelude.{ℕ, ◌≡◌, ◌⊎◌, List, ◌++◌, Option, Some, None, option_map}
use Rattle.kb_io.specs.declared.keeping.KeepingSource.{KeepingSource}

-- the bytes that it gave, unless there was no memory for them
abbrev pub kept_of : {S : Type 0} → KeepingSource S → Option (List ℕ)
kept_of s = option_map (λ kept. kept.items) s.kept

-- the source under it
abbrev pub kept_from : {S : Type 0} → KeepingSource S → S
kept_from s = s.source

-- the piece is kept behind what was; or nothing is, for want of memory
abbrev pub IsKept : Option (List ℕ) → List ℕ → Option (List ℕ) → Type 0
IsKept None piece new = new ≡ None
IsKept (Some bytes) piece new = (new ≡ Some (bytes ++ piece)) ⊎ (new ≡ None)
