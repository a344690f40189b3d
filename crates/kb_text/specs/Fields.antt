-- Texts that are cut at one byte.
use Rattle.std.specs.Prelude.{◌≡◌, ℕ, ◌+◌, ◌<◌, ◌==◌, List, [], ◌∷◌, ◌++◌, false, length, map, take, drop, ⊤, Vec}
use Rattle.std.specs.List.{slice_split}
use Rattle.std.specs.declared.alloc.Global.{Global}
use Rattle.kb_text.specs.Lines.{IsBadLine}
use Rattle.kb_text.specs.declared.fault.TextFault.{TextFault}
use Rattle.kb_text.specs.declared.fault.TextFault.TheVariants.{BadText, Memory}

-- no byte of the text is c
abbrev pub IsWithout : ℕ → List ℕ → Type 0
IsWithout c [] = ⊤
IsWithout c (b ∷ bytes) = ((b == c) ≡ false) × IsWithout c bytes

-- the parts, with these bytes before the first
abbrev pub behind : List ℕ → List (List ℕ) → List (List ℕ)
behind bytes [] = bytes ∷ []
behind bytes (part ∷ parts) = (bytes ++ part) ∷ parts

-- the parts that are whole, and then those of the rest, the first of which goes on with the bytes of the open part
abbrev pub parts_with : ℕ → List (Vec ℕ Global) → List ℕ → List ℕ → List (List ℕ)
parts_with separator whole part rest = map (λ (f : Vec ℕ Global). f.items) whole ++ behind part (slice_split (λ b. b == separator) rest)

-- the first line feed of the text stands behind n bytes
pub record IsFirstLine (text : List ℕ) (n : ℕ) : Type 0 where
  pub within : n < length text
  pub without : IsWithout 10 (take n text)
  pub parts : text ≡ take n text ++ 10 ∷ drop (n + 1) text

-- why a text isn't of the form: BadText names the first line that isn't of its form
abbrev pub IsTextFault : (List ℕ → Type 0) → List ℕ → TextFault → Type 0
IsTextFault IsOfForm text (BadText n) = IsBadLine IsOfForm text n
IsTextFault IsOfForm text Memory = ⊤
