-- The sections of the text of a journal.
use Rattle.std.specs.Prelude.{ℕ, ◌≡◌, ◌≤◌, List, [], ◌∷◌, ◌++◌, codes}
use Rattle.std.specs.List.{join_with_byte}
use Rattle.kb_term.specs.Signature.{Signature}
use Rattle.kb_report.specs.Sections.{Lines, Section, OneLine, Items, IsLineOf, counted_line}
use Rattle.kb_report.specs.SystemSections.{AreSymbols, symbols_body}
use Rattle.mkb_model.specs.declared.settings.Selection.{Selection}
use Rattle.mkb_model.specs.declared.settings.Selection.TheVariants.{Stated, Size}
use Rattle.kb_journal.specs.declared.entry_line.EntryLine.{EntryLine}
use Rattle.kb_journal.specs.EntryLines.{entry_fields, IsEntryLine}

-- the line of an entry, without its line feed
abbrev pub entry_body : EntryLine → List ℕ
entry_body l = join_with_byte 32 (entry_fields l)

-- the bytes are the line of an entry
abbrev pub IsEntryText : List ℕ → EntryLine → Type 0
IsEntryText = IsLineOf IsEntryLine entry_body

-- ---- the sections

-- a number between these behind the word
abbrev pub Amount : List ℕ → ℕ → ℕ → Section ℕ
Amount word low high = OneLine (λ n. (low ≤ n) × (n ≤ high)) (counted_line word)

-- the bytes are the line of such a number
abbrev pub IsAmountLine : List ℕ → ℕ → ℕ → List ℕ → ℕ → Type 0
IsAmountLine word low high = IsLineOf (λ n. (low ≤ n) × (n ≤ high)) (counted_line word)

-- the line of a selection that is not the stated one
abbrev pub selection_word : List ℕ
selection_word = codes "SELECTION size"

-- the stated selection has no line
abbrev pub selection_part : Selection → Lines
selection_part Stated = []
selection_part Size = selection_word ∷ []

-- the selection, and the symbols behind it
abbrev pub Selected : Section (Selection × Signature)
Selected x lines = AreSymbols x.1 × (lines ≡ selection_part x.0 ++ symbols_body x.1 ∷ [])

-- so many entries, with a line for each
abbrev pub Entries : ℕ → Section (List EntryLine)
Entries = Items IsEntryLine (λ k. entry_body)
