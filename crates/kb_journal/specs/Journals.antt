-- The text of a journal.
use Rattle.std.specs.Prelude.{◌≡◌, ℕ, ◌≤◌, ◌<◌, ◌^◌, List, [], ◌∷◌, ◌++◌, map, flat_map, length, codes, All}
use Rattle.kb_term.specs.Signature.{Problem, IsSignature, IsWithinLimits}
use Rattle.kb_text.specs.Lines.{line, counted}
use Rattle.kb_report.specs.Answers.{symbols_line, equation_lines, end_line}
use Rattle.mkb_model.specs.declared.settings.Selection.{Selection}
use Rattle.mkb_model.specs.declared.settings.Selection.TheVariants.{Stated, Size}
use Rattle.mkb_model.specs.declared.settings.Settings.{Settings}
use Rattle.mkb_board.specs.Boards.{Seen}
use Rattle.kb_journal.specs.declared.entry_line.EntryLine.{EntryLine}
use Rattle.kb_journal.specs.EntryLines.{entry_fields, line_of, IsEntryLine}

-- a problem, the settings of a run, and the lines of its entries
pub record Journal : Type 0 where
  pub problem : Problem
  pub settings : Settings
  pub lines : List EntryLine

-- ---- the lines

abbrev pub journal_head : List ℕ
journal_head = line (codes "MKBTT" ∷ codes "JOURNAL" ∷ codes "2" ∷ [])

-- the stated selection has no line
abbrev pub selection_lines : Selection → List ℕ
selection_lines Stated = []
selection_lines Size = line (codes "SELECTION" ∷ codes "size" ∷ [])

abbrev pub settings_lines : Settings → List ℕ
settings_lines s = counted (codes "BUDGET") s.budget ++ selection_lines s.selection

-- an entry on its line
abbrev pub entry_line : EntryLine → List ℕ
entry_line l = line (entry_fields l)

-- how many entries there are, and each on its line
abbrev pub entry_lines : List EntryLine → List ℕ
entry_lines ls = counted (codes "ENTRIES") (length ls) ++ flat_map entry_line ls

-- the text of a journal
abbrev pub journal_text : Journal → List ℕ
journal_text j = journal_head ++ settings_lines j.settings ++ symbols_line j.problem.signature ++ equation_lines j.problem ++ entry_lines j.lines ++ end_line

-- the journal of a board
abbrev pub journal_of_board : Seen → Journal
journal_of_board b = record { problem = b.plain.problem; settings = b.plain.settings; lines = map (line_of b.plain.nodes) b.journal }

-- ---- their form

-- a budget from 1 to 100,000, a problem within the limits, and lines whose numbers are within their ranges
pub record IsJournal (j : Journal) : Type 0 where
  pub budget_least : 1 ≤ j.settings.budget
  pub budget_most : j.settings.budget ≤ 100000
  pub problem : IsWithinLimits j.problem
  pub count : length j.lines < 2 ^ 64
  pub each : All IsEntryLine j.lines

-- the bytes are the text of the journal
pub record JournalSpelled (bytes : List ℕ) (j : Journal) : Type 0 where
  pub signature : IsSignature j.problem.signature
  pub form : IsJournal j
  pub spelling : bytes ≡ journal_text j

-- the texts of journals
abbrev pub IsJournalText : List ℕ → Type 0
IsJournalText bytes = (j : Journal) × JournalSpelled bytes j
