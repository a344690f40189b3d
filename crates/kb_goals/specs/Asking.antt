-- Goals behind an answer: how many there are, each on its line, and the end.
use Rattle.std.specs.Prelude.{◌≡◌, ℕ, ◌+◌, ◌≤◌, List, [], ◌∷◌, ◌++◌, length, take, codes, All, ⊤}
use Rattle.kb_term.specs.Tree.{Tree}
use Rattle.kb_term.specs.Signature.{Signature, IsEquationWithinLimits}
use Rattle.kb_text.specs.Fields.{IsWithout}
use Rattle.kb_text.specs.Names.{Name}
use Rattle.kb_text.specs.Terms.{names_of}
use Rattle.kb_checker.specs.Answers.{Answer}
use Rattle.kb_report.specs.Answers.{IsTextOf}
use Rattle.kb_report.specs.Sections.{Lines, text_of, Section, item_lines, counted_line}
use Rattle.kb_report.specs.SystemSections.{equation_body}

-- ---- the answer

-- the lines of an answer's text, in either version
abbrev pub AnswerLines : Section Answer
AnswerLines a lines = IsTextOf (text_of lines) a × All (IsWithout 10) lines

-- lines without line feeds, none of which is `END`
abbrev pub AreOtherLines : Lines → Type 0
AreOtherLines [] = ⊤
AreOtherLines (line ∷ lines) = (IsWithout 10 line × ¬ (line ≡ codes "END")) × AreOtherLines lines

-- so many bytes are the lines up to and with the first `END`, so many; or they are the whole text, where no line is `END`
pub data IsUpToEnd (text : List ℕ) (size count : ℕ) : Type 0 where
  ended : (lines : Lines) → AreOtherLines lines → size ≤ length text → take size text ≡ text_of (lines ++ codes "END" ∷ []) → count ≡ length lines + 1 → IsUpToEnd text size count
  endless : (lines : Lines) (last : List ℕ) → AreOtherLines lines → IsWithout 10 last → text ≡ text_of lines ++ last → size ≡ length text → IsUpToEnd text size count

-- ---- what is asked behind it

-- how many there are behind the word, each on its line, and the end
abbrev pub asked_lines : {X : Type 0} → List ℕ → (X → List ℕ) → List X → Lines
asked_lines word body xs = counted_line word (length xs) ∷ (item_lines (λ k. body) 1 xs ++ codes "END" ∷ [])

-- at most 256, each of this form
pub record AreAsked {X : Type 0} (IsOfForm : X → Type 0) (xs : List X) : Type 0 where
  pub count : length xs ≤ 256
  pub each : All IsOfForm xs

-- the bytes are a text of the answer, and behind it the lines of what is asked, over the answer's symbols
pub record IsAskedTextOf {X : Type 0} (word : List ℕ) (IsOfForm : Signature → X → Type 0) (body : List Name → X → List ℕ) (bytes : List ℕ) (a : Answer) (xs : List X) : Type 0 where
  pub front : List ℕ
  pub answer : IsTextOf front a
  pub form : AreAsked (IsOfForm a.problem.signature) xs
  pub spelling : bytes ≡ front ++ text_of (asked_lines word (body (names_of a.problem.signature)) xs)

-- some answer, and what is asked behind it
abbrev pub IsAskedText : {X : Type 0} → List ℕ → (Signature → X → Type 0) → (List Name → X → List ℕ) → List ℕ → Type 0
IsAskedText {X} word IsOfForm body bytes = (a : Answer) × (xs : List X) × IsAskedTextOf word IsOfForm body bytes a xs

-- ---- goals

-- the bytes are a text of the answer and the goals behind it
abbrev pub IsGoalsTextOf : List ℕ → Answer → List (Tree × Tree) → Type 0
IsGoalsTextOf = IsAskedTextOf (codes "GOALS ") IsEquationWithinLimits equation_body

-- the texts of answers with goals, which alone are read
abbrev pub IsGoalsText : List ℕ → Type 0
IsGoalsText = IsAskedText (codes "GOALS ") IsEquationWithinLimits equation_body
