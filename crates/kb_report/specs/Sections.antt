-- Sections of a text of lines: each begins with a line that fixes it, and one line more is told from the lines before it.
use Rattle.std.specs.Prelude.{◌≡◌, ℕ, ◌+◌, ◌≤◌, ◌⊎◌, List, [], ◌∷◌, ◌++◌, MatchOption, Option, length, drop, decimal, All, ⊤}
use Rattle.kb_text.specs.Fields.{IsWithout}
use Rattle.kb_text.specs.declared.fault.TextFault.{TextFault}
use Rattle.kb_text.specs.declared.fault.TextFault.TheVariants.{BadText, Memory}

-- lines without their line feeds
abbrev pub Lines : Type 0
Lines = List (List ℕ)

-- their text
abbrev pub text_of : Lines → List ℕ
text_of [] = []
text_of (line ∷ lines) = line ++ 10 ∷ text_of lines

-- the lines are those of this value
abbrev pub Section : Type 0 → Type 1
Section X = X → Lines → Type 0

-- the value has this form, and one line
abbrev pub OneLine : {X : Type 0} → (X → Type 0) → (X → List ℕ) → Section X
OneLine IsOfForm line x lines = IsOfForm x × (lines ≡ line x ∷ [])

-- the lines of items that are numbered from k
abbrev pub item_lines : {X : Type 0} → (ℕ → X → List ℕ) → ℕ → List X → Lines
item_lines line k [] = []
item_lines line k (x ∷ xs) = line k x ∷ item_lines line (k + 1) xs

-- so many items of this form, numbered from 1, with a line for each
abbrev pub Items : {X : Type 0} → (X → Type 0) → (ℕ → X → List ℕ) → ℕ → Section (List X)
Items IsOfForm line count xs lines = All IsOfForm xs × (length xs ≡ count) × (lines ≡ item_lines line 1 xs)

-- a number of at most this behind the word
abbrev pub counted_line : List ℕ → ℕ → List ℕ
counted_line word n = word ++ decimal n

abbrev pub Count : List ℕ → ℕ → Section ℕ
Count word highest = OneLine (λ n. n ≤ highest) (counted_line word)

-- the line that is this word
abbrev pub Word : List ℕ → Section ⊤
Word word = OneLine (λ u. ⊤) (λ u. word)

-- the section of the first value, and behind it that of the second, which the first decides
abbrev pub Both : {X Y : Type 0} → Section X → (X → Section Y) → Section (X × Y)
Both S Next p lines = (front back : Lines) × S p.0 front × Next p.0 p.1 back × (lines ≡ front ++ back)

-- the bytes are the line of a value of this form, without its line feed
pub record IsLineOf {X : Type 0} (IsOfForm : X → Type 0) (line : X → List ℕ) (bytes : List ℕ) (x : X) : Type 0 where
  pub form : IsOfForm x
  pub spelling : bytes ≡ line x

-- the text is a line without line feeds in it, and the rest
pub record IsFirstLine (text line rest : List ℕ) : Type 0 where
  pub without : IsWithout 10 line
  pub parts : text ≡ line ++ 10 ∷ rest

-- the text is the line of a value of this form, and the rest
pub record BeginsWithLine {X : Type 0} (IsOfForm : X → Type 0) (line : X → List ℕ) (text : List ℕ) (x : X) (rest : List ℕ) : Type 0 where
  pub form : IsOfForm x
  pub parts : text ≡ line x ++ 10 ∷ rest

-- what is read of the text: the value of this form whose line it begins with, and how many bytes that line takes; nothing where it begins with none
abbrev pub ReadsLine : {X Y : Type 0} → (Y → X) → (X → Type 0) → (X → List ℕ) → List ℕ → Option (Y × ℕ) → Type 0
ReadsLine {X} value IsOfForm line text read =
    MatchOption read ((x : X) (rest : List ℕ) → ¬ BeginsWithLine IsOfForm line text x rest)
    (λ p. BeginsWithLine IsOfForm line text (value p.0) (drop p.1 text))

-- the text is the section of x, which has so many lines, and the rest
pub record BeginsWith {X : Type 0} (S : Section X) (text : List ℕ) (x : X) (count : ℕ) (rest : List ℕ) : Type 0 where
  pub lines : Lines
  pub section : S x lines
  pub count_is : length lines ≡ count
  pub parts : text ≡ text_of lines ++ rest

-- The line with this number, where the text begins with the line `first`, is the first that isn't the section's: the lines before it begin
-- some section and are no whole one, and with it they begin none.
pub record IsBadFrom {X : Type 0} (S : Section X) (text : List ℕ) (first number : ℕ) : Type 0 where
  pub lines : Lines
  pub number_is : number ≡ first + length lines
  pub rest : List ℕ
  pub parts : text ≡ text_of lines ++ rest
  pub begin : (x : X) × (more : Lines) × S x (lines ++ more)
  pub with_it : (line back : List ℕ) → IsWithout 10 line → rest ≡ line ++ 10 ∷ back → (x : X) (more : Lines) → ¬ S x (lines ++ line ∷ more)
  pub not_whole : (x : X) → ¬ S x lines

-- why the text doesn't begin with the section
abbrev pub IsSectionFault : {X : Type 0} → Section X → List ℕ → ℕ → TextFault → Type 0
IsSectionFault S text first (BadText number) = IsBadFrom S text first number
IsSectionFault S text first Memory = ⊤

-- why the text isn't the line that is this word: it begins with another one, or something stands behind it
abbrev pub IsEndFault : List ℕ → List ℕ → ℕ → TextFault → Type 0
IsEndFault word text first fault = IsSectionFault (Word word) text first fault ⊎ ((rest : List ℕ) × BeginsWith (Word word) text tt 1 rest × (1 ≤ length rest) × (fault ≡ BadText (first + 1)))

-- the first lines of the text, n of them, take so many bytes; they are so many as asked for, or there are no more
pub record AreFirstLines (text : List ℕ) (most n size : ℕ) : Type 0 where
  pub within : size ≤ length text
  pub few : n ≤ most
  pub lines : Lines
  pub count_is : length lines ≡ n
  pub without : All (IsWithout 10) lines
  pub parts : text ≡ text_of lines ++ drop size text
  pub all : (n ≡ most) ⊎ IsWithout 10 (drop size text)
