-- The line of a text that holds a place, with a caret under the place.
use Rattle.std.specs.Prelude.{ℕ, zero, suc, ◌+◌, ◌-◌, ◌==◌, ◌||◌, List, [], ◌∷◌, ◌++◌, Bool, cond, if◌then◌else◌, nat_lt, Option, Some, None, codes, decimal, drop, length, replicate, take}
use Rattle.std.specs.List.{after_last, before_first, count_by, filter_map}

-- ---- lines

abbrev pub is_feed : ℕ → Bool
is_feed b = b == 10

-- how many bytes the first n lines of the text have, or all where it has fewer
abbrev pub length_of_lines : List ℕ → ℕ → ℕ
length_of_lines text zero = 0
length_of_lines [] (suc n) = 0
length_of_lines (b ∷ text) (suc n) = 1 + length_of_lines text (cond (b == 10) n (suc n))

-- where the line with this number begins, from 1
abbrev pub line_start : List ℕ → ℕ → ℕ
line_start text number = length_of_lines text (number - 1)

-- ---- what is shown

-- printable ASCII for itself, a question mark for the first byte of another character and nothing for its others, a space for the rest
abbrev pub shown_byte : ℕ → Option ℕ
shown_byte b = if nat_lt b 32 || b == 127 then Some 32 else (if nat_lt b 128 then Some b else (if nat_lt b 192 then None else Some 63))

abbrev pub shown : List ℕ → List ℕ
shown = filter_map shown_byte

abbrev pub dots : List ℕ
dots = codes "..."

-- of the bytes before the place the last 60, with dots for others
abbrev pub front_shown : List ℕ → List ℕ
front_shown front = if nat_lt 60 (length front) then dots ++ shown (drop (length front - 60) front) else shown front

-- of the bytes from the place on the first 40, with dots for others
abbrev pub back_shown : List ℕ → List ℕ
back_shown back = if nat_lt 40 (length back) then shown (take 40 back) ++ dots else shown back

-- the number of the line that a place is in, from 1: of the bytes before the place
abbrev pub line_number : List ℕ → ℕ
line_number before = count_by is_feed before + 1

-- what is shown of that line before the place
abbrev pub shown_before : List ℕ → List ℕ
shown_before before = front_shown (after_last is_feed before)

-- the line that a place is in, with its number: of the bytes before the place and of those from it on
abbrev pub numbered_line : List ℕ → List ℕ → List ℕ
numbered_line before behind = decimal (line_number before) ++ codes " | " ++ shown_before before ++ back_shown (before_first is_feed behind) ++ 10 ∷ []

-- a caret, as far to the right as the place is in the numbered line
abbrev pub caret_line : List ℕ → List ℕ
caret_line before = replicate (length (decimal (line_number before))) 32 ++ codes " | " ++ replicate (length (shown_before before)) 32 ++ codes "^\n"

-- the line that holds the place, and a caret under the place
abbrev pub excerpt_of : List ℕ → ℕ → List ℕ
excerpt_of text at = numbered_line (take at text) (drop at text) ++ caret_line (take at text)
