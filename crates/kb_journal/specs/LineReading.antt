-- How the fields of a line are read: the line that they are, if they are one.
use Rattle.std.specs.Prelude.{ℕ, ◌-◌, ◌^◌, List, [], map, length, Bool, ◌&&◌, ◌||◌, ◌==◌, nat_eq, nat_lt, nat_le, if◌then◌else◌, Option, Some, None, unwrap_or, get_or, take, codes, decimal}
use Rattle.std.specs.Str.Parse.{digits_value}
use lib.Pointwise.{pointwise}
use Rattle.kb_term.specs.declared.origin.RuleRef.{RuleRef}
use Rattle.kb_label.specs.Names.{Name}
use Rattle.kb_label.specs.declared.verdict.Reason.{Reason}
use Rattle.kb_label.specs.declared.verdict.Reason.TheVariants.{Nodes, Processes, Size, Depth, Variables, Steps}
use Rattle.kb_journal.specs.declared.entry_line.EntryLine.{EntryLine}
use Rattle.kb_journal.specs.declared.entry_line.EntryLine.TheVariants.{TakeReduce, TakeOrient, TakeOverlap, TakeClose, Facts, Rewrite, Oriented, Fork, Refused, Deduced, Unjoined, Closed, Over, Drop, Abandon, Halt}

-- two texts are the same
abbrev pub is_text : List ℕ → List ℕ → Bool
is_text text word = pointwise nat_eq text word

-- the field with this number is the word
abbrev pub is_word_at : List (List ℕ) → ℕ → List ℕ → Bool
is_word_at fields k word = is_text (get_or fields k []) word

-- the number below 2^64 that the text writes
abbrev pub number_read : List ℕ → Option ℕ
number_read text = if nat_lt (digits_value 10 text) (2 ^ 64) && is_text (decimal (digits_value 10 text)) text then Some (digits_value 10 text) else None

abbrev pub number_at : List (List ℕ) → ℕ → ℕ
number_at fields k = unwrap_or (number_read (get_or fields k [])) 0

-- the number, where it is at most this, else 0
abbrev pub at_most : ℕ → ℕ → ℕ
at_most highest n = if nat_le n highest then n else 0

-- the process that the text names
abbrev pub process_read : List ℕ → Name
process_read text = if is_text text (codes "e") || nat_lt 1023 (length text) then [] else map (λ b. b == 49) text

abbrev pub process_at : List (List ℕ) → ℕ → Name
process_at fields k = process_read (get_or fields k [])

-- the rule that the text names: a node before a dot and a digit
abbrev pub rule_read : List ℕ → RuleRef
rule_read text = record { node = at_most 65535 (unwrap_or (number_read (take (length text - 2) text)) 0); dir = get_or text (length text - 1) 48 - 48 }

abbrev pub rule_at : List (List ℕ) → ℕ → RuleRef
rule_at fields k = rule_read (get_or fields k [])

-- the node of a new pair, none for the word
abbrev pub target_at : List (List ℕ) → ℕ → Option ℕ
target_at fields k = if is_word_at fields k (codes "trivial") then None else Some (at_most 65535 (number_at fields k))

-- the reason that the text names
abbrev pub reason_at : List (List ℕ) → ℕ → Reason
reason_at fields k =
    if is_word_at fields k (codes "nodes") then Nodes else (
    if is_word_at fields k (codes "processes") then Processes else (
    if is_word_at fields k (codes "size") then Size else (
    if is_word_at fields k (codes "depth") then Depth else (
    if is_word_at fields k (codes "variables") then Variables else Steps))))

-- a take
abbrev pub take_read : List (List ℕ) → EntryLine
take_read fields =
    if is_word_at fields 3 (codes "reduce") then TakeReduce (at_most 255 (number_at fields 1)) (number_at fields 2) (process_at fields 4) (at_most 65535 (number_at fields 5)) else (
    if is_word_at fields 3 (codes "orient") then TakeOrient (at_most 255 (number_at fields 1)) (number_at fields 2) (process_at fields 4) (at_most 65535 (number_at fields 5)) else (
    if is_word_at fields 3 (codes "overlap") then TakeOverlap (at_most 255 (number_at fields 1)) (number_at fields 2) (process_at fields 4) (rule_at fields 5) (rule_at fields 6)
    else TakeClose (at_most 255 (number_at fields 1)) (number_at fields 2) (process_at fields 4)))

-- a commit without a number
abbrev pub plain_read : List (List ℕ) → EntryLine
plain_read fields =
    if is_word_at fields 2 (codes "fork") then Fork (number_at fields 1) else (
    if is_word_at fields 2 (codes "refused") then Refused (number_at fields 1) else (
    if is_word_at fields 2 (codes "closed") then Closed (number_at fields 1)
    else Over (number_at fields 1) (reason_at fields 3)))

-- a commit
abbrev pub commit_read : List (List ℕ) → EntryLine
commit_read fields =
    if is_word_at fields 2 (codes "facts") then Facts (number_at fields 1) (number_at fields 3) else (
    if is_word_at fields 2 (codes "rewrite") then Rewrite (number_at fields 1) (target_at fields 3) else (
    if is_word_at fields 2 (codes "oriented") then Oriented (number_at fields 1) (at_most 255 (number_at fields 3)) else (
    if is_word_at fields 2 (codes "deduced") then Deduced (number_at fields 1) (number_at fields 3) else (
    if is_word_at fields 2 (codes "unjoined") then Unjoined (number_at fields 1) (number_at fields 3)
    else plain_read fields))))

-- a line
abbrev pub line_read : List (List ℕ) → EntryLine
line_read fields =
    if is_word_at fields 0 (codes "take") then take_read fields else (
    if is_word_at fields 0 (codes "commit") then commit_read fields else (
    if is_word_at fields 0 (codes "drop") then Drop (number_at fields 1) (process_at fields 2) else (
    if is_word_at fields 0 (codes "abandon") then Abandon (number_at fields 1)
    else Halt)))
