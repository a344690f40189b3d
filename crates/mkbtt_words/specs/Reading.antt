-- What the words of a command line come to.
use Rattle.std.specs.Prelude.{ℕ, ◌≡◌, ◌≤◌, ◌&&◌, List, [], ◌∷◌, Option, Some, None, codes, if◌then◌else◌, nat_le, option_and_then}
use Rattle.std.specs.Str.Parse.{digits_value, without_leading_plus}
use Rattle.clap.specs.Walk.{Row, Text, first_of, one_of}
use Rattle.clap.specs.Simple.{matches_of}
use Rattle.clap.specs.Faults.{fault_of}
use Rattle.clap.specs.Kinds.{Kinds}
use Rattle.mkbtt_words.specs.Command.{NumberOption, budget, command, number, workers}
use Rattle.mkbtt_words.specs.Formats.{format_of}
use Rattle.mkbtt_words.specs.Modes.{mode_of}
use Rattle.mkbtt_words.specs.Selections.{selection_of}
use Rattle.mkbtt_words.specs.declared.format.Format.{Format}
use Rattle.mkbtt_words.specs.declared.mode.Mode.{Mode}
use Rattle.mkbtt_words.specs.declared.selection.Selection.{Selection}
use Rattle.mkbtt_words.specs.declared.words.Words.{Words}

-- n, where the option may have it
abbrev pub if_within : NumberOption → ℕ → Option ℕ
if_within o n = if nat_le o.low n && nat_le n o.high then Some n else None

-- the number that the option's text writes, within its bounds
abbrev pub number_in : NumberOption → List Row → Option ℕ
number_in o rows = option_and_then (λ text. if_within o (digits_value 10 (without_leading_plus text))) (one_of o.name rows)

-- the value whose name is the argument's text
abbrev pub named_in : {X : Type 0} → (Text → Option X) → Text → List Row → Option X
named_in value_of argument rows = option_and_then value_of (first_of argument rows)

-- these together, where each is there
abbrev pub together : Option Mode → Option ℕ → Option ℕ → Option ℕ → Option Format → Option Selection → Option Words
together (Some m) (Some w) (Some b) (Some n) (Some f) (Some s) = Some (record { mode = m; workers = w; budget = b; number = n; format = f; selection = s })
together _ _ _ _ _ _ = None

-- what the matches of the command hold
abbrev pub words_in : List Row → Option Words
words_in rows = together (named_in mode_of (codes "mode") rows) (number_in workers rows) (number_in budget rows) (number_in number rows) (named_in format_of (codes "to") rows) (named_in selection_of (codes "select") rows)

-- what is read, where no fault is found
abbrev pub where_faultless : Kinds → Option Words → Option Words
where_faultless [] read = read
where_faultless (fault ∷ faults) read = None

-- what the command reads of the words: nothing where it finds a fault in them, or where the mode, the format or the selection is in no table
unfoldable pub words_read : List Text → Option Words
words_read words = where_faultless (fault_of command words) (words_in (matches_of command words))

-- w is what the command reads of the words
abbrev pub AreRead : List Text → Words → Type 0
AreRead words w = words_read words ≡ Some w

-- the command takes the words
abbrev pub AreTaken : List Text → Type 0
AreTaken words = (w : Words) × AreRead words w

-- the command doesn't take the words, or they ask for its help
abbrev pub AreRefused : List Text → Type 0
AreRefused words = words_read words ≡ None

-- n lies within the bounds of the option
abbrev pub IsWithin : NumberOption → ℕ → Type 0
IsWithin o n = (o.low ≤ n) × (n ≤ o.high)

-- the numbers lie within the bounds of their options
pub record AreWithin (w : Words) : Type 0 where
  pub workers_within : IsWithin workers w.workers
  pub budget_within : IsWithin budget w.budget
  pub number_within : IsWithin number w.number
