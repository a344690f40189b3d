-- The numbers of tasks.
use Rattle.std.proofs.Common.{ℕ, ◌≡◌, ◌≤◌, ◌∙◌, ap, sym, subst, List}
use Rattle.mkbtt_words.specs.Reading.{AreRead}
use Rattle.mkbtt_words.proofs.Read.{read_within}
use Rattle.mkbtt_words.specs.declared.mode.Mode.{Mode}
use Rattle.mkbtt_words.specs.declared.mode.Mode.TheVariants.{Complete, Rounds, Journal, Replay, Check, Convert, Reduce, Decide, Simplify, Summary, Gen}
use Rattle.mkbtt_words.specs.declared.words.Words.{Words}
use Rattle.mkbtt_top.specs.Tasks.{task_by, task_of, AskFor, HasNumber}
use Rattle.mkbtt_top.specs.declared.task.Task.{Task}

number_in : (m : Mode) (w : Words) → 1 ≤ w.workers → w.workers ≤ 16 → 1 ≤ w.number → w.number ≤ 64 → HasNumber (task_by m w)
number_in Complete w least most low high = (least, most)
number_in Rounds w least most low high = (least, most)
number_in Journal w least most low high = (least, most)
number_in Replay w least most low high = tt
number_in Check w least most low high = tt
number_in Convert w least most low high = tt
number_in Summary w least most low high = (low, high)
number_in Gen w least most low high = (low, high)
number_in Reduce w least most low high = tt
number_in Decide w least most low high = tt
number_in Simplify w least most low high = tt

-- the words' numbers are in their ranges
pub number_of : (task : Task) (words : List (List ℕ)) → AskFor task words → HasNumber task
number_of task words h =
    let within = read_within words h.read h.are_read in
    subst {A = Task} HasNumber h.asked (number_in h.read.mode h.read within.workers_within.0 within.workers_within.1 within.number_within.0 within.number_within.1)

-- what the words ask for, as it was found
pub asked_of : (task : Task) (read : Words) (words : List (List ℕ)) → AreRead words read → task ≡ task_of read → AskFor task words
asked_of task read words h e = record { read = read; are_read = h; asked = sym e }

-- words ask for one task
pub one_task : (one other : Task) (words : List (List ℕ)) → AskFor one words → AskFor other words → one ≡ other
one_task one other words a b =
    let first = a.are_read in
    let second = b.are_read in
    let same : a.read ≡ b.read = cc in
    sym a.asked ∙ ap task_of same ∙ b.asked
