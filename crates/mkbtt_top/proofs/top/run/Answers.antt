use Rattle.mkbtt_top.proofs.Endings.{answered, write_fault, not_words, read_task, read_cause, read_quiet, no_board, write_cause, refused, bad_text, unrefused, completes, memory, nothing, reads}
use Rattle.mkbtt_top.proofs.Tasks.{number_of}
use Rattle.mkbtt_top.proofs.top.run.Goals as goal

pub run_task-requires : goal.run_task-requires
run_task-requires g c = let a = rw c.in-Ok-Some.field-0-is at c.in-Ok-Some.ensures.asked in
    let number = number_of c.in-Ok-Some.task _ a in
    search number

pub returns-in-Ok-Some-clause-answered : goal.returns-in-Ok-Some-clause-answered
returns-in-Ok-Some-clause-answered g c = let a = rw c.in-Ok-Some.field-0-is at c.in-Ok-Some.ensures.asked in answered _ _ a _ _ _ _ _ _ _ _ _ _ _ _ c.run_task.ensures.ends

pub returns-in-Ok-Some-clause-write_fault : goal.returns-in-Ok-Some-clause-write_fault
returns-in-Ok-Some-clause-write_fault g c = let a = rw c.in-Ok-Some.field-0-is at c.in-Ok-Some.ensures.asked in write_fault _ _ a _ _ _ _ _ _ _ _ _ _ _ _ c.run_task.ensures.ends

pub returns-in-Ok-Some-clause-read_cause : goal.returns-in-Ok-Some-clause-read_cause
returns-in-Ok-Some-clause-read_cause g c = let a = rw c.in-Ok-Some.field-0-is at c.in-Ok-Some.ensures.asked in read_cause _ _ a _ _ _ _ _ _ _ _ _ _ _ _ c.run_task.ensures.ends

pub returns-in-Ok-Some-clause-read_task : goal.returns-in-Ok-Some-clause-read_task
returns-in-Ok-Some-clause-read_task g c = let a = rw c.in-Ok-Some.field-0-is at c.in-Ok-Some.ensures.asked in read_task _ _ a _ _ _ _ _ _ _ _ _ _ _ _ c.run_task.ensures.ends

pub returns-in-Ok-Some-clause-no_board : goal.returns-in-Ok-Some-clause-no_board
returns-in-Ok-Some-clause-no_board g c = let a = rw c.in-Ok-Some.field-0-is at c.in-Ok-Some.ensures.asked in no_board _ _ a _ _ _ _ _ _ _ _ _ _ _ _ c.run_task.ensures.ends

pub returns-in-Ok-Some-clause-write_cause : goal.returns-in-Ok-Some-clause-write_cause
returns-in-Ok-Some-clause-write_cause g c = let a = rw c.in-Ok-Some.field-0-is at c.in-Ok-Some.ensures.asked in write_cause _ _ a _ _ _ _ _ _ _ _ _ _ _ _ c.run_task.ensures.ends

pub returns-in-Ok-Some-clause-refused : goal.returns-in-Ok-Some-clause-refused
returns-in-Ok-Some-clause-refused g c = let a = rw c.in-Ok-Some.field-0-is at c.in-Ok-Some.ensures.asked in refused _ _ a _ _ _ _ _ _ _ _ _ _ _ _ c.run_task.ensures.ends

pub returns-in-Ok-Some-clause-bad_text : goal.returns-in-Ok-Some-clause-bad_text
returns-in-Ok-Some-clause-bad_text g c = let a = rw c.in-Ok-Some.field-0-is at c.in-Ok-Some.ensures.asked in bad_text _ _ a _ _ _ _ _ _ _ _ _ _ _ _ c.run_task.ensures.ends

pub returns-in-Ok-Some-clause-nothing : goal.returns-in-Ok-Some-clause-nothing
returns-in-Ok-Some-clause-nothing g c = let a = rw c.in-Ok-Some.field-0-is at c.in-Ok-Some.ensures.asked in nothing _ _ a _ _ _ _ _ _ _ _ _ _ _ _ c.run_task.ensures.ends

pub returns-in-Ok-Some-clause-words : goal.returns-in-Ok-Some-clause-words
returns-in-Ok-Some-clause-words g c = let a = rw c.in-Ok-Some.field-0-is at c.in-Ok-Some.ensures.asked in λ e. absurd (not_words _ _ a _ _ _ _ _ _ _ _ _ _ _ _ c.run_task.ensures.ends e)

pub returns-in-Ok-Some-clause-unread : goal.returns-in-Ok-Some-clause-unread
returns-in-Ok-Some-clause-unread g c = let a = rw c.in-Ok-Some.field-0-is at c.in-Ok-Some.ensures.asked in λ e. absurd (not_words _ _ a _ _ _ _ _ _ _ _ _ _ _ _ c.run_task.ensures.ends e)

pub returns-in-Ok-Some-clause-taken : goal.returns-in-Ok-Some-clause-taken
returns-in-Ok-Some-clause-taken g c = let a = rw c.in-Ok-Some.field-0-is at c.in-Ok-Some.ensures.asked in λ _ _. (c.in-Ok-Some.task, a)

pub returns-in-Ok-Some-clause-reads : goal.returns-in-Ok-Some-clause-reads
returns-in-Ok-Some-clause-reads g c = let a = rw c.in-Ok-Some.field-0-is at c.in-Ok-Some.ensures.asked in reads _ c.in-Ok-Some.task _ _ a c.run_task.ensures.few

pub returns-in-Ok-Some-clause-read_quiet : goal.returns-in-Ok-Some-clause-read_quiet
returns-in-Ok-Some-clause-read_quiet g c = let a = rw c.in-Ok-Some.field-0-is at c.in-Ok-Some.ensures.asked in read_quiet _ _ a _ _ _ _ _ _ _ _ _ _ _ _ c.run_task.ensures.ends

pub returns-in-Ok-Some-clause-memory : goal.returns-in-Ok-Some-clause-memory
returns-in-Ok-Some-clause-memory g c = let a = rw c.in-Ok-Some.field-0-is at c.in-Ok-Some.ensures.asked in memory _ _ a _ _ _ _ _ _ _ _ _ _ _ _ c.run_task.ensures.ends

pub returns-in-Ok-Some-clause-unrefused : goal.returns-in-Ok-Some-clause-unrefused
returns-in-Ok-Some-clause-unrefused g c = let a = rw c.in-Ok-Some.field-0-is at c.in-Ok-Some.ensures.asked in unrefused _ _ a _ _ _ _ _ _ _ _ _ _ _ _ c.run_task.ensures.ends

pub returns-in-Ok-Some-clause-completes : goal.returns-in-Ok-Some-clause-completes
returns-in-Ok-Some-clause-completes g c = let a = rw c.in-Ok-Some.field-0-is at c.in-Ok-Some.ensures.asked in completes _ _ a _ _ _ _ _ _ _ _ _ _ _ _ c.run_task.ensures.ends

pub returns-in-Ok-Some-clause-taken_words : goal.returns-in-Ok-Some-clause-taken_words
returns-in-Ok-Some-clause-taken_words g c = let a = rw c.in-Ok-Some.field-0-is at c.in-Ok-Some.ensures.asked in λ _ e. not_words _ _ a _ _ _ _ _ _ _ _ _ _ _ _ c.run_task.ensures.ends e

pub returns-in-Ok-Some-clause-refused_words : goal.returns-in-Ok-Some-clause-refused_words
returns-in-Ok-Some-clause-refused_words g c = let a = rw c.in-Ok-Some.field-0-is at c.in-Ok-Some.ensures.asked in λ r. absurd (let taken = a.are_read in cc)
