use Rattle.std.proofs.Common.{arith, ℕ, ◌≤◌, drop}
use Rattle.kb_report.specs.Sections.{counted_line}
use Rattle.kb_report.proofs.ReadLines.{bad_without, bad_other}
use Rattle.kb_journal.proofs.JournalForm.{amount_without}
use Rattle.kb_journal.proofs.sections.read_amount.Goals as goal

pub returns-in_default-clause-fault : goal.returns-in_default-clause-fault
returns-in_default-clause-fault c = bad_without {X = ℕ} (λ n. (c.args.low ≤ n) × (n ≤ c.args.high)) (counted_line c.args.word.now) c.args.text.now c.args.first c.args.low (omega arith, c.requires.order) c.in_default.ensures.line

pub returns-in_default-amount_of-clause-fault : goal.returns-in_default-amount_of-clause-fault
returns-in_default-amount_of-clause-fault c =
    bad_other {X = ℕ} (λ n. (c.args.low ≤ n) × (n ≤ c.args.high)) (counted_line c.args.word.now) c.args.text.now c.in-Some.line.now (drop c.in-Some.size c.args.text.now) c.args.first c.args.low (omega arith, c.requires.order)
    (λ n h. amount_without c.args.word.now c.requires.word n (let most = h.1 in omega arith))
    c.in-Some.ensures.line c.in_default-amount_of.ensures
