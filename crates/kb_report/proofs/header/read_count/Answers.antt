use Rattle.std.proofs.Common.{arith, ◌≤◌, ℕ, drop}
use Rattle.std.specs.Prelude.{decimal}
use Rattle.kb_text.proofs.Cuts.{without-append}
use Rattle.kb_text.proofs.PlainTexts.{decimal_without}
use Rattle.kb_report.specs.Sections.{counted_line}
use Rattle.kb_report.proofs.ReadLines.{bad_without, bad_other}
use Rattle.kb_report.proofs.header.read_count.Goals as goal

pub returns-in_default-clause-fault : goal.returns-in_default-clause-fault
returns-in_default-clause-fault c = bad_without {X = ℕ} (λ n. n ≤ c.args.highest) (counted_line c.args.word.now) c.args.text.now c.args.first 0 (omega arith) c.in_default.ensures.line

pub returns-in_default-count_of-clause-fault : goal.returns-in_default-count_of-clause-fault
returns-in_default-count_of-clause-fault c =
    bad_other {X = ℕ} (λ n. n ≤ c.args.highest) (counted_line c.args.word.now) c.args.text.now c.in-Some.line.now (drop c.in-Some.size c.args.text.now) c.args.first 0 (omega arith)
    (λ n h. without-append 10 c.args.word.now (decimal n) c.requires.word (decimal_without 10 n (omega arith) (let few = c.requires.few in omega arith)))
    c.in-Some.ensures.line c.in_default-count_of.ensures
