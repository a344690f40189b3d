use Rattle.std.proofs.Common.{drop}
use Rattle.kb_report.specs.Sections.{IsSectionFault}
use Rattle.kb_report.proofs.Reading.{handed_on}
use Rattle.kb_goals.specs.Asking.{AnswerLines}
use Rattle.kb_goals.proofs.FrontRead.{up_within, front_read, front_lines, front_fault}
use Rattle.kb_goals.proofs.front.read_front.Goals as goal

pub split_at-requires : goal.split_at-requires
split_at-requires c = up_within c.args.bytes.now c.up_to_end-size.result.0 c.up_to_end-size.result.1 c.up_to_end-size.ensures

pub returns-in_err-answer-clause-fault : goal.returns-in_err-answer-clause-fault
returns-in_err-answer-clause-fault c =
    handed_on (IsSectionFault AnswerLines c.args.bytes.now 1) c.from_residual.result c.in_err-answer.field-0.0 c.from_residual.ensures.0 c.from_residual.ensures.1
    (front_fault c.args.bytes.now c.split_at.result.0.now c.up_to_end-size.result.0 c.up_to_end-size.result.1 c.up_to_end-size.ensures c.split_at.ensures.front c.in_err-answer.field-0.0 c.in_err-answer.ensures.fault)

pub returns-clause-read : goal.returns-clause-read
returns-clause-read c = front_read c.args.bytes.now c.split_at.result.0.now c.up_to_end-size.result.0 c.up_to_end-size.result.1 c.in_ok-answer.answer c.up_to_end-size.ensures c.split_at.ensures.front c.in_ok-answer.ensures.read

pub returns-clause-count : goal.returns-clause-count
returns-clause-count c = front_lines c.args.bytes.now c.in_ok-answer.answer c.up_to_end-size.result.1 (drop c.up_to_end-size.result.0 c.args.bytes.now) (returns-clause-read c)

pub returns-clause-size : goal.returns-clause-size
returns-clause-size c = up_within c.args.bytes.now c.up_to_end-size.result.0 c.up_to_end-size.result.1 c.up_to_end-size.ensures
