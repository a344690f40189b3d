use Rattle.std.proofs.Common.{arith, [], ◌∷◌, drop, inl, inr, refl}
use Rattle.std.proofs.lemmas.List.{drop_all, length-drop}
use Rattle.kb_report.specs.Sections.{IsEndFault}
use Rattle.kb_report.proofs.Reading.{handed_on, joined_text}
use Rattle.kb_report.proofs.SystemForm.{end_word}
use Rattle.kb_report.proofs.parts.read_end.Goals as goal

pub returns-in_err-end-clause-fault : goal.returns-in_err-end-clause-fault
returns-in_err-end-clause-fault c = handed_on (IsEndFault end_word c.args.text.now c.args.first) c.from_residual.result c.in_err-end.field-0.0 c.from_residual.ensures.0 c.from_residual.ensures.1 (inl c.in_err-end.ensures.fault)

pub returns-then-end-text-clause-fault : goal.returns-then-end-text-clause-fault
returns-then-end-text-clause-fault c = let back = drop c.in_ok-end.end c.args.text.now in inr (back, c.in_ok-end.ensures.read, omega (arith, length-drop c.in_ok-end.end c.args.text.now), refl)

pub returns-clause-read : goal.returns-clause-read
returns-clause-read c =
    let b = c.in_ok-end.ensures.read in
    joined_text c.args.text.now (drop c.in_ok-end.end c.args.text.now) b.lines (end_word ∷ []) [] b.parts b.section.1 (drop_all c.in_ok-end.end c.args.text.now (omega arith))
