use Rattle.std.proofs.Common.{arith, refl, ap, ◌≡◌, ◌∙◌, subst, List, ℕ, ◌+◌, drop}
use Rattle.std.specs.Prelude.{codes}
use Rattle.std.proofs.lemmas.List.{drop_all}
use Rattle.kb_term.specs.Signature.{Signature, Problem, IsEquationWithinLimits}
use Rattle.kb_term.specs.View.{equations_of_list}
use Rattle.kb_text.specs.Fields.{IsTextFault}
use Rattle.kb_report.specs.Sections.{BeginsWith, IsSectionFault}
use Rattle.kb_report.specs.SystemSections.{Equations, equation_body}
use Rattle.kb_report.proofs.Reading.{handed_on}
use Rattle.kb_goals.specs.Asking.{AnswerLines, IsGoalsText}
use Rattle.kb_goals.proofs.Ends.{answer_section}
use Rattle.kb_goals.proofs.Asked.{FromCount, goes_count, at_start, section_fault, asked_read, one_asked}
use Rattle.kb_goals.proofs.AskedFaults.{IsFrontRead, IsCountRead, AreItemsRead, count_fault, items_fault, end_fault, left_fault}
use Rattle.kb_goals.proofs.GoalLines.{goals_kind}
use Rattle.kb_goals.proofs.goals.read_goals.Goals as goal

abbrev goals_word : List ℕ
goals_word = codes "GOALS "

pub read_equations-requires-clause-first : goal.read_equations-requires-clause-first
read_equations-requires-clause-first c = omega (arith, c.in_ok-answer.ensures.count)

pub returns-in_err-answer-clause-fault : goal.returns-in_err-answer-clause-fault
returns-in_err-answer-clause-fault c =
    let bytes = c.args.bytes.now in
    handed_on (IsTextFault IsGoalsText bytes) c.from_residual.result c.in_err-answer.field-0.0 c.from_residual.ensures.0 c.from_residual.ensures.1
    (section_fault goals_word IsEquationWithinLimits equation_body goals_kind AnswerLines (FromCount goals_word IsEquationWithinLimits equation_body) bytes bytes 1 answer_section (goes_count goals_word IsEquationWithinLimits equation_body goals_kind) (at_start goals_word IsEquationWithinLimits equation_body bytes) c.in_err-answer.field-0.0 c.in_err-answer.ensures.fault)

pub returns-in_err-count-clause-fault : goal.returns-in_err-count-clause-fault
returns-in_err-count-clause-fault c =
    let bytes = c.args.bytes.now in
    let a = c.in_ok-answer.answer in
    let t = c.split_at.result.1.now in
    let f : IsFrontRead bytes t a c.in_ok-answer.lines = record { size = c.in_ok-answer.size; begins = c.in_ok-answer.ensures.read; back = c.split_at.ensures.back } in
    handed_on (IsTextFault IsGoalsText bytes) c.from_residual-in_err-count.result c.in_err-count.field-0.0 c.from_residual-in_err-count.ensures.0 c.from_residual-in_err-count.ensures.1
    (count_fault goals_word IsEquationWithinLimits equation_body goals_kind bytes t a c.in_ok-answer.lines f c.in_err-count.field-0.0 c.in_err-count.ensures.fault)

pub returns-in_err-goals-clause-fault : goal.returns-in_err-goals-clause-fault
returns-in_err-goals-clause-fault c =
    let bytes = c.args.bytes.now in
    let a = c.in_ok-answer.answer in
    let lines = c.in_ok-answer.lines in
    let n = c.in_ok-count.count in
    let t = c.split_at.result.1.now in
    let u = c.split_at-2.result.1.now in
    let f : IsFrontRead bytes t a lines = record { size = c.in_ok-answer.size; begins = c.in_ok-answer.ensures.read; back = c.split_at.ensures.back } in
    let k : IsCountRead goals_word t u n = record { size = c.in_ok-count.line; begins = c.in_ok-count.ensures.read; back = c.split_at-2.ensures.back } in
    let sigs : c.signature-signature.result.now ≡ a.problem.signature = c.signature-signature.ensures ∙ ap (λ (p : Problem). p.signature) c.problem.ensures.problem in
    handed_on (IsTextFault IsGoalsText bytes) c.from_residual-in_err-goals.result c.in_err-goals.field-0.0 c.from_residual-in_err-goals.ensures.0 c.from_residual-in_err-goals.ensures.1
    (items_fault goals_word IsEquationWithinLimits equation_body goals_kind bytes t u a lines n f k c.in_err-goals.field-0.0 (subst {A = Signature} (λ s. IsSectionFault (Equations s n) u (lines + 1 + 1) c.in_err-goals.field-0.0) sigs c.in_err-goals.ensures.fault))

pub returns-in_err-end-clause-fault : goal.returns-in_err-end-clause-fault
returns-in_err-end-clause-fault c =
    let bytes = c.args.bytes.now in
    let a = c.in_ok-answer.answer in
    let lines = c.in_ok-answer.lines in
    let n = c.in_ok-count.count in
    let t = c.split_at.result.1.now in
    let u = c.split_at-2.result.1.now in
    let v = c.split_at-3.result.1.now in
    let goals = equations_of_list c.in_ok-goals.goals.items in
    let f : IsFrontRead bytes t a lines = record { size = c.in_ok-answer.size; begins = c.in_ok-answer.ensures.read; back = c.split_at.ensures.back } in
    let k : IsCountRead goals_word t u n = record { size = c.in_ok-count.line; begins = c.in_ok-count.ensures.read; back = c.split_at-2.ensures.back } in
    let sigs : c.signature-signature.result.now ≡ a.problem.signature = c.signature-signature.ensures ∙ ap (λ (p : Problem). p.signature) c.problem.ensures.problem in
    let i : AreItemsRead IsEquationWithinLimits equation_body a u v n = record { items = goals; size = c.in_ok-goals.size; begins = subst {A = Signature} (λ s. BeginsWith (Equations s n) u goals n (drop c.in_ok-goals.size u)) sigs c.in_ok-goals.ensures.read; back = c.split_at-3.ensures.back } in
    handed_on (IsTextFault IsGoalsText bytes) c.from_residual-in_err-end.result c.in_err-end.field-0.0 c.from_residual-in_err-end.ensures.0 c.from_residual-in_err-end.ensures.1
    (end_fault goals_word IsEquationWithinLimits equation_body goals_kind bytes t u v a lines n (lines + 1 + 1 + n) f k i refl c.in_err-end.field-0.0 c.in_err-end.ensures.fault)

pub returns-then-end-from_end-clause-fault : goal.returns-then-end-from_end-clause-fault
returns-then-end-from_end-clause-fault c =
    let bytes = c.args.bytes.now in
    let a = c.in_ok-answer.answer in
    let lines = c.in_ok-answer.lines in
    let n = c.in_ok-count.count in
    let t = c.split_at.result.1.now in
    let u = c.split_at-2.result.1.now in
    let v = c.split_at-3.result.1.now in
    let goals = equations_of_list c.in_ok-goals.goals.items in
    let f : IsFrontRead bytes t a lines = record { size = c.in_ok-answer.size; begins = c.in_ok-answer.ensures.read; back = c.split_at.ensures.back } in
    let k : IsCountRead goals_word t u n = record { size = c.in_ok-count.line; begins = c.in_ok-count.ensures.read; back = c.split_at-2.ensures.back } in
    let sigs : c.signature-signature.result.now ≡ a.problem.signature = c.signature-signature.ensures ∙ ap (λ (p : Problem). p.signature) c.problem.ensures.problem in
    let i : AreItemsRead IsEquationWithinLimits equation_body a u v n = record { items = goals; size = c.in_ok-goals.size; begins = subst {A = Signature} (λ s. BeginsWith (Equations s n) u goals n (drop c.in_ok-goals.size u)) sigs c.in_ok-goals.ensures.read; back = c.split_at-3.ensures.back } in
    left_fault goals_word IsEquationWithinLimits equation_body goals_kind bytes t u v a lines n (lines + 1 + 1 + n + 1) c.in_ok-end.end f k i refl c.in_ok-end.ensures.read (omega arith)

pub returns-clause-read : goal.returns-clause-read
returns-clause-read c =
    let a = c.in_ok-answer.answer in
    let n = c.in_ok-count.count in
    let u = c.split_at-2.result.1.now in
    let v = c.split_at-3.result.1.now in
    let goals = equations_of_list c.in_ok-goals.goals.items in
    let sigs : c.signature-signature.result.now ≡ a.problem.signature = c.signature-signature.ensures ∙ ap (λ (p : Problem). p.signature) c.problem.ensures.problem in
    asked_read goals_word IsEquationWithinLimits equation_body c.args.bytes.now c.split_at.result.1.now u v a goals c.in_ok-answer.lines n c.in_ok-answer.size c.in_ok-count.line c.in_ok-goals.size c.in_ok-end.end c.in_ok-answer.ensures.read c.split_at.ensures.back c.in_ok-count.ensures.read c.split_at-2.ensures.back
    (subst {A = Signature} (λ s. BeginsWith (Equations s n) u goals n (drop c.in_ok-goals.size u)) sigs c.in_ok-goals.ensures.read) c.split_at-3.ensures.back c.in_ok-end.ensures.read (drop_all c.in_ok-end.end v (omega arith))

pub returns-clause-one : goal.returns-clause-one
returns-clause-one c = λ b goals s. one_asked goals_word IsEquationWithinLimits equation_body goals_kind c.args.bytes.now c.in_ok-answer.answer b (equations_of_list c.in_ok-goals.goals.items) goals (returns-clause-read c) s
