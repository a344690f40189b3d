use Rattle.std.proofs.Common.{arith, ◌≡◌, refl, sym, ◌∙◌, subst, ⊎_elim, ℕ, ◌+◌, [], ◌∷◌, ◌++◌, length}
use Rattle.std.specs.Prelude.{⊤}
use Rattle.kb_text.specs.Fields.{IsTextFault}
use Rattle.kb_checker.specs.Answers.{Answer}
use Rattle.kb_report.specs.Answers.{IsSystemText, IsTextOf}
use Rattle.kb_report.specs.Sections.{Word, text_of}
use Rattle.kb_report.specs.SystemSections.{Head, PartValues, ProblemPart, RulePart}
use Rattle.kb_report.proofs.Fronts.{read_more}
use Rattle.kb_report.proofs.SystemForm.{IsSystemLines, word_section, head_section, end_word, end_without, AtEnd, FromEnd, FromRules, FromSymbols, goes_end, goes_rule_count, goes_symbols, one_spelled}
use Rattle.kb_report.proofs.SystemParts.{from_problem, from_rules, parts_read, problem_section, rule_part_section}
use Rattle.kb_report.proofs.Reading.{at_start, next, section_fault, behind_fault, handed_on, joined_text}
use Rattle.kb_report.proofs.read.read_answer.Goals as goal

pub returns-in_err-version-clause-fault : goal.returns-in_err-version-clause-fault
returns-in_err-version-clause-fault c =
    let bytes = c.args.bytes.now in
    let fault = c.in_err-version.field-0.0 in
    handed_on (IsTextFault IsSystemText bytes) c.from_residual.result fault c.from_residual.ensures.0 c.from_residual.ensures.1 (section_fault Head FromSymbols bytes bytes 1 head_section goes_symbols (at_start bytes) fault c.in_err-version.ensures.fault)

pub returns-in_err-problem-clause-fault : goal.returns-in_err-problem-clause-fault
returns-in_err-problem-clause-fault c =
    let bytes = c.args.bytes.now in
    let v = c.in_ok-version.version in
    let t1 = c.split_at.result.1.now in
    let from_head = next Head FromSymbols bytes bytes t1 1 2 v 1 c.in_ok-version.line head_section (at_start bytes) c.in_ok-version.ensures.read c.split_at.ensures.back (omega arith) in
    let fault = c.in_err-problem.field-0.0 in
    handed_on (IsTextFault IsSystemText bytes) c.from_residual-in_err-problem.result fault c.from_residual-in_err-problem.ensures.0 c.from_residual-in_err-problem.ensures.1 (section_fault ProblemPart (λ p. FromRules v p.0) bytes t1 2 problem_section (λ p. goes_rule_count v p.0) (from_problem v from_head) fault c.in_err-problem.ensures.fault)

pub returns-in_err-parts-clause-fault : goal.returns-in_err-parts-clause-fault
returns-in_err-parts-clause-fault c =
    let bytes = c.args.bytes.now in
    let v = c.in_ok-version.version in
    let t1 = c.split_at.result.1.now in
    let from_head = next Head FromSymbols bytes bytes t1 1 2 v 1 c.in_ok-version.line head_section (at_start bytes) c.in_ok-version.ensures.read c.split_at.ensures.back (omega arith) in
    let problem = c.in_ok-problem.problem in
    let at : ℕ = 2 + c.in_ok-problem.lines in
    let t2 = c.split_at-2.result.1.now in
    let names = c.in_ok-problem.ensures.read.section.2.0.names in
    let from_symbols = next ProblemPart (λ p. FromRules v p.0) bytes t1 t2 2 at (problem.signature, (length problem.equations, problem.equations)) c.in_ok-problem.lines c.in_ok-problem.size problem_section (from_problem v from_head) c.in_ok-problem.ensures.read c.split_at-2.ensures.back (omega arith) in
    let fault = c.in_err-parts.field-0.0 in
    handed_on (IsTextFault IsSystemText bytes) c.from_residual-in_err-parts.result fault c.from_residual-in_err-parts.ensures.0 c.from_residual-in_err-parts.ensures.1
    (section_fault (RulePart v problem.signature) (λ x. FromEnd) bytes t2 at (rule_part_section v problem.signature names) (λ x. goes_end) (from_rules v problem.signature from_symbols) fault (rw c.signature.ensures at c.in_err-parts.ensures.fault))

pub returns-in_err-read_end-clause-fault : goal.returns-in_err-read_end-clause-fault
returns-in_err-read_end-clause-fault c =
    let bytes = c.args.bytes.now in
    let v = c.in_ok-version.version in
    let t1 = c.split_at.result.1.now in
    let from_head = next Head FromSymbols bytes bytes t1 1 2 v 1 c.in_ok-version.line head_section (at_start bytes) c.in_ok-version.ensures.read c.split_at.ensures.back (omega arith) in
    let problem = c.in_ok-problem.problem in
    let at : ℕ = 2 + c.in_ok-problem.lines in
    let t2 = c.split_at-2.result.1.now in
    let names = c.in_ok-problem.ensures.read.section.2.0.names in
    let from_symbols = next ProblemPart (λ p. FromRules v p.0) bytes t1 t2 2 at (problem.signature, (length problem.equations, problem.equations)) c.in_ok-problem.lines c.in_ok-problem.size problem_section (from_problem v from_head) c.in_ok-problem.ensures.read c.split_at-2.ensures.back (omega arith) in
    let parts = c.in_ok-parts.parts in
    let read = rw c.signature.ensures at c.in_ok-parts.ensures.read in
    let value : PartValues = ((length parts.rules.items, parts.rules.items), ((length parts.constraints.items, parts.constraints.items), (parts.cert, (length parts.trace, parts.trace)))) in
    let end : ℕ = at + c.in_ok-parts.lines in
    let t3 = c.split_at-3.result.1.now in
    let from_parts = next (RulePart v problem.signature) (λ x. FromEnd) bytes t2 t3 at end value c.in_ok-parts.lines c.in_ok-parts.size (rule_part_section v problem.signature names) (from_rules v problem.signature from_symbols) read c.split_at-3.ensures.back (omega arith) in
    let fault = c.in_err-read_end.field-0.0 in
    handed_on (IsTextFault IsSystemText bytes) c.from_residual-in_err-read_end.result fault c.from_residual-in_err-read_end.ensures.0 c.from_residual-in_err-read_end.ensures.1
    (⊎_elim
    (λ f. section_fault {X = ⊤} (Word end_word) (λ u. AtEnd) bytes t3 end (word_section end_word end_without) (λ u. ([], refl)) from_parts fault f)
    (λ f. subst (IsTextFault IsSystemText bytes) (sym f.3) (behind_fault bytes f.0 (end + 1) (read_more {X = ⊤} IsSystemLines (Word end_word) (λ u. AtEnd) bytes t3 f.0 end tt 1 (word_section end_word end_without) from_parts f.1) f.2))
    c.in_err-read_end.ensures.fault)

pub answer_of-requires : goal.answer_of-requires
answer_of-requires c =
    let bytes = c.args.bytes.now in
    let t1 = c.split_at.result.1.now in
    let t2 = c.split_at-2.result.1.now in
    let t3 = c.split_at-3.result.1.now in
    let problem = c.in_ok-problem.problem in
    let parts = c.in_ok-parts.parts in
    let b1 = c.in_ok-version.ensures.read in
    let b2 = c.in_ok-problem.ensures.read in
    let b3 = rw c.signature.ensures at c.in_ok-parts.ensures.read in
    let e3 : t3 ≡ text_of (end_word ∷ []) = c.in_ok-read_end.ensures.read in
    let e2 = joined_text t2 _ b3.lines b3.lines (end_word ∷ []) b3.parts refl (sym c.split_at-3.ensures.back ∙ e3) in
    let e1 = joined_text t1 _ b2.lines b2.lines (b3.lines ++ end_word ∷ []) b2.parts refl (sym c.split_at-2.ensures.back ∙ e2) in
    let e0 = joined_text bytes _ b1.lines b1.lines (b2.lines ++ (b3.lines ++ end_word ∷ [])) b1.parts refl (sym c.split_at.ensures.back ∙ e1) in
    let read = parts_read bytes c.in_ok-version.version problem.signature (length problem.equations) (length parts.rules.items) (length parts.constraints.items) (length parts.trace) problem.equations parts.rules.items parts.constraints.items parts.cert parts.trace b1.lines b2.lines b3.lines b1.section b2.section b3.section e0 in
    read.form.form

pub returns-clause-read : goal.returns-clause-read
returns-clause-read c =
    let bytes = c.args.bytes.now in
    let t1 = c.split_at.result.1.now in
    let t2 = c.split_at-2.result.1.now in
    let t3 = c.split_at-3.result.1.now in
    let problem = c.in_ok-problem.problem in
    let parts = c.in_ok-parts.parts in
    let b1 = c.in_ok-version.ensures.read in
    let b2 = c.in_ok-problem.ensures.read in
    let b3 = rw c.signature.ensures at c.in_ok-parts.ensures.read in
    let e3 : t3 ≡ text_of (end_word ∷ []) = c.in_ok-read_end.ensures.read in
    let e2 = joined_text t2 _ b3.lines b3.lines (end_word ∷ []) b3.parts refl (sym c.split_at-3.ensures.back ∙ e3) in
    let e1 = joined_text t1 _ b2.lines b2.lines (b3.lines ++ end_word ∷ []) b2.parts refl (sym c.split_at-2.ensures.back ∙ e2) in
    let e0 = joined_text bytes _ b1.lines b1.lines (b2.lines ++ (b3.lines ++ end_word ∷ [])) b1.parts refl (sym c.split_at.ensures.back ∙ e1) in
    let read = parts_read bytes c.in_ok-version.version problem.signature (length problem.equations) (length parts.rules.items) (length parts.constraints.items) (length parts.trace) problem.equations parts.rules.items parts.constraints.items parts.cert parts.trace b1.lines b2.lines b3.lines b1.section b2.section b3.section e0 in
    subst {A = Answer} (IsTextOf bytes) (sym c.answer_of.ensures) read

pub returns-clause-one : goal.returns-clause-one
returns-clause-one c = λ b s. one_spelled c.args.bytes.now c.answer_of.result b (returns-clause-read c) s
