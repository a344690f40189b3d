use Rattle.std.proofs.Common.{arith, refl, ap, ◌≡◌, ◌∙◌, subst, List, ℕ, ◌+◌, drop, map}
use Rattle.std.specs.Prelude.{codes}
use Rattle.std.proofs.lemmas.List.{drop_all}
use Rattle.kb_term.specs.Signature.{Signature, Problem}
use Rattle.kb_term.specs.View.{tree_of}
use Rattle.kb_text.specs.Fields.{IsTextFault}
use Rattle.kb_text.specs.Terms.{names_of, term_text}
use Rattle.kb_report.specs.Sections.{BeginsWith, Items, IsSectionFault}
use Rattle.kb_report.proofs.Reading.{handed_on}
use Rattle.kb_goals.specs.Asking.{AnswerLines}
use Rattle.kb_goals.specs.Simplifying.{IsNumberedTerm, IsTermsText}
use Rattle.kb_goals.proofs.Ends.{answer_section}
use Rattle.kb_goals.proofs.Asked.{FromCount, goes_count, at_start, section_fault, asked_read, one_asked}
use Rattle.kb_goals.proofs.AskedFaults.{IsFrontRead, IsCountRead, AreItemsRead, count_fault, items_fault, end_fault, left_fault}
use Rattle.kb_goals.proofs.TermLines.{terms_kind}
use Rattle.kb_goals.proofs.terms.read_terms.Goals as goal

abbrev terms_word : List ℕ
terms_word = codes "TERMS "

pub read_lines-requires-clause-first : goal.read_lines-requires-clause-first
read_lines-requires-clause-first c = omega (arith, c.in_ok-answer.ensures.count)

pub returns-in_err-answer-clause-fault : goal.returns-in_err-answer-clause-fault
returns-in_err-answer-clause-fault c =
    let bytes = c.args.bytes.now in
    handed_on (IsTextFault IsTermsText bytes) c.from_residual.result c.in_err-answer.field-0.0 c.from_residual.ensures.0 c.from_residual.ensures.1
    (section_fault terms_word IsNumberedTerm term_text terms_kind AnswerLines (FromCount terms_word IsNumberedTerm term_text) bytes bytes 1 answer_section (goes_count terms_word IsNumberedTerm term_text terms_kind) (at_start terms_word IsNumberedTerm term_text bytes) c.in_err-answer.field-0.0 c.in_err-answer.ensures.fault)

pub returns-in_err-count-clause-fault : goal.returns-in_err-count-clause-fault
returns-in_err-count-clause-fault c =
    let bytes = c.args.bytes.now in
    let a = c.in_ok-answer.answer in
    let t = c.split_at.result.1.now in
    let f : IsFrontRead bytes t a c.in_ok-answer.lines = record { size = c.in_ok-answer.size; begins = c.in_ok-answer.ensures.read; back = c.split_at.ensures.back } in
    handed_on (IsTextFault IsTermsText bytes) c.from_residual-in_err-count.result c.in_err-count.field-0.0 c.from_residual-in_err-count.ensures.0 c.from_residual-in_err-count.ensures.1
    (count_fault terms_word IsNumberedTerm term_text terms_kind bytes t a c.in_ok-answer.lines f c.in_err-count.field-0.0 c.in_err-count.ensures.fault)

pub returns-in_err-terms-clause-fault : goal.returns-in_err-terms-clause-fault
returns-in_err-terms-clause-fault c =
    let bytes = c.args.bytes.now in
    let a = c.in_ok-answer.answer in
    let lines = c.in_ok-answer.lines in
    let n = c.in_ok-count.count in
    let t = c.split_at.result.1.now in
    let u = c.split_at-2.result.1.now in
    let f : IsFrontRead bytes t a lines = record { size = c.in_ok-answer.size; begins = c.in_ok-answer.ensures.read; back = c.split_at.ensures.back } in
    let k : IsCountRead terms_word t u n = record { size = c.in_ok-count.line; begins = c.in_ok-count.ensures.read; back = c.split_at-2.ensures.back } in
    let sigs : c.signature-signature.result.now ≡ a.problem.signature = c.signature-signature.ensures ∙ ap (λ (p : Problem). p.signature) c.problem.ensures.problem in
    handed_on (IsTextFault IsTermsText bytes) c.from_residual-in_err-terms.result c.in_err-terms.field-0.0 c.from_residual-in_err-terms.ensures.0 c.from_residual-in_err-terms.ensures.1
    (items_fault terms_word IsNumberedTerm term_text terms_kind bytes t u a lines n f k c.in_err-terms.field-0.0 (subst {A = Signature} (λ s. IsSectionFault (Items (IsNumberedTerm s) (λ k. term_text (names_of s)) n) u (lines + 1 + 1) c.in_err-terms.field-0.0) sigs c.in_err-terms.ensures.fault))

pub returns-in_err-end-clause-fault : goal.returns-in_err-end-clause-fault
returns-in_err-end-clause-fault c =
    let bytes = c.args.bytes.now in
    let a = c.in_ok-answer.answer in
    let lines = c.in_ok-answer.lines in
    let n = c.in_ok-count.count in
    let t = c.split_at.result.1.now in
    let u = c.split_at-2.result.1.now in
    let v = c.split_at-3.result.1.now in
    let terms = map tree_of c.in_ok-terms.terms.items in
    let f : IsFrontRead bytes t a lines = record { size = c.in_ok-answer.size; begins = c.in_ok-answer.ensures.read; back = c.split_at.ensures.back } in
    let k : IsCountRead terms_word t u n = record { size = c.in_ok-count.line; begins = c.in_ok-count.ensures.read; back = c.split_at-2.ensures.back } in
    let sigs : c.signature-signature.result.now ≡ a.problem.signature = c.signature-signature.ensures ∙ ap (λ (p : Problem). p.signature) c.problem.ensures.problem in
    let i : AreItemsRead IsNumberedTerm term_text a u v n = record { items = terms; size = c.in_ok-terms.size; begins = subst {A = Signature} (λ s. BeginsWith (Items (IsNumberedTerm s) (λ k. term_text (names_of s)) n) u terms n (drop c.in_ok-terms.size u)) sigs c.in_ok-terms.ensures.read; back = c.split_at-3.ensures.back } in
    handed_on (IsTextFault IsTermsText bytes) c.from_residual-in_err-end.result c.in_err-end.field-0.0 c.from_residual-in_err-end.ensures.0 c.from_residual-in_err-end.ensures.1
    (end_fault terms_word IsNumberedTerm term_text terms_kind bytes t u v a lines n (lines + 1 + 1 + n) f k i refl c.in_err-end.field-0.0 c.in_err-end.ensures.fault)

pub returns-then-end-from_end-clause-fault : goal.returns-then-end-from_end-clause-fault
returns-then-end-from_end-clause-fault c =
    let bytes = c.args.bytes.now in
    let a = c.in_ok-answer.answer in
    let lines = c.in_ok-answer.lines in
    let n = c.in_ok-count.count in
    let t = c.split_at.result.1.now in
    let u = c.split_at-2.result.1.now in
    let v = c.split_at-3.result.1.now in
    let terms = map tree_of c.in_ok-terms.terms.items in
    let f : IsFrontRead bytes t a lines = record { size = c.in_ok-answer.size; begins = c.in_ok-answer.ensures.read; back = c.split_at.ensures.back } in
    let k : IsCountRead terms_word t u n = record { size = c.in_ok-count.line; begins = c.in_ok-count.ensures.read; back = c.split_at-2.ensures.back } in
    let sigs : c.signature-signature.result.now ≡ a.problem.signature = c.signature-signature.ensures ∙ ap (λ (p : Problem). p.signature) c.problem.ensures.problem in
    let i : AreItemsRead IsNumberedTerm term_text a u v n = record { items = terms; size = c.in_ok-terms.size; begins = subst {A = Signature} (λ s. BeginsWith (Items (IsNumberedTerm s) (λ k. term_text (names_of s)) n) u terms n (drop c.in_ok-terms.size u)) sigs c.in_ok-terms.ensures.read; back = c.split_at-3.ensures.back } in
    left_fault terms_word IsNumberedTerm term_text terms_kind bytes t u v a lines n (lines + 1 + 1 + n + 1) c.in_ok-end.end f k i refl c.in_ok-end.ensures.read (omega arith)

pub returns-clause-read : goal.returns-clause-read
returns-clause-read c =
    let a = c.in_ok-answer.answer in
    let n = c.in_ok-count.count in
    let u = c.split_at-2.result.1.now in
    let v = c.split_at-3.result.1.now in
    let terms = map tree_of c.in_ok-terms.terms.items in
    let sigs : c.signature-signature.result.now ≡ a.problem.signature = c.signature-signature.ensures ∙ ap (λ (p : Problem). p.signature) c.problem.ensures.problem in
    asked_read terms_word IsNumberedTerm term_text c.args.bytes.now c.split_at.result.1.now u v a terms c.in_ok-answer.lines n c.in_ok-answer.size c.in_ok-count.line c.in_ok-terms.size c.in_ok-end.end c.in_ok-answer.ensures.read c.split_at.ensures.back c.in_ok-count.ensures.read c.split_at-2.ensures.back
    (subst {A = Signature} (λ s. BeginsWith (Items (IsNumberedTerm s) (λ k. term_text (names_of s)) n) u terms n (drop c.in_ok-terms.size u)) sigs c.in_ok-terms.ensures.read) c.split_at-3.ensures.back c.in_ok-end.ensures.read (drop_all c.in_ok-end.end v (omega arith))

pub returns-clause-one : goal.returns-clause-one
returns-clause-one c = λ b terms s. one_asked terms_word IsNumberedTerm term_text terms_kind c.args.bytes.now c.in_ok-answer.answer b (map tree_of c.in_ok-terms.terms.items) terms (returns-clause-read c) s
