use Rattle.std.proofs.Common.{arith, append_assoc, ◌≡◌, refl, sym, ap, ◌∙◌, subst, ℕ, ◌+◌, [], ◌∷◌, ◌++◌, length, drop}
use Rattle.std.specs.Prelude.{⊤}
use Rattle.std.proofs.lemmas.List.{drop_all, length-drop}
use Rattle.kb_term.specs.Signature.{IsSignature}
use Rattle.kb_term.specs.View.{equations_of_list}
use Rattle.kb_text.specs.Fields.{IsTextFault}
use Rattle.kb_text.specs.Terms.{names_of}
use Rattle.kb_cert.specs.declared.family.Family.TheVariants.{Stated as StatedOrders}
use Rattle.kb_report.specs.Sections.{Lines, text_of, item_lines, counted_line, Word, Count}
use Rattle.kb_report.specs.SystemSections.{Equations, symbols_body, equation_body}
use Rattle.kb_report.proofs.SystemForm.{word_section, count_section, equations_section, end_word, equations_word, end_without, equations_without, AtEnd, FromEnd, goes_end}
use Rattle.kb_report.proofs.Reading.{handed_on, joined_text}
use Rattle.kb_journal.specs.Journals.{Journal, IsJournal, IsJournalText, JournalSpelled}
use Rattle.kb_journal.specs.JournalSections.{Amount, Selected, Entries, entry_body, selection_part}
use Rattle.kb_journal.proofs.JournalForm.{head_word, budget_word, entries_word, head_without, budget_without, entries_without, amount_section, selected_section, entries_section, FromEntries, FromEntryCount, FromEachEquation, FromEquations, FromSelection, FromBudget, goes_entries, goes_entry_count, goes_equations, goes_equation_count, goes_selection, goes_budget, journal_lines, text_is, one_spelled}
use Rattle.kb_journal.proofs.Reading.{at_start, next, section_fault, behind_fault}
use Rattle.kb_journal.proofs.read.read_journal.Goals as goal

pub returns-in_err-line-clause-fault : goal.returns-in_err-line-clause-fault
returns-in_err-line-clause-fault c =
    let bytes = c.args.bytes.now in
    let r0 = at_start bytes in
    handed_on (IsTextFault IsJournalText bytes) c.from_residual.result c.in_err-line.field-0.0 c.from_residual.ensures.0 c.from_residual.ensures.1 (section_fault {X = ⊤} (Word head_word) (λ u. FromBudget) bytes bytes 1 (word_section head_word head_without) (λ u. goes_budget) r0 c.in_err-line.field-0.0 c.in_err-line.ensures.fault)

pub returns-in_err-budget-clause-fault : goal.returns-in_err-budget-clause-fault
returns-in_err-budget-clause-fault c =
    let bytes = c.args.bytes.now in
    let r0 = at_start bytes in
    let t1 = c.split_at.result.1.now in
    let r1 = next {X = ⊤} (Word head_word) (λ u. FromBudget) bytes bytes t1 1 2 tt 1 c.in_ok-line.line (word_section head_word head_without) r0 c.in_ok-line.ensures.read c.split_at.ensures.back (omega arith) in
    handed_on (IsTextFault IsJournalText bytes) c.from_residual-in_err-budget.result c.in_err-budget.field-0.0 c.from_residual-in_err-budget.ensures.0 c.from_residual-in_err-budget.ensures.1 (section_fault (Amount budget_word 1 100000) (λ n. FromSelection) bytes t1 2 (amount_section budget_word 1 100000 (omega arith) budget_without) (λ n. goes_selection) r1 c.in_err-budget.field-0.0 c.in_err-budget.ensures.fault)

pub returns-in_err-chosen-clause-fault : goal.returns-in_err-chosen-clause-fault
returns-in_err-chosen-clause-fault c =
    let bytes = c.args.bytes.now in
    let r0 = at_start bytes in
    let t1 = c.split_at.result.1.now in
    let r1 = next {X = ⊤} (Word head_word) (λ u. FromBudget) bytes bytes t1 1 2 tt 1 c.in_ok-line.line (word_section head_word head_without) r0 c.in_ok-line.ensures.read c.split_at.ensures.back (omega arith) in
    let t2 = c.split_at-2.result.1.now in
    let r2 = next (Amount budget_word 1 100000) (λ n. FromSelection) bytes t1 t2 2 3 c.in_ok-budget.budget 1 c.in_ok-budget.line (amount_section budget_word 1 100000 (omega arith) budget_without) r1 c.in_ok-budget.ensures.read c.split_at-2.ensures.back (omega arith) in
    handed_on (IsTextFault IsJournalText bytes) c.from_residual-in_err-chosen.result c.in_err-chosen.field-0.0 c.from_residual-in_err-chosen.ensures.0 c.from_residual-in_err-chosen.ensures.1 (section_fault Selected (λ x. FromEquations x.1) bytes t2 3 selected_section (λ x. goes_equation_count x.1) r2 c.in_err-chosen.field-0.0 c.in_err-chosen.ensures.fault)

pub returns-in_err-count-clause-fault : goal.returns-in_err-count-clause-fault
returns-in_err-count-clause-fault c =
    let bytes = c.args.bytes.now in
    let r0 = at_start bytes in
    let t1 = c.split_at.result.1.now in
    let r1 = next {X = ⊤} (Word head_word) (λ u. FromBudget) bytes bytes t1 1 2 tt 1 c.in_ok-line.line (word_section head_word head_without) r0 c.in_ok-line.ensures.read c.split_at.ensures.back (omega arith) in
    let t2 = c.split_at-2.result.1.now in
    let r2 = next (Amount budget_word 1 100000) (λ n. FromSelection) bytes t1 t2 2 3 c.in_ok-budget.budget 1 c.in_ok-budget.line (amount_section budget_word 1 100000 (omega arith) budget_without) r1 c.in_ok-budget.ensures.read c.split_at-2.ensures.back (omega arith) in
    let chosen = c.in_ok-chosen.chosen in
    let sig = chosen.signature in
    let l = chosen.lines in
    let few_l = c.in_ok-chosen.ensures.lines in
    let names : IsSignature sig = c.in_ok-chosen.ensures.read.section.0.names in
    let t3 = c.split_at-3.result.1.now in
    let r3 = next Selected (λ x. FromEquations x.1) bytes t2 t3 3 (3 + l) (chosen.selection, sig) l chosen.size selected_section r2 c.in_ok-chosen.ensures.read c.split_at-3.ensures.back (omega arith) in
    handed_on (IsTextFault IsJournalText bytes) c.from_residual-in_err-count.result c.in_err-count.field-0.0 c.from_residual-in_err-count.ensures.0 c.from_residual-in_err-count.ensures.1 (section_fault (Count equations_word 256) (FromEachEquation sig) bytes t3 (3 + l) (count_section equations_word 256 (omega arith) equations_without) (goes_equations sig) r3 c.in_err-count.field-0.0 c.in_err-count.ensures.fault)

pub returns-in_err-equations-clause-fault : goal.returns-in_err-equations-clause-fault
returns-in_err-equations-clause-fault c =
    let bytes = c.args.bytes.now in
    let r0 = at_start bytes in
    let t1 = c.split_at.result.1.now in
    let r1 = next {X = ⊤} (Word head_word) (λ u. FromBudget) bytes bytes t1 1 2 tt 1 c.in_ok-line.line (word_section head_word head_without) r0 c.in_ok-line.ensures.read c.split_at.ensures.back (omega arith) in
    let t2 = c.split_at-2.result.1.now in
    let r2 = next (Amount budget_word 1 100000) (λ n. FromSelection) bytes t1 t2 2 3 c.in_ok-budget.budget 1 c.in_ok-budget.line (amount_section budget_word 1 100000 (omega arith) budget_without) r1 c.in_ok-budget.ensures.read c.split_at-2.ensures.back (omega arith) in
    let chosen = c.in_ok-chosen.chosen in
    let sig = chosen.signature in
    let l = chosen.lines in
    let few_l = c.in_ok-chosen.ensures.lines in
    let names : IsSignature sig = c.in_ok-chosen.ensures.read.section.0.names in
    let t3 = c.split_at-3.result.1.now in
    let r3 = next Selected (λ x. FromEquations x.1) bytes t2 t3 3 (3 + l) (chosen.selection, sig) l chosen.size selected_section r2 c.in_ok-chosen.ensures.read c.split_at-3.ensures.back (omega arith) in
    let n = c.in_ok-count.count in
    let few_n = c.in_ok-count.ensures.read.section.0 in
    let t4 = c.split_at-4.result.1.now in
    let r4 = next (Count equations_word 256) (FromEachEquation sig) bytes t3 t4 (3 + l) (3 + l + 1) n 1 c.in_ok-count.line (count_section equations_word 256 (omega arith) equations_without) r3 c.in_ok-count.ensures.read c.split_at-4.ensures.back (omega arith) in
    handed_on (IsTextFault IsJournalText bytes) c.from_residual-in_err-equations.result c.in_err-equations.field-0.0 c.from_residual-in_err-equations.ensures.0 c.from_residual-in_err-equations.ensures.1 (section_fault (Equations sig n) (λ es. FromEntryCount) bytes t4 (3 + l + 1) (equations_section sig names n (omega arith)) (λ es. goes_entry_count) r4 c.in_err-equations.field-0.0 c.in_err-equations.ensures.fault)

pub returns-in_err-entry_count-clause-fault : goal.returns-in_err-entry_count-clause-fault
returns-in_err-entry_count-clause-fault c =
    let bytes = c.args.bytes.now in
    let r0 = at_start bytes in
    let t1 = c.split_at.result.1.now in
    let r1 = next {X = ⊤} (Word head_word) (λ u. FromBudget) bytes bytes t1 1 2 tt 1 c.in_ok-line.line (word_section head_word head_without) r0 c.in_ok-line.ensures.read c.split_at.ensures.back (omega arith) in
    let t2 = c.split_at-2.result.1.now in
    let r2 = next (Amount budget_word 1 100000) (λ n. FromSelection) bytes t1 t2 2 3 c.in_ok-budget.budget 1 c.in_ok-budget.line (amount_section budget_word 1 100000 (omega arith) budget_without) r1 c.in_ok-budget.ensures.read c.split_at-2.ensures.back (omega arith) in
    let chosen = c.in_ok-chosen.chosen in
    let sig = chosen.signature in
    let l = chosen.lines in
    let few_l = c.in_ok-chosen.ensures.lines in
    let names : IsSignature sig = c.in_ok-chosen.ensures.read.section.0.names in
    let t3 = c.split_at-3.result.1.now in
    let r3 = next Selected (λ x. FromEquations x.1) bytes t2 t3 3 (3 + l) (chosen.selection, sig) l chosen.size selected_section r2 c.in_ok-chosen.ensures.read c.split_at-3.ensures.back (omega arith) in
    let n = c.in_ok-count.count in
    let few_n = c.in_ok-count.ensures.read.section.0 in
    let t4 = c.split_at-4.result.1.now in
    let r4 = next (Count equations_word 256) (FromEachEquation sig) bytes t3 t4 (3 + l) (3 + l + 1) n 1 c.in_ok-count.line (count_section equations_word 256 (omega arith) equations_without) r3 c.in_ok-count.ensures.read c.split_at-4.ensures.back (omega arith) in
    let es = equations_of_list c.in_ok-equations.equations.items in
    let t5 = c.split_at-5.result.1.now in
    let r5 = next (Equations sig n) (λ es. FromEntryCount) bytes t4 t5 (3 + l + 1) (3 + l + 1 + n) es n c.in_ok-equations.size (equations_section sig names n (omega arith)) r4 c.in_ok-equations.ensures.read c.split_at-5.ensures.back (omega arith) in
    handed_on (IsTextFault IsJournalText bytes) c.from_residual-in_err-entry_count.result c.in_err-entry_count.field-0.0 c.from_residual-in_err-entry_count.ensures.0 c.from_residual-in_err-entry_count.ensures.1 (section_fault (Amount entries_word 0 18446744073709551615) FromEntries bytes t5 (3 + l + 1 + n) (amount_section entries_word 0 18446744073709551615 (omega arith) entries_without) goes_entries r5 c.in_err-entry_count.field-0.0 c.in_err-entry_count.ensures.fault)

pub returns-in_err-lines-clause-fault : goal.returns-in_err-lines-clause-fault
returns-in_err-lines-clause-fault c =
    let bytes = c.args.bytes.now in
    let r0 = at_start bytes in
    let t1 = c.split_at.result.1.now in
    let r1 = next {X = ⊤} (Word head_word) (λ u. FromBudget) bytes bytes t1 1 2 tt 1 c.in_ok-line.line (word_section head_word head_without) r0 c.in_ok-line.ensures.read c.split_at.ensures.back (omega arith) in
    let t2 = c.split_at-2.result.1.now in
    let r2 = next (Amount budget_word 1 100000) (λ n. FromSelection) bytes t1 t2 2 3 c.in_ok-budget.budget 1 c.in_ok-budget.line (amount_section budget_word 1 100000 (omega arith) budget_without) r1 c.in_ok-budget.ensures.read c.split_at-2.ensures.back (omega arith) in
    let chosen = c.in_ok-chosen.chosen in
    let sig = chosen.signature in
    let l = chosen.lines in
    let few_l = c.in_ok-chosen.ensures.lines in
    let names : IsSignature sig = c.in_ok-chosen.ensures.read.section.0.names in
    let t3 = c.split_at-3.result.1.now in
    let r3 = next Selected (λ x. FromEquations x.1) bytes t2 t3 3 (3 + l) (chosen.selection, sig) l chosen.size selected_section r2 c.in_ok-chosen.ensures.read c.split_at-3.ensures.back (omega arith) in
    let n = c.in_ok-count.count in
    let few_n = c.in_ok-count.ensures.read.section.0 in
    let t4 = c.split_at-4.result.1.now in
    let r4 = next (Count equations_word 256) (FromEachEquation sig) bytes t3 t4 (3 + l) (3 + l + 1) n 1 c.in_ok-count.line (count_section equations_word 256 (omega arith) equations_without) r3 c.in_ok-count.ensures.read c.split_at-4.ensures.back (omega arith) in
    let es = equations_of_list c.in_ok-equations.equations.items in
    let t5 = c.split_at-5.result.1.now in
    let r5 = next (Equations sig n) (λ es. FromEntryCount) bytes t4 t5 (3 + l + 1) (3 + l + 1 + n) es n c.in_ok-equations.size (equations_section sig names n (omega arith)) r4 c.in_ok-equations.ensures.read c.split_at-5.ensures.back (omega arith) in
    let m = c.in_ok-entry_count.entry_count in
    let t6 = c.split_at-6.result.1.now in
    let r6 = next (Amount entries_word 0 18446744073709551615) FromEntries bytes t5 t6 (3 + l + 1 + n) (3 + l + 1 + n + 1) m 1 c.in_ok-entry_count.line (amount_section entries_word 0 18446744073709551615 (omega arith) entries_without) r5 c.in_ok-entry_count.ensures.read c.split_at-6.ensures.back (omega arith) in
    handed_on (IsTextFault IsJournalText bytes) c.from_residual-in_err-lines.result c.in_err-lines.field-0.0 c.from_residual-in_err-lines.ensures.0 c.from_residual-in_err-lines.ensures.1 (section_fault (Entries m) (λ z. FromEnd) bytes t6 (3 + l + 1 + n + 1) (entries_section m) (λ z. goes_end) r6 c.in_err-lines.field-0.0 c.in_err-lines.ensures.fault)

pub returns-in_err-end-clause-fault : goal.returns-in_err-end-clause-fault
returns-in_err-end-clause-fault c =
    let bytes = c.args.bytes.now in
    let r0 = at_start bytes in
    let t1 = c.split_at.result.1.now in
    let r1 = next {X = ⊤} (Word head_word) (λ u. FromBudget) bytes bytes t1 1 2 tt 1 c.in_ok-line.line (word_section head_word head_without) r0 c.in_ok-line.ensures.read c.split_at.ensures.back (omega arith) in
    let t2 = c.split_at-2.result.1.now in
    let r2 = next (Amount budget_word 1 100000) (λ n. FromSelection) bytes t1 t2 2 3 c.in_ok-budget.budget 1 c.in_ok-budget.line (amount_section budget_word 1 100000 (omega arith) budget_without) r1 c.in_ok-budget.ensures.read c.split_at-2.ensures.back (omega arith) in
    let chosen = c.in_ok-chosen.chosen in
    let sig = chosen.signature in
    let l = chosen.lines in
    let few_l = c.in_ok-chosen.ensures.lines in
    let names : IsSignature sig = c.in_ok-chosen.ensures.read.section.0.names in
    let t3 = c.split_at-3.result.1.now in
    let r3 = next Selected (λ x. FromEquations x.1) bytes t2 t3 3 (3 + l) (chosen.selection, sig) l chosen.size selected_section r2 c.in_ok-chosen.ensures.read c.split_at-3.ensures.back (omega arith) in
    let n = c.in_ok-count.count in
    let few_n = c.in_ok-count.ensures.read.section.0 in
    let t4 = c.split_at-4.result.1.now in
    let r4 = next (Count equations_word 256) (FromEachEquation sig) bytes t3 t4 (3 + l) (3 + l + 1) n 1 c.in_ok-count.line (count_section equations_word 256 (omega arith) equations_without) r3 c.in_ok-count.ensures.read c.split_at-4.ensures.back (omega arith) in
    let es = equations_of_list c.in_ok-equations.equations.items in
    let t5 = c.split_at-5.result.1.now in
    let r5 = next (Equations sig n) (λ es. FromEntryCount) bytes t4 t5 (3 + l + 1) (3 + l + 1 + n) es n c.in_ok-equations.size (equations_section sig names n (omega arith)) r4 c.in_ok-equations.ensures.read c.split_at-5.ensures.back (omega arith) in
    let m = c.in_ok-entry_count.entry_count in
    let t6 = c.split_at-6.result.1.now in
    let r6 = next (Amount entries_word 0 18446744073709551615) FromEntries bytes t5 t6 (3 + l + 1 + n) (3 + l + 1 + n + 1) m 1 c.in_ok-entry_count.line (amount_section entries_word 0 18446744073709551615 (omega arith) entries_without) r5 c.in_ok-entry_count.ensures.read c.split_at-6.ensures.back (omega arith) in
    let ls = c.in_ok-lines.lines.items in
    let t7 = c.split_at-7.result.1.now in
    let r7 = next (Entries m) (λ z. FromEnd) bytes t6 t7 (3 + l + 1 + n + 1) (3 + l + 1 + n + 1 + m) ls m c.in_ok-lines.size (entries_section m) r6 c.in_ok-lines.ensures.read c.split_at-7.ensures.back (omega arith) in
    handed_on (IsTextFault IsJournalText bytes) c.from_residual-in_err-end.result c.in_err-end.field-0.0 c.from_residual-in_err-end.ensures.0 c.from_residual-in_err-end.ensures.1 (section_fault {X = ⊤} (Word end_word) (λ u. AtEnd) bytes t7 (3 + l + 1 + n + 1 + m) (word_section end_word end_without) (λ u. ([], refl)) r7 c.in_err-end.field-0.0 c.in_err-end.ensures.fault)

pub returns-then-end-from_end-clause-fault : goal.returns-then-end-from_end-clause-fault
returns-then-end-from_end-clause-fault c =
    let bytes = c.args.bytes.now in
    let r0 = at_start bytes in
    let t1 = c.split_at.result.1.now in
    let r1 = next {X = ⊤} (Word head_word) (λ u. FromBudget) bytes bytes t1 1 2 tt 1 c.in_ok-line.line (word_section head_word head_without) r0 c.in_ok-line.ensures.read c.split_at.ensures.back (omega arith) in
    let t2 = c.split_at-2.result.1.now in
    let r2 = next (Amount budget_word 1 100000) (λ n. FromSelection) bytes t1 t2 2 3 c.in_ok-budget.budget 1 c.in_ok-budget.line (amount_section budget_word 1 100000 (omega arith) budget_without) r1 c.in_ok-budget.ensures.read c.split_at-2.ensures.back (omega arith) in
    let chosen = c.in_ok-chosen.chosen in
    let sig = chosen.signature in
    let l = chosen.lines in
    let few_l = c.in_ok-chosen.ensures.lines in
    let names : IsSignature sig = c.in_ok-chosen.ensures.read.section.0.names in
    let t3 = c.split_at-3.result.1.now in
    let r3 = next Selected (λ x. FromEquations x.1) bytes t2 t3 3 (3 + l) (chosen.selection, sig) l chosen.size selected_section r2 c.in_ok-chosen.ensures.read c.split_at-3.ensures.back (omega arith) in
    let n = c.in_ok-count.count in
    let few_n = c.in_ok-count.ensures.read.section.0 in
    let t4 = c.split_at-4.result.1.now in
    let r4 = next (Count equations_word 256) (FromEachEquation sig) bytes t3 t4 (3 + l) (3 + l + 1) n 1 c.in_ok-count.line (count_section equations_word 256 (omega arith) equations_without) r3 c.in_ok-count.ensures.read c.split_at-4.ensures.back (omega arith) in
    let es = equations_of_list c.in_ok-equations.equations.items in
    let t5 = c.split_at-5.result.1.now in
    let r5 = next (Equations sig n) (λ es. FromEntryCount) bytes t4 t5 (3 + l + 1) (3 + l + 1 + n) es n c.in_ok-equations.size (equations_section sig names n (omega arith)) r4 c.in_ok-equations.ensures.read c.split_at-5.ensures.back (omega arith) in
    let m = c.in_ok-entry_count.entry_count in
    let t6 = c.split_at-6.result.1.now in
    let r6 = next (Amount entries_word 0 18446744073709551615) FromEntries bytes t5 t6 (3 + l + 1 + n) (3 + l + 1 + n + 1) m 1 c.in_ok-entry_count.line (amount_section entries_word 0 18446744073709551615 (omega arith) entries_without) r5 c.in_ok-entry_count.ensures.read c.split_at-6.ensures.back (omega arith) in
    let ls = c.in_ok-lines.lines.items in
    let t7 = c.split_at-7.result.1.now in
    let r7 = next (Entries m) (λ z. FromEnd) bytes t6 t7 (3 + l + 1 + n + 1) (3 + l + 1 + n + 1 + m) ls m c.in_ok-lines.size (entries_section m) r6 c.in_ok-lines.ensures.read c.split_at-7.ensures.back (omega arith) in
    let r8 = next {X = ⊤} (Word end_word) (λ u. AtEnd) bytes t7 (drop c.in_ok-end.end t7) (3 + l + 1 + n + 1 + m) (3 + l + 1 + n + 1 + m + 1) tt 1 c.in_ok-end.end (word_section end_word end_without) r7 c.in_ok-end.ensures.read refl (omega arith) in
    behind_fault bytes (drop c.in_ok-end.end t7) (3 + l + 1 + n + 1 + m + 1) r8 (omega (arith, length-drop c.in_ok-end.end t7))

pub returns-clause-read : goal.returns-clause-read
returns-clause-read c =
    let bytes = c.args.bytes.now in
    let chosen = c.in_ok-chosen.chosen in
    let sig = chosen.signature in
    let names = names_of sig in
    let n = c.in_ok-count.count in
    let es = equations_of_list c.in_ok-equations.equations.items in
    let m = c.in_ok-entry_count.entry_count in
    let ls = c.in_ok-lines.lines.items in
    let b1 = c.in_ok-line.ensures.read in
    let b2 = c.in_ok-budget.ensures.read in
    let b3 = c.in_ok-chosen.ensures.read in
    let b4 = c.in_ok-count.ensures.read in
    let b5 = c.in_ok-equations.ensures.read in
    let b6 = c.in_ok-entry_count.ensures.read in
    let b7 = c.in_ok-lines.ensures.read in
    let b8 = c.in_ok-end.ensures.read in
    let few_n = b4.section.0 in
    let low_b = b2.section.0.0 in
    let high_b = b2.section.0.1 in
    let few_m = b6.section.0.1 in
    let long_n = b5.section.1 in
    let long_m = b7.section.1 in
    let t7 = c.split_at-7.result.1.now in
    let items_l = item_lines (λ k. entry_body) 1 ls in
    let items_e = item_lines (λ k. equation_body names) 1 es in
    let e8 : t7 ≡ text_of (end_word ∷ []) = joined_text t7 (drop c.in_ok-end.end t7) b8.lines (end_word ∷ []) [] b8.parts b8.section.1 (drop_all c.in_ok-end.end t7 (omega arith)) in
    let l7 : Lines = items_l ++ end_word ∷ [] in
    let e7 = joined_text c.split_at-6.result.1.now _ b7.lines items_l (end_word ∷ []) b7.parts b7.section.2 (sym c.split_at-7.ensures.back ∙ e8) in
    let l6 : Lines = counted_line entries_word m ∷ l7 in
    let e6 = joined_text c.split_at-5.result.1.now _ b6.lines (counted_line entries_word m ∷ []) l7 b6.parts b6.section.1 (sym c.split_at-6.ensures.back ∙ e7) in
    let l5 : Lines = items_e ++ l6 in
    let e5 = joined_text c.split_at-4.result.1.now _ b5.lines items_e l6 b5.parts b5.section.2 (sym c.split_at-5.ensures.back ∙ e6) in
    let l4 : Lines = counted_line equations_word n ∷ l5 in
    let e4 = joined_text c.split_at-3.result.1.now _ b4.lines (counted_line equations_word n ∷ []) l5 b4.parts b4.section.1 (sym c.split_at-4.ensures.back ∙ e5) in
    let e3 = joined_text c.split_at-2.result.1.now _ b3.lines (selection_part chosen.selection ++ symbols_body sig ∷ []) l4 b3.parts b3.section.1 (sym c.split_at-3.ensures.back ∙ e4) in
    let l3 : Lines = (selection_part chosen.selection ++ symbols_body sig ∷ []) ++ l4 in
    let e2 = joined_text c.split_at.result.1.now _ b2.lines (counted_line budget_word c.in_ok-budget.budget ∷ []) l3 b2.parts b2.section.1 (sym c.split_at-2.ensures.back ∙ e3) in
    let e1 = joined_text bytes _ b1.lines (head_word ∷ []) (counted_line budget_word c.in_ok-budget.budget ∷ l3) b1.parts b1.section.1 (sym c.split_at.ensures.back ∙ e2) in
    let j : Journal = record { problem = record { signature = sig; equations = es }; settings = record { budget = c.in_ok-budget.budget; selection = chosen.selection; family = StatedOrders }; lines = ls } in
    let counts = λ (x y : ℕ). text_of (head_word ∷ counted_line budget_word c.in_ok-budget.budget ∷ (selection_part chosen.selection ++ symbols_body sig ∷ counted_line equations_word x ∷ (items_e ++ counted_line entries_word y ∷ (items_l ++ end_word ∷ [])))) in
    let lengths : counts n m ≡ counts (length es) (length ls) = λ i. counts (sym long_n i) (sym long_m i) in
    let spelled : bytes ≡ text_of (journal_lines j) = e1 ∙ ap (λ (z : Lines). text_of (head_word ∷ counted_line budget_word c.in_ok-budget.budget ∷ z)) (append_assoc (selection_part chosen.selection) (symbols_body sig ∷ []) l4) ∙ lengths in
    let form : IsJournal j = record {
      budget_least = low_b;
      budget_most = high_b;
      problem = record { symbols = b3.section.0.few; arities = b3.section.0.arities; count = omega arith; each = b5.section.0 };
      count = omega arith;
      each = b7.section.0;
    } in
    let made = c.new.ensures in
    let problem_is = c.new-problem.ensures in
    let signatures = problem_is.signature in
    let equations = problem_is.equations in
    let same : c.new.result ≡ j = made ∙ (λ i. record { problem = record { signature = signatures i; equations = equations i }; settings = j.settings; lines = ls }) in
    subst {A = Journal} (JournalSpelled bytes) (sym same) (record { signature = b3.section.0.names; form = form; spelling = spelled ∙ sym (text_is j) })

pub returns-clause-one : goal.returns-clause-one
returns-clause-one c = λ k s. one_spelled c.args.bytes.now c.new.result k (returns-clause-read c) s
