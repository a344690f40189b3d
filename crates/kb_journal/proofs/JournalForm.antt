-- The text of a journal is that of its sections, one behind the other.
use Rattle.std.proofs.Common.{append_assoc, ◌≡◌, refl, ap, ap₂, sym, ◌∙◌, subst, arith, ℕ, ◌+◌, ◌-◌, ◌^◌, ◌<◌, ◌≤◌, List, [], ◌∷◌, ◌++◌, length, drop, get_or, All}
use Rattle.std.specs.Prelude.{codes, decimal, flat_map, replicate}
use Rattle.std.proofs.lemmas.Fmt.{decimal_injective}
use Rattle.std.proofs.lemmas.List.{length-replicate, append_cancel_left}
use Rattle.std.proofs.lemmas.List.Elements.{All-replicate, All-head, All-tail}
use Rattle.kb_lemmas.proofs.Texts.{line_and}
use Rattle.kb_term.specs.Signature.{Signature, Problem, IsSignature, IsEquationWithinLimits, IsWithinLimits}
use Rattle.kb_term.specs.Tree.{Tree, variable}
use Rattle.kb_text.specs.Fields.{IsWithout}
use Rattle.kb_text.specs.Lines.{counted, IsBadLine, Begins}
use Rattle.kb_text.specs.Names.{Name}
use Rattle.kb_text.specs.Terms.{names_of}
use Rattle.kb_text.proofs.Cuts.{AreWithout, are_without-append, without-append}
use Rattle.kb_text.proofs.PlainTexts.{decimal_without}
use Rattle.kb_cert.specs.declared.family.Family.{Family}
use Rattle.kb_cert.specs.declared.family.Family.TheVariants.{Stated as StatedOrders}
use Rattle.kb_report.specs.Answers.{end_line, symbols_line, equation_line, equation_lines}
use Rattle.kb_report.specs.Sections.{Lines, text_of, item_lines, counted_line, Count, Word}
use Rattle.kb_report.specs.SystemSections.{symbols_body, equation_body, AreSymbols, Equations}
use Rattle.kb_report.proofs.LinesOfTexts.{text_of-append, same_lines}
use Rattle.kb_report.proofs.Fronts.{IsSection, Then, Goes, then_goes, IsText}
use Rattle.kb_report.proofs.SectionLaws.{line_section, items_without}
use Rattle.kb_report.proofs.SystemLines.{symbols_without, one_symbols, equation_without}
use Rattle.kb_report.proofs.SidesRead.{some_equation}
use Rattle.kb_report.proofs.SystemForm.{count_section, equations_section, end_word, equations_word, end_without, equations_without, FromEnd, goes_end, joined, end_lines}
use Rattle.mkb_model.specs.declared.settings.Selection.{Selection}
use Rattle.mkb_model.specs.declared.settings.Selection.TheVariants.{Stated, Size}
use Rattle.kb_journal.specs.declared.entry_line.EntryLine.{EntryLine}
use Rattle.kb_journal.specs.declared.entry_line.EntryLine.TheVariants.{Halt}
use Rattle.kb_journal.specs.EntryLines.{IsEntryLine}
use Rattle.kb_journal.specs.Journals.{Journal, entry_line, entry_lines, journal_head, journal_text, selection_lines, settings_lines, IsJournal, IsJournalText, JournalSpelled}
use Rattle.kb_journal.specs.JournalSections.{entry_body, selection_word, selection_part, Amount, Selected, Entries}
use Rattle.kb_journal.proofs.LineLaws.{entry_without, one_entry}

-- ---- the words that lines begin with, without a line feed

abbrev pub head_word : List ℕ
head_word = codes "MKBTT JOURNAL 2"

abbrev pub budget_word : List ℕ
budget_word = codes "BUDGET "

abbrev pub entries_word : List ℕ
entries_word = codes "ENTRIES "

pub head_without : IsWithout 10 head_word
head_without = (refl, (refl, (refl, (refl, (refl, (refl, (refl, (refl, (refl, (refl, (refl, (refl, (refl, (refl, (refl, tt)))))))))))))))

pub budget_without : IsWithout 10 budget_word
budget_without = (refl, (refl, (refl, (refl, (refl, (refl, (refl, tt)))))))

pub entries_without : IsWithout 10 entries_word
entries_without = (refl, (refl, (refl, (refl, (refl, (refl, (refl, (refl, tt))))))))

pub selection_without : IsWithout 10 selection_word
selection_without = (refl, (refl, (refl, (refl, (refl, (refl, (refl, (refl, (refl, (refl, (refl, (refl, (refl, (refl, tt))))))))))))))

-- ---- each section tells its value and its end

pub amount_without : (word : List ℕ) → IsWithout 10 word → (n : ℕ) → n < 2 ^ 64 → IsWithout 10 (counted_line word n)
amount_without word w n h = without-append 10 word (decimal n) w (decimal_without 10 n (omega arith) h)

pub amount_section : (word : List ℕ) (low high : ℕ) → high < 2 ^ 64 → IsWithout 10 word → IsSection (Amount word low high)
amount_section word low high h w =
    line_section {X = ℕ} (λ n. (low ≤ n) × (n ≤ high)) (counted_line word) (λ n l. amount_without word w n (let most = l.1 in omega arith))
    (λ m n l k e. decimal_injective m n (let most = l.1 in omega arith) (let most = k.1 in omega arith) (append_cancel_left word (decimal m) (decimal n) e))

-- the line of the symbols is not that of a selection
not_symbols : (sig : Signature) → ¬ (symbols_body sig ≡ selection_word)
not_symbols [] e = absurd (let b : 89 ≡ 69 = ap (λ (xs : List ℕ). get_or xs 1 0) e in omega arith)
not_symbols (f ∷ fs) e = absurd (let b : 89 ≡ 69 = ap (λ (xs : List ℕ). get_or xs 1 0) e in omega arith)

pub selection_differs : (sig : Signature) → ¬ (symbols_body sig ≡ selection_word)
selection_differs = not_symbols

selected_without : (x : Selection × Signature) (lines : Lines) → Selected x lines → AreWithout 10 lines
selected_without (Stated, sig) lines s = subst (AreWithout 10) (sym s.1) (symbols_without sig s.0, tt)
selected_without (Size, sig) lines s = subst (AreWithout 10) (sym s.1) (selection_without, (symbols_without sig s.0, tt))

selected_one : (x y : Selection × Signature) (xs ys zs ws : Lines) → Selected x xs → Selected y ys → xs ++ zs ≡ ys ++ ws → (x ≡ y) × (xs ≡ ys)
selected_one (Stated, sig) (Stated, gis) xs ys zs ws s t e =
    let lines : symbols_body sig ∷ zs ≡ symbols_body gis ∷ ws = ap (λ (ls : Lines). ls ++ zs) (sym s.1) ∙ e ∙ ap (λ (ls : Lines). ls ++ ws) t.1 in
    let same = one_symbols sig gis s.0 t.0 (ap (λ (ls : Lines). get_or ls 0 []) lines) in
    (λ i. (Stated, same i), s.1 ∙ ap (λ g. symbols_body g ∷ []) same ∙ sym t.1)
selected_one (Stated, sig) (Size, gis) xs ys zs ws s t e =
    let lines : symbols_body sig ∷ zs ≡ selection_word ∷ symbols_body gis ∷ ws = ap (λ (ls : Lines). ls ++ zs) (sym s.1) ∙ e ∙ ap (λ (ls : Lines). ls ++ ws) t.1 in
    absurd (not_symbols sig (ap (λ (ls : Lines). get_or ls 0 []) lines))
selected_one (Size, sig) (Stated, gis) xs ys zs ws s t e =
    let lines : selection_word ∷ symbols_body sig ∷ zs ≡ symbols_body gis ∷ ws = ap (λ (ls : Lines). ls ++ zs) (sym s.1) ∙ e ∙ ap (λ (ls : Lines). ls ++ ws) t.1 in
    absurd (not_symbols gis (sym (ap (λ (ls : Lines). get_or ls 0 []) lines)))
selected_one (Size, sig) (Size, gis) xs ys zs ws s t e =
    let lines : selection_word ∷ symbols_body sig ∷ zs ≡ selection_word ∷ symbols_body gis ∷ ws = ap (λ (ls : Lines). ls ++ zs) (sym s.1) ∙ e ∙ ap (λ (ls : Lines). ls ++ ws) t.1 in
    let same = one_symbols sig gis s.0 t.0 (ap (λ (ls : Lines). get_or ls 1 []) lines) in
    (λ i. (Size, same i), s.1 ∙ ap (λ g. selection_word ∷ symbols_body g ∷ []) same ∙ sym t.1)

pub selected_section : IsSection Selected
selected_section = record { without = selected_without; one = selected_one }

entries_lines_without : (k : ℕ) (ls : List EntryLine) → All IsEntryLine ls → AreWithout 10 (item_lines (λ k. entry_body) k ls)
entries_lines_without k [] a = tt
entries_lines_without k (l ∷ ls) a = (entry_without l (All-head IsEntryLine l ls a), entries_lines_without (k + 1) ls (All-tail IsEntryLine l ls a))

same_entries : (k : ℕ) (xs ys : List EntryLine) (zs ws : Lines) → All IsEntryLine xs → All IsEntryLine ys → length xs ≡ length ys → item_lines (λ k. entry_body) k xs ++ zs ≡ item_lines (λ k. entry_body) k ys ++ ws → xs ≡ ys
same_entries k [] [] zs ws a b l e = refl
same_entries k [] (y ∷ ys) zs ws a b l e = absurd (omega arith)
same_entries k (x ∷ xs) [] zs ws a b l e = absurd (omega arith)
same_entries k (x ∷ xs) (y ∷ ys) zs ws a b l e =
    let same : entry_body x ≡ entry_body y = cc in
    let later : item_lines (λ k. entry_body) (k + 1) xs ++ zs ≡ item_lines (λ k. entry_body) (k + 1) ys ++ ws = cc in
    ap₂ (λ (z : EntryLine) (zs : List EntryLine). z ∷ zs) (one_entry x y (All-head IsEntryLine x xs a) (All-head IsEntryLine y ys b) same) (same_entries (k + 1) xs ys zs ws (All-tail IsEntryLine x xs a) (All-tail IsEntryLine y ys b) (omega arith) later)

pub entries_section : (count : ℕ) → IsSection (Entries count)
entries_section count = record {
  without = λ x xs s. subst (AreWithout 10) (sym s.2) (entries_lines_without 1 x s.0);
  one = λ x y xs ys zs ws s t e.
      let n = s.1 in
      let m = t.1 in
      let lines = ap (λ (ls : Lines). ls ++ zs) (sym s.2) ∙ e ∙ ap (λ (ls : Lines). ls ++ ws) t.2 in
      let v = same_entries 1 x y zs ws s.0 t.0 (omega arith) lines in
      (v, s.2 ∙ ap (item_lines (λ k. entry_body) 1) v ∙ sym t.2);
}

-- ---- the sections in their order

abbrev pub FromEntries : ℕ → Lines → Type 0
FromEntries n = Then (Entries n) (λ ls. FromEnd)

abbrev pub FromEntryCount : Lines → Type 0
FromEntryCount = Then (Amount entries_word 0 18446744073709551615) FromEntries

abbrev pub FromEachEquation : Signature → ℕ → Lines → Type 0
FromEachEquation sig n = Then (Equations sig n) (λ es. FromEntryCount)

abbrev pub FromEquations : Signature → Lines → Type 0
FromEquations sig = Then (Count equations_word 256) (FromEachEquation sig)

abbrev pub FromSelection : Lines → Type 0
FromSelection = Then Selected (λ x. FromEquations x.1)

abbrev pub FromBudget : Lines → Type 0
FromBudget = Then (Amount budget_word 1 100000) (λ n. FromSelection)

abbrev pub FromHead : Lines → Type 0
FromHead = Then (Word head_word) (λ u. FromBudget)

-- ---- some lines may always follow

no_symbols : AreSymbols []
no_symbols = record { names = record { names = λ k d h. absurd (omega arith); differ = λ i j d h l. absurd (omega arith) }; few = omega arith; arities = λ k d h. absurd (omega arith) }

fill_entries : (n : ℕ) → Entries n (replicate n Halt) (item_lines (λ k. entry_body) 1 (replicate n Halt))
fill_entries n = (All-replicate IsEntryLine n Halt tt, length-replicate n Halt, refl)

pub goes_entries : (n : ℕ) → Goes (FromEntries n)
goes_entries n = then_goes (Entries n) (λ ls. FromEnd) (replicate n Halt) (item_lines (λ k. entry_body) 1 (replicate n Halt)) (fill_entries n) goes_end

pub goes_entry_count : Goes FromEntryCount
goes_entry_count = then_goes (Amount entries_word 0 18446744073709551615) FromEntries 0 (counted_line entries_word 0 ∷ []) ((omega arith, omega arith), refl) (goes_entries 0)

abbrev plain_equation : Tree × Tree
plain_equation = (variable 0, variable 0)

pub goes_equations : (sig : Signature) (n : ℕ) → Goes (FromEachEquation sig n)
goes_equations sig n =
    then_goes (Equations sig n) (λ es. FromEntryCount) (replicate n plain_equation) (item_lines (λ k. equation_body (names_of sig)) 1 (replicate n plain_equation))
    (All-replicate (IsEquationWithinLimits sig) n plain_equation (some_equation sig), length-replicate n plain_equation, refl) goes_entry_count

pub goes_equation_count : (sig : Signature) → Goes (FromEquations sig)
goes_equation_count sig = then_goes (Count equations_word 256) (FromEachEquation sig) 0 (counted_line equations_word 0 ∷ []) (omega arith, refl) (goes_equations sig 0)

pub goes_selection : Goes FromSelection
goes_selection = then_goes Selected (λ x. FromEquations x.1) (Stated, []) (symbols_body [] ∷ []) (no_symbols, refl) (goes_equation_count [])

pub goes_budget : Goes FromBudget
goes_budget = then_goes (Amount budget_word 1 100000) (λ n. FromSelection) 1 (counted_line budget_word 1 ∷ []) ((omega arith, omega arith), refl) goes_selection

-- ---- they are the lines of a journal

abbrev pub lines_from_entries : List EntryLine → Lines
lines_from_entries ls = counted_line entries_word (length ls) ∷ (item_lines (λ k. entry_body) 1 ls ++ end_word ∷ [])

abbrev pub lines_from_equations : Problem → List EntryLine → Lines
lines_from_equations p ls = counted_line equations_word (length p.equations) ∷ (item_lines (λ k. equation_body (names_of p.signature)) 1 p.equations ++ lines_from_entries ls)

abbrev pub journal_lines : Journal → Lines
journal_lines j = head_word ∷ counted_line budget_word j.settings.budget ∷ (selection_part j.settings.selection ++ symbols_body j.problem.signature ∷ lines_from_equations j.problem j.lines)

-- the lines of a journal
abbrev pub IsJournalLines : Lines → Type 0
IsJournalLines lines = (j : Journal) × IsSignature j.problem.signature × IsJournal j × (lines ≡ journal_lines j)

some_symbols : (p : Problem) → IsSignature p.signature → IsWithinLimits p → AreSymbols p.signature
some_symbols p i w = record { names = i; few = w.symbols; arities = w.arities }

pub in_order : (lines : Lines) → IsJournalLines lines → FromHead lines
in_order lines (j, i, f, e) =
    let p = j.problem in
    let sig = p.signature in
    let ls = j.lines in
    let items_l = item_lines (λ k. entry_body) 1 ls in
    let items_e = item_lines (λ k. equation_body (names_of sig)) 1 p.equations in
    let count = f.count in
    let end : FromEnd (end_word ∷ []) = (tt, end_word ∷ [], [], (tt, refl), refl, refl) in
    let each_entry : FromEntries (length ls) (items_l ++ end_word ∷ []) = (ls, items_l, end_word ∷ [], (f.each, refl, refl), end, refl) in
    let entries : FromEntryCount (lines_from_entries ls) = (length ls, counted_line entries_word (length ls) ∷ [], items_l ++ end_word ∷ [], ((omega arith, omega arith), refl), each_entry, refl) in
    let each : FromEachEquation sig (length p.equations) (items_e ++ lines_from_entries ls) = (p.equations, items_e, lines_from_entries ls, (f.problem.each, refl, refl), entries, refl) in
    let equations : FromEquations sig (lines_from_equations p ls) = (length p.equations, counted_line equations_word (length p.equations) ∷ [], items_e ++ lines_from_entries ls, (f.problem.count, refl), each, refl) in
    let chosen : FromSelection (selection_part j.settings.selection ++ symbols_body sig ∷ lines_from_equations p ls) = (
      (j.settings.selection, sig),
      selection_part j.settings.selection ++ symbols_body sig ∷ [],
      lines_from_equations p ls,
      (some_symbols p i f.problem, refl),
      equations,
      sym (append_assoc (selection_part j.settings.selection) (symbols_body sig ∷ []) (lines_from_equations p ls)),
    ) in
    let budget : FromBudget (counted_line budget_word j.settings.budget ∷ (selection_part j.settings.selection ++ symbols_body sig ∷ lines_from_equations p ls)) = (
      j.settings.budget,
      counted_line budget_word j.settings.budget ∷ [],
      selection_part j.settings.selection ++ symbols_body sig ∷ lines_from_equations p ls,
      ((f.budget_least, f.budget_most), refl),
      chosen,
      refl,
    ) in
    (tt, head_word ∷ [], counted_line budget_word j.settings.budget ∷ (selection_part j.settings.selection ++ symbols_body sig ∷ lines_from_equations p ls), (tt, refl), budget, e)

record EntryLines (lines : Lines) : Type 0 where
  entries : List EntryLine
  count : length entries < 2 ^ 64
  each : All IsEntryLine entries
  lines_are : lines ≡ lines_from_entries entries

entries_are : (lines : Lines) → FromEntryCount lines → EntryLines lines
entries_are lines (n, xs, ys, s, (ls, us, vs, q, d, g), e) =
    let long = q.1 in
    let most = s.0.1 in
    let items = item_lines (λ k. entry_body) 1 ls in
    record {
      entries = ls;
      count = omega arith;
      each = q.0;
      lines_are = joined lines xs ys (counted_line entries_word n ∷ []) (items ++ end_word ∷ []) e s.1 (joined ys us vs items (end_word ∷ []) g q.2 (end_lines vs d)) ∙ ap (λ k. counted_line entries_word k ∷ (items ++ end_word ∷ [])) (sym long);
    }

pub from_order : (lines : Lines) → FromHead lines → IsJournalLines lines
from_order lines (u, as', bs, h, (n, cs, ds, b, (x, xs, ys, s, (m, es', fs, k, (es, gs, hs, q, d, g), i), j), l), e) =
    let sig = x.1 in
    let few = k.0 in
    let long = q.1 in
    let r = entries_are hs d in
    let p : Problem = record { signature = sig; equations = es } in
    let items = item_lines (λ k. equation_body (names_of sig)) 1 es in
    let equations : ys ≡ lines_from_equations p r.entries =
    joined ys es' fs (counted_line equations_word m ∷ []) (items ++ lines_from_entries r.entries) i k.1 (joined fs gs hs items (lines_from_entries r.entries) g q.2 r.lines_are)
    ∙ ap (λ z. counted_line equations_word z ∷ (items ++ lines_from_entries r.entries)) (sym long) in
    let chosen : ds ≡ selection_part x.0 ++ symbols_body sig ∷ lines_from_equations p r.entries =
    joined ds xs ys (selection_part x.0 ++ symbols_body sig ∷ []) (lines_from_equations p r.entries) j s.1 equations ∙ append_assoc (selection_part x.0) (symbols_body sig ∷ []) (lines_from_equations p r.entries) in
    let budget : bs ≡ counted_line budget_word n ∷ (selection_part x.0 ++ symbols_body sig ∷ lines_from_equations p r.entries) = joined bs cs ds (counted_line budget_word n ∷ []) _ l b.1 chosen in
    let whole = joined lines as' bs (head_word ∷ []) _ e h.1 budget in (
      record { problem = p; settings = record { budget = n; selection = x.0; family = StatedOrders }; lines = r.entries },
      s.0.names,
      record {
        budget_least = b.0.0;
        budget_most = b.0.1;
        problem = record { symbols = s.0.few; arities = s.0.arities; count = omega arith; each = q.0 };
        count = r.count;
        each = r.each;
      },
      whole,
    )

-- ---- their text

equation_texts : (names : List Name) (k : ℕ) (es : List (Tree × Tree)) → flat_map (equation_line names) es ≡ text_of (item_lines (λ k. equation_body names) k es)
equation_texts names k [] = refl
equation_texts names k (e ∷ es) = append_assoc (equation_body names e) (10 ∷ []) (flat_map (equation_line names) es) ∙ ap (λ (t : List ℕ). equation_body names e ++ 10 ∷ t) (equation_texts names (k + 1) es)

entry_texts : (k : ℕ) (ls : List EntryLine) → flat_map entry_line ls ≡ text_of (item_lines (λ k. entry_body) k ls)
entry_texts k [] = refl
entry_texts k (l ∷ ls) = append_assoc (entry_body l) (10 ∷ []) (flat_map entry_line ls) ∙ ap (λ (t : List ℕ). entry_body l ++ 10 ∷ t) (entry_texts (k + 1) ls)

-- a line, lines of items and what is behind them
lines_and : (body flat rest : List ℕ) (items more : Lines) → flat ≡ text_of items → rest ≡ text_of more → ((body ++ 10 ∷ []) ++ flat) ++ rest ≡ body ++ 10 ∷ text_of (items ++ more)
lines_and body flat rest items more f e =
    append_assoc (body ++ 10 ∷ []) flat rest ∙ line_and body (flat ++ rest) (text_of (items ++ more)) (ap₂ (λ (x y : List ℕ). x ++ y) f e ∙ sym (text_of-append items more))

-- the settings and what is behind them
settings_and : (budget : ℕ) (s : Selection) (rest : List ℕ) (more : Lines) → rest ≡ text_of more → (counted (codes "BUDGET") budget ++ selection_lines s) ++ rest ≡ text_of (counted_line budget_word budget ∷ (selection_part s ++ more))
settings_and budget Stated rest more e = append_assoc (counted (codes "BUDGET") budget) [] rest ∙ line_and (counted_line budget_word budget) rest (text_of more) e
settings_and budget Size rest more e =
    append_assoc (counted (codes "BUDGET") budget) (selection_lines Size) rest ∙ line_and (counted_line budget_word budget) (selection_lines Size ++ rest) (text_of (selection_word ∷ more)) (ap (selection_lines Size ++◌) e)

all_right : (h b s e n d : List ℕ) → h ++ b ++ s ++ e ++ n ++ d ≡ h ++ (b ++ (s ++ (e ++ (n ++ d))))
all_right h b s e n d = append_assoc (h ++ b ++ s ++ e) n d ∙ append_assoc (h ++ b ++ s) e (n ++ d) ∙ append_assoc (h ++ b) s (e ++ (n ++ d)) ∙ append_assoc h b (s ++ (e ++ (n ++ d)))

pub text_is : (j : Journal) → journal_text j ≡ text_of (journal_lines j)
text_is j =
    all_right journal_head (settings_lines j.settings) (symbols_line sig) (equation_lines j.problem) (entry_lines j.lines) end_line
    ∙ ap (journal_head ++◌) (settings_and j.settings.budget j.settings.selection _ (symbols_body sig ∷ lines_from_equations j.problem j.lines) symbols)
  where
    sig : Signature
    sig = j.problem.signature

    entries : entry_lines j.lines ++ end_line ≡ text_of (lines_from_entries j.lines)
    entries = lines_and (counted_line entries_word (length j.lines)) (flat_map entry_line j.lines) end_line (item_lines (λ k. entry_body) 1 j.lines) (end_word ∷ []) (entry_texts 1 j.lines) refl

    equations : equation_lines j.problem ++ (entry_lines j.lines ++ end_line) ≡ text_of (lines_from_equations j.problem j.lines)
    equations = lines_and (counted_line equations_word (length j.problem.equations)) (flat_map (equation_line (names_of sig)) j.problem.equations) _ (item_lines (λ k. equation_body (names_of sig)) 1 j.problem.equations) (lines_from_entries j.lines) (equation_texts (names_of sig) 1 j.problem.equations) entries

    symbols : symbols_line sig ++ (equation_lines j.problem ++ (entry_lines j.lines ++ end_line)) ≡ text_of (symbols_body sig ∷ lines_from_equations j.problem j.lines)
    symbols = line_and (symbols_body sig) _ _ equations

-- ---- no line holds a line feed

selection_part_without : (s : Selection) → AreWithout 10 (selection_part s)
selection_part_without Stated = tt
selection_part_without Size = (selection_without, tt)

without_of : (j : Journal) → IsSignature j.problem.signature → IsJournal j → AreWithout 10 (journal_lines j)
without_of j i f =
    let sig = j.problem.signature in
    let most = f.budget_most in
    let few = f.problem.count in
    let items_e = items_without (IsEquationWithinLimits sig) (λ k. equation_body (names_of sig)) 1 j.problem.equations (λ k e l q. equation_without sig i e q) f.problem.each (omega arith) in
    let entries : AreWithout 10 (lines_from_entries j.lines) = (amount_without entries_word entries_without (length j.lines) f.count, are_without-append 10 (item_lines (λ k. entry_body) 1 j.lines) (end_word ∷ []) (entries_lines_without 1 j.lines f.each) (end_without, tt)) in
    let equations : AreWithout 10 (lines_from_equations j.problem j.lines) = (amount_without equations_word equations_without (length j.problem.equations) (omega arith), are_without-append 10 (item_lines (λ k. equation_body (names_of sig)) 1 j.problem.equations) (lines_from_entries j.lines) items_e entries) in
    (head_without, (amount_without budget_word budget_without j.settings.budget (omega arith), are_without-append 10 (selection_part j.settings.selection) (symbols_body sig ∷ lines_from_equations j.problem j.lines) (selection_part_without j.settings.selection) (symbols_without sig (some_symbols j.problem i f.problem), equations)))

pub lines_without : (lines : Lines) → IsJournalLines lines → AreWithout 10 lines
lines_without lines (j, i, f, e) = subst (AreWithout 10) (sym e) (without_of j i f)

-- ---- one journal

same_lines_back : (xs ys zs ws : Lines) → xs ≡ ys → xs ++ zs ≡ ys ++ ws → zs ≡ ws
same_lines_back xs ys zs ws s e = append_cancel_left xs zs ws (e ∙ ap (λ (l : Lines). l ++ ws) (sym s))

same_rest : (sig : Signature) → IsSignature sig → (es fs : List (Tree × Tree)) (ls ms : List EntryLine) → All (IsEquationWithinLimits sig) es → All (IsEquationWithinLimits sig) fs → length es ≤ 256 → length fs ≤ 256
    → All IsEntryLine ls → All IsEntryLine ms → length ls < 2 ^ 64 → length ms < 2 ^ 64 → lines_from_equations (record { signature = sig; equations = es }) ls ≡ lines_from_equations (record { signature = sig; equations = fs }) ms → (es ≡ fs) × (ls ≡ ms)
same_rest sig i es fs ls ms a b few low c d short brief e =
    let count = (count_section equations_word 256 (omega arith) equations_without).one (length es) (length fs) _ _ _ _ (few, refl) (low, refl) e in
    let same = (equations_section sig i (length fs) (omega arith)).one es fs _ _ _ _ (a, count.0, refl) (b, refl, refl) (ap (drop 1) e) in
    let from_entries : lines_from_entries ls ≡ lines_from_entries ms = same_lines_back _ _ _ _ same.1 (ap (drop 1) e) in
    let entry_count = (amount_section entries_word 0 18446744073709551615 (omega arith) entries_without).one (length ls) (length ms) _ _ _ _ ((omega arith, omega arith), refl) ((omega arith, omega arith), refl) from_entries in
    let entries = (entries_section (length ms)).one ls ms _ _ _ _ (c, entry_count.0, refl) (d, refl, refl) (ap (drop 1) from_entries) in
    (same.0, entries.0)

one_family : (f g : Family) → f ≡ g
one_family StatedOrders StatedOrders = refl

pub one_journal : (j k : Journal) → IsSignature j.problem.signature → IsSignature k.problem.signature → IsJournal j → IsJournal k → journal_lines j ≡ journal_lines k → j ≡ k
one_journal j k i h f g e =
    let p = j.problem in
    let q = k.problem in
    let budget = (amount_section budget_word 1 100000 (omega arith) budget_without).one j.settings.budget k.settings.budget _ _ _ _ ((f.budget_least, f.budget_most), refl) ((g.budget_least, g.budget_most), refl) (ap (drop 1) e) in
    let chosen = selected_one (j.settings.selection, p.signature) (k.settings.selection, q.signature) (selection_part j.settings.selection ++ symbols_body p.signature ∷ []) (selection_part k.settings.selection ++ symbols_body q.signature ∷ []) (lines_from_equations p j.lines) (lines_from_equations q k.lines)
    (some_symbols p i f.problem, refl) (some_symbols q h g.problem, refl)
    (append_assoc (selection_part j.settings.selection) (symbols_body p.signature ∷ []) (lines_from_equations p j.lines) ∙ ap (drop 2) e ∙ sym (append_assoc (selection_part k.settings.selection) (symbols_body q.signature ∷ []) (lines_from_equations q k.lines))) in
    let both = chosen.0 in
    let sigs : p.signature ≡ q.signature = ap (λ (x : Selection × Signature). x.1) both in
    let rest : lines_from_equations p j.lines ≡ lines_from_equations q k.lines = same_lines_back _ _ _ _ chosen.1
    (append_assoc (selection_part j.settings.selection) (symbols_body p.signature ∷ []) (lines_from_equations p j.lines) ∙ ap (drop 2) e ∙ sym (append_assoc (selection_part k.settings.selection) (symbols_body q.signature ∷ []) (lines_from_equations q k.lines))) in
    let same = same_rest p.signature i p.equations q.equations j.lines k.lines f.problem.each (subst {A = Signature} (λ s. All (IsEquationWithinLimits s) q.equations) (sym sigs) g.problem.each) f.problem.count g.problem.count f.each g.each f.count g.count
    (rest ∙ ap (λ (s : Signature). lines_from_equations (record { signature = s; equations = q.equations }) k.lines) (sym sigs)) in
    let budgets = budget.0 in
    let families = one_family j.settings.family k.settings.family in
    let equations = same.0 in
    let lines = same.1 in
    λ n. record { problem = record { signature = sigs n; equations = equations n }; settings = record { budget = budgets n; selection = (both n).0; family = families n }; lines = lines n }

pub one_spelled : (bytes : List ℕ) (j k : Journal) → JournalSpelled bytes j → JournalSpelled bytes k → j ≡ k
one_spelled bytes j k s t =
    one_journal j k s.signature t.signature s.form t.form (same_lines (journal_lines j) (journal_lines k) (without_of j s.signature s.form) (without_of k t.signature t.form) (sym (text_is j) ∙ sym s.spelling ∙ t.spelling ∙ text_is k))

-- ---- the first bad line of a text of a journal

to_text : (text : List ℕ) → IsText IsJournalLines text → IsJournalText text
to_text text (lines, (j, i, f, e), t) = (j, record { signature = i; form = f; spelling = t ∙ ap text_of e ∙ sym (text_is j) })

from_text : (text : List ℕ) → IsJournalText text → IsText IsJournalLines text
from_text text (j, s) = (journal_lines j, (j, s.signature, s.form, refl), s.spelling ∙ text_is j)

pub bad_journal_line : (text : List ℕ) (n : ℕ) → IsBadLine (IsText IsJournalLines) text n → IsBadLine IsJournalText text n
bad_journal_line text n b = record {
  from_one = b.from_one;
  before = to (n - 1) b.before;
  with_it = λ k. b.with_it (back k);
  not_whole = λ s. b.not_whole (from_text text s);
}
  where
    to : (m : ℕ) → Begins (IsText IsJournalLines) text m → Begins IsJournalText text m
    to m (whole, front, form, e, d) = (whole, front, to_text whole form, e, d)

    back : Begins IsJournalText text n → Begins (IsText IsJournalLines) text n
    back (whole, front, form, e, d) = (whole, front, from_text whole form, e, d)
