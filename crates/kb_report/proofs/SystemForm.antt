-- The text of a system is that of its sections, one behind the other.
use Rattle.std.proofs.Common.{append_assoc, ◌≡◌, refl, ap, ap₂, sym, ◌∙◌, subst, arith, ℕ, ◌+◌, ◌-◌, ◌≤◌, List, [], ◌∷◌, ◌++◌, length, drop, get_or, All}
use Rattle.std.specs.Prelude.{codes, decimal, flat_map, replicate, IsTrue, ⊤}
use Rattle.std.proofs.lemmas.Fmt.{decimal_injective}
use Rattle.std.proofs.lemmas.List.{length-replicate, append_cancel_left}
use Rattle.std.proofs.lemmas.List.Elements.{All-replicate, All-nil}
use Rattle.kb_lemmas.proofs.Texts.{line_and}
use Rattle.kb_term.specs.Rule.{Rule}
use Rattle.kb_term.specs.Signature.{Signature, IsSignature, IsEquationWithinLimits}
use Rattle.kb_term.specs.Tree.{Tree, variable}
use Rattle.kb_text.specs.Fields.{IsWithout}
use Rattle.kb_text.specs.Lines.{counted, IsBadLine, Begins}
use Rattle.kb_text.specs.Names.{Name}
use Rattle.kb_text.specs.Terms.{names_of}
use Rattle.kb_text.proofs.Cuts.{AreWithout, are_without-append, without-append}
use Rattle.kb_text.proofs.PlainTexts.{decimal_without}
use Rattle.kb_cert.specs.CertificateText.{is_certificate}
use Rattle.kb_cert.specs.declared.certificate.Certificate.{Certificate}
use Rattle.kb_overlap.specs.Trace.{TraceStep}
use Rattle.kb_trace.specs.TraceText.{trace_text, IsStepForm}
use Rattle.kb_checker.specs.Answers.{Answer, IsAnswer, IsRuleForm}
use Rattle.kb_report.specs.Answers.{head_line, end_line, symbols_line, equation_line, equation_lines, rule_line, rule_lines, constraint_lines, order_line, system_text, IsSystem, AnswerSpelled, IsInVersion, IsTextOf, IsSystemText}
use Rattle.kb_report.specs.declared.version.Version.{Version}
use Rattle.kb_report.specs.declared.version.Version.TheVariants.{First, Second}
use Rattle.kb_report.specs.Sections.{Lines, text_of, item_lines, Items, counted_line, Count, Word}
use Rattle.kb_report.specs.SystemSections.{head_body, symbols_body, equation_body, rule_body, order_body, step_body, AreSymbols, Head, Symbols, Equations, Rules, ConstraintCount, Order, Steps}
use Rattle.kb_report.proofs.LinesOfTexts.{text_of-append, same_lines}
use Rattle.kb_report.proofs.Fronts.{IsSection, Then, Goes, then_goes, IsText}
use Rattle.kb_report.proofs.SectionLaws.{line_section, items_section, items_without}
use Rattle.kb_report.proofs.SystemLines.{symbols_without, one_symbols, equation_without, one_equation}
use Rattle.kb_report.proofs.OrderLines.{order_without, one_order, some_cert}
use Rattle.kb_report.proofs.SidesRead.{some_equation, some_rule, rule_without, one_rule}
use Rattle.kb_report.proofs.StepsRead.{trace_lines, step_without, one_step_line, plain_step, some_step}
use Rattle.kb_report.proofs.NamesRead.{no_symbols}

-- ---- the words that lines begin with, without a line feed

abbrev pub end_word : List ℕ
end_word = codes "END"

abbrev pub equations_word : List ℕ
equations_word = codes "EQUATIONS "

abbrev pub rules_word : List ℕ
rules_word = codes "RULES "

abbrev pub constraints_word : List ℕ
constraints_word = codes "CONSTRAINTS "

abbrev pub trace_word : List ℕ
trace_word = codes "TRACE "

pub end_without : IsWithout 10 end_word
end_without = (refl, (refl, (refl, tt)))

pub equations_without : IsWithout 10 equations_word
equations_without = (refl, (refl, (refl, (refl, (refl, (refl, (refl, (refl, (refl, (refl, tt))))))))))

pub rules_without : IsWithout 10 rules_word
rules_without = (refl, (refl, (refl, (refl, (refl, (refl, tt))))))

pub constraints_without : IsWithout 10 constraints_word
constraints_without = (refl, (refl, (refl, (refl, (refl, (refl, (refl, (refl, (refl, (refl, (refl, (refl, tt))))))))))))

pub trace_without : IsWithout 10 trace_word
trace_without = (refl, (refl, (refl, (refl, (refl, (refl, tt))))))

-- ---- each section tells its value and its end

pub word_section : (word : List ℕ) → IsWithout 10 word → IsSection (Word word)
word_section word w = line_section {X = ⊤} (λ u. ⊤) (λ u. word) (λ u v. w) (λ x y p q e. refl)

pub count_section : (word : List ℕ) (highest : ℕ) → highest ≤ 5000 → IsWithout 10 word → IsSection (Count word highest)
count_section word highest h w =
    line_section {X = ℕ} (λ n. n ≤ highest) (counted_line word) (λ n l. without-append 10 word (decimal n) w (decimal_without 10 n (omega arith) (omega arith)))
    (λ m n l k e. decimal_injective m n (omega arith) (omega arith) (append_cancel_left word (decimal m) (decimal n) e))

one_head : (v w : Version) → head_body v ≡ head_body w → v ≡ w
one_head First First e = refl
one_head First Second e = absurd (let b : 49 ≡ 50 = ap (λ (xs : List ℕ). get_or xs 6 0) e in omega arith)
one_head Second First e = absurd (let b : 50 ≡ 49 = ap (λ (xs : List ℕ). get_or xs 6 0) e in omega arith)
one_head Second Second e = refl

pub head_without : (v : Version) → IsWithout 10 (head_body v)
head_without First = (refl, (refl, (refl, (refl, (refl, (refl, (refl, tt)))))))
head_without Second = (refl, (refl, (refl, (refl, (refl, (refl, (refl, tt)))))))

pub head_section : IsSection Head
head_section = line_section {X = Version} (λ v. ⊤) head_body (λ v u. head_without v) (λ v w p q e. one_head v w e)

pub symbols_section : IsSection Symbols
symbols_section = line_section AreSymbols symbols_body symbols_without one_symbols

pub equations_section : (sig : Signature) → IsSignature sig → (n : ℕ) → n ≤ 5000 → IsSection (Equations sig n)
equations_section sig i n h = items_section (IsEquationWithinLimits sig) (λ k. equation_body (names_of sig)) n h (λ k e l f. equation_without sig i e f) (λ k e d l f g q. one_equation sig i e d f g q)

pub rules_section : (sig : Signature) → IsSignature sig → (n : ℕ) → n ≤ 5000 → IsSection (Rules sig n)
rules_section sig i n h = items_section (IsRuleForm sig) (λ k. rule_body (names_of sig)) n h (λ k r l f. rule_without sig i r f) (λ k r q l f g e. one_rule sig i r q f g e)

pub constraint_count_section : (v : Version) → IsSection (ConstraintCount v)
constraint_count_section First = record {
  without = λ x xs s. subst (AreWithout 10) (sym s.1) tt;
  one = λ x y xs ys zs ws s t e. (s.0 ∙ sym t.0, s.1 ∙ sym t.1);
}
constraint_count_section Second =
    let c = count_section constraints_word 4096 (omega arith) constraints_without in
    record { without = c.without; one = c.one }

pub order_section : (sig : Signature) → IsSignature sig → IsSection (Order sig)
order_section sig i = line_section (λ c. IsTrue (is_certificate sig c)) (order_body (names_of sig)) (order_without sig i) (one_order sig i)

pub steps_section : (sig : Signature) → IsSignature sig → (n : ℕ) → n ≤ 5000 → IsSection (Steps sig n)
steps_section sig i n h = items_section (IsStepForm sig) (step_body (names_of sig)) n h (λ k s l f. step_without sig i k s l f) (λ k s u l f g e. one_step_line sig i k s u l f g e)

-- ---- the sections in their order

abbrev pub AtEnd : Lines → Type 0
AtEnd lines = lines ≡ []

abbrev pub FromEnd : Lines → Type 0
FromEnd = Then (Word end_word) (λ u. AtEnd)

abbrev pub FromSteps : Signature → ℕ → Lines → Type 0
FromSteps sig n = Then (Steps sig n) (λ t. FromEnd)

abbrev pub FromTrace : Signature → Lines → Type 0
FromTrace sig = Then (Count trace_word 4096) (FromSteps sig)

abbrev pub FromOrder : Signature → Lines → Type 0
FromOrder sig = Then (Order sig) (λ c. FromTrace sig)

abbrev pub FromEachConstraint : Signature → ℕ → Lines → Type 0
FromEachConstraint sig n = Then (Rules sig n) (λ cs. FromOrder sig)

abbrev pub FromConstraints : Version → Signature → Lines → Type 0
FromConstraints v sig = Then (ConstraintCount v) (FromEachConstraint sig)

abbrev pub FromEachRule : Version → Signature → ℕ → Lines → Type 0
FromEachRule v sig n = Then (Rules sig n) (λ rs. FromConstraints v sig)

abbrev pub FromRules : Version → Signature → Lines → Type 0
FromRules v sig = Then (Count rules_word 4096) (FromEachRule v sig)

abbrev pub FromEachEquation : Version → Signature → ℕ → Lines → Type 0
FromEachEquation v sig n = Then (Equations sig n) (λ es. FromRules v sig)

abbrev pub FromEquations : Version → Signature → Lines → Type 0
FromEquations v sig = Then (Count equations_word 256) (FromEachEquation v sig)

abbrev pub FromSymbols : Version → Lines → Type 0
FromSymbols v = Then Symbols (FromEquations v)

abbrev pub FromHead : Lines → Type 0
FromHead = Then Head FromSymbols

-- ---- some lines may always follow

pub goes_end : Goes FromEnd
goes_end = then_goes {X = ⊤} (Word end_word) (λ u. AtEnd) tt (end_word ∷ []) (tt, refl) ([], refl)

pub fill : {X : Type 0} (P : X → Type 0) (f : ℕ → X → List ℕ) (n : ℕ) (x : X) → P x → Items P f n (replicate n x) (item_lines f 1 (replicate n x))
fill P f n x p = (All-replicate P n x p, length-replicate n x, refl)

pub goes_steps : (sig : Signature) (n : ℕ) → Goes (FromSteps sig n)
goes_steps sig n = then_goes (Steps sig n) (λ t. FromEnd) (replicate n plain_step) (item_lines (step_body (names_of sig)) 1 (replicate n plain_step)) (fill (IsStepForm sig) (step_body (names_of sig)) n plain_step (some_step sig)) goes_end

pub goes_trace : (sig : Signature) → Goes (FromTrace sig)
goes_trace sig = then_goes (Count trace_word 4096) (FromSteps sig) 0 (counted_line trace_word 0 ∷ []) (omega arith, refl) (goes_steps sig 0)

pub goes_order : (sig : Signature) → Goes (FromOrder sig)
goes_order sig = let c = some_cert sig in then_goes (Order sig) (λ c. FromTrace sig) c.0 (order_body (names_of sig) c.0 ∷ []) (c.1, refl) (goes_trace sig)

abbrev pub plain_rule : Rule × ℕ
plain_rule = (record { left = variable 0; right = variable 0 }, 1)

pub goes_constraints : (sig : Signature) (n : ℕ) → Goes (FromEachConstraint sig n)
goes_constraints sig n = then_goes (Rules sig n) (λ cs. FromOrder sig) (replicate n plain_rule) (item_lines (λ k. rule_body (names_of sig)) 1 (replicate n plain_rule)) (fill (IsRuleForm sig) (λ k. rule_body (names_of sig)) n plain_rule (some_rule sig)) (goes_order sig)

pub goes_constraint_count : (v : Version) (sig : Signature) → Goes (FromConstraints v sig)
goes_constraint_count First sig = then_goes (ConstraintCount First) (FromEachConstraint sig) 0 [] (refl, refl) (goes_constraints sig 0)
goes_constraint_count Second sig = then_goes (ConstraintCount Second) (FromEachConstraint sig) 0 (counted_line constraints_word 0 ∷ []) (omega arith, refl) (goes_constraints sig 0)

pub goes_rules : (v : Version) (sig : Signature) (n : ℕ) → Goes (FromEachRule v sig n)
goes_rules v sig n = then_goes (Rules sig n) (λ rs. FromConstraints v sig) (replicate n plain_rule) (item_lines (λ k. rule_body (names_of sig)) 1 (replicate n plain_rule)) (fill (IsRuleForm sig) (λ k. rule_body (names_of sig)) n plain_rule (some_rule sig)) (goes_constraint_count v sig)

pub goes_rule_count : (v : Version) (sig : Signature) → Goes (FromRules v sig)
goes_rule_count v sig = then_goes (Count rules_word 4096) (FromEachRule v sig) 0 (counted_line rules_word 0 ∷ []) (omega arith, refl) (goes_rules v sig 0)

abbrev pub plain_equation : Tree × Tree
plain_equation = (variable 0, variable 0)

pub goes_equations : (v : Version) (sig : Signature) (n : ℕ) → Goes (FromEachEquation v sig n)
goes_equations v sig n = then_goes (Equations sig n) (λ es. FromRules v sig) (replicate n plain_equation) (item_lines (λ k. equation_body (names_of sig)) 1 (replicate n plain_equation)) (fill (IsEquationWithinLimits sig) (λ k. equation_body (names_of sig)) n plain_equation (some_equation sig)) (goes_rule_count v sig)

pub goes_equation_count : (v : Version) (sig : Signature) → Goes (FromEquations v sig)
goes_equation_count v sig = then_goes (Count equations_word 256) (FromEachEquation v sig) 0 (counted_line equations_word 0 ∷ []) (omega arith, refl) (goes_equations v sig 0)

pub goes_symbols : (v : Version) → Goes (FromSymbols v)
goes_symbols v = then_goes Symbols (FromEquations v) [] (symbols_body [] ∷ []) (no_symbols, refl) (goes_equation_count v [])

-- ---- they are the lines of a system

abbrev pub lines_from_trace : List Name → List TraceStep → Lines
lines_from_trace names t = counted_line trace_word (length t) ∷ (item_lines (step_body names) 1 t ++ end_word ∷ [])

abbrev pub constraint_part : Version → List Name → List (Rule × ℕ) → Lines
constraint_part First names cs = []
constraint_part Second names cs = counted_line constraints_word (length cs) ∷ item_lines (λ k. rule_body names) 1 cs

abbrev pub lines_from_order : List Name → Certificate → List TraceStep → Lines
lines_from_order names c t = order_body names c ∷ lines_from_trace names t

abbrev pub lines_from_constraints : Version → List Name → Answer → Lines
lines_from_constraints v names a = constraint_part v names a.constraints ++ lines_from_order names a.cert a.trace

abbrev pub lines_from_rules : Version → List Name → Answer → Lines
lines_from_rules v names a = counted_line rules_word (length a.rules) ∷ (item_lines (λ k. rule_body names) 1 a.rules ++ lines_from_constraints v names a)

abbrev pub lines_from_equations : Version → List Name → Answer → Lines
lines_from_equations v names a = counted_line equations_word (length a.problem.equations) ∷ (item_lines (λ k. equation_body names) 1 a.problem.equations ++ lines_from_rules v names a)

abbrev pub system_lines : Version → Answer → Lines
system_lines v a = head_body v ∷ symbols_body a.problem.signature ∷ lines_from_equations v (names_of a.problem.signature) a

-- the lines of a system in a version
abbrev pub IsSystemLines : Lines → Type 0
IsSystemLines lines = (v : Version) × (a : Answer) × IsSystem a × IsInVersion v a × (lines ≡ system_lines v a)

constraints_in_order : (v : Version) (a : Answer) → IsSystem a → IsInVersion v a → FromOrder a.problem.signature (lines_from_order (names_of a.problem.signature) a.cert a.trace) → FromConstraints v a.problem.signature (lines_from_constraints v (names_of a.problem.signature) a)
constraints_in_order First a s i order = (0, [], lines_from_order (names_of a.problem.signature) a.cert a.trace, (refl, refl), ([], [], lines_from_order (names_of a.problem.signature) a.cert a.trace, (All-nil (IsRuleForm a.problem.signature), refl, refl), order, refl), refl)
constraints_in_order Second a s i order =
    let names = names_of a.problem.signature in
    let items = item_lines (λ k. rule_body names) 1 a.constraints in
    let rest = lines_from_order names a.cert a.trace in
    (length a.constraints, counted_line constraints_word (length a.constraints) ∷ [], items ++ rest, (s.form.constraint_count, refl), (a.constraints, items, rest, (s.form.constraints, refl, refl), order, refl), refl)

pub in_order : (lines : Lines) → IsSystemLines lines → FromHead lines
in_order lines (v, a, s, i, e) =
    let sig = a.problem.signature in
    let names = names_of sig in
    let es = a.problem.equations in
    let f = s.form in
    let items_t = item_lines (step_body names) 1 a.trace in
    let items_r = item_lines (λ k. rule_body names) 1 a.rules in
    let items_e = item_lines (λ k. equation_body names) 1 es in
    let end : FromEnd (end_word ∷ []) = (tt, end_word ∷ [], [], (tt, refl), refl, refl) in
    let steps : FromSteps sig (length a.trace) (items_t ++ end_word ∷ []) = (a.trace, items_t, end_word ∷ [], (f.trace.steps, refl, refl), end, refl) in
    let trace : FromTrace sig (lines_from_trace names a.trace) = (length a.trace, counted_line trace_word (length a.trace) ∷ [], items_t ++ end_word ∷ [], (f.trace.count, refl), steps, refl) in
    let order : FromOrder sig (lines_from_order names a.cert a.trace) = (a.cert, order_body names a.cert ∷ [], lines_from_trace names a.trace, (f.cert, refl), trace, refl) in
    let constraints = constraints_in_order v a s i order in
    let each_rule : FromEachRule v sig (length a.rules) (items_r ++ lines_from_constraints v names a) = (a.rules, items_r, lines_from_constraints v names a, (f.rules, refl, refl), constraints, refl) in
    let rules : FromRules v sig (lines_from_rules v names a) = (length a.rules, counted_line rules_word (length a.rules) ∷ [], items_r ++ lines_from_constraints v names a, (f.count, refl), each_rule, refl) in
    let each : FromEachEquation v sig (length es) (items_e ++ lines_from_rules v names a) = (es, items_e, lines_from_rules v names a, (f.problem.each, refl, refl), rules, refl) in
    let equations : FromEquations v sig (lines_from_equations v names a) = (length es, counted_line equations_word (length es) ∷ [], items_e ++ lines_from_rules v names a, (f.problem.count, refl), each, refl) in
    let symbols : FromSymbols v (symbols_body sig ∷ lines_from_equations v names a) = (sig, symbols_body sig ∷ [], lines_from_equations v names a, (record { names = s.signature; few = f.problem.symbols; arities = f.problem.arities }, refl), equations, refl) in
    (v, head_body v ∷ [], symbols_body sig ∷ lines_from_equations v names a, (tt, refl), symbols, e)

pub joined : (lines xs ys ps bs : Lines) → lines ≡ xs ++ ys → xs ≡ ps → ys ≡ bs → lines ≡ ps ++ bs
joined lines xs ys ps bs e x y = e ∙ ap₂ (λ (u v : Lines). u ++ v) x y

pub end_lines : (lines : Lines) → FromEnd lines → lines ≡ end_word ∷ []
end_lines lines (u, xs, ys, s, n, e) = joined lines xs ys (end_word ∷ []) [] e s.1 n

record TraceLines (sig : Signature) (lines : Lines) : Type 0 where
  trace : List TraceStep
  count : length trace ≤ 4096
  each : All (IsStepForm sig) trace
  lines_are : lines ≡ lines_from_trace (names_of sig) trace

trace_are : (sig : Signature) (lines : Lines) → FromTrace sig lines → TraceLines sig lines
trace_are sig lines (n, xs, ys, s, (t, us, vs, q, d, g), e) =
    let names = names_of sig in
    let long = q.1 in
    let low = s.0 in
    record {
      trace = t;
      count = omega arith;
      each = q.0;
      lines_are = joined lines xs ys (counted_line trace_word n ∷ []) (item_lines (step_body names) 1 t ++ end_word ∷ []) e s.1 (joined ys us vs (item_lines (step_body names) 1 t) (end_word ∷ []) g q.2 (end_lines vs d)) ∙ ap (λ k. counted_line trace_word k ∷ (item_lines (step_body names) 1 t ++ end_word ∷ [])) (sym long);
    }

record OrderLines (sig : Signature) (lines : Lines) : Type 0 where
  cert : Certificate
  trace : List TraceStep
  cert_is : IsTrue (is_certificate sig cert)
  steps : length trace ≤ 4096
  each_step : All (IsStepForm sig) trace
  lines_are : lines ≡ lines_from_order (names_of sig) cert trace

order_is : (sig : Signature) (lines : Lines) → FromOrder sig lines → OrderLines sig lines
order_is sig lines (c, xs, ys, o, d, e) =
    let names = names_of sig in
    let t = trace_are sig ys d in
    record {
      cert = c;
      trace = t.trace;
      cert_is = o.0;
      steps = t.count;
      each_step = t.each;
      lines_are = joined lines xs ys (order_body names c ∷ []) (lines_from_trace names t.trace) e o.1 t.lines_are;
    }

record ConstraintLines (v : Version) (sig : Signature) (lines : Lines) : Type 0 where
  constraints : List (Rule × ℕ)
  count : length constraints ≤ 4096
  each : All (IsRuleForm sig) constraints
  none : v ≡ First → constraints ≡ []
  order : Lines
  behind : OrderLines sig order
  lines_are : lines ≡ constraint_part v (names_of sig) constraints ++ order

no_members : {X : Type 0} (xs : List X) → length xs ≡ 0 → xs ≡ []
no_members [] e = refl
no_members (x ∷ xs) e = absurd (omega arith)

constraints_few : (v : Version) (n : ℕ) (lines : Lines) (cs : List (Rule × ℕ)) → ConstraintCount v n lines → length cs ≡ n → length cs ≤ 4096
constraints_few First n lines cs s long = let none = s.0 in omega arith
constraints_few Second n lines cs s long = let few = s.0 in omega arith

-- constraints that were read behind their count are none in version 1, and make up their part of the lines
pub constraints_read : (v : Version) (sig : Signature) (n : ℕ) (cs : List (Rule × ℕ)) (lines : Lines) → ConstraintCount v n lines → Rules sig n cs (item_lines (λ k. rule_body (names_of sig)) 1 cs)
    → (v ≡ First → cs ≡ []) × ((more : Lines) → lines ++ (item_lines (λ k. rule_body (names_of sig)) 1 cs ++ more) ≡ constraint_part v (names_of sig) cs ++ more)
constraints_read First sig n cs lines s q =
    let none : cs ≡ [] = no_members cs (q.1 ∙ s.0) in
    (λ p. none, λ more. ap₂ (λ (x y : Lines). x ++ (y ++ more)) s.1 (ap (item_lines (λ k. rule_body (names_of sig)) 1) none))
constraints_read Second sig n cs lines s q =
    (λ p. absurd (cc), λ more. ap (λ (x : Lines). x ++ (item_lines (λ k. rule_body (names_of sig)) 1 cs ++ more)) s.1 ∙ ap (λ k. counted_line constraints_word k ∷ (item_lines (λ j. rule_body (names_of sig)) 1 cs ++ more)) (sym q.1))

pub in_version : (v : Version) (a : Answer) → (v ≡ First → a.constraints ≡ []) → IsInVersion v a
in_version First a h = h refl
in_version Second a h = tt

constraints_are : (v : Version) (sig : Signature) (lines : Lines) → FromConstraints v sig lines → ConstraintLines v sig lines
constraints_are v sig lines (n, xs, ys, s, (cs, us, vs, q, d, g), e) =
    let r = constraints_read v sig n cs xs s (q.0, q.1, refl) in
    record {
      constraints = cs;
      count = constraints_few v n xs cs s q.1;
      each = q.0;
      none = r.0;
      order = vs;
      behind = order_is sig vs d;
      lines_are = joined lines xs ys xs (item_lines (λ k. rule_body (names_of sig)) 1 cs ++ vs) e refl (joined ys us vs (item_lines (λ k. rule_body (names_of sig)) 1 cs) vs g q.2 refl) ∙ r.1 vs;
    }

-- the parts of an answer behind its equations
record RuleLines (v : Version) (sig : Signature) (lines : Lines) : Type 0 where
  rules : List (Rule × ℕ)
  count : length rules ≤ 4096
  each : All (IsRuleForm sig) rules
  constraints : Lines
  behind : ConstraintLines v sig constraints
  lines_are : lines ≡ counted_line rules_word (length rules) ∷ (item_lines (λ k. rule_body (names_of sig)) 1 rules ++ constraints)

rules_are : (v : Version) (sig : Signature) (lines : Lines) → FromRules v sig lines → RuleLines v sig lines
rules_are v sig lines (n, xs, ys, s, (rs, us, vs, q, d, g), e) =
    let names = names_of sig in
    let long = q.1 in
    let low = s.0 in
    record {
      rules = rs;
      count = omega arith;
      each = q.0;
      constraints = vs;
      behind = constraints_are v sig vs d;
      lines_are = joined lines xs ys (counted_line rules_word n ∷ []) (item_lines (λ k. rule_body names) 1 rs ++ vs) e s.1 (joined ys us vs (item_lines (λ k. rule_body names) 1 rs) vs g q.2 refl) ∙ ap (λ k. counted_line rules_word k ∷ (item_lines (λ j. rule_body names) 1 rs ++ vs)) (sym long);
    }

pub from_order : (lines : Lines) → FromHead lines → IsSystemLines lines
from_order lines (v, xs, ys, s, (sig, ps, bs, y, (n, cs, ds, k, (es, fs, gs, q, d, g), h), m), e) =
    let names = names_of sig in
    let long = q.1 in
    let low = k.0 in
    let r = rules_are v sig gs d in
    let c = r.behind in
    let o = c.behind in
    let a : Answer = record { problem = record { signature = sig; equations = es }; rules = r.rules; constraints = c.constraints; cert = o.cert; trace = o.trace } in
    let from_constraints : r.constraints ≡ lines_from_constraints v names a = c.lines_are ∙ ap (constraint_part v names c.constraints ++◌) o.lines_are in
    let from_rules : gs ≡ lines_from_rules v names a = r.lines_are ∙ ap (λ (ls : Lines). counted_line rules_word (length r.rules) ∷ (item_lines (λ k. rule_body names) 1 r.rules ++ ls)) from_constraints in
    let items = item_lines (λ k. equation_body names) 1 es in
    let rest = lines_from_rules v names a in
    let equations = joined ds fs gs items rest g q.2 from_rules in
    let counted = joined bs cs ds (counted_line equations_word n ∷ []) (items ++ rest) h k.1 equations in
    let symbols = joined ys ps bs (symbols_body sig ∷ []) (counted_line equations_word n ∷ (items ++ rest)) m y.1 counted in
    let whole = joined lines xs ys (head_body v ∷ []) (symbols_body sig ∷ counted_line equations_word n ∷ (items ++ rest)) e s.1 symbols in (
      v,
      a,
      record {
        signature = y.0.names;
        form = record {
          problem = record { symbols = y.0.few; arities = y.0.arities; count = omega arith; each = q.0 };
          count = r.count;
          rules = r.each;
          constraint_count = c.count;
          constraints = c.each;
          cert = o.cert_is;
          trace = record { count = o.steps; steps = o.each_step };
        };
      },
      in_version v a c.none,
      whole ∙ ap (λ j. head_body v ∷ symbols_body sig ∷ counted_line equations_word j ∷ (items ++ rest)) (sym long),
    )

-- ---- their text

equation_texts : (names : List Name) (k : ℕ) (es : List (Tree × Tree)) → flat_map (equation_line names) es ≡ text_of (item_lines (λ k. equation_body names) k es)
equation_texts names k [] = refl
equation_texts names k (e ∷ es) = append_assoc (equation_body names e) (10 ∷ []) (flat_map (equation_line names) es) ∙ ap (λ (t : List ℕ). equation_body names e ++ 10 ∷ t) (equation_texts names (k + 1) es)

rule_texts : (names : List Name) (k : ℕ) (rs : List (Rule × ℕ)) → flat_map (rule_line names) rs ≡ text_of (item_lines (λ k. rule_body names) k rs)
rule_texts names k [] = refl
rule_texts names k (r ∷ rs) = append_assoc (rule_body names r) (10 ∷ []) (flat_map (rule_line names) rs) ∙ ap (λ (t : List ℕ). rule_body names r ++ 10 ∷ t) (rule_texts names (k + 1) rs)

-- a line, lines of items and what is behind them
lines_and : (body flat rest : List ℕ) (items more : Lines) → flat ≡ text_of items → rest ≡ text_of more → ((body ++ 10 ∷ []) ++ flat) ++ rest ≡ body ++ 10 ∷ text_of (items ++ more)
lines_and body flat rest items more f e =
    append_assoc (body ++ 10 ∷ []) flat rest ∙ line_and body (flat ++ rest) (text_of (items ++ more)) (ap₂ (λ (x y : List ℕ). x ++ y) f e ∙ sym (text_of-append items more))

all_right : (h s e r k o c t n : List ℕ) → h ++ s ++ e ++ r ++ k ++ o ++ c ++ t ++ n ≡ h ++ (s ++ (e ++ (r ++ (k ++ (o ++ (c ++ (t ++ n)))))))
all_right h s e r k o c t n =
    append_assoc (h ++ s ++ e ++ r ++ k ++ o ++ c) t n ∙ append_assoc (h ++ s ++ e ++ r ++ k ++ o) c (t ++ n) ∙ append_assoc (h ++ s ++ e ++ r ++ k) o (c ++ (t ++ n))
    ∙ append_assoc (h ++ s ++ e ++ r) k (o ++ (c ++ (t ++ n))) ∙ append_assoc (h ++ s ++ e) r (k ++ (o ++ (c ++ (t ++ n)))) ∙ append_assoc (h ++ s) e (r ++ (k ++ (o ++ (c ++ (t ++ n))))) ∙ append_assoc h s (e ++ (r ++ (k ++ (o ++ (c ++ (t ++ n))))))

-- constraints and what is behind them
constraints_and : (v : Version) (names : List Name) (cs : List (Rule × ℕ)) (rest : List ℕ) (more : Lines) → rest ≡ text_of more → constraint_lines v names cs ++ rest ≡ text_of (constraint_part v names cs ++ more)
constraints_and First names cs rest more e = e
constraints_and Second names cs rest more e = lines_and (counted_line constraints_word (length cs)) (flat_map (rule_line names) cs) rest (item_lines (λ k. rule_body names) 1 cs) more (rule_texts names 1 cs) e

head_and : (v : Version) (rest more : List ℕ) → rest ≡ more → head_line v ++ rest ≡ head_body v ++ 10 ∷ more
head_and First rest more e = ap (head_line First ++◌) e
head_and Second rest more e = ap (head_line Second ++◌) e

pub text_is : (v : Version) (a : Answer) → system_text v a ≡ text_of (system_lines v a)
text_is v a =
    all_right (head_line v) (symbols_line sig) (equation_lines a.problem) (rule_lines (codes "RULES") names a.rules) (constraint_lines v names a.constraints) (order_line names a.cert) (counted (codes "TRACE") (length a.trace)) (trace_text sig a.trace) end_line
    ∙ head_and v _ _ (line_and (symbols_body sig) _ _ equations)
  where
    sig : Signature
    sig = a.problem.signature

    names : List Name
    names = names_of sig

    steps : trace_text sig a.trace ++ end_line ≡ text_of (item_lines (step_body names) 1 a.trace ++ end_word ∷ [])
    steps = ap (λ (t : List ℕ). t ++ end_line) (trace_lines names 1 a.trace) ∙ sym (text_of-append (item_lines (step_body names) 1 a.trace) (end_word ∷ []))

    trace : counted (codes "TRACE") (length a.trace) ++ (trace_text sig a.trace ++ end_line) ≡ text_of (lines_from_trace names a.trace)
    trace = line_and (counted_line trace_word (length a.trace)) (trace_text sig a.trace ++ end_line) (text_of (item_lines (step_body names) 1 a.trace ++ end_word ∷ [])) steps

    order : order_line names a.cert ++ (counted (codes "TRACE") (length a.trace) ++ (trace_text sig a.trace ++ end_line)) ≡ text_of (lines_from_order names a.cert a.trace)
    order = line_and (order_body names a.cert) _ (text_of (lines_from_trace names a.trace)) trace

    constraints : constraint_lines v names a.constraints ++ (order_line names a.cert ++ (counted (codes "TRACE") (length a.trace) ++ (trace_text sig a.trace ++ end_line))) ≡ text_of (lines_from_constraints v names a)
    constraints = constraints_and v names a.constraints _ (lines_from_order names a.cert a.trace) order

    rules : rule_lines (codes "RULES") names a.rules ++ (constraint_lines v names a.constraints ++ (order_line names a.cert ++ (counted (codes "TRACE") (length a.trace) ++ (trace_text sig a.trace ++ end_line)))) ≡ text_of (lines_from_rules v names a)
    rules = lines_and (counted_line rules_word (length a.rules)) (flat_map (rule_line names) a.rules) _ (item_lines (λ k. rule_body names) 1 a.rules) (lines_from_constraints v names a) (rule_texts names 1 a.rules) constraints

    equations : equation_lines a.problem ++ (rule_lines (codes "RULES") names a.rules ++ (constraint_lines v names a.constraints ++ (order_line names a.cert ++ (counted (codes "TRACE") (length a.trace) ++ (trace_text sig a.trace ++ end_line)))))
        ≡ text_of (lines_from_equations v names a)
    equations = lines_and (counted_line equations_word (length a.problem.equations)) (flat_map (equation_line names) a.problem.equations) _ (item_lines (λ k. equation_body names) 1 a.problem.equations) (lines_from_rules v names a) (equation_texts names 1 a.problem.equations) rules

-- ---- no line holds a line feed

counted_without : (word : List ℕ) (n : ℕ) → IsWithout 10 word → n ≤ 4096 → IsWithout 10 (counted_line word n)
counted_without word n w h = without-append 10 word (decimal n) w (decimal_without 10 n (omega arith) (omega arith))

without_of : (v : Version) (a : Answer) → IsSystem a → AreWithout 10 (system_lines v a)
without_of v a s =
    let sig = a.problem.signature in
    let names = names_of sig in
    let i = s.signature in
    let f = s.form in
    let count_e = f.problem.count in
    let count_t = f.trace.count in
    let items_t = items_without (IsStepForm sig) (step_body names) 1 a.trace (step_without sig i) f.trace.steps (omega arith) in
    let items_r = items_without (IsRuleForm sig) (λ k. rule_body names) 1 a.rules (λ k r l q. rule_without sig i r q) f.rules (let count = f.count in omega arith) in
    let items_e = items_without (IsEquationWithinLimits sig) (λ k. equation_body names) 1 a.problem.equations (λ k e l q. equation_without sig i e q) f.problem.each (omega arith) in
    let symbols = symbols_without sig (record { names = i; few = f.problem.symbols; arities = f.problem.arities }) in
    let order : AreWithout 10 (lines_from_order names a.cert a.trace) = (order_without sig i a.cert f.cert, (counted_without trace_word (length a.trace) trace_without f.trace.count, are_without-append 10 (item_lines (step_body names) 1 a.trace) (end_word ∷ []) items_t (end_without, tt))) in (
      head_without v,
      (
        symbols,
        (
          counted_without equations_word (length a.problem.equations) equations_without (omega arith),
          are_without-append 10 (item_lines (λ k. equation_body names) 1 a.problem.equations) (lines_from_rules v names a) items_e (
            counted_without rules_word (length a.rules) rules_without f.count,
            are_without-append 10 (item_lines (λ k. rule_body names) 1 a.rules) (lines_from_constraints v names a) items_r (are_without-append 10 (constraint_part v names a.constraints) (lines_from_order names a.cert a.trace) (part v) order),
          ),
        ),
      ),
    )
  where
    part : (v : Version) → AreWithout 10 (constraint_part v (names_of a.problem.signature) a.constraints)
    part First = tt
    part Second = (
      counted_without constraints_word (length a.constraints) constraints_without s.form.constraint_count,
      items_without (IsRuleForm a.problem.signature) (λ k. rule_body (names_of a.problem.signature)) 1 a.constraints (λ k r l q. rule_without a.problem.signature s.signature r q) s.form.constraints (let count = s.form.constraint_count in omega arith),
    )

pub lines_without : (lines : Lines) → IsSystemLines lines → AreWithout 10 lines
lines_without lines (v, a, s, i, e) = subst (AreWithout 10) (sym e) (without_of v a s)

-- ---- one answer

record AreSame (a b : Answer) : Type 0 where
  equations : a.problem.equations ≡ b.problem.equations
  rules : a.rules ≡ b.rules
  constraints : a.constraints ≡ b.constraints
  cert : a.cert ≡ b.cert
  trace : a.trace ≡ b.trace

abbrev answer_over : Signature → Answer → Answer
answer_over sig b = record { problem = record { signature = sig; equations = b.problem.equations }; rules = b.rules; constraints = b.constraints; cert = b.cert; trace = b.trace }

same_lines_back : (xs ys zs ws : Lines) → xs ≡ ys → xs ++ zs ≡ ys ++ ws → zs ≡ ws
same_lines_back xs ys zs ws s e = append_cancel_left xs zs ws (e ∙ ap (λ (l : Lines). l ++ ws) (sym s))

-- rules behind how many there are
same_rules : (word : List ℕ) → IsWithout 10 word → (sig : Signature) → IsSignature sig → (rs qs : List (Rule × ℕ)) (zs ws : Lines) → length rs ≤ 4096 → length qs ≤ 4096 → All (IsRuleForm sig) rs → All (IsRuleForm sig) qs
    → counted_line word (length rs) ∷ (item_lines (λ k. rule_body (names_of sig)) 1 rs ++ zs) ≡ counted_line word (length qs) ∷ (item_lines (λ k. rule_body (names_of sig)) 1 qs ++ ws) → (rs ≡ qs) × (zs ≡ ws)
same_rules word w sig i rs qs zs ws few low f g e =
    let count = (count_section word 4096 (omega arith) w).one (length rs) (length qs) _ _ _ _ (few, refl) (low, refl) e in
    let same = (rules_section sig i (length qs) (omega arith)).one rs qs _ _ _ _ (f, count.0, refl) (g, refl, refl) (ap (drop 1) e) in
    (same.0, same_lines_back _ _ _ _ same.1 (ap (drop 1) e))

same_constraints : (v : Version) (sig : Signature) → IsSignature sig → (a b : Answer) → IsInVersion v a → IsInVersion v b → IsAnswer (answer_over sig a) → IsAnswer (answer_over sig b) → (zs ws : Lines)
    → constraint_part v (names_of sig) a.constraints ++ zs ≡ constraint_part v (names_of sig) b.constraints ++ ws → (a.constraints ≡ b.constraints) × (zs ≡ ws)
same_constraints First sig i a b p q f g zs ws e = (p ∙ sym q, e)
same_constraints Second sig i a b p q f g zs ws e = same_rules constraints_word constraints_without sig i a.constraints b.constraints zs ws f.constraint_count g.constraint_count f.constraints g.constraints e

over_one : (v : Version) (sig : Signature) → IsSignature sig → (a b : Answer) → IsInVersion v a → IsInVersion v b → IsAnswer (answer_over sig a) → IsAnswer (answer_over sig b) → system_lines v (answer_over sig a) ≡ system_lines v (answer_over sig b) → AreSame a b
over_one v sig i a b p q f g e =
    let names = names_of sig in
    let f_equations = f.problem.count in
    let f_steps = f.trace.count in
    let g_equations = g.problem.count in
    let g_steps = g.trace.count in
    let from_count : lines_from_equations v names a ≡ lines_from_equations v names b = ap (drop 2) e in
    let count_e = (count_section equations_word 256 (omega arith) equations_without).one (length a.problem.equations) (length b.problem.equations) _ _ _ _ (f_equations, refl) (g_equations, refl) from_count in
    let same_e = (equations_section sig i (length b.problem.equations) (omega arith)).one a.problem.equations b.problem.equations _ _ _ _ (f.problem.each, count_e.0, refl) (g.problem.each, refl, refl) (ap (drop 1) from_count) in
    let from_rules : lines_from_rules v names a ≡ lines_from_rules v names b = same_lines_back _ _ _ _ same_e.1 (ap (drop 1) from_count) in
    let same_r = same_rules rules_word rules_without sig i a.rules b.rules _ _ f.count g.count f.rules g.rules from_rules in
    let same_k = same_constraints v sig i a b p q f g (lines_from_order names a.cert a.trace) (lines_from_order names b.cert b.trace) same_r.1 in
    let same_c = (order_section sig i).one a.cert b.cert _ _ _ _ (f.cert, refl) (g.cert, refl) same_k.1 in
    let from_trace : lines_from_trace names a.trace ≡ lines_from_trace names b.trace = ap (drop 1) same_k.1 in
    let count_t = (count_section trace_word 4096 (omega arith) trace_without).one (length a.trace) (length b.trace) _ _ _ _ (f_steps, refl) (g_steps, refl) from_trace in
    let same_t = (steps_section sig i (length b.trace) (omega arith)).one a.trace b.trace _ _ _ _ (f.trace.steps, count_t.0, refl) (g.trace.steps, refl, refl) (ap (drop 1) from_trace) in
    record { equations = same_e.0; rules = same_r.0; constraints = same_k.0; cert = same_c.0; trace = same_t.0 }

one_in_version : (v : Version) (a b : Answer) → IsSystem a → IsSystem b → IsInVersion v a → IsInVersion v b → system_lines v a ≡ system_lines v b → a ≡ b
one_in_version v a b s t p q e =
    let sa = a.problem.signature in
    let sb = b.problem.signature in
    let sigs : sa ≡ sb = one_symbols sa sb (record { names = s.signature; few = s.form.problem.symbols; arities = s.form.problem.arities }) (record { names = t.signature; few = t.form.problem.symbols; arities = t.form.problem.arities }) (ap (λ (ls : Lines). get_or ls 1 []) e) in
    let r = over_one v sa s.signature a b p q s.form (subst (λ (x : Signature). IsAnswer (answer_over x b)) (sym sigs) t.form) (e ∙ ap (λ (x : Signature). system_lines v (answer_over x b)) (sym sigs)) in
    let es = r.equations in
    let rs = r.rules in
    let ks = r.constraints in
    let c = r.cert in
    let u = r.trace in
    λ i. record { problem = record { signature = sigs i; equations = es i }; rules = rs i; constraints = ks i; cert = c i; trace = u i }

pub one_answer : (v w : Version) (a b : Answer) → IsSystem a → IsSystem b → IsInVersion v a → IsInVersion w b → system_lines v a ≡ system_lines w b → a ≡ b
one_answer v w a b s t p q e =
    let same : v ≡ w = one_head v w (ap (λ (ls : Lines). get_or ls 0 []) e) in
    one_in_version w a b s t (subst {A = Version} (λ x. IsInVersion x a) same p) q (ap (λ (x : Version). system_lines x a) (sym same) ∙ e)

pub one_spelled : (bytes : List ℕ) (a b : Answer) → IsTextOf bytes a → IsTextOf bytes b → a ≡ b
one_spelled bytes a b s t =
    one_answer s.version t.version a b s.form t.form s.is_in t.is_in (same_lines (system_lines s.version a) (system_lines t.version b) (without_of s.version a s.form) (without_of t.version b t.form) (sym (text_is s.version a) ∙ sym s.spelling ∙ t.spelling ∙ text_is t.version b))

-- what is written is a text of version 2
pub written_is_read : (bytes : List ℕ) (a : Answer) → AnswerSpelled bytes a → IsTextOf bytes a
written_is_read bytes a s = record { version = Second; form = s.form; is_in = tt; spelling = s.spelling }

-- ---- the first bad line of a text of a system

to_text : (text : List ℕ) → IsText IsSystemLines text → IsSystemText text
to_text text (lines, (v, a, s, i, e), t) = (a, record { version = v; form = s; is_in = i; spelling = t ∙ ap text_of e ∙ sym (text_is v a) })

from_text : (text : List ℕ) → IsSystemText text → IsText IsSystemLines text
from_text text (a, s) = (system_lines s.version a, (s.version, a, s.form, s.is_in, refl), s.spelling ∙ text_is s.version a)

pub bad_system_line : (text : List ℕ) (n : ℕ) → IsBadLine (IsText IsSystemLines) text n → IsBadLine IsSystemText text n
bad_system_line text n b = record {
  from_one = b.from_one;
  before = to (n - 1) b.before;
  with_it = λ k. b.with_it (back k);
  not_whole = λ s. b.not_whole (from_text text s);
}
  where
    to : (m : ℕ) → Begins (IsText IsSystemLines) text m → Begins IsSystemText text m
    to m (whole, front, form, e, d) = (whole, front, to_text whole form, e, d)

    back : Begins IsSystemText text n → Begins (IsText IsSystemLines) text n
    back (whole, front, form, e, d) = (whole, front, from_text whole form, e, d)
