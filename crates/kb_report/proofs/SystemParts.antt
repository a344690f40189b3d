-- The parts of the text of a system, of several sections each.
use Rattle.std.proofs.Common.{append_assoc, ◌≡◌, refl, ap, ap₂, sym, ◌∙◌, arith, ℕ, ◌≤◌, List, [], ◌∷◌, ◌++◌, length}
use Rattle.std.specs.Prelude.{replicate}
use Rattle.kb_term.specs.Rule.{Rule}
use Rattle.kb_term.specs.Signature.{Signature, IsSignature, IsEquationWithinLimits}
use Rattle.kb_term.specs.Tree.{Tree}
use Rattle.kb_text.specs.Terms.{names_of}
use Rattle.kb_cert.specs.declared.certificate.Certificate.{Certificate}
use Rattle.kb_overlap.specs.Trace.{TraceStep}
use Rattle.kb_trace.specs.TraceText.{IsStepForm}
use Rattle.kb_checker.specs.Answers.{Answer, IsRuleForm}
use Rattle.kb_report.specs.Answers.{IsSystem, IsTextOf}
use Rattle.kb_report.specs.declared.version.Version.{Version}
use Rattle.kb_report.specs.declared.version.Version.TheVariants.{First, Second}
use Rattle.kb_report.specs.Sections.{Lines, text_of, item_lines, counted_line, Count}
use Rattle.kb_report.specs.SystemSections.{head_body, symbols_body, equation_body, rule_body, order_body, step_body, Head, Symbols, Equations, Rules, ConstraintCount, Order, Steps, CountedEquations, CountedRules, CountedConstraints, CountedSteps, ProblemPart, OrderPart, ConstraintPart, RulePart}
use Rattle.kb_report.proofs.Fronts.{IsSection, Then}
use Rattle.kb_report.proofs.BothSections.{HasSome, both_section, both_some, from_both, read_as, then_as, to_both}
use Rattle.kb_report.proofs.OrderLines.{some_cert}
use Rattle.kb_report.proofs.Reading.{Reads}
use Rattle.kb_report.proofs.SidesRead.{some_equation, some_rule}
use Rattle.kb_report.proofs.StepsRead.{plain_step, some_step}
use Rattle.kb_report.proofs.SystemForm.{FromConstraints, FromEnd, FromEquations, FromOrder, FromRules, FromSymbols, FromTrace, constraint_count_section, constraint_part, constraints_read, constraints_word, count_section, end_word, equations_section, equations_without, equations_word, fill, in_version, joined, order_section, plain_equation, plain_rule, rules_section, rules_without, rules_word, steps_section, symbols_section, text_is, trace_without, trace_word}

-- ---- each tells its value and its end

pub counted_equations_section : (sig : Signature) → IsSignature sig → IsSection (CountedEquations sig)
counted_equations_section sig i = both_section (Count equations_word 256) (Equations sig) (count_section equations_word 256 (omega arith) equations_without) (λ n xs s. let few = s.0 in equations_section sig i n (omega arith))

pub problem_section : IsSection ProblemPart
problem_section = both_section Symbols CountedEquations symbols_section (λ sig xs s. counted_equations_section sig s.0.names)

pub counted_rules_section : (sig : Signature) → IsSignature sig → IsSection (CountedRules sig)
counted_rules_section sig i = both_section (Count rules_word 4096) (Rules sig) (count_section rules_word 4096 (omega arith) rules_without) (λ n xs s. let few = s.0 in rules_section sig i n (omega arith))

pub few_constraints : (v : Version) (n : ℕ) (lines : Lines) → ConstraintCount v n lines → n ≤ 4096
few_constraints First n lines s = let none = s.0 in omega arith
few_constraints Second n lines s = s.0

pub counted_constraints_section : (v : Version) (sig : Signature) → IsSignature sig → IsSection (CountedConstraints v sig)
counted_constraints_section v sig i = both_section (ConstraintCount v) (Rules sig) (constraint_count_section v) (λ n xs s. let few = few_constraints v n xs s in rules_section sig i n (omega arith))

pub counted_steps_section : (sig : Signature) → IsSignature sig → IsSection (CountedSteps sig)
counted_steps_section sig i = both_section (Count trace_word 4096) (Steps sig) (count_section trace_word 4096 (omega arith) trace_without) (λ n xs s. let few = s.0 in steps_section sig i n (omega arith))

pub order_part_section : (sig : Signature) → IsSignature sig → IsSection (OrderPart sig)
order_part_section sig i = both_section (Order sig) (λ c. CountedSteps sig) (order_section sig i) (λ c xs s. counted_steps_section sig i)

pub constraint_part_section : (v : Version) (sig : Signature) → IsSignature sig → IsSection (ConstraintPart v sig)
constraint_part_section v sig i = both_section (CountedConstraints v sig) (λ cs. OrderPart sig) (counted_constraints_section v sig i) (λ cs xs s. order_part_section sig i)

pub rule_part_section : (v : Version) (sig : Signature) → IsSignature sig → IsSection (RulePart v sig)
rule_part_section v sig i = both_section (CountedRules sig) (λ rs. ConstraintPart v sig) (counted_rules_section sig i) (λ rs xs s. constraint_part_section v sig i)

-- ---- each has some value

pub some_equations : (sig : Signature) (n : ℕ) → HasSome (Equations sig n)
some_equations sig n = (replicate n plain_equation, item_lines (λ k. equation_body (names_of sig)) 1 (replicate n plain_equation), fill (IsEquationWithinLimits sig) (λ k. equation_body (names_of sig)) n plain_equation (some_equation sig))

pub some_rules : (sig : Signature) (n : ℕ) → HasSome (Rules sig n)
some_rules sig n = (replicate n plain_rule, item_lines (λ k. rule_body (names_of sig)) 1 (replicate n plain_rule), fill (IsRuleForm sig) (λ k. rule_body (names_of sig)) n plain_rule (some_rule sig))

pub some_steps : (sig : Signature) (n : ℕ) → HasSome (Steps sig n)
some_steps sig n = (replicate n plain_step, item_lines (step_body (names_of sig)) 1 (replicate n plain_step), fill (IsStepForm sig) (step_body (names_of sig)) n plain_step (some_step sig))

pub some_counted_equations : (sig : Signature) → HasSome (CountedEquations sig)
some_counted_equations sig = both_some (Count equations_word 256) (Equations sig) (0, counted_line equations_word 0 ∷ [], (omega arith, refl)) (λ n xs s. some_equations sig n)

pub some_counted_steps : (sig : Signature) → HasSome (CountedSteps sig)
some_counted_steps sig = both_some (Count trace_word 4096) (Steps sig) (0, counted_line trace_word 0 ∷ [], (omega arith, refl)) (λ n xs s. some_steps sig n)

pub some_order_part : (sig : Signature) → HasSome (OrderPart sig)
some_order_part sig = let c = some_cert sig in both_some (Order sig) (λ c. CountedSteps sig) (c.0, order_body (names_of sig) c.0 ∷ [], (c.1, refl)) (λ c xs s. some_counted_steps sig)

some_constraint_count : (v : Version) → HasSome (ConstraintCount v)
some_constraint_count First = (0, [], (refl, refl))
some_constraint_count Second = (0, counted_line constraints_word 0 ∷ [], (omega arith, refl))

pub some_constraint_part : (v : Version) (sig : Signature) → HasSome (ConstraintPart v sig)
some_constraint_part v sig = both_some (CountedConstraints v sig) (λ cs. OrderPart sig) (both_some (ConstraintCount v) (Rules sig) (some_constraint_count v) (λ n xs s. some_rules sig n)) (λ cs xs s. some_order_part sig)

-- ---- in the text of a system

pub from_problem : {text rest : List ℕ} {number : ℕ} (v : Version) → Reads text rest number (FromSymbols v) → Reads text rest number (Then ProblemPart (λ p. FromRules v p.0))
from_problem v r = read_as to back r
  where
    to : (lines : Lines) → FromSymbols v lines → Then ProblemPart (λ p. FromRules v p.0) lines
    to lines t = to_both Symbols CountedEquations (λ sig p. FromRules v sig) lines (then_as Symbols (FromEquations v) (λ sig. Then (CountedEquations sig) (λ p. FromRules v sig)) (λ sig. to_both (Count equations_word 256) (Equations sig) (λ n es. FromRules v sig)) lines t)

    back : (lines : Lines) → Then ProblemPart (λ p. FromRules v p.0) lines → FromSymbols v lines
    back lines t = then_as Symbols (λ sig. Then (CountedEquations sig) (λ p. FromRules v sig)) (FromEquations v) (λ sig. from_both (Count equations_word 256) (Equations sig) (λ n es. FromRules v sig)) lines (from_both Symbols CountedEquations (λ sig p. FromRules v sig) lines t)

abbrev ThenEnd : {X : Type 0} → (X → Lines → Type 0) → Lines → Type 0
ThenEnd S = Then S (λ x. FromEnd)

to_order_part : (sig : Signature) (lines : Lines) → FromOrder sig lines → ThenEnd (OrderPart sig) lines
to_order_part sig lines t = to_both (Order sig) (λ c. CountedSteps sig) (λ c p. FromEnd) lines (then_as (Order sig) (λ c. FromTrace sig) (λ c. ThenEnd (CountedSteps sig)) (λ c. to_both (Count trace_word 4096) (Steps sig) (λ n s. FromEnd)) lines t)

from_order_part : (sig : Signature) (lines : Lines) → ThenEnd (OrderPart sig) lines → FromOrder sig lines
from_order_part sig lines t = then_as (Order sig) (λ c. ThenEnd (CountedSteps sig)) (λ c. FromTrace sig) (λ c. from_both (Count trace_word 4096) (Steps sig) (λ n s. FromEnd)) lines (from_both (Order sig) (λ c. CountedSteps sig) (λ c p. FromEnd) lines t)

to_constraint_part : (v : Version) (sig : Signature) (lines : Lines) → FromConstraints v sig lines → ThenEnd (ConstraintPart v sig) lines
to_constraint_part v sig lines t =
    to_both (CountedConstraints v sig) (λ cs. OrderPart sig) (λ cs p. FromEnd) lines
    (then_as (CountedConstraints v sig) (λ cs. FromOrder sig) (λ cs. ThenEnd (OrderPart sig)) (λ cs. to_order_part sig) lines (to_both (ConstraintCount v) (Rules sig) (λ n cs. FromOrder sig) lines t))

from_constraint_part : (v : Version) (sig : Signature) (lines : Lines) → ThenEnd (ConstraintPart v sig) lines → FromConstraints v sig lines
from_constraint_part v sig lines t =
    from_both (ConstraintCount v) (Rules sig) (λ n cs. FromOrder sig) lines
    (then_as (CountedConstraints v sig) (λ cs. ThenEnd (OrderPart sig)) (λ cs. FromOrder sig) (λ cs. from_order_part sig) lines (from_both (CountedConstraints v sig) (λ cs. OrderPart sig) (λ cs p. FromEnd) lines t))

pub from_rules : {text rest : List ℕ} {number : ℕ} (v : Version) (sig : Signature) → Reads text rest number (FromRules v sig) → Reads text rest number (ThenEnd (RulePart v sig))
from_rules v sig r = read_as to back r
  where
    to : (lines : Lines) → FromRules v sig lines → ThenEnd (RulePart v sig) lines
    to lines t =
        to_both (CountedRules sig) (λ rs. ConstraintPart v sig) (λ rs p. FromEnd) lines
        (then_as (CountedRules sig) (λ rs. FromConstraints v sig) (λ rs. ThenEnd (ConstraintPart v sig)) (λ rs. to_constraint_part v sig) lines (to_both (Count rules_word 4096) (Rules sig) (λ n rs. FromConstraints v sig) lines t))

    back : (lines : Lines) → ThenEnd (RulePart v sig) lines → FromRules v sig lines
    back lines t =
        from_both (Count rules_word 4096) (Rules sig) (λ n rs. FromConstraints v sig) lines
        (then_as (CountedRules sig) (λ rs. ThenEnd (ConstraintPart v sig)) (λ rs. FromConstraints v sig) (λ rs. from_constraint_part v sig) lines (from_both (CountedRules sig) (λ rs. ConstraintPart v sig) (λ rs p. FromEnd) lines t))

-- ---- the answer that the parts spell

abbrev pub answer_from : Signature → List (Tree × Tree) → List (Rule × ℕ) → List (Rule × ℕ) → Certificate → List TraceStep → Answer
answer_from sig es rs cs cert ts = record { problem = record { signature = sig; equations = es }; rules = rs; constraints = cs; cert = cert; trace = ts }

problem_lines : (sig : Signature) (n : ℕ) (es : List (Tree × Tree)) (lines : Lines) → ProblemPart (sig, (n, es)) lines → lines ≡ symbols_body sig ∷ counted_line equations_word n ∷ item_lines (λ k. equation_body (names_of sig)) 1 es
problem_lines sig n es lines (f, b, s, (g, c, k, q, h), e) =
    let items = item_lines (λ k. equation_body (names_of sig)) 1 es in
    joined lines f b (symbols_body sig ∷ []) (counted_line equations_word n ∷ items) e s.1 (joined b g c (counted_line equations_word n ∷ []) items h k.1 q.2)

pub parts_read : (bytes : List ℕ) (v : Version) (sig : Signature) (n m j k : ℕ) (es : List (Tree × Tree)) (rs cs : List (Rule × ℕ)) (cert : Certificate) (ts : List TraceStep) (heads problem rules : Lines) → Head v heads → ProblemPart (sig, (n, es)) problem → RulePart v sig ((m, rs), ((j, cs), (cert, (k, ts)))) rules
    → bytes ≡ text_of (heads ++ (problem ++ (rules ++ end_word ∷ []))) → IsTextOf bytes (answer_from sig es rs cs cert ts)
parts_read bytes v sig n m j k es rs cs cert ts heads problem rules head p (f1, b1, (fr, br, sr, qr, er), (f2, b2, (fc, bc, sc, qc, ec), (f3, b3, so, (ft, bt, st, qt, et), eo), e2), e1) e =
    let names = names_of sig in
    let items_t = item_lines (step_body names) 1 ts in
    let items_c = item_lines (λ j. rule_body names) 1 cs in
    let items_r = item_lines (λ j. rule_body names) 1 rs in
    let items_e = item_lines (λ j. equation_body names) 1 es in
    let end : Lines = end_word ∷ [] in
    let behind_order : Lines = order_body names cert ∷ counted_line trace_word k ∷ items_t in
    let l1 : f1 ≡ counted_line rules_word m ∷ items_r = joined f1 fr br (counted_line rules_word m ∷ []) items_r er sr.1 qr.2 in
    let l2 : f2 ≡ fc ++ items_c = ec ∙ ap (fc ++◌) qc.2 in
    let l3 : b2 ≡ behind_order = joined b2 f3 b3 (order_body names cert ∷ []) (counted_line trace_word k ∷ items_t) eo so.1 (joined b3 ft bt (counted_line trace_word k ∷ []) items_t et st.1 qt.2) in
    let part = constraints_read v sig j cs fc sc (qc.0, qc.1, refl) in
    let constraints : f2 ++ (b2 ++ end) ≡ constraint_part v names cs ++ (behind_order ++ end) =
    ap₂ (λ (x y : Lines). x ++ (y ++ end)) l2 l3 ∙ append_assoc fc items_c (behind_order ++ end) ∙ part.1 (behind_order ++ end) in
    let rule_lines : rules ++ end ≡ (counted_line rules_word m ∷ items_r) ++ (constraint_part v names cs ++ (behind_order ++ end)) =
    ap (λ (x : Lines). x ++ end) e1 ∙ append_assoc f1 b1 end ∙ ap (f1 ++◌) (ap (λ (x : Lines). x ++ end) e2 ∙ append_assoc f2 b2 end ∙ constraints) ∙ ap (λ (x : Lines). x ++ (constraint_part v names cs ++ (behind_order ++ end))) l1 in
    let whole = e ∙ ap text_of (ap₂ (λ (x y : Lines). x ++ y) head.1 (ap₂ (λ (x y : Lines). x ++ y) (problem_lines sig n es problem p) rule_lines)) in
    let symbols = p.2 in
    let equations = p.3 in
    let few_n = equations.2.0 in
    let few_m = sr.0 in
    let few_j = few_constraints v j fc sc in
    let few_k = st.0 in
    let long_n = equations.3.1 in
    let long_m = qr.1 in
    let long_j = qc.1 in
    let long_k = qt.1 in
    let counts = λ (x y z : ℕ). text_of (head_body v ∷ symbols_body sig ∷ counted_line equations_word x ∷ (items_e ++ counted_line rules_word y ∷ (items_r ++ (constraint_part v names cs ++ order_body names cert ∷ counted_line trace_word z ∷ (items_t ++ end_word ∷ []))))) in
    let lengths : counts n m k ≡ counts (length es) (length rs) (length ts) = λ i. counts (sym long_n i) (sym long_m i) (sym long_k i) in
    let a : Answer = answer_from sig es rs cs cert ts in
    let form : IsSystem a = record {
      signature = symbols.0.names;
      form = record {
        problem = record { symbols = symbols.0.few; arities = symbols.0.arities; count = omega arith; each = equations.3.0 };
        count = omega arith;
        rules = qr.0;
        constraint_count = omega arith;
        constraints = qc.0;
        cert = so.0;
        trace = record { count = omega arith; steps = qt.0 };
      };
    } in
    record { version = v; form = form; is_in = in_version v a part.0; spelling = whole ∙ lengths ∙ sym (text_is v a) }
