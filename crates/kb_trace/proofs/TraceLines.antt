-- The text of a trace decides the trace, and a text that isn't one has a first line that is no step's.
use Rattle.std.proofs.Common.{append-nil, append_assoc, ◌≡◌, refl, ap, ap₂, sym, ◌∙◌, subst, arith, ℕ, zero, suc, ◌+◌, ◌-◌, ◌<◌, ◌≤◌, ◌==◌, ◌^◌, List, [], ◌∷◌, ◌++◌, Bool, true, false, drop, Option, Some, None, length, All, length-append}
use Rattle.std.specs.Prelude.{codes, decimal, option_map}
use Rattle.std.specs.List.{join_with_byte, slice_split}
use Rattle.std.proofs.lemmas.Bool.{false≢true}
use Rattle.std.proofs.lemmas.List.{drop-drop, drop_all, length_push, length-drop}
use Rattle.std.proofs.lemmas.List.Elements.{All-head, All-push, All-tail}
use Rattle.kb_lemmas.proofs.Numbers.{eq_above}
use Rattle.kb_term.specs.Signature.{Signature, IsSignature}
use Rattle.kb_overlap.specs.Trace.{TraceStep}
use Rattle.kb_text.specs.Fields.{IsWithout}
use Rattle.kb_text.specs.Lines.{first_lines, Begins, IsBadLine}
use Rattle.kb_text.specs.Names.{Name}
use Rattle.kb_text.specs.Terms.{names_of}
use Rattle.kb_text.proofs.Cuts.{fields_cut, one_line}
use Rattle.kb_text.proofs.LineFronts.{first_lines-none, first_lines-line, behind_front}
use Rattle.kb_text.proofs.PlainTexts.{space_blank, feed_blank, join_without}
use Rattle.kb_trace.specs.TraceText.{origin_fields, step_fields, step_line, step_lines, trace_text, IsStepForm, IsTraceForm, IsTraceText}
use Rattle.kb_trace.specs.Reading.{BeginsWithNoStep, BeginsWithStep}
use Rattle.kb_trace.proofs.StepForms.{step_without, pair_fields}
use Rattle.kb_trace.proofs.Lines.{step_lines-more}
use Rattle.kb_trace.proofs.OneStep.{one_step}

-- a step's line without its line feed
abbrev pub body : List Name → ℕ → TraceStep → List ℕ
body names k s = join_with_byte 32 (step_fields names k s)

pub line_then : (names : List Name) (k : ℕ) (s : TraceStep) (rest : List ℕ) → step_line names k s ++ rest ≡ body names k s ++ 10 ∷ rest
line_then names k s rest = append_assoc (body names k s) (10 ∷ []) rest

lines_then : (names : List Name) (k : ℕ) (s : TraceStep) (ss : List TraceStep) (rest : List ℕ) → step_lines names k (s ∷ ss) ++ rest ≡ body names k s ++ 10 ∷ (step_lines names (k + 1) ss ++ rest)
lines_then names k s ss rest = append_assoc (step_line names k s) (step_lines names (k + 1) ss) rest ∙ line_then names k s (step_lines names (k + 1) ss ++ rest)

pub body_without : (signature : Signature) → IsSignature signature → (k : ℕ) → k ≤ 100000 → (s : TraceStep) → IsStepForm signature s → IsWithout 10 (body (names_of signature) k s)
body_without signature i k h s f = join_without 10 32 (step_fields (names_of signature) k s) (eq_above 32 10 (omega arith)) (step_without 10 feed_blank signature i k (omega arith) s f)

pub body_fields : (signature : Signature) → IsSignature signature → (k : ℕ) → k ≤ 100000 → (s : TraceStep) → IsStepForm signature s → slice_split (λ b. b == 32) (body (names_of signature) k s) ≡ step_fields (names_of signature) k s
body_fields signature i k h s f = fields_cut 32 (decimal k) (origin_fields s.origin ++ pair_fields (names_of signature) s.pair) (step_without 32 space_blank signature i k (omega arith) s f)

-- ---- one trace

pub one_trace : (signature : Signature) → IsSignature signature → (k : ℕ) (t u : List TraceStep) → All (IsStepForm signature) t → All (IsStepForm signature) u → k + length t ≤ 10000 → step_lines (names_of signature) k t ≡ step_lines (names_of signature) k u → t ≡ u
one_trace signature i k [] [] f g h e = refl
one_trace signature i k [] (u ∷ us) f g h e =
    let names = names_of signature in
    absurd (let n = ap length (e ∙ line_then names k u (step_lines names (k + 1) us)) in omega (arith, length-append (body names k u) (10 ∷ step_lines names (k + 1) us)))
one_trace signature i k (s ∷ ss) [] f g h e =
    let names = names_of signature in
    absurd (let n = ap length (sym e ∙ line_then names k s (step_lines names (k + 1) ss)) in omega (arith, length-append (body names k s) (10 ∷ step_lines names (k + 1) ss)))
one_trace signature i k (s ∷ ss) (u ∷ us) f g h e =
    let names = names_of signature in
    let sf = All-head (IsStepForm signature) s ss f in
    let uf = All-head (IsStepForm signature) u us g in
    let r = one_line 10 (body names k s) (body names k u) (step_lines names (k + 1) ss) (step_lines names (k + 1) us) (body_without signature i k (omega arith) s sf) (body_without signature i k (omega arith) u uf)
    (sym (line_then names k s (step_lines names (k + 1) ss)) ∙ e ∙ line_then names k u (step_lines names (k + 1) us)) in
    let fields = sym (body_fields signature i k (omega arith) s sf) ∙ ap (slice_split (λ b. b == 32)) r.0 ∙ body_fields signature i k (omega arith) u uf in
    ap₂ (λ x xs. x ∷ xs) (one_step signature i k k s u sf uf fields) (one_trace signature i (k + 1) ss us (All-tail (IsStepForm signature) s ss f) (All-tail (IsStepForm signature) u us g) (omega arith) r.1)

-- ---- the first lines of a trace

front_of_steps : (signature : Signature) → IsSignature signature → (k : ℕ) (t : List TraceStep) (rest : List ℕ) → All (IsStepForm signature) t → k + length t ≤ 10000
    → first_lines (step_lines (names_of signature) k t ++ rest) (length t) ≡ Some (step_lines (names_of signature) k t)
front_of_steps signature i k [] rest f h = first_lines-none rest
front_of_steps signature i k (s ∷ ss) rest f h =
    let names = names_of signature in
    ap (λ (x : List ℕ). first_lines x (suc (length ss))) (lines_then names k s ss rest)
    ∙ first_lines-line (body names k s) (step_lines names (k + 1) ss ++ rest) (length ss) (body_without signature i k (omega arith) s (All-head (IsStepForm signature) s ss f))
    ∙ ap (option_map (λ (front : List ℕ). body names k s ++ 10 ∷ front)) (front_of_steps signature i (k + 1) ss rest (All-tail (IsStepForm signature) s ss f) (omega arith))
    ∙ ap Some (sym (line_then names k s (step_lines names (k + 1) ss)))

-- behind the first n steps of the trace, numbered from k, the text goes on with the next
record GoesOn (signature : Signature) (k : ℕ) (t : List TraceStep) (n : ℕ) (rest : List ℕ) : Type 0 where
  step : TraceStep
  back : List ℕ
  more : n < length t
  form : IsStepForm signature step
  spelling : rest ≡ step_line (names_of signature) (k + n) step ++ back

next_step : (signature : Signature) (k : ℕ) (u : TraceStep) (us : List TraceStep) (n : ℕ) (rest : List ℕ) → GoesOn signature (k + 1) us n rest → GoesOn signature k (u ∷ us) (suc n) rest
next_step signature k u us n rest g =
    let place : k + 1 + n ≡ k + suc n = omega arith in
    record { step = g.step; back = g.back; more = (let m = g.more in omega arith); form = g.form; spelling = g.spelling ∙ ap (λ j. step_line (names_of signature) j g.step ++ g.back) place }

-- the whole text is that of a trace
whole_goes_on : (signature : Signature) → IsSignature signature → (k : ℕ) (steps t : List TraceStep) (rest : List ℕ) → All (IsStepForm signature) steps → All (IsStepForm signature) t → k + length steps ≤ 10000 → 0 < length rest
    → step_lines (names_of signature) k steps ++ rest ≡ step_lines (names_of signature) k t → GoesOn signature k t (length steps) rest
whole_goes_on signature i k [] [] rest f g h l e = absurd (let n = ap length e in omega arith)
whole_goes_on signature i k [] (u ∷ us) rest f g h l e =
    let names = names_of signature in
    let place : k ≡ k + 0 = omega arith in
    record { step = u; back = step_lines names (k + 1) us; more = omega arith; form = All-head (IsStepForm signature) u us g; spelling = e ∙ ap (λ j. step_line names j u ++ step_lines names (k + 1) us) place }
whole_goes_on signature i k (s ∷ ss) [] rest f g h l e =
    let names = names_of signature in
    absurd (let n = ap length (sym (lines_then names k s ss rest) ∙ e) in omega (arith, length-append (body names k s) (10 ∷ (step_lines names (k + 1) ss ++ rest))))
whole_goes_on signature i k (s ∷ ss) (u ∷ us) rest f g h l e =
    let names = names_of signature in
    let r = one_line 10 (body names k s) (body names k u) (step_lines names (k + 1) ss ++ rest) (step_lines names (k + 1) us) (body_without signature i k (omega arith) s (All-head (IsStepForm signature) s ss f)) (body_without signature i k (omega arith) u (All-head (IsStepForm signature) u us g))
    (sym (lines_then names k s ss rest) ∙ e ∙ line_then names k u (step_lines names (k + 1) us)) in
    next_step signature k u us (length ss) rest (whole_goes_on signature i (k + 1) ss us rest (All-tail (IsStepForm signature) s ss f) (All-tail (IsStepForm signature) u us g) (omega arith) l r.1)

record IsMapped (o : Option (List ℕ)) (xs front : List ℕ) : Type 0 where
  inner : List ℕ
  some : o ≡ Some inner
  same : xs ++ 10 ∷ inner ≡ front

mapped : (o : Option (List ℕ)) (xs front : List ℕ) → option_map (λ (f : List ℕ). xs ++ 10 ∷ f) o ≡ Some front → IsMapped o xs front
mapped None xs front e = absurd (cc)
mapped (Some f) xs front e = record { inner = f; some = refl; same = cc }

-- its first lines and one more are those of a trace
front_goes_on : (signature : Signature) → IsSignature signature → (k : ℕ) (steps t : List TraceStep) (rest front : List ℕ) → All (IsStepForm signature) steps → All (IsStepForm signature) t → k + length steps ≤ 10000
    → first_lines (step_lines (names_of signature) k t) (suc (length steps)) ≡ Some front → first_lines (step_lines (names_of signature) k steps ++ rest) (suc (length steps)) ≡ Some front → GoesOn signature k t (length steps) rest
front_goes_on signature i k steps [] rest front f g h e d = absurd (cc)
front_goes_on signature i k [] (u ∷ us) rest front f g h e d =
    let names = names_of signature in
    let uf = All-head (IsStepForm signature) u us g in
    let place : k ≡ k + 0 = omega arith in
    let is : Some (step_line names k u) ≡ Some front = ap (option_map (λ (x : List ℕ). body names k u ++ 10 ∷ x)) (sym (first_lines-none (step_lines names (k + 1) us)))
    ∙ sym (first_lines-line (body names k u) (step_lines names (k + 1) us) 0 (body_without signature i k (omega arith) u uf)) ∙ ap (λ (x : List ℕ). first_lines x 1) (sym (line_then names k u (step_lines names (k + 1) us))) ∙ e in
    let same : step_line names k u ≡ front = cc in
    let back = behind_front rest 1 front d in
    record { step = u; back = back.0; more = omega arith; form = uf; spelling = back.1 ∙ ap (λ (x : List ℕ). x ++ back.0) (sym same) ∙ ap (λ j. step_line names j u ++ back.0) place }
front_goes_on signature i k (s ∷ ss) (u ∷ us) rest front f g h e d =
    let names = names_of signature in
    let sw = body_without signature i k (omega arith) s (All-head (IsStepForm signature) s ss f) in
    let uw = body_without signature i k (omega arith) u (All-head (IsStepForm signature) u us g) in
    let p = mapped (first_lines (step_lines names (k + 1) us) (suc (length ss))) (body names k u) front
    (sym (first_lines-line (body names k u) (step_lines names (k + 1) us) (suc (length ss)) uw) ∙ ap (λ (x : List ℕ). first_lines x (suc (suc (length ss)))) (sym (line_then names k u (step_lines names (k + 1) us))) ∙ e) in
    let q = mapped (first_lines (step_lines names (k + 1) ss ++ rest) (suc (length ss))) (body names k s) front
    (sym (first_lines-line (body names k s) (step_lines names (k + 1) ss ++ rest) (suc (length ss)) sw) ∙ ap (λ (x : List ℕ). first_lines x (suc (suc (length ss)))) (sym (lines_then names k s ss rest)) ∙ d) in
    let r = one_line 10 (body names k s) (body names k u) q.inner p.inner sw uw (q.same ∙ sym p.same) in
    next_step signature k u us (length ss) rest
    (front_goes_on signature i (k + 1) ss us rest p.inner (All-tail (IsStepForm signature) s ss f) (All-tail (IsStepForm signature) u us g) (omega arith) p.some (q.some ∙ ap Some r.1))

-- ---- the first bad line

pub bad_line : (signature : Signature) → IsSignature signature → (steps : List TraceStep) (rest lines : List ℕ) (n : ℕ) → IsTraceForm signature steps → 0 < length rest → lines ≡ step_lines (names_of signature) 1 steps ++ rest → n ≡ length steps + 1
    → BeginsWithNoStep signature n rest → IsBadLine (IsTraceText signature) lines n
bad_line signature i steps rest lines n f l e c refused = record {
  from_one = omega arith;
  before = (trace_text signature steps, step_lines names 1 steps, (steps, f, refl), at_before (step_lines names 1 steps) (ap (λ (x : List ℕ). first_lines x (length steps)) (sym (append-nil (step_lines names 1 steps))) ∙ front_of_steps signature i 1 steps [] f.steps small), at_before lines (ap (λ (x : List ℕ). first_lines x (length steps)) e ∙ front_of_steps signature i 1 steps rest f.steps small));
  with_it = λ b. none b.2.0 b.2.1 (front_goes_on signature i 1 steps b.2.0 rest b.1 f.steps b.2.1.steps small (at_next (step_lines names 1 b.2.0) b.1 (ap (λ (x : List ℕ). first_lines x n) (sym b.2.2) ∙ b.3)) (at_next (step_lines names 1 steps ++ rest) b.1 (ap (λ (x : List ℕ). first_lines x n) (sym e) ∙ b.4)));
  not_whole = λ w. none w.0 w.1 (whole_goes_on signature i 1 steps w.0 rest f.steps w.1.steps small l (sym e ∙ w.2));
}
  where
    names : List Name
    names = names_of signature

    small : 1 + length steps ≤ 10000
    small = let count = f.count in omega arith

    at_before : (text : List ℕ) {front : List ℕ} → first_lines text (length steps) ≡ Some front → first_lines text (n - 1) ≡ Some front
    at_before text p = let same : n - 1 ≡ length steps = omega arith in ap (first_lines text) same ∙ p

    at_next : (text front : List ℕ) → first_lines text n ≡ Some front → first_lines text (suc (length steps)) ≡ Some front
    at_next text front p = let same : suc (length steps) ≡ n = omega arith in ap (first_lines text) same ∙ p

    none : (t : List TraceStep) → IsTraceForm signature t → GoesOn signature 1 t (length steps) rest → ⊥
    none t tf g =
        let count = tf.count in
        let more = g.more in
        let place : 1 + length steps ≡ n = omega arith in
        refused g.step g.back (record { count = omega arith; form = g.form; spelling = g.spelling ∙ ap (λ j. step_line names j g.step ++ g.back) place })

-- ---- reading line by line

pub no_feed : (xs ys : List ℕ) → IsWithout 10 (xs ++ 10 ∷ ys) → ⊥
no_feed [] ys h = false≢true (sym h.0)
no_feed (x ∷ xs) ys h = no_feed xs ys h.1

-- the steps so far, the number of the next line, and where it begins
pub record IsReadPart (signature : Signature) (lines : List ℕ) (at number : ℕ) (steps : List TraceStep) : Type 0 where
  pub within : at ≤ length lines
  pub number_is : number ≡ length steps + 1
  pub parts : lines ≡ step_lines (names_of signature) 1 steps ++ drop at lines
  pub form : IsTraceForm signature steps

pub part_pushed : (signature : Signature) (lines rest : List ℕ) (at size number : ℕ) (steps news : List TraceStep) (step : TraceStep) → IsReadPart signature lines at number steps → rest ≡ drop at lines → BeginsWithStep signature number rest step (drop size rest) → size ≤ length rest → news ≡ steps ++ step ∷ []
    → IsReadPart signature lines (at + size) (number + 1) news
part_pushed signature lines rest at size number steps news step r e b h n =
    let within = r.within in
    let number_is = r.number_is in
    let long : length news ≡ length steps + 1 = ap length n ∙ length_push steps step in
    let left : length rest ≡ length lines - at = ap length e ∙ length-drop at lines in
    let count = b.count in
    let names = names_of signature in
    let place : number ≡ 1 + length steps = omega arith in
    record {
      within = omega arith;
      number_is = omega arith;
      parts = r.parts ∙ ap (step_lines names 1 steps ++◌) (sym e ∙ b.spelling ∙ ap (λ j. step_line names j step ++ drop size rest) place ∙ ap (step_line names (1 + length steps) step ++◌) (ap (drop size) e ∙ drop-drop size at lines))
          ∙ sym (append_assoc (step_lines names 1 steps) (step_line names (1 + length steps) step) (drop (at + size) lines))
          ∙ ap (λ (x : List ℕ). x ++ drop (at + size) lines) (sym (step_lines-more names 1 steps step) ∙ ap (step_lines names 1) (sym n));
      form = record { count = omega arith; steps = subst (All (IsStepForm signature)) (sym n) (All-push (IsStepForm signature) steps step r.form.steps b.form) };
    }

pub part_bad : (signature : Signature) → IsSignature signature → (lines rest : List ℕ) (at number : ℕ) (steps : List TraceStep) → IsReadPart signature lines at number steps → rest ≡ drop at lines → at < length lines → BeginsWithNoStep signature number rest
    → IsBadLine (IsTraceText signature) lines number
part_bad signature i lines rest at number steps r e h refused =
    let left : length rest ≡ length lines - at = ap length e ∙ length-drop at lines in
    bad_line signature i steps rest lines number r.form (omega arith) (r.parts ∙ ap (step_lines (names_of signature) 1 steps ++◌) (sym e)) r.number_is refused

pub part_whole : (signature : Signature) (lines : List ℕ) (at number : ℕ) (steps : List TraceStep) → IsReadPart signature lines at number steps → length lines ≤ at → lines ≡ trace_text signature steps
part_whole signature lines at number steps r h =
    r.parts ∙ ap (step_lines (names_of signature) 1 steps ++◌) (drop_all at lines h) ∙ append-nil (step_lines (names_of signature) 1 steps)

pub part_one : (signature : Signature) → IsSignature signature → (lines : List ℕ) (t u : List TraceStep) → IsTraceForm signature t → IsTraceForm signature u → lines ≡ trace_text signature t → lines ≡ trace_text signature u → t ≡ u
part_one signature i lines t u f g e d = let count = f.count in one_trace signature i 1 t u f.steps g.steps (omega arith) (sym e ∙ d)
