-- The lines of a trace, and the first that isn't a step's.
use Rattle.std.proofs.Common.{append-nil, append_assoc, take-append-drop, ◌≡◌, refl, ap, ap₂, sym, ◌∙◌, subst, ⊎_elim, ◌⊎◌, arith, ℕ, zero, suc, ◌+◌, ◌-◌, ◌<◌, ◌≤◌, ◌==◌, List, [], ◌∷◌, ◌++◌, length, length-append, take, drop, All}
use Rattle.std.specs.List.{slice_split}
use Rattle.std.proofs.lemmas.List.{drop-drop, length-drop}
use Rattle.std.proofs.lemmas.List.Elements.{All-head, All-nil, All-push, All-tail}
use Rattle.kb_term.specs.Signature.{Signature, IsSignature}
use Rattle.kb_term.specs.Tree.{variable}
use Rattle.kb_term.specs.declared.origin.Origin.TheVariants.{Input}
use Rattle.kb_overlap.specs.Trace.{TraceStep}
use Rattle.kb_text.specs.Fields.{IsWithout, IsFirstLine}
use Rattle.kb_text.specs.Lines.{first_lines, Begins, IsBadLine}
use Rattle.kb_text.specs.Names.{Name}
use Rattle.kb_text.specs.Terms.{names_of}
use Rattle.kb_text.proofs.Cuts.{AreWithout, one_line}
use Rattle.kb_trace.specs.TraceText.{step_lines, trace_text, IsStepForm, IsTraceForm, IsTraceText}
use Rattle.kb_trace.proofs.OneStep.{one_step}
use Rattle.kb_trace.proofs.TraceLines.{body_without, body_fields}
use Rattle.kb_report.specs.Sections.{Lines, text_of, item_lines, BeginsWith, IsBadFrom, AreFirstLines}
use Rattle.kb_report.specs.SystemSections.{step_body, Steps}
use Rattle.kb_report.proofs.LinesOfTexts.{text_of-append, are_without-front, same_lines, first_of_lines}
use Rattle.kb_report.proofs.Fronts.{front_of_lines}
use Rattle.kb_report.proofs.SectionLaws.{items_whole, items_bad_at, items_without, lines-length, lines-more}
use Rattle.kb_report.proofs.ReadLines.{no_line_of}

-- ---- the first lines of a text

pub record IsFrontOf (text : List ℕ) (n at : ℕ) : Type 0 where
  pub within : at ≤ length text
  pub lines : Lines
  pub count_is : length lines ≡ n
  pub without : All (IsWithout 10) lines
  pub parts : text ≡ text_of lines ++ drop at text

pub no_front : (text : List ℕ) → IsFrontOf text 0 0
no_front text = record { within = omega arith; lines = []; count_is = refl; without = All-nil (IsWithout 10); parts = refl }

pub front_more : (text rest : List ℕ) (n at size : ℕ) → IsFrontOf text n at → rest ≡ drop at text → IsFirstLine rest size → IsFrontOf text (n + 1) (at + (size + 1))
front_more text rest n at size f e l =
    let within = f.within in
    let inside = l.within in
    let count_is = f.count_is in
    let left : length rest ≡ length text - at = ap length e ∙ length-drop at text in
    let line = take size rest in
    record {
      within = omega arith;
      lines = f.lines ++ line ∷ [];
      count_is = omega (arith, length-append f.lines (line ∷ []));
      without = All-push (IsWithout 10) f.lines line f.without l.without;
      parts = f.parts ∙ ap (text_of f.lines ++◌) (sym e ∙ l.parts ∙ sym (append_assoc line (10 ∷ []) (drop (size + 1) rest)))
          ∙ sym (append_assoc (text_of f.lines) (line ++ 10 ∷ []) (drop (size + 1) rest))
          ∙ ap₂ (λ (x y : List ℕ). x ++ y) (sym (text_of-append f.lines (line ∷ []))) (ap (drop (size + 1)) e ∙ drop-drop (size + 1) at text);
    }

pub are_without : (ls : Lines) → All (IsWithout 10) ls → AreWithout 10 ls
are_without [] a = tt
are_without (l ∷ ls) a = (All-head (IsWithout 10) l ls a, are_without ls (All-tail (IsWithout 10) l ls a))

same_start : (xs ys zs ws : List ℕ) → length zs ≡ length ws → xs ++ zs ≡ ys ++ ws → xs ≡ ys
same_start [] [] zs ws h e = refl
same_start [] (y ∷ ys) zs ws h e = absurd (let n = ap length e in omega (arith, length-append ys ws))
same_start (x ∷ xs) [] zs ws h e = absurd (let n = ap length e in omega (arith, length-append xs zs))
same_start (x ∷ xs) (y ∷ ys) zs ws h e =
    let s : x ≡ y = cc in
    let t : xs ++ zs ≡ ys ++ ws = cc in
    ap₂ (λ z zs. z ∷ zs) s (same_start xs ys zs ws h t)

pub front_is : (text : List ℕ) (most n size : ℕ) → (f : AreFirstLines text most n size) → take size text ≡ text_of f.lines
front_is text most n size f = same_start (take size text) (text_of f.lines) (drop size text) (drop size text) refl (take-append-drop size text ∙ f.parts)

-- ---- steps

pub trace_lines : (names : List Name) (k : ℕ) (t : List TraceStep) → step_lines names k t ≡ text_of (item_lines (step_body names) k t)
trace_lines names k [] = refl
trace_lines names k (s ∷ ss) = append_assoc (step_body names k s) (10 ∷ []) (step_lines names (k + 1) ss) ∙ ap (λ (t : List ℕ). step_body names k s ++ 10 ∷ t) (trace_lines names (k + 1) ss)

pub step_without : (sig : Signature) → IsSignature sig → (n : ℕ) (s : TraceStep) → n ≤ 10000 → IsStepForm sig s → IsWithout 10 (step_body (names_of sig) n s)
step_without sig i n s h f = body_without sig i n (omega arith) s f

pub one_step_line : (sig : Signature) → IsSignature sig → (n : ℕ) (s u : TraceStep) → n ≤ 10000 → IsStepForm sig s → IsStepForm sig u → step_body (names_of sig) n s ≡ step_body (names_of sig) n u → s ≡ u
one_step_line sig i n s u h f g e = one_step sig i n n s u f g (sym (body_fields sig i n (omega arith) s f) ∙ ap (slice_split (λ b. b == 32)) e ∙ body_fields sig i n (omega arith) u g)

-- x1 = x2, from the first equation
abbrev pub plain_step : TraceStep
plain_step = record { origin = Input 1; pair = record { first = variable 0; second = variable 1 } }

pub some_step : (sig : Signature) → IsStepForm sig plain_step
some_step sig = record {
  origin = refl;
  pair = record {
    first = record { well_formed = tt; size = omega arith; depth = omega arith };
    second = record { well_formed = tt; size = omega arith; depth = omega arith };
    variables = omega arith;
    canonical = refl;
  };
}

-- ---- what was read of the first lines

lines_of_trace : (sig : Signature) → IsSignature sig → (t : List TraceStep) → IsTraceForm sig t → AreWithout 10 (item_lines (step_body (names_of sig)) 1 t)
lines_of_trace sig i t f = let count = f.count in items_without (IsStepForm sig) (step_body (names_of sig)) 1 t (step_without sig i) f.steps (omega arith)

-- the lines that were read are those of the trace
pub read_lines : (sig : Signature) → IsSignature sig → (text front : List ℕ) (most n size : ℕ) (t : List TraceStep) → (f : AreFirstLines text most n size) → front ≡ take size text → IsTraceForm sig t → front ≡ trace_text sig t → f.lines ≡ item_lines (step_body (names_of sig)) 1 t
read_lines sig i text front most n size t f e form spelled =
    same_lines f.lines (item_lines (step_body (names_of sig)) 1 t) (are_without f.lines f.without) (lines_of_trace sig i t form) (sym (front_is text most n size f) ∙ sym e ∙ spelled ∙ trace_lines (names_of sig) 1 t)

pub steps_read : (sig : Signature) → IsSignature sig → (text front : List ℕ) (count n size : ℕ) (t : List TraceStep) → AreFirstLines text count n size → front ≡ take size text → IsTraceForm sig t → front ≡ trace_text sig t → count ≤ n → BeginsWith (Steps sig count) text t count (drop size text)
steps_read sig i text front count n size t f e form spelled h =
    let lines = read_lines sig i text front count n size t f e form spelled in
    let long = ap length lines in
    let count_is = f.count_is in
    let few = f.few in
    items_whole (IsStepForm sig) (step_body (names_of sig)) text t size count (record { within = f.within; each = form.steps; parts = f.parts ∙ ap (λ (ls : Lines). text_of ls ++ drop size text) lines }) (omega (arith, lines-length (step_body (names_of sig)) 1 t))

pub steps_short : (sig : Signature) → IsSignature sig → (text front : List ℕ) (count n size first : ℕ) (t : List TraceStep) → AreFirstLines text count n size → front ≡ take size text → IsTraceForm sig t → front ≡ trace_text sig t → n < count → IsBadFrom (Steps sig count) text first (first + n)
steps_short sig i text front count n size first t f e form spelled h =
    let lines = read_lines sig i text front count n size t f e form spelled in
    let long = ap length lines in
    let count_is = f.count_is in
    let names = names_of sig in
    let same : length t ≡ n = omega (arith, lines-length (step_body names) 1 t) in
    items_bad_at (IsStepForm sig) (step_body names) text (drop size text) t count first (first + n) plain_step (some_step sig) form.steps (f.parts ∙ ap (λ (ls : Lines). text_of ls ++ drop size text) lines) (omega arith) (omega arith)
    (no_line_of (IsStepForm sig) (step_body names (length t + 1)) (drop size text) (ended f.all))
  where
    ended : (n ≡ count) ⊎ IsWithout 10 (drop size text) → IsWithout 10 (drop size text)
    ended o = ⊎_elim (λ same. absurd (omega arith)) (λ w. w) o

-- ---- a bad line among them

-- the first of the items, so many lines of them
record HasItems (P : TraceStep → Type 0) (f : ℕ → TraceStep → List ℕ) (k : ℕ) (xs : List TraceStep) (front : Lines) : Type 0 where
  items : List TraceStep
  each : All P items
  shorter : length items ≤ length xs
  lines_are : item_lines f k items ≡ front

front_items : (P : TraceStep → Type 0) (f : ℕ → TraceStep → List ℕ) (k : ℕ) (xs : List TraceStep) (front back : Lines) → All P xs → item_lines f k xs ≡ front ++ back → HasItems P f k xs front
front_items P f k xs [] back a e = record { items = []; each = All-nil P; shorter = omega arith; lines_are = refl }
front_items P f k [] (l ∷ ls) back a e = absurd (cc)
front_items P f k (x ∷ xs) (l ∷ ls) back a e =
    let s : f k x ≡ l = cc in
    let t : item_lines f (k + 1) xs ≡ ls ++ back = cc in
    let r = front_items P f (k + 1) xs ls back (All-tail P x xs a) t in
    let shorter = r.shorter in
    record { items = x ∷ r.items; each = one_more x r.items (All-head P x xs a) r.each; shorter = omega arith; lines_are = ap₂ (λ (y : List ℕ) (ys : Lines). y ∷ ys) s r.lines_are }
  where
    one_more : (x : TraceStep) (xs : List TraceStep) → P x → All P xs → All P (x ∷ xs)
    one_more x xs p a zero d h = p
    one_more x xs p a (suc n) d h = a n d (omega arith)

-- the steps before the bad line, that line, and what is behind it
pub record HasBadStep (sig : Signature) (text : List ℕ) (n size number : ℕ) : Type 0 where
  pub steps : List TraceStep
  pub each : All (IsStepForm sig) steps
  pub count_is : number ≡ length steps + 1
  pub few : number ≤ n
  pub line : List ℕ
  pub back : List ℕ
  pub without : IsWithout 10 line
  pub parts : text ≡ text_of (item_lines (step_body (names_of sig)) 1 steps) ++ (line ++ 10 ∷ back)
  pub none : (s : TraceStep) → IsStepForm sig s → ¬ (line ≡ step_body (names_of sig) number s)

pub bad_step : (sig : Signature) → IsSignature sig → (text front : List ℕ) (most n size number : ℕ) → most ≤ 4096 → AreFirstLines text most n size → front ≡ take size text → IsBadLine (IsTraceText sig) front number → HasBadStep sig text n size number
bad_step sig i text front most n size number small f e b =
    let h = b.before in
    let t = h.2.0 in
    let form = h.2.1 in
    let from_one = b.from_one in
    let is : front ≡ text_of f.lines = e ∙ front_is text most n size f in
    let r = front_of_lines (number - 1) (item_lines (step_body names) 1 t) h.1 (lines_of_trace sig i t form) (ap (λ (x : List ℕ). first_lines x (number - 1)) (sym (h.2.2 ∙ trace_lines names 1 t)) ∙ h.3) in
    let q = front_of_lines (number - 1) f.lines h.1 all (ap (λ (x : List ℕ). first_lines x (number - 1)) (sym is) ∙ h.4) in
    let same = same_lines r.firsts q.firsts (are_without-front r.firsts r.back (subst (AreWithout 10) r.parts (lines_of_trace sig i t form))) (are_without-front q.firsts q.back (subst (AreWithout 10) q.parts all)) (r.text_is ∙ sym q.text_is) in
    let d = front_items (IsStepForm sig) (step_body names) 1 t r.firsts r.back form.steps r.parts in
    go d.items d.each (let s = d.shorter in let c = form.count in omega arith) q.firsts q.back q.parts (d.lines_are ∙ same) q.count is
  where
    names : List Name
    names = names_of sig

    all : AreWithout 10 f.lines
    all = are_without f.lines f.without

    go : (steps : List TraceStep) → All (IsStepForm sig) steps → length steps ≤ 4096 → (firsts back : Lines) → f.lines ≡ firsts ++ back → item_lines (step_body names) 1 steps ≡ firsts → length firsts ≡ number - 1 → front ≡ text_of f.lines → HasBadStep sig text n size number
    go steps each few firsts [] p l c is =
        absurd (b.not_whole (steps, record { count = few; steps = each }, is ∙ ap text_of (p ∙ append-nil firsts ∙ sym l) ∙ sym (trace_lines names 1 steps)))
    go steps each few firsts (line ∷ back) p l c is =
        let from_one = b.from_one in
        let long = ap length p in
        let count_is = f.count_is in
        let most_is = f.few in
        let mine = ap length l in
        let w = subst (AreWithout 10) p all in
        record {
          steps = steps;
          each = each;
          count_is = omega (arith, lines-length (step_body names) 1 steps);
          few = omega (arith, length-append firsts (line ∷ back));
          line = line;
          back = text_of back ++ drop size text;
          without = back_without firsts (line ∷ back) w;
          parts = f.parts ∙ ap (λ (ls : Lines). text_of ls ++ drop size text) (p ∙ ap (λ (ls : Lines). ls ++ line ∷ back) (sym l)) ∙ ap (λ (t : List ℕ). t ++ drop size text) (text_of-append (item_lines (step_body names) 1 steps) (line ∷ back))
              ∙ append_assoc (text_of (item_lines (step_body names) 1 steps)) (line ++ 10 ∷ text_of back) (drop size text) ∙ ap (text_of (item_lines (step_body names) 1 steps) ++◌) (append_assoc line (10 ∷ text_of back) (drop size text));
          none = λ s sf q. b.with_it (with_one s sf q);
        }
      where
        back_without : (xs : Lines) (ys : Lines) → AreWithout 10 (xs ++ line ∷ back) → IsWithout 10 line
        back_without [] ys h = h.0
        back_without (x ∷ xs) ys h = back_without xs ys h.1

        longer : Lines
        longer = firsts ++ line ∷ []

        wide : AreWithout 10 longer
        wide = are_without-front longer back (subst (AreWithout 10) (p ∙ sym (append_assoc firsts (line ∷ []) back)) all)

        long_is : length longer ≡ number
        long_is = let from_one = b.from_one in omega (arith, length-append firsts (line ∷ []))

        with_one : (s : TraceStep) → IsStepForm sig s → line ≡ step_body names number s → Begins (IsTraceText sig) front number
        with_one s sf q =
            let from_one = b.from_one in
            let mine = ap length l in
            let place : 1 + length steps ≡ number = omega (arith, lines-length (step_body names) 1 steps) in
            let long = ap length p in
            let count_is = f.count_is in
            let most_is = f.few in
            let more = steps ++ s ∷ [] in
            let lines_are : item_lines (step_body names) 1 more ≡ longer = lines-more (step_body names) 1 steps (s ∷ []) ∙ ap₂ (λ (xs : Lines) (x : List ℕ). xs ++ x ∷ []) l (ap (λ k. step_body names k s) place ∙ sym q) in
            let form : IsTraceForm sig more = record { count = omega (arith, length-append steps (s ∷ []), length-append firsts (line ∷ back), lines-length (step_body names) 1 steps); steps = All-push (IsStepForm sig) steps s each sf } in
            let text_is : trace_text sig more ≡ text_of longer = trace_lines names 1 more ∙ ap text_of lines_are in (
              trace_text sig more,
              text_of longer,
              (more, form, refl),
              ap₂ first_lines (text_is ∙ sym (append-nil (text_of longer))) (sym long_is) ∙ first_of_lines longer [] wide,
              ap₂ first_lines (is ∙ ap text_of (p ∙ sym (append_assoc firsts (line ∷ []) back)) ∙ text_of-append longer back) (sym long_is) ∙ first_of_lines longer (text_of back) wide,
            )

pub steps_bad : (sig : Signature) → IsSignature sig → (text : List ℕ) (count n size first number : ℕ) → count ≤ 4096 → n ≤ count → HasBadStep sig text n size number → IsBadFrom (Steps sig count) text first (first + (number - 1))
steps_bad sig i text count n size first number small h b =
    let few = b.few in
    let count_is = b.count_is in
    let names = names_of sig in
    let place : length b.steps + 1 ≡ number = omega arith in
    items_bad_at (IsStepForm sig) (step_body names) text (b.line ++ 10 ∷ b.back) b.steps count first (first + (number - 1)) plain_step (some_step sig) b.each b.parts (omega arith) (omega arith)
    (λ s back k. b.none s k.form ((one_line 10 b.line (step_body names (length b.steps + 1) s) b.back back b.without (step_without sig i (length b.steps + 1) s (omega arith) k.form) k.parts).0 ∙ ap (λ j. step_body names j s) place))
