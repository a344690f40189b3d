-- The answer in front of a text.
use Rattle.std.proofs.Common.{append-nil, append_assoc, take-append-drop, Some, ◌≡◌, refl, ap, ap₂, sym, ◌∙◌, subst, arith, ℕ, ◌+◌, ◌-◌, ◌≤◌, List, [], ◌∷◌, ◌++◌, length, length-append, take, drop}
use Rattle.std.specs.Prelude.{codes}
use Rattle.std.proofs.lemmas.List.{drop-drop, drop_all, length-drop, take_all, append_cancel_right}
use Rattle.kb_trace.proofs.TraceLines.{no_feed}
use Rattle.kb_text.specs.Fields.{IsWithout, IsTextFault}
use Rattle.kb_text.specs.Lines.{first_lines, Begins, IsBadLine}
use Rattle.kb_text.specs.declared.fault.TextFault.{TextFault}
use Rattle.kb_text.specs.declared.fault.TextFault.TheVariants.{BadText, Memory}
use Rattle.kb_text.proofs.Cuts.{AreWithout, are_without-append, one_line}
use Rattle.kb_text.proofs.LineFronts.{behind_front}
use Rattle.kb_checker.specs.Answers.{Answer}
use Rattle.kb_report.specs.Answers.{IsTextOf, IsSystemText}
use Rattle.kb_report.specs.Sections.{Lines, text_of, IsFirstLine, BeginsWith, IsBadFrom, IsSectionFault}
use Rattle.kb_report.proofs.Fronts.{front_of_lines}
use Rattle.kb_report.proofs.LinesOfTexts.{text_of-append, are_without-front, front_of_text, first_of_lines}
use Rattle.kb_report.proofs.StepsRead.{are_without}
use Rattle.kb_report.proofs.SystemForm.{end_word, end_without}
use Rattle.kb_goals.specs.Asking.{AnswerLines, AreOtherLines, IsUpToEnd, ended, endless}
use Rattle.kb_goals.proofs.Ends.{answer_ends, answer_lines, one_end, no_end}

-- ---- line by line

-- so many lines that are not `END`, and where the next begins
pub record AreReadLines (text : List ℕ) (n at : ℕ) : Type 0 where
  pub within : at ≤ length text
  pub lines : Lines
  pub count_is : length lines ≡ n
  pub others : AreOtherLines lines
  pub parts : text ≡ text_of lines ++ drop at text

pub no_lines : (text : List ℕ) → AreReadLines text 0 0
no_lines text = record { within = omega arith; lines = []; count_is = refl; others = tt; parts = refl }

others-push : (ls : Lines) (l : List ℕ) → AreOtherLines ls → IsWithout 10 l → ¬ (l ≡ codes "END") → AreOtherLines (ls ++ l ∷ [])
others-push [] l h w n = ((w, n), tt)
others-push (x ∷ xs) l h w n = (h.0, others-push xs l h.1 w n)

others_without : (ls : Lines) → AreOtherLines ls → AreWithout 10 ls
others_without [] h = tt
others_without (l ∷ ls) h = (h.0.0, others_without ls h.1)

-- one line more
line_more : (text rest line : List ℕ) (ls : Lines) (at size : ℕ) → text ≡ text_of ls ++ drop at text → rest ≡ drop at text → IsFirstLine rest line (drop size rest) → text ≡ text_of (ls ++ line ∷ []) ++ drop (at + size) text
line_more text rest line ls at size p e l =
    p ∙ ap (text_of ls ++◌) (sym e ∙ l.parts ∙ sym (append_assoc line (10 ∷ []) (drop size rest)))
    ∙ sym (append_assoc (text_of ls) (line ++ 10 ∷ []) (drop size rest))
    ∙ ap₂ (λ (x y : List ℕ). x ++ y) (sym (text_of-append ls (line ∷ []))) (ap (drop size) e ∙ drop-drop size at text)

still_within : (text rest : List ℕ) (at size : ℕ) → at ≤ length text → rest ≡ drop at text → size ≤ length rest → at + size ≤ length text
still_within text rest at size w e s = let left : length rest ≡ length text - at = ap length e ∙ length-drop at text in omega arith

pub another_line : (text rest line : List ℕ) (n at size : ℕ) → AreReadLines text n at → rest ≡ drop at text → IsFirstLine rest line (drop size rest) → size ≤ length rest → ¬ (line ≡ codes "END") → AreReadLines text (n + 1) (at + size)
another_line text rest line n at size r e l s h =
    let count_is = r.count_is in
    record {
      within = still_within text rest at size r.within e s;
      lines = r.lines ++ line ∷ [];
      count_is = omega (arith, length-append r.lines (line ∷ []));
      others = others-push r.lines line r.others l.without h;
      parts = line_more text rest line r.lines at size r.parts e l;
    }

pub line_end : (text rest line : List ℕ) (n at size : ℕ) → AreReadLines text n at → rest ≡ drop at text → IsFirstLine rest line (drop size rest) → size ≤ length rest → line ≡ codes "END" → IsUpToEnd text (at + size) (n + 1)
line_end text rest line n at size r e l s h =
    let count_is = r.count_is in
    let p = line_more text rest line r.lines at size r.parts e l ∙ ap (λ (z : List ℕ). text_of (r.lines ++ z ∷ []) ++ drop (at + size) text) h in
    ended r.lines r.others (still_within text rest at size r.within e s)
    (append_cancel_right (take (at + size) text) (text_of (r.lines ++ codes "END" ∷ [])) (drop (at + size) text) (take-append-drop (at + size) text ∙ p)) (omega arith)

pub no_line : (text rest : List ℕ) (n at : ℕ) → AreReadLines text n at → rest ≡ drop at text → IsWithout 10 rest → IsUpToEnd text (length text) n
no_line text rest n at r e w = endless r.lines (drop at text) r.others (subst (IsWithout 10) e w) r.parts refl

lines_fit : (ls : Lines) → length ls ≤ length (text_of ls)
lines_fit [] = omega arith
lines_fit (l ∷ ls) = omega (arith, lines_fit ls, length-append l (10 ∷ text_of ls))

-- so many lines take all bytes
pub all_lines : (text : List ℕ) (at : ℕ) → AreReadLines text (length text) at → IsUpToEnd text (length text) (length text)
all_lines text at r =
    let n = ap length r.parts in
    let count_is = r.count_is in
    let within = r.within in
    let none : drop at text ≡ [] = drop_all at text (omega (arith, lines_fit r.lines, length-append (text_of r.lines) (drop at text), length-drop at text)) in
    endless r.lines (drop at text) r.others (subst (IsWithout 10) (sym none) tt) r.parts refl

pub up_within : (text : List ℕ) (size count : ℕ) → IsUpToEnd text size count → size ≤ length text
up_within text size count (ended ls o w p c) = w
up_within text size count (endless ls last o w p z) = omega arith

-- ---- an answer that was read

-- lines that go on with something, in front of a text without a further line feed
front_within : (xs ys : Lines) (rest last : List ℕ) → AreWithout 10 xs → AreWithout 10 ys → IsWithout 10 last → text_of xs ++ rest ≡ text_of ys ++ last → (more : Lines) × (ys ≡ xs ++ more)
front_within [] ys rest last f g w e = (ys, refl)
front_within (x ∷ xs) [] rest last f g w e = absurd (no_feed x (text_of xs ++ rest) (subst (IsWithout 10) (sym e ∙ append_assoc x (10 ∷ text_of xs) rest) w))
front_within (x ∷ xs) (y ∷ ys) rest last f g w e =
    let r = one_line 10 x y (text_of xs ++ rest) (text_of ys ++ last) f.0 g.0 (sym (append_assoc x (10 ∷ text_of xs) rest) ∙ e ∙ append_assoc y (10 ∷ text_of ys) last) in
    let q = front_within xs ys rest last f.1 g.1 w r.1 in
    (q.0, ap₂ (λ (z : List ℕ) (zs : Lines). z ∷ zs) (sym r.0) q.1)

-- a text without `END` begins with no answer
no_answer : (ls : Lines) (last : List ℕ) → AreOtherLines ls → IsWithout 10 last → (a : Answer) (xs : Lines) (rest : List ℕ) → AnswerLines a xs → text_of xs ++ rest ≡ text_of ls ++ last → ⊥
no_answer ls last o w a xs rest s e =
    let q = front_within xs ls rest last (are_without xs s.1) (others_without ls o) w e in
    let d = answer_ends a xs s in
    no_end ls d.before q.0 o (q.1 ∙ ap (λ (z : Lines). z ++ q.0) d.parts ∙ append_assoc d.before (end_word ∷ []) q.0)

pub front_read : (bytes front : List ℕ) (size count : ℕ) (a : Answer) → IsUpToEnd bytes size count → front ≡ take size bytes → IsTextOf front a → BeginsWith AnswerLines bytes a count (drop size bytes)
front_read bytes front size count a (ended ls o w p c) f t =
    let h = answer_lines front a t in
    let ours : Lines = ls ++ end_word ∷ [] in
    let d = answer_ends a h.lines h.section in
    let texts : text_of h.lines ++ [] ≡ text_of ours ++ [] = ap (λ (x : List ℕ). x ++ []) (sym h.text_is ∙ f ∙ p) in
    let q = front_of_text h.lines ours [] (are_without h.lines h.section.1) (are_without-append 10 ls (end_word ∷ []) (others_without ls o) (end_without, tt)) (texts ∙ append-nil (text_of ours)) in
    let same = one_end ls d.before [] q.0 o d.others (q.1 ∙ ap (λ (z : Lines). z ++ q.0) d.parts ∙ append_assoc d.before (end_word ∷ []) q.0) in
    let lines : h.lines ≡ ours = d.parts ∙ ap (λ (z : Lines). z ++ end_word ∷ []) (sym same) in
    record {
      lines = h.lines;
      section = h.section;
      count_is = ap length lines ∙ omega (arith, length-append ls (end_word ∷ []));
      parts = sym (take-append-drop size bytes) ∙ ap (λ (x : List ℕ). x ++ drop size bytes) (sym f ∙ h.text_is);
    }
front_read bytes front size count a (endless ls last o w p z) f t =
    let h = answer_lines front a t in
    let all : front ≡ bytes = f ∙ take_all size bytes (omega arith) in
    absurd (no_answer ls last o w a h.lines [] h.section (append-nil (text_of h.lines) ∙ sym h.text_is ∙ all ∙ p))

pub front_lines : (bytes : List ℕ) (a : Answer) (count : ℕ) (rest : List ℕ) → BeginsWith AnswerLines bytes a count rest → count + 3 ≤ length bytes
front_lines bytes a count rest b =
    let d = answer_ends a b.lines b.section in
    let n = b.count_is in
    let long = ap length d.parts in
    let texts = ap length (b.parts ∙ ap (λ (ls : Lines). text_of ls ++ rest) d.parts ∙ ap (λ (t : List ℕ). t ++ rest) (text_of-append d.before (end_word ∷ []))) in
    let last : length (text_of (end_word ∷ [])) ≡ 4 = refl in
    omega (arith, lines_fit d.before, length-append d.before (end_word ∷ []), length-append (text_of d.before ++ text_of (end_word ∷ [])) rest, length-append (text_of d.before) (text_of (end_word ∷ [])))

-- ---- its first bad line

-- the front's first lines, and what is behind them
record IsCutFront (front : List ℕ) (n : ℕ) : Type 0 where
  lines : Lines
  back : Lines
  answer : Answer
  count_is : length lines ≡ n
  section : AnswerLines answer (lines ++ back)
  rest : List ℕ
  parts : front ≡ text_of lines ++ rest

cut_front : (front : List ℕ) (n : ℕ) → Begins IsSystemText front n → IsCutFront front n
cut_front front n (whole, firsts, (a, t), d, e) =
    let h = answer_lines whole a t in
    let f = front_of_lines n h.lines firsts (are_without h.lines h.section.1) (ap (λ (x : List ℕ). first_lines x n) (sym h.text_is) ∙ d) in
    let b = behind_front front n firsts e in
    record {
      lines = f.firsts;
      back = f.back;
      answer = a;
      count_is = f.count;
      section = subst (AnswerLines a) f.parts h.section;
      rest = b.0;
      parts = b.1 ∙ ap (λ (x : List ℕ). x ++ b.0) (sym f.text_is);
    }

-- a line more that an answer may have
one_more : (front : List ℕ) (n : ℕ) (ls : Lines) (line back : List ℕ) (a : Answer) (more : Lines) → n ≡ length ls + 1 → front ≡ text_of ls ++ (line ++ 10 ∷ back) → AnswerLines a (ls ++ line ∷ more) → Begins IsSystemText front n
one_more front n ls line back a more c p s =
    (text_of (ls ++ line ∷ more), text_of longer, (a, s.0), first, second)
  where
    longer : Lines
    longer = ls ++ line ∷ []

    long : length longer ≡ n
    long = omega (arith, length-append ls (line ∷ []))

    whole : ls ++ line ∷ more ≡ longer ++ more
    whole = sym (append_assoc ls (line ∷ []) more)

    without : AreWithout 10 longer
    without = are_without-front longer more (subst (AreWithout 10) whole (are_without (ls ++ line ∷ more) s.1))

    first : first_lines (text_of (ls ++ line ∷ more)) n ≡ Some (text_of longer)
    first = ap₂ (λ (t : List ℕ) k. first_lines t k) (ap text_of whole ∙ text_of-append longer more) (sym long) ∙ first_of_lines longer (text_of more) without

    text : front ≡ text_of longer ++ back
    text = p ∙ ap (text_of ls ++◌) (sym (append_assoc line (10 ∷ []) back)) ∙ sym (append_assoc (text_of ls) (line ++ 10 ∷ []) back) ∙ ap (λ (t : List ℕ). t ++ back) (sym (text_of-append ls (line ∷ [])))

    second : first_lines front n ≡ Some (text_of longer)
    second = ap₂ (λ (t : List ℕ) k. first_lines t k) text (sym long) ∙ first_of_lines longer back without

-- no answer goes on behind its end
past_end : (ls firsts : Lines) (line : List ℕ) (a : Answer) (more : Lines) → AreOtherLines ls → ls ++ end_word ∷ [] ≡ firsts ++ [] → AnswerLines a (firsts ++ line ∷ more) → ⊥
past_end ls firsts line a more o e s =
    let d = answer_ends a (firsts ++ line ∷ more) s in
    let all : ls ++ end_word ∷ (line ∷ more) ≡ d.before ++ end_word ∷ [] = sym (append_assoc ls (end_word ∷ []) (line ∷ more)) ∙ ap (λ (z : Lines). z ++ line ∷ more) (e ∙ append-nil firsts) ∙ d.parts in
    let same = ap length (one_end ls d.before (line ∷ more) [] o d.others all) in
    let n = ap length all in
    absurd (omega (arith, length-append ls (end_word ∷ (line ∷ more)), length-append d.before (end_word ∷ [])))

abbrev IsNext : List ℕ → ℕ → Lines → List ℕ → List ℕ → Type 0
IsNext front n firsts rest tail = (line back : List ℕ) → IsWithout 10 line → rest ++ tail ≡ line ++ 10 ∷ back → (a : Answer) (more : Lines) → ¬ AnswerLines a (firsts ++ line ∷ more)

no_next : (bytes front : List ℕ) (size count n : ℕ) → IsUpToEnd bytes size count → front ≡ take size bytes → (Begins IsSystemText front n → ⊥) → (firsts : Lines) (rest : List ℕ) → AreWithout 10 firsts → n ≡ length firsts + 1 → front ≡ text_of firsts ++ rest → IsNext front n firsts rest (drop size bytes)
no_next bytes front size count n (ended ls o w p c) f b firsts rest without long parts line back wl e a more s =
    go q.0 q.1 q.2
  where
    q : (m : Lines) × (ls ++ end_word ∷ [] ≡ firsts ++ m) × (rest ≡ text_of m)
    q = front_of_text firsts (ls ++ end_word ∷ []) rest without (are_without-append 10 ls (end_word ∷ []) (others_without ls o) (end_without, tt)) (sym parts ∙ f ∙ p)

    go : (m : Lines) → ls ++ end_word ∷ [] ≡ firsts ++ m → rest ≡ text_of m → ⊥
    go [] d t = past_end ls firsts line a more o d s
    go (l ∷ ms) d t =
        let ours = are_without-append 10 ls (end_word ∷ []) (others_without ls o) (end_without, tt) in
        let cut = subst (AreWithout 10) d ours in
        let here = one_line 10 l line (text_of ms ++ drop size bytes) back (feedless firsts l ms cut) wl (sym (append_assoc l (10 ∷ text_of ms) (drop size bytes)) ∙ ap (λ (x : List ℕ). x ++ drop size bytes) (sym t) ∙ e) in
        b (one_more front n firsts line (text_of ms) a more long (parts ∙ ap (text_of firsts ++◌) (t ∙ ap (λ (x : List ℕ). x ++ 10 ∷ text_of ms) here.0)) s)
      where
        feedless : (xs : Lines) (l : List ℕ) (ms : Lines) → AreWithout 10 (xs ++ l ∷ ms) → IsWithout 10 l
        feedless [] l ms h = h.0
        feedless (x ∷ xs) l ms h = feedless xs l ms h.1
no_next bytes front size count n (endless ls last o w p z) f b firsts rest without long parts line back wl e a more s =
    let none : drop size bytes ≡ [] = drop_all size bytes (omega arith) in
    let here : rest ≡ line ++ 10 ∷ back = sym (append-nil rest) ∙ ap (rest ++◌) (sym none) ∙ e in
    b (one_more front n firsts line back a more long (parts ∙ ap (text_of firsts ++◌) here) s)

no_whole : (bytes front : List ℕ) (size count : ℕ) → IsUpToEnd bytes size count → front ≡ take size bytes → (IsSystemText front → ⊥) → (firsts : Lines) (rest : List ℕ) → front ≡ text_of firsts ++ rest → (a : Answer) → ¬ AnswerLines a firsts
no_whole bytes front size count (ended ls o w p c) f b firsts rest parts a s =
    let d = answer_ends a firsts s in
    let q = front_of_text firsts (ls ++ end_word ∷ []) rest (are_without firsts s.1) (are_without-append 10 ls (end_word ∷ []) (others_without ls o) (end_without, tt)) (sym parts ∙ f ∙ p) in
    let same = one_end ls d.before [] q.0 o d.others (q.1 ∙ ap (λ (z : Lines). z ++ q.0) d.parts ∙ append_assoc d.before (end_word ∷ []) q.0) in
    let lines : ls ++ end_word ∷ [] ≡ firsts = ap (λ (z : Lines). z ++ end_word ∷ []) same ∙ sym d.parts in
    b (a, subst (λ (x : List ℕ). IsTextOf x a) (sym (f ∙ p ∙ ap text_of lines)) s.0)
no_whole bytes front size count (endless ls last o w p z) f b firsts rest parts a s =
    let all : front ≡ bytes = f ∙ take_all size bytes (omega arith) in
    no_answer ls last o w a firsts rest s (sym parts ∙ all ∙ p)

front_bad : (bytes front : List ℕ) (size count n : ℕ) → IsUpToEnd bytes size count → front ≡ take size bytes → IsBadLine IsSystemText front n → IsBadFrom AnswerLines bytes 1 n
front_bad bytes front size count n u f b =
    let c = cut_front front (n - 1) b.before in
    let low = b.from_one in
    let count_is = c.count_is in
    let without = are_without-front c.lines c.back (are_without (c.lines ++ c.back) c.section.1) in
    record {
      lines = c.lines;
      number_is = omega arith;
      rest = c.rest ++ drop size bytes;
      parts = sym (take-append-drop size bytes) ∙ ap (λ (x : List ℕ). x ++ drop size bytes) (sym f ∙ c.parts) ∙ append_assoc (text_of c.lines) c.rest (drop size bytes);
      begin = (c.answer, c.back, c.section);
      with_it = λ line back w e a more s. no_next bytes front size count n u f b.with_it c.lines c.rest without (omega arith) c.parts line back w e a more s;
      not_whole = λ a s. no_whole bytes front size count u f b.not_whole c.lines c.rest c.parts a s;
    }

pub front_fault : (bytes front : List ℕ) (size count : ℕ) → IsUpToEnd bytes size count → front ≡ take size bytes → (fault : TextFault) → IsTextFault IsSystemText front fault → IsSectionFault AnswerLines bytes 1 fault
front_fault bytes front size count u f (BadText n) b = front_bad bytes front size count n u f b
front_fault bytes front size count u f Memory b = tt
