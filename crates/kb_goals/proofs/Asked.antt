-- What is asked behind an answer, section by section.
use Rattle.std.proofs.Common.{◌≡◌, refl, ap, ap₂, sym, ◌∙◌, subst, arith, ℕ, ◌+◌, ◌-◌, ◌<◌, ◌≤◌, List, [], ◌∷◌, ◌++◌, length, drop}
use Rattle.std.specs.Prelude.{replicate}
use Rattle.std.proofs.lemmas.List.{append_cancel_left, length-replicate}
use Rattle.std.proofs.lemmas.List.Elements.{All-replicate}
use Rattle.kb_term.specs.Signature.{Signature, IsSignature}
use Rattle.kb_text.specs.Fields.{IsWithout, IsTextFault}
use Rattle.kb_text.specs.Lines.{Begins, IsBadLine}
use Rattle.kb_text.specs.Names.{Name}
use Rattle.kb_text.specs.Terms.{names_of}
use Rattle.kb_text.specs.declared.fault.TextFault.{TextFault}
use Rattle.kb_text.specs.declared.fault.TextFault.TheVariants.{BadText, Memory}
use Rattle.kb_text.proofs.Cuts.{AreWithout, are_without-append}
use Rattle.kb_checker.specs.Answers.{Answer}
use Rattle.kb_report.specs.Sections.{Lines, text_of, Section, item_lines, Items, Count, Word, counted_line, BeginsWith, IsSectionFault}
use Rattle.kb_report.proofs.Fronts.{IsSection, Then, Goes, then_goes, IsText, IsReadTo, read_nothing, read_more, section_bad, behind_bad}
use Rattle.kb_report.proofs.LinesOfTexts.{text_of-append, same_lines}
use Rattle.kb_report.proofs.SystemForm.{end_word, end_without, word_section, count_section, AtEnd, FromEnd, goes_end, joined, end_lines}
use Rattle.kb_goals.specs.Asking.{AnswerLines, asked_lines, AreAsked, IsAskedTextOf, IsAskedText}
use Rattle.kb_goals.proofs.Ends.{answer_lines, answer_section}

-- a kind of question: each tells its line, and some one may always stand there
pub record IsKind {X : Type 0} (word : List ℕ) (P : Signature → X → Type 0) (body : List Name → X → List ℕ) : Type 0 where
  pub word_without : IsWithout 10 word
  pub section : (sig : Signature) → IsSignature sig → (n : ℕ) → n ≤ 256 → IsSection (Items (P sig) (λ k. body (names_of sig)) n)
  pub some : X
  pub some_form : (sig : Signature) → P sig some

-- ---- the sections in their order

abbrev pub FromItems : {X : Type 0} → (Signature → X → Type 0) → (List Name → X → List ℕ) → Signature → ℕ → Lines → Type 0
FromItems P body sig n = Then (Items (P sig) (λ k. body (names_of sig)) n) (λ xs. FromEnd)

abbrev pub FromCount : {X : Type 0} → List ℕ → (Signature → X → Type 0) → (List Name → X → List ℕ) → Answer → Lines → Type 0
FromCount word P body a = Then (Count word 256) (FromItems P body a.problem.signature)

abbrev pub Asked : {X : Type 0} → List ℕ → (Signature → X → Type 0) → (List Name → X → List ℕ) → Lines → Type 0
Asked word P body = Then AnswerLines (FromCount word P body)

pub count_of : (word : List ℕ) → IsWithout 10 word → IsSection (Count word 256)
count_of word w = count_section word 256 (omega arith) w

pub end_of : IsSection (Word end_word)
end_of = word_section end_word end_without

pub goes_items : {X : Type 0} (word : List ℕ) (P : Signature → X → Type 0) (body : List Name → X → List ℕ) → IsKind word P body → (sig : Signature) (n : ℕ) → Goes (FromItems P body sig n)
goes_items word P body k sig n =
    then_goes (Items (P sig) (λ k. body (names_of sig)) n) (λ xs. FromEnd) (replicate n k.some) (item_lines (λ k. body (names_of sig)) 1 (replicate n k.some)) (All-replicate (P sig) n k.some (k.some_form sig), length-replicate n k.some, refl) goes_end

pub goes_count : {X : Type 0} (word : List ℕ) (P : Signature → X → Type 0) (body : List Name → X → List ℕ) → IsKind word P body → (a : Answer) → Goes (FromCount word P body a)
goes_count word P body k a = then_goes (Count word 256) (FromItems P body a.problem.signature) 0 (counted_line word 0 ∷ []) (omega arith, refl) (goes_items word P body k a.problem.signature 0)

asked_without : {X : Type 0} (word : List ℕ) (P : Signature → X → Type 0) (body : List Name → X → List ℕ) → IsKind word P body → (lines : Lines) → Asked word P body lines → AreWithout 10 lines
asked_without word P body k lines (a, ls, ys, s, (n, cs, ds, c, (xs, is, es, q, d, g), h), e) =
    let sig = a.problem.signature in
    let items = (k.section sig s.0.form.signature n c.0).without xs is q in
    let last : AreWithout 10 es = subst (AreWithout 10) (sym (end_lines es d)) (end_without, tt) in
    let back : AreWithout 10 ds = subst (AreWithout 10) (sym g) (are_without-append 10 is es items last) in
    let behind : AreWithout 10 ys = subst (AreWithout 10) (sym h) (are_without-append 10 cs ds ((count_of word k.word_without).without n cs c) back) in
    subst (AreWithout 10) (sym e) (are_without-append 10 ls ys (answer_section.without a ls s) behind)

-- ---- they are the lines of what is asked

lines_are : {X : Type 0} (word : List ℕ) (f : X → List ℕ) (n : ℕ) (xs : List X) (ys cs ds is es : Lines) → ys ≡ cs ++ ds → cs ≡ counted_line word n ∷ [] → ds ≡ is ++ es → is ≡ item_lines (λ k. f) 1 xs → es ≡ end_word ∷ [] → length xs ≡ n → ys ≡ asked_lines word f xs
lines_are word f n xs ys cs ds is es h c g i e l =
    joined ys cs ds (counted_line word n ∷ []) (item_lines (λ k. f) 1 xs ++ end_word ∷ []) h c (joined ds is es (item_lines (λ k. f) 1 xs) (end_word ∷ []) g i e)
    ∙ ap (λ m. counted_line word m ∷ (item_lines (λ k. f) 1 xs ++ end_word ∷ [])) (sym l)

to_text : {X : Type 0} (word : List ℕ) (P : Signature → X → Type 0) (body : List Name → X → List ℕ) (text : List ℕ) → IsText (Asked word P body) text → IsAskedText word P body text
to_text word P body text (lines, (a, ls, ys, s, (n, cs, ds, c, (xs, is, es, q, d, g), h), e), t) =
    let names = names_of a.problem.signature in
    let long = q.1 in
    let few = c.0 in
    let asked = lines_are word (body names) n xs ys cs ds is es h c.1 g q.2 (end_lines es d) long in (
      a,
      xs,
      record {
        front = text_of ls;
        answer = s.0;
        form = record { count = omega arith; each = q.0 };
        spelling = t ∙ ap text_of (e ∙ ap (ls ++◌) asked) ∙ text_of-append ls (asked_lines word (body names) xs);
      },
    )

asked_in_order : {X : Type 0} (word : List ℕ) (P : Signature → X → Type 0) (body : List Name → X → List ℕ) (a : Answer) (xs : List X) → AreAsked (P a.problem.signature) xs → FromCount word P body a (asked_lines word (body (names_of a.problem.signature)) xs)
asked_in_order word P body a xs f =
    let sig = a.problem.signature in
    let items = item_lines (λ k. body (names_of sig)) 1 xs in
    let end : FromEnd (end_word ∷ []) = (tt, end_word ∷ [], [], (tt, refl), refl, refl) in
    let each : FromItems P body sig (length xs) (items ++ end_word ∷ []) = (xs, items, end_word ∷ [], (f.each, refl, refl), end, refl) in
    (length xs, counted_line word (length xs) ∷ [], items ++ end_word ∷ [], (f.count, refl), each, refl)

asked_form : {X : Type 0} (word : List ℕ) (P : Signature → X → Type 0) (body : List Name → X → List ℕ) (a : Answer) (ls : Lines) (xs : List X) → AnswerLines a ls → AreAsked (P a.problem.signature) xs → Asked word P body (ls ++ asked_lines word (body (names_of a.problem.signature)) xs)
asked_form word P body a ls xs s f = (a, ls, asked_lines word (body (names_of a.problem.signature)) xs, s, asked_in_order word P body a xs f, refl)

asked_text : {X : Type 0} (word : List ℕ) (P : Signature → X → Type 0) (body : List Name → X → List ℕ) (text : List ℕ) (a : Answer) (xs : List X) → (r : IsAskedTextOf word P body text a xs) → text ≡ text_of ((answer_lines r.front a r.answer).lines ++ asked_lines word (body (names_of a.problem.signature)) xs)
asked_text word P body text a xs r =
    let h = answer_lines r.front a r.answer in
    let asked = asked_lines word (body (names_of a.problem.signature)) xs in
    r.spelling ∙ ap (λ (t : List ℕ). t ++ text_of asked) h.text_is ∙ sym (text_of-append h.lines asked)

from_text : {X : Type 0} (word : List ℕ) (P : Signature → X → Type 0) (body : List Name → X → List ℕ) (text : List ℕ) → IsAskedText word P body text → IsText (Asked word P body) text
from_text word P body text (a, xs, r) =
    let h = answer_lines r.front a r.answer in
    (h.lines ++ asked_lines word (body (names_of a.problem.signature)) xs, asked_form word P body a h.lines xs h.section r.form, asked_text word P body text a xs r)

bad_asked_line : {X : Type 0} (word : List ℕ) (P : Signature → X → Type 0) (body : List Name → X → List ℕ) (text : List ℕ) (n : ℕ) → IsBadLine (IsText (Asked word P body)) text n → IsBadLine (IsAskedText word P body) text n
bad_asked_line {X} word P body text n b = record {
  from_one = b.from_one;
  before = to (n - 1) b.before;
  with_it = λ k. b.with_it (back k);
  not_whole = λ s. b.not_whole (from_text word P body text s);
}
  where
    to : (m : ℕ) → Begins (IsText (Asked word P body)) text m → Begins (IsAskedText word P body) text m
    to m (whole, front, form, e, d) = (whole, front, to_text word P body whole form, e, d)

    back : Begins (IsAskedText word P body) text n → Begins (IsText (Asked word P body)) text n
    back (whole, front, form, e, d) = (whole, front, from_text word P body whole form, e, d)

-- ---- what was read so far

abbrev pub Reads : {X : Type 0} → List ℕ → (Signature → X → Type 0) → (List Name → X → List ℕ) → List ℕ → List ℕ → ℕ → (Lines → Type 0) → Type 0
Reads word P body = IsReadTo (Asked word P body)

pub at_start : {X : Type 0} (word : List ℕ) (P : Signature → X → Type 0) (body : List Name → X → List ℕ) (text : List ℕ) → Reads word P body text text 1 (Asked word P body)
at_start word P body text = read_nothing (Asked word P body) text

pub next : {X Y : Type 0} (word : List ℕ) (P : Signature → X → Type 0) (body : List Name → X → List ℕ) (S : Section Y) (Next : Y → Lines → Type 0) (text rest back : List ℕ) (number new : ℕ) (y : Y) (count size : ℕ) → IsSection S → Reads word P body text rest number (Then S Next) → BeginsWith S rest y count (drop size rest) → back ≡ drop size rest → new ≡ number + count → Reads word P body text back new (Next y)
next word P body S Next text rest back number new y count size i r b e n =
    subst (λ (t : List ℕ). Reads word P body text t new (Next y)) (sym e) (subst (λ (k : ℕ). Reads word P body text (drop size rest) k (Next y)) (sym n) (read_more (Asked word P body) S Next text rest (drop size rest) number y count i r b))

-- a fault of a section is the text's
pub section_fault : {X Y : Type 0} (word : List ℕ) (P : Signature → X → Type 0) (body : List Name → X → List ℕ) → IsKind word P body → (S : Section Y) (Next : Y → Lines → Type 0) (text rest : List ℕ) (first : ℕ) → IsSection S → ((y : Y) → Goes (Next y)) → Reads word P body text rest first (Then S Next) → (fault : TextFault) → IsSectionFault S rest first fault → IsTextFault (IsAskedText word P body) text fault
section_fault word P body k S Next text rest first i goes r (BadText n) b = bad_asked_line word P body text n (section_bad (Asked word P body) S Next text rest first n (asked_without word P body k) i (λ y ys s. goes y) r b)
section_fault word P body k S Next text rest first i goes r Memory b = tt

pub behind_fault : {X : Type 0} (word : List ℕ) (P : Signature → X → Type 0) (body : List Name → X → List ℕ) → IsKind word P body → (text rest : List ℕ) (number : ℕ) → Reads word P body text rest number AtEnd → 0 < length rest → IsTextFault (IsAskedText word P body) text (BadText number)
behind_fault word P body k text rest number r h = bad_asked_line word P body text number (behind_bad (Asked word P body) text rest number (asked_without word P body k) r h)

-- what was read to the end
pub asked_read : {X : Type 0} (word : List ℕ) (P : Signature → X → Type 0) (body : List Name → X → List ℕ) (bytes t1 t2 t3 : List ℕ) (a : Answer) (xs : List X) (lines n s1 s2 s3 s4 : ℕ)
    → BeginsWith AnswerLines bytes a lines (drop s1 bytes) → t1 ≡ drop s1 bytes → BeginsWith (Count word 256) t1 n 1 (drop s2 t1) → t2 ≡ drop s2 t1
    → BeginsWith (Items (P a.problem.signature) (λ k. body (names_of a.problem.signature)) n) t2 xs n (drop s3 t2) → t3 ≡ drop s3 t2 → BeginsWith (Word end_word) t3 tt 1 (drop s4 t3) → drop s4 t3 ≡ [] → IsAskedTextOf word P body bytes a xs
asked_read word P body bytes t1 t2 t3 a xs lines n s1 s2 s3 s4 b1 e1 b2 e2 b3 e3 b4 e4 =
    let names = names_of a.problem.signature in
    let long = b3.section.1 in
    let few = b2.section.0 in
    let items = item_lines (λ k. body names) 1 xs in
    let last : t3 ≡ text_of (end_word ∷ []) = b4.parts ∙ ap₂ (λ (ls : Lines) (t : List ℕ). text_of ls ++ t) b4.section.1 e4 in
    let from_items : t2 ≡ text_of (items ++ end_word ∷ []) = b3.parts ∙ ap₂ (λ (ls : Lines) (t : List ℕ). text_of ls ++ t) b3.section.2 (sym e3 ∙ last) ∙ sym (text_of-append items (end_word ∷ [])) in
    let from_count : t1 ≡ text_of (counted_line word n ∷ (items ++ end_word ∷ [])) = b2.parts ∙ ap₂ (λ (ls : Lines) (t : List ℕ). text_of ls ++ t) b2.section.1 (sym e2 ∙ from_items) ∙ sym (text_of-append (counted_line word n ∷ []) (items ++ end_word ∷ [])) in
    record {
      front = text_of b1.lines;
      answer = b1.section.0;
      form = record { count = omega arith; each = b3.section.0 };
      spelling = b1.parts ∙ ap (text_of b1.lines ++◌) (sym e1 ∙ from_count ∙ ap (λ m. text_of (counted_line word m ∷ (items ++ end_word ∷ []))) (sym long));
    }

-- ---- a text is one answer's, and that of one list

same_asked : {X : Type 0} (word : List ℕ) (P : Signature → X → Type 0) (body : List Name → X → List ℕ) → IsKind word P body → (sig : Signature) → IsSignature sig → (xs ys : List X) → AreAsked (P sig) xs → AreAsked (P sig) ys → asked_lines word (body (names_of sig)) xs ≡ asked_lines word (body (names_of sig)) ys → xs ≡ ys
same_asked word P body k sig i xs ys f g e =
    let count = (count_of word k.word_without).one (length xs) (length ys) _ _ _ _ (f.count, refl) (g.count, refl) e in
    ((k.section sig i (length ys) g.count).one xs ys _ _ _ _ (f.each, count.0, refl) (g.each, refl, refl) (ap (drop 1) e)).0

over : {X : Type 0} (word : List ℕ) (P : Signature → X → Type 0) (body : List Name → X → List ℕ) → IsKind word P body → (a b : Answer) → a ≡ b → IsSignature a.problem.signature → (xs ys : List X) → AreAsked (P a.problem.signature) xs → AreAsked (P b.problem.signature) ys → asked_lines word (body (names_of a.problem.signature)) xs ≡ asked_lines word (body (names_of b.problem.signature)) ys → xs ≡ ys
over word P body k a b s i xs ys f g e =
    let sigs = ap (λ (z : Answer). z.problem.signature) s in
    same_asked word P body k a.problem.signature i xs ys f (subst (λ (z : Signature). AreAsked (P z) ys) (sym sigs) g) (e ∙ ap (λ (z : Signature). asked_lines word (body (names_of z)) ys) (sym sigs))

pub one_asked : {X : Type 0} (word : List ℕ) (P : Signature → X → Type 0) (body : List Name → X → List ℕ) → IsKind word P body → (bytes : List ℕ) (a b : Answer) (xs ys : List X) → IsAskedTextOf word P body bytes a xs → IsAskedTextOf word P body bytes b ys → (a ≡ b) × (xs ≡ ys)
one_asked word P body k bytes a b xs ys r s =
    let f = answer_lines r.front a r.answer in
    let g = answer_lines s.front b s.answer in
    let mine = asked_lines word (body (names_of a.problem.signature)) xs in
    let other = asked_lines word (body (names_of b.problem.signature)) ys in
    let left = asked_without word P body k (f.lines ++ mine) (asked_form word P body a f.lines xs f.section r.form) in
    let right = asked_without word P body k (g.lines ++ other) (asked_form word P body b g.lines ys g.section s.form) in
    let lines = same_lines (f.lines ++ mine) (g.lines ++ other) left right (sym (asked_text word P body bytes a xs r) ∙ asked_text word P body bytes b ys s) in
    let one = answer_section.one a b f.lines g.lines mine other f.section g.section lines in
    let back = append_cancel_left f.lines mine other (lines ∙ ap (λ (z : Lines). z ++ other) (sym one.1)) in
    (one.0, over word P body k a b one.0 r.answer.form.signature xs ys r.form s.form back)
