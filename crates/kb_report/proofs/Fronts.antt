-- Sections one behind the other, and the first bad line of a text of them.
use Rattle.std.proofs.Common.{append-nil, append_assoc, ◌≡◌, refl, ap, ap₂, sym, ◌∙◌, subst, arith, ℕ, zero, suc, ◌+◌, ◌-◌, ◌<◌, ◌==◌, Bool, true, false, cond, List, [], ◌∷◌, ◌++◌, length, length-append, Option, Some, None}
use Rattle.std.specs.Prelude.{option_map}
use Rattle.std.proofs.lemmas.Bool.{eqb-true}
use Rattle.std.proofs.lemmas.List.{append_cancel_left}
use Rattle.kb_text.specs.Fields.{IsWithout}
use Rattle.kb_text.specs.Lines.{first_lines, Begins, IsBadLine}
use Rattle.kb_text.proofs.Cuts.{AreWithout, are_without-append}
use Rattle.kb_text.proofs.LineFronts.{first_lines-none, first_lines-line}
use Rattle.kb_report.specs.Sections.{Lines, text_of, Section, BeginsWith, IsBadFrom}
use Rattle.kb_report.proofs.LinesOfTexts.{text_of-append, behind_first, are_without-front, are_without-back, front_of_text, same_lines, first_of_lines, HasLine, mapped}

-- the lines of a section hold no line feed, and tell its value and where they end
pub record IsSection {X : Type 0} (S : Section X) : Type 0 where
  pub without : (x : X) (xs : Lines) → S x xs → AreWithout 10 xs
  pub one : (x y : X) (xs ys zs ws : Lines) → S x xs → S y ys → xs ++ zs ≡ ys ++ ws → (x ≡ y) × (xs ≡ ys)

-- a section, and what may follow its value
abbrev pub Then : {X : Type 0} → Section X → (X → Lines → Type 0) → Lines → Type 0
Then {X} S Next lines = (x : X) × (xs ys : Lines) × S x xs × Next x ys × (lines ≡ xs ++ ys)

-- some lines may follow
abbrev pub Goes : (Lines → Type 0) → Type 0
Goes Rest = (more : Lines) × Rest more

pub then_goes : {X : Type 0} (S : Section X) (Next : X → Lines → Type 0) (x : X) (xs : Lines) → S x xs → Goes (Next x) → Goes (Then S Next)
then_goes S Next x xs s n = (xs ++ n.0, (x, xs, n.0, s, n.1, refl))

-- what follows a section that was read
pub behind_section : {X : Type 0} (S : Section X) (Next : X → Lines → Type 0) → IsSection S → (x : X) (xs more : Lines) → S x xs → Then S Next (xs ++ more) → Next x more
behind_section {X} S Next i x xs more s t =
    let o = i.one x t.0 xs t.1 more t.2 s t.3 t.5 in
    let same : t.2 ≡ more = append_cancel_left xs t.2 more (ap (λ (zs : Lines). zs ++ t.2) o.1 ∙ sym t.5) in
    subst (λ (z : X). Next z more) (sym o.0) (subst (Next t.0) same t.4)

-- ---- what was read so far

-- the first lines of the text were read; what may follow them is what may follow here
pub record IsReadTo (Form : Lines → Type 0) (text rest : List ℕ) (number : ℕ) (Rest : Lines → Type 0) : Type 0 where
  pub lines : Lines
  pub number_is : number ≡ length lines + 1
  pub without : AreWithout 10 lines
  pub parts : text ≡ text_of lines ++ rest
  pub left : (more : Lines) → Form (lines ++ more) → Rest more
  pub right : (more : Lines) → Rest more → Form (lines ++ more)

pub read_nothing : (Form : Lines → Type 0) (text : List ℕ) → IsReadTo Form text text 1 Form
read_nothing Form text = record { lines = []; number_is = omega arith; without = tt; parts = refl; left = λ more f. f; right = λ more f. f }

pub read_more : {X : Type 0} (Form : Lines → Type 0) (S : Section X) (Next : X → Lines → Type 0) (text rest back : List ℕ) (number : ℕ) (x : X) (count : ℕ) → IsSection S
    → IsReadTo Form text rest number (Then S Next) → BeginsWith S rest x count back → IsReadTo Form text back (number + count) (Next x)
read_more Form S Next text rest back number x count i r b =
    let number_is = r.number_is in
    let count_is = b.count_is in
    record {
      lines = r.lines ++ b.lines;
      number_is = omega (arith, length-append r.lines b.lines);
      without = are_without-append 10 r.lines b.lines r.without (i.without x b.lines b.section);
      parts = r.parts ∙ ap (text_of r.lines ++◌) b.parts ∙ sym (append_assoc (text_of r.lines) (text_of b.lines) back) ∙ ap (λ (t : List ℕ). t ++ back) (sym (text_of-append r.lines b.lines));
      left = λ more f. behind_section S Next i x b.lines more b.section (r.left (b.lines ++ more) (subst Form (append_assoc r.lines b.lines more) f));
      right = λ more n. subst Form (sym (append_assoc r.lines b.lines more)) (r.right (b.lines ++ more) (x, b.lines, more, b.section, n, refl));
    }

-- ---- the first bad line

-- the texts of lines of the form
abbrev pub IsText : (Lines → Type 0) → List ℕ → Type 0
IsText Form text = (lines : Lines) × Form lines × (text ≡ text_of lines)

-- a text with a first line
first_line : (text front : List ℕ) → first_lines text 1 ≡ Some front → HasLine text
first_line [] front e = absurd (cc)
first_line (b ∷ bytes) front e = go (b == 10) refl (λ f p. first_line bytes f p)
  where
    later : (o : Option (List ℕ)) → option_map (λ (f : List ℕ). b ∷ f) o ≡ Some front → (f : List ℕ) × (o ≡ Some f)
    later None p = absurd (cc)
    later (Some f) p = (f, refl)

    go : (v : Bool) → (b == 10) ≡ v → ((f : List ℕ) → first_lines bytes 1 ≡ Some f → HasLine bytes) → HasLine (b ∷ bytes)
    go true p h = record { line = []; back = bytes; without = tt; parts = ap (λ (c : ℕ). c ∷ bytes) (eqb-true b 10 p) }
    go false p h =
        let f = later (first_lines bytes 1) (sym (ap (λ (v : Bool). option_map (λ (f : List ℕ). b ∷ f) (first_lines bytes (cond v 0 1))) p) ∙ e) in
        let l = h f.0 f.1 in
        record { line = b ∷ l.line; back = l.back; without = (p, l.without); parts = ap (b ∷◌) l.parts }

-- a text that has a line more than these
front_longer : (rest : List ℕ) (lines : Lines) (front : List ℕ) → AreWithout 10 lines → first_lines (text_of lines ++ rest) (suc (length lines)) ≡ Some front → HasLine rest
front_longer rest [] front f e = first_line rest front e
front_longer rest (x ∷ xs) front f e =
    let m = mapped (first_lines (text_of xs ++ rest) (suc (length xs))) x front
    (sym (first_lines-line x (text_of xs ++ rest) (suc (length xs)) f.0) ∙ ap (λ (t : List ℕ). first_lines t (suc (suc (length xs)))) (sym (behind_first x xs rest)) ∙ e) in
    front_longer rest xs m.inner f.1 m.some

-- lines that have at least so many
pub record HasFirst (lines : Lines) (n : ℕ) (front : List ℕ) : Type 0 where
  pub firsts : Lines
  pub back : Lines
  pub count : length firsts ≡ n
  pub parts : lines ≡ firsts ++ back
  pub text_is : text_of firsts ≡ front

pub front_of_lines : (n : ℕ) (lines : Lines) (front : List ℕ) → AreWithout 10 lines → first_lines (text_of lines) n ≡ Some front → HasFirst lines n front
front_of_lines zero lines front f e = record { firsts = []; back = lines; count = refl; parts = refl; text_is = (let s : Some [] ≡ Some front = sym (first_lines-none (text_of lines)) ∙ e in cc) }
front_of_lines (suc n) [] front f e = absurd (cc)
front_of_lines (suc n) (x ∷ xs) front f e =
    let m = mapped (first_lines (text_of xs) n) x front (sym (first_lines-line x (text_of xs) n f.0) ∙ e) in
    let r = front_of_lines n xs m.inner f.1 m.some in
    record { firsts = x ∷ r.firsts; back = r.back; count = ap suc r.count; parts = ap (x ∷◌) r.parts; text_is = ap (λ (t : List ℕ). x ++ 10 ∷ t) r.text_is ∙ m.same }

-- the lines begin a text of the form, and with one more they begin none
pub bad_line : (Form : Lines → Type 0) → ((lines : Lines) → Form lines → AreWithout 10 lines) → (text : List ℕ) (lines : Lines) (rest : List ℕ) (number : ℕ) → number ≡ length lines + 1 → text ≡ text_of lines ++ rest
    → Goes (λ more. Form (lines ++ more))
    → ((line back : List ℕ) → IsWithout 10 line → rest ≡ line ++ 10 ∷ back → (more : Lines) → ¬ Form (lines ++ line ∷ more))
    → (rest ≡ [] → ¬ Form lines) → IsBadLine (IsText Form) text number
bad_line Form without text lines rest number n e begin with_it not_whole = record {
  from_one = omega arith;
  before = (text_of (lines ++ begin.0), text_of lines, (lines ++ begin.0, begin.1, refl), ap (λ (t : List ℕ). first_lines t (number - 1)) (text_of-append lines begin.0) ∙ at_front (text_of begin.0), ap (λ (t : List ℕ). first_lines t (number - 1)) e ∙ at_front rest);
  with_it = no_more;
  not_whole = no_whole;
}
  where
    here : AreWithout 10 lines
    here = are_without-front lines begin.0 (without (lines ++ begin.0) begin.1)

    at_front : (t : List ℕ) → first_lines (text_of lines ++ t) (number - 1) ≡ Some (text_of lines)
    at_front t = let same : number - 1 ≡ length lines = omega arith in ap (first_lines (text_of lines ++ t)) same ∙ first_of_lines lines t here

    no_more : Begins (IsText Form) text number → ⊥
    no_more b =
        let next : number ≡ suc (length lines) = omega arith in
        let ls = b.2.0 in
        let form = b.2.1 in
        let mine = ap (first_lines (text_of lines ++ rest)) (sym next) ∙ ap (λ (t : List ℕ). first_lines t number) (sym e) ∙ b.4 in
        let h = front_longer rest lines b.1 here mine in
        let longer : Lines = lines ++ h.line ∷ [] in
        let long : length longer ≡ number = omega (arith, length-append lines (h.line ∷ [])) in
        let wide : AreWithout 10 longer = are_without-append 10 lines (h.line ∷ []) here (h.without, tt) in
        let whole : text ≡ text_of longer ++ h.back = e ∙ ap (text_of lines ++◌) (h.parts ∙ sym (append_assoc h.line (10 ∷ []) h.back)) ∙ sym (append_assoc (text_of lines) (h.line ++ 10 ∷ []) h.back) ∙ ap (λ (t : List ℕ). t ++ h.back) (sym (text_of-append lines (h.line ∷ []))) in
        let front : Some (text_of longer) ≡ Some b.1 = sym (first_of_lines longer h.back wide) ∙ ap (first_lines (text_of longer ++ h.back)) long ∙ ap (λ (t : List ℕ). first_lines t number) (sym whole) ∙ b.4 in
        let fronts : text_of longer ≡ b.1 = cc in
        let r = front_of_lines number ls b.1 (without ls form) (ap (λ (t : List ℕ). first_lines t number) (sym b.2.2) ∙ b.3) in
        let same = same_lines r.firsts longer (are_without-front r.firsts r.back (subst (AreWithout 10) r.parts (without ls form))) wide (r.text_is ∙ sym fronts) in
        with_it h.line h.back h.without h.parts r.back (subst Form (r.parts ∙ ap (λ (ls : Lines). ls ++ r.back) same ∙ append_assoc lines (h.line ∷ []) r.back) form)

    left : (more : Lines) → Form (lines ++ more) → AreWithout 10 more → rest ≡ text_of more → ⊥
    left [] form w r = not_whole r (subst Form (append-nil lines) form)
    left (l ∷ ls) form w r = with_it l (text_of ls) w.0 r ls form

    no_whole : IsText Form text → ⊥
    no_whole t =
        let all = without t.0 t.1 in
        let r = front_of_text lines t.0 rest here all (sym e ∙ t.2) in
        left r.0 (subst Form r.1 t.1) (are_without-back lines r.0 (subst (AreWithout 10) r.1 all)) r.2

-- lines of a section behind each other, cut in front of a line of the whole
record IsCut (xs ys lines : Lines) (line : List ℕ) (more : Lines) : Type 0 where
  back : Lines
  front : xs ≡ lines ++ line ∷ back

pub cut : (xs ys lines : Lines) (line : List ℕ) (more : Lines) → xs ++ ys ≡ lines ++ line ∷ more → ((back : Lines) → xs ≡ lines ++ line ∷ back → ⊥) → ((back : Lines) → lines ≡ xs ++ back → ⊥) → ⊥
cut [] ys lines line more e f g = g lines refl
cut (x ∷ xs) ys [] line more e f g = f xs (let s : x ≡ line = cc in ap (λ (z : List ℕ). z ∷ xs) s)
cut (x ∷ xs) ys (l ∷ lines) line more e f g =
    let s : x ≡ l = cc in
    let t : xs ++ ys ≡ lines ++ line ∷ more = cc in
    cut xs ys lines line more t (λ back h. f back (ap₂ (λ (z : List ℕ) (zs : Lines). z ∷ zs) s h)) (λ back h. g back (ap₂ (λ (z : List ℕ) (zs : Lines). z ∷ zs) (sym s) h))

nothing_behind : (xs back : Lines) → xs ++ back ≡ xs → back ≡ []
nothing_behind xs [] e = refl
nothing_behind xs (b ∷ bs) e = absurd (let n = ap length e in omega (arith, length-append xs (b ∷ bs)))

-- no section ends in the lines before the first bad one
pub none_ends : {X : Type 0} (S : Section X) (text : List ℕ) (first number : ℕ) → IsSection S → (b : IsBadFrom S text first number) → (x : X) (xs : Lines) → S x xs → (back : Lines) → b.lines ≡ xs ++ back → ⊥
none_ends S text first number i b x xs s back e =
    let x0 = b.begin.0 in
    let s0 = b.begin.2 in
    let o = i.one x x0 xs (b.lines ++ b.begin.1) (back ++ b.begin.1) [] s s0 (sym (append_assoc xs back b.begin.1) ∙ ap (λ (ls : Lines). ls ++ b.begin.1) (sym e) ∙ sym (append-nil (b.lines ++ b.begin.1))) in
    let n = ap length o.1 in
    let m = ap length e in
    let nil : back ≡ [] = nothing_behind xs back (let z : length back ≡ 0 = omega (arith, length-append xs back, length-append b.lines b.begin.1) in empty back z) in
    b.not_whole x (subst (S x) (sym (append-nil xs) ∙ ap (xs ++◌) (sym nil) ∙ sym e) s)
  where
    empty : (back : Lines) → length back ≡ 0 → xs ++ back ≡ xs
    empty [] z = append-nil xs
    empty (y ∷ ys) z = absurd (omega arith)

-- where a section's first bad line is, there is the whole text's
pub section_bad : {X : Type 0} (Form : Lines → Type 0) (S : Section X) (Next : X → Lines → Type 0) (text rest : List ℕ) (first number : ℕ) → ((lines : Lines) → Form lines → AreWithout 10 lines) → IsSection S
    → ((x : X) (xs : Lines) → S x xs → Goes (Next x)) → IsReadTo Form text rest first (Then S Next) → IsBadFrom S rest first number → IsBadLine (IsText Form) text number
section_bad {X} Form S Next text rest first number without i goes r b =
    let first_is = r.number_is in
    let number_is = b.number_is in
    bad_line Form without text (r.lines ++ b.lines) b.rest number (omega (arith, length-append r.lines b.lines))
    (r.parts ∙ ap (text_of r.lines ++◌) b.parts ∙ sym (append_assoc (text_of r.lines) (text_of b.lines) b.rest) ∙ ap (λ (t : List ℕ). t ++ b.rest) (sym (text_of-append r.lines b.lines)))
    begins no_more no_whole
  where
    x0 : X
    x0 = b.begin.0

    begins : Goes (λ more. Form ((r.lines ++ b.lines) ++ more))
    begins =
        let s = b.begin.2 in
        let n = goes x0 (b.lines ++ b.begin.1) s in
        (b.begin.1 ++ n.0, subst Form (ap (r.lines ++◌) (append_assoc b.lines b.begin.1 n.0) ∙ sym (append_assoc r.lines b.lines (b.begin.1 ++ n.0))) (r.right ((b.lines ++ b.begin.1) ++ n.0) (x0, b.lines ++ b.begin.1, n.0, s, n.1, refl)))

    none_in : (x : X) (xs : Lines) → S x xs → (back : Lines) → b.lines ≡ xs ++ back → ⊥
    none_in = none_ends S rest first number i b

    no_more : (line back : List ℕ) → IsWithout 10 line → b.rest ≡ line ++ 10 ∷ back → (more : Lines) → ¬ Form ((r.lines ++ b.lines) ++ line ∷ more)
    no_more line back w p more f =
        let t = r.left (b.lines ++ line ∷ more) (subst Form (append_assoc r.lines b.lines (line ∷ more)) f) in
        cut t.1 t.2 b.lines line more (sym t.5) (λ back' h. b.with_it line back w p t.0 back' (subst (S t.0) h t.3)) (none_in t.0 t.1 t.3)

    no_whole : b.rest ≡ [] → ¬ Form (r.lines ++ b.lines)
    no_whole p f = let t = r.left b.lines f in none_in t.0 t.1 t.3 t.2 t.5

-- text behind the last line
pub behind_bad : (Form : Lines → Type 0) (text rest : List ℕ) (number : ℕ) → ((lines : Lines) → Form lines → AreWithout 10 lines) → IsReadTo Form text rest number (λ lines. lines ≡ []) → 0 < length rest → IsBadLine (IsText Form) text number
behind_bad Form text rest number without r h =
    bad_line Form without text r.lines rest number r.number_is r.parts ([], r.right [] refl)
    (λ line back w p more f. (let e = ap length (r.left (line ∷ more) f) in omega arith))
    (λ p f. (let e = ap length p in omega arith))

-- a text that was read to its end
pub read_whole : (Form : Lines → Type 0) (text rest : List ℕ) (number : ℕ) → IsReadTo Form text rest number (λ lines. lines ≡ []) → rest ≡ [] → IsText Form text
read_whole Form text rest number r e = (r.lines, subst Form (append-nil r.lines) (r.right [] refl), r.parts ∙ ap (text_of r.lines ++◌) e ∙ append-nil (text_of r.lines))
