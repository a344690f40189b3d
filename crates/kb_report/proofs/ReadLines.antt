-- What a line that was cut off says of the text.
use Rattle.std.proofs.Common.{◌≡◌, ap, sym, ◌∙◌, subst, arith, ℕ, ◌<◌, ◌≤◌, List, ◌∷◌, ◌++◌, length, take, false}
use Rattle.std.specs.Prelude.{decimal, nat_eq}
use Rattle.std.specs.Cmp.Lexicographic.{other_text}
use lib.Pointwise.{pointwise}
use Rattle.std.proofs.lemmas.Fmt.{decimal_injective}
use Rattle.std.proofs.lemmas.List.{append_cancel_left}
use Rattle.kb_trace.proofs.TraceLines.{no_feed}
use Rattle.kb_lemmas.proofs.Lists.{take_front}
use Rattle.kb_text.specs.Fields.{IsWithout}
use Rattle.kb_text.proofs.Cuts.{one_line}
use Rattle.kb_report.specs.Sections.{OneLine, counted_line, IsLineOf, IsFirstLine, BeginsWithLine, BeginsWith, IsBadFrom}
use Rattle.kb_report.proofs.SectionLaws.{line_read, line_bad}

-- a text without a line feed begins with no line
pub no_line_of : {X : Type 0} (P : X → Type 0) (f : X → List ℕ) (text : List ℕ) → IsWithout 10 text → (x : X) (back : List ℕ) → ¬ BeginsWithLine P f text x back
no_line_of P f text h x back b = no_feed (f x) back (subst (IsWithout 10) b.parts h)

-- the first line decides
pub other_line : {X : Type 0} (P : X → Type 0) (f : X → List ℕ) (text line rest : List ℕ) → ((x : X) → P x → IsWithout 10 (f x)) → IsFirstLine text line rest → ((x : X) → ¬ IsLineOf P f line x) → (x : X) (back : List ℕ) → ¬ BeginsWithLine P f text x back
other_line P f text line rest w l none x back b =
    let r = one_line 10 line (f x) rest back l.without (w x b.form) (sym l.parts ∙ b.parts) in
    none x (record { form = b.form; spelling = r.0 })

pub this_line : {X : Type 0} (P : X → Type 0) (f : X → List ℕ) (text line rest : List ℕ) (x : X) → IsFirstLine text line rest → IsLineOf P f line x → BeginsWithLine P f text x rest
this_line P f text line rest x l i = record { form = i.form; parts = l.parts ∙ ap (λ (b : List ℕ). b ++ 10 ∷ rest) i.spelling }

pub bad_without : {X : Type 0} (P : X → Type 0) (f : X → List ℕ) (text : List ℕ) (first : ℕ) (some : X) → P some → IsWithout 10 text → IsBadFrom (OneLine P f) text first first
bad_without P f text first some p h = line_bad P f text first some p (no_line_of P f text h)

pub bad_other : {X : Type 0} (P : X → Type 0) (f : X → List ℕ) (text line rest : List ℕ) (first : ℕ) (some : X) → P some → ((x : X) → P x → IsWithout 10 (f x)) → IsFirstLine text line rest → ((x : X) → ¬ IsLineOf P f line x) → IsBadFrom (OneLine P f) text first first
bad_other P f text line rest first some p w l none = line_bad P f text first some p (other_line P f text line rest w l none)

pub line_is_read : {X : Type 0} (P : X → Type 0) (f : X → List ℕ) (text line rest : List ℕ) (x : X) → IsFirstLine text line rest → IsLineOf P f line x → BeginsWith (OneLine P f) text x 1 rest
line_is_read P f text line rest x l i = line_read P f text x rest (this_line P f text line rest x l i)

-- ---- words before a text

pub not_begun : (line word xs : List ℕ) → pointwise nat_eq (take (length word) line) word ≡ false → ¬ (line ≡ word ++ xs)
not_begun line word xs h e = other_text (take (length word) line) word (sym h) (ap (take (length word)) e ∙ take_front word xs)

pub high_count : (line word digits : List ℕ) (highest number : ℕ) → highest ≤ 5000 → line ≡ word ++ digits → number < 100000 → decimal number ≡ digits → highest < number → (n : ℕ) → ¬ IsLineOf (λ n. n ≤ highest) (counted_line word) line n
high_count line word digits highest number l e b d h n k =
    let small = k.form in
    let same = decimal_injective n number (omega arith) (omega arith) (append_cancel_left word (decimal n) digits (sym k.spelling ∙ e) ∙ sym d) in
    omega arith
