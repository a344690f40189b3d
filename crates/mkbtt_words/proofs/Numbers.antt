-- The number of an option, as a typed getter reads it.
use Rattle.std.proofs.Common.{◌≡◌, ◌<◌, ◌≤◌, ◌^◌, ◌∙◌, ℕ, List, Some, Option, refl, subst, sym}
use Rattle.std.specs.Prelude.{Result, Ok}
use Rattle.std.specs.Str.Parse.{ParsesUnsigned}
use Rattle.std.proofs.lemmas.Bool.{le-leb}
use Rattle.clap.specs.Lexer.{without_minus}
use Rattle.clap.specs.Matches.{ReadsOne, one_text}
use Rattle.clap.specs.declared.parser.matches.Found.{Found}
use Rattle.clap.proofs.CallerReads.{signed_reads}
use Rattle.clap.specs.Walk.{rows_of}
use Rattle.clap.proofs.WalkLemmas.{one_text-rows}
use Rattle.mkbtt_words.specs.Command.{NumberOption}
use Rattle.mkbtt_words.specs.Parsed.{HasNumber}
use Rattle.mkbtt_words.specs.Reading.{if_within, number_in}

if_low : (o : NumberOption) (n : ℕ) → o.low ≤ n → n ≤ o.high → if_within o n ≡ Some n
if_low o n low high = rw (le-leb o.low n low, le-leb n o.high high) refl

-- the getter gives the number that the text writes
pub number_read : (o : NumberOption) (f : Found) → HasNumber o f → (E : Type 0) (G : List ℕ → Result ℕ E → Type 0) (k : ℕ) (r : Option ℕ)
    → ((t : List ℕ) → one_text f o.name ≡ Some t → ReadsOne G t r) → ((u : List ℕ) (x : Result ℕ E) → G u x → ParsesUnsigned k 10 u x) → o.high < 2 ^ k
    → r ≡ number_in o (rows_of f)
number_read o f h E G k r reads only fits =
    let one = reads (without_minus h.text) h.given in
    let got = signed_reads E G k o.low o.high h.text r one only fits h.within in
    let at_n : ReadsOne G (without_minus h.text) (Some got.0) = subst (λ (w : Option ℕ). ReadsOne G (without_minus h.text) w) got.1 one in
    let parsed = only (without_minus h.text) (Ok got.0) at_n in
    let given = sym (one_text-rows f o.name) ∙ h.given in
    got.1 ∙ rw given (sym (subst (λ (m : ℕ). if_within o m ≡ Some got.0) parsed.1 (if_low o got.0 got.2 got.3)))
