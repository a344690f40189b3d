-- Numbers behind words, and selections before symbols.
use Rattle.std.proofs.Common.{◌≡◌, ap, sym, ◌∙◌, subst, arith, ℕ, ◌+◌, ◌^◌, ◌<◌, ◌≤◌, List, [], ◌∷◌, ◌++◌, drop}
use Rattle.std.specs.Prelude.{decimal}
use Rattle.std.proofs.lemmas.Fmt.{decimal_injective}
use Rattle.std.proofs.lemmas.List.{append_cancel_left}
use Rattle.kb_term.specs.Signature.{Signature}
use Rattle.kb_text.specs.Fields.{IsWithout}
use Rattle.kb_text.specs.declared.fault.TextFault.{TextFault}
use Rattle.kb_text.specs.declared.fault.TextFault.TheVariants.{BadText, Memory}
use Rattle.kb_report.specs.Sections.{Lines, text_of, IsBadFrom, IsSectionFault}
use Rattle.kb_report.specs.SystemSections.{symbols_body, Symbols}
use Rattle.kb_report.proofs.LinesOfTexts.{behind_first}
use Rattle.mkb_model.specs.declared.settings.Selection.{Selection}
use Rattle.mkb_model.specs.declared.settings.Selection.TheVariants.{Stated, Size}
use Rattle.kb_journal.specs.JournalSections.{selection_word, IsAmountLine, Selected}
use Rattle.kb_journal.proofs.JournalForm.{selection_differs}

-- ---- numbers

pub no_amount : (line word digits : List ℕ) (low high : ℕ) → high < 2 ^ 64 → line ≡ word ++ digits → ((n : ℕ) → n < 2 ^ 64 → ¬ (decimal n ≡ digits)) → (n : ℕ) → ¬ IsAmountLine word low high line n
no_amount line word digits low high l e h n k = let most = k.form.1 in h n (omega arith) (append_cancel_left word (decimal n) digits (sym k.spelling ∙ e))

pub other_amount : (line word digits : List ℕ) (low high number : ℕ) → high < 2 ^ 64 → line ≡ word ++ digits → number < 2 ^ 64 → decimal number ≡ digits → ((low ≤ number) × (number ≤ high) → ⊥) → (n : ℕ) → ¬ IsAmountLine word low high line n
other_amount line word digits low high number l e b d out n k =
    let most = k.form.1 in
    let same = decimal_injective n number (omega arith) b (append_cancel_left word (decimal n) digits (sym k.spelling ∙ e) ∙ sym d) in
    out (subst (λ m. (low ≤ m) × (m ≤ high)) same k.form)

-- ---- the selection

-- lines whose first is the word make a text that begins with it
word_first : (text rest : List ℕ) (lines more : Lines) (line back : List ℕ) → text ≡ text_of lines ++ rest → rest ≡ line ++ 10 ∷ back → lines ++ line ∷ more ≡ selection_word ∷ drop 1 (lines ++ line ∷ more) → (b : List ℕ) × (text ≡ selection_word ++ 10 ∷ b)
word_first text rest [] more line back p e w = (back, p ∙ e ∙ ap (λ (l : List ℕ). l ++ 10 ∷ back) (let s : line ≡ selection_word = cc in s))
word_first text rest (l ∷ ls) more line back p e w = (text_of ls ++ rest, p ∙ behind_first l ls rest ∙ ap (λ (z : List ℕ). z ++ 10 ∷ (text_of ls ++ rest)) (let s : l ≡ selection_word = cc in s))

whole_first : (text rest : List ℕ) (lines : Lines) (last : List ℕ) → text ≡ text_of lines ++ rest → lines ≡ selection_word ∷ last ∷ [] → (b : List ℕ) × (text ≡ selection_word ++ 10 ∷ b)
whole_first text rest [] last p w = absurd (cc)
whole_first text rest (l ∷ ls) last p w = (text_of ls ++ rest, p ∙ behind_first l ls rest ∙ ap (λ (z : List ℕ). z ++ 10 ∷ (text_of ls ++ rest)) (let s : l ≡ selection_word = cc in s))

bad_stated : (text : List ℕ) (first number : ℕ) → ((back : List ℕ) → ¬ (text ≡ selection_word ++ 10 ∷ back)) → IsBadFrom Symbols text first number → IsBadFrom Selected text first number
bad_stated text first number none b = record {
  lines = b.lines;
  number_is = b.number_is;
  rest = b.rest;
  parts = b.parts;
  begin = ((Stated, b.begin.0), b.begin.1, (b.begin.2.0, b.begin.2.1));
  with_it = later;
  not_whole = whole;
}
  where
    later : (line back : List ℕ) → IsWithout 10 line → b.rest ≡ line ++ 10 ∷ back → (x : Selection × Signature) (more : Lines) → ¬ Selected x (b.lines ++ line ∷ more)
    later line back w e (Stated, sig) more s = b.with_it line back w e sig more (s.0, s.1)
    later line back w e (Size, sig) more s = let f = word_first text b.rest b.lines more line back b.parts e (let q = s.1 in s.1 ∙ ap (λ (ls : Lines). selection_word ∷ ls) (sym (ap (drop 1) s.1))) in none f.0 f.1

    whole : (x : Selection × Signature) → ¬ Selected x b.lines
    whole (Stated, sig) s = b.not_whole sig (s.0, s.1)
    whole (Size, sig) s = let f = whole_first text b.rest b.lines (symbols_body sig) b.parts s.1 in none f.0 f.1

-- why a text without the line of a selection doesn't begin with symbols
pub fault_without : (text : List ℕ) (first : ℕ) (fault : TextFault) → ((back : List ℕ) → ¬ (text ≡ selection_word ++ 10 ∷ back)) → IsSectionFault Symbols text first fault → IsSectionFault Selected text first fault
fault_without text first (BadText number) none b = bad_stated text first number none b
fault_without text first Memory none b = tt

bad_size : (text rest : List ℕ) (first number : ℕ) → text ≡ selection_word ++ 10 ∷ rest → IsBadFrom Symbols rest (first + 1) number → IsBadFrom Selected text first number
bad_size text rest first number e b = record {
  lines = selection_word ∷ b.lines;
  number_is = (let n = b.number_is in omega arith);
  rest = b.rest;
  parts = e ∙ ap (λ (t : List ℕ). selection_word ++ 10 ∷ t) b.parts ∙ sym (behind_first selection_word b.lines b.rest);
  begin = ((Size, b.begin.0), b.begin.1, (b.begin.2.0, ap (λ (ls : Lines). selection_word ∷ ls) b.begin.2.1));
  with_it = later;
  not_whole = whole;
}
  where
    later : (line back : List ℕ) → IsWithout 10 line → b.rest ≡ line ++ 10 ∷ back → (x : Selection × Signature) (more : Lines) → ¬ Selected x (selection_word ∷ (b.lines ++ line ∷ more))
    later line back w p (Stated, sig) more s = selection_differs sig (let q = s.1 in let r : selection_word ≡ symbols_body sig = cc in sym r)
    later line back w p (Size, sig) more s = b.with_it line back w p sig more (s.0, ap (drop 1) s.1)

    whole : (x : Selection × Signature) → ¬ Selected x (selection_word ∷ b.lines)
    whole (Stated, sig) s = selection_differs sig (let q = s.1 in let r : selection_word ≡ symbols_body sig = cc in sym r)
    whole (Size, sig) s = b.not_whole sig (s.0, ap (drop 1) s.1)

-- why a text behind the line of a selection doesn't begin with symbols
pub fault_behind : (text rest : List ℕ) (first : ℕ) (fault : TextFault) → text ≡ selection_word ++ 10 ∷ rest → IsSectionFault Symbols rest (first + 1) fault → IsSectionFault Selected text first fault
fault_behind text rest first (BadText number) e b = bad_size text rest first number e b
fault_behind text rest first Memory e b = tt
