-- Terms as a kind of question.
use Rattle.std.proofs.Common.{◌≡◌, refl, subst, arith, ℕ, List}
use Rattle.std.specs.Prelude.{codes}
use Rattle.kb_trace.proofs.OneStep.{again}
use Rattle.kb_term.specs.Signature.{Signature, IsSignature}
use Rattle.kb_term.specs.Tree.{Tree, variable}
use Rattle.kb_text.specs.Fields.{IsWithout}
use Rattle.kb_text.specs.Terms.{TermSpelled, names_of, term_text}
use Rattle.kb_text.proofs.PlainTexts.{feed_blank, text_without}
use Rattle.kb_text.proofs.TermParts.{one_spelled, spelled_bounded}
use Rattle.kb_report.proofs.SectionLaws.{items_section}
use Rattle.kb_report.proofs.SidesRead.{some_equation}
use Rattle.kb_report.proofs.SystemLines.{sides_spelled}
use Rattle.kb_goals.specs.Simplifying.{IsNumberedTerm, IsTermLine}
use Rattle.kb_goals.proofs.Asked.{IsKind}

term_spelled : (sig : Signature) (bytes : List ℕ) (t : Tree) → IsNumberedTerm sig t → bytes ≡ term_text (names_of sig) t → TermSpelled sig bytes t
term_spelled sig bytes t f e = again sig bytes t e (sides_spelled sig t t f).left

pub term_without : (sig : Signature) → IsSignature sig → (t : Tree) → IsNumberedTerm sig t → IsWithout 10 (term_text (names_of sig) t)
term_without sig i t f = text_without 10 feed_blank sig i 64 t (spelled_bounded sig (term_text (names_of sig) t) t (term_spelled sig (term_text (names_of sig) t) t f refl))

one_term : (sig : Signature) → IsSignature sig → (t u : Tree) → IsNumberedTerm sig t → IsNumberedTerm sig u → term_text (names_of sig) t ≡ term_text (names_of sig) u → t ≡ u
one_term sig i t u f g e = let bytes = term_text (names_of sig) t in one_spelled sig bytes t u i (term_spelled sig bytes t f refl) (term_spelled sig bytes u g e)

pub terms_kind : IsKind (codes "TERMS ") IsNumberedTerm term_text
terms_kind = record {
  word_without = (refl, (refl, (refl, (refl, (refl, (refl, tt))))));
  section = λ sig i n l. items_section (IsNumberedTerm sig) (λ k. term_text (names_of sig)) n (omega arith) (λ k t l f. term_without sig i t f) (λ k t u l f g e. one_term sig i t u f g e);
  some = variable 0;
  some_form = some_equation;
}

-- ---- a line

pub no_term_line : (sig : Signature) (line : List ℕ) → ((t : Tree) → ¬ TermSpelled sig line t) → (t : Tree) → ¬ IsTermLine sig line t
no_term_line sig line h t k = h t (term_spelled sig line t k.form k.spelling)

pub other_numbers : (sig : Signature) → IsSignature sig → (line : List ℕ) (s : Tree) → TermSpelled sig line s → ¬ IsNumberedTerm sig s → (t : Tree) → ¬ IsTermLine sig line t
other_numbers sig i line s l h t k = h (subst (IsNumberedTerm sig) (one_spelled sig line t s i (term_spelled sig line t k.form k.spelling) l) k.form)

pub term_line : (sig : Signature) (line : List ℕ) (t : Tree) → TermSpelled sig line t → IsNumberedTerm sig t → IsTermLine sig line t
term_line sig line t l f = record { form = f; spelling = l.spelling }
