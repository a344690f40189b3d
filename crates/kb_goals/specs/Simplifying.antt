-- Terms behind an answer, and what they are simplified to.
use Rattle.std.specs.Prelude.{ℕ, ◌+◌, ◌≡◌, ◌↔◌, List, [], ◌∷◌, ◌++◌, Contains, codes, decimal, ⊤}
use Rattle.std.specs.List.{AllZip, zip}
use Rattle.kb_term.specs.Tree.{Tree}
use Rattle.kb_term.specs.Rule.{Rule}
use Rattle.kb_term.specs.Signature.{Signature, IsEquationWithinLimits}
use Rattle.kb_term.specs.Proving.{Proves}
use Rattle.kb_term.specs.View.{tree_of}
use Rattle.kb_term.specs.declared.term.Term.{Term}
use Rattle.kb_text.specs.Lines.{line}
use Rattle.kb_text.specs.Names.{Name}
use Rattle.kb_text.specs.Terms.{names_of, term_text}
use Rattle.kb_rewrite.specs.NormalForm.{HoldVariables, IsNormal, NormalisesTo, form}
use Rattle.kb_checker.specs.Answers.{Answer}
use Rattle.kb_report.specs.Answers.{end_line}
use Rattle.kb_report.specs.Sections.{IsLineOf}
use Rattle.kb_decide.specs.Deciding.{IsDecidable, IsStopped, ProvesGoal}
use Rattle.kb_goals.specs.Asking.{IsAskedTextOf, IsAskedText}
use Rattle.kb_goals.specs.Answering.{reason_word}
use Rattle.kb_goals.specs.declared.simplifying.Simplified.{Simplified}
use Rattle.kb_goals.specs.declared.simplifying.Simplified.TheVariants.{Normal, Unknown}

-- ---- terms

-- within the limits, with at most 64 variables, which are numbered by first occurrence: both sides of an equation
abbrev pub IsNumberedTerm : Signature → Tree → Type 0
IsNumberedTerm sig t = IsEquationWithinLimits sig (t, t)

-- the bytes are the line of such a term, without its line feed
abbrev pub IsTermLine : Signature → List ℕ → Tree → Type 0
IsTermLine sig = IsLineOf (IsNumberedTerm sig) (term_text (names_of sig))

-- the bytes are a text of the answer and the terms behind it
abbrev pub IsTermsTextOf : List ℕ → Answer → List Tree → Type 0
IsTermsTextOf = IsAskedTextOf (codes "TERMS ") IsNumberedTerm term_text

-- the texts of answers with terms, which alone are read
abbrev pub IsTermsText : List ℕ → Type 0
IsTermsText = IsAskedText (codes "TERMS ") IsNumberedTerm term_text

-- ---- simplifying

-- the normal form of the term, which so many steps of the strategy lead to; or the limit that they pass
abbrev pub IsSimplified : List Rule → Tree → Simplified → Type 0
IsSimplified rules t (Normal steps u) = NormalisesTo rules t (form (tree_of u) steps)
IsSimplified rules t (Unknown reason) = IsStopped rules t reason

-- where the goal can be decided and the rules prove it, both sides have one normal form, if they have one
abbrev pub EqualsHaveOneForm : Signature → List Rule → Tree → Tree → Type 0
EqualsHaveOneForm signature rules s t =
    (m n : ℕ) (u v : Term) → IsDecidable signature rules s t → ProvesGoal rules s t → IsSimplified rules s (Normal m u) → IsSimplified rules t (Normal n v) → tree_of u ≡ tree_of v

-- where left sides hold the variables of right sides, the term has at most one normal form, and one number of steps to it
abbrev pub HasOneForm : List Rule → Tree → Type 0
HasOneForm rules t =
    (m n : ℕ) (u v : Term) → HoldVariables rules → IsSimplified rules t (Normal m u) → IsSimplified rules t (Normal n v) → (m ≡ n) × (tree_of u ≡ tree_of v)

-- what each term is simplified to, by the rules
abbrev pub AreSimplified : List Rule → List Tree → List Simplified → Type 0
AreSimplified rules terms ss = AllZip (IsSimplified rules) terms ss

-- what is right of the term: a form to which no rule applies and to which the equations prove it equal, and unknown always
abbrev pub IsRightForm : List (Tree × Tree) → List Rule → Tree → Simplified → Type 0
IsRightForm equations rules t (Normal steps u) = IsNormal rules (tree_of u) × Proves equations t (tree_of u)
IsRightForm equations rules t (Unknown reason) = ⊤

-- what each term is simplified to is right
abbrev pub AreRightForms : List (Tree × Tree) → List Rule → List Tree → List Simplified → Type 0
AreRightForms equations rules terms ss = AllZip (IsRightForm equations rules) terms ss

-- two of the terms with normal forms have the same one exactly where the equations prove them equal
abbrev pub HaveOneForm : List (Tree × Tree) → List Tree → List Simplified → Type 0
HaveOneForm equations terms ss =
    (s t : Tree) (m n : ℕ) (u v : Term) → Contains (zip terms ss) (s, Normal m u) → Contains (zip terms ss) (t, Normal n v) → Proves equations s t ↔ tree_of u ≡ tree_of v

-- what becomes of the term with this number
abbrev pub simplified_line : List Name → ℕ → Simplified → List ℕ
simplified_line names i (Normal steps u) = line (decimal i ∷ decimal steps ∷ term_text names (tree_of u) ∷ [])
simplified_line names i (Unknown reason) = line (decimal i ∷ codes "UNKNOWN" ∷ reason_word reason ∷ [])

-- what becomes of terms that are numbered from i
abbrev pub simplified_lines : List Name → ℕ → List Simplified → List ℕ
simplified_lines names i [] = []
simplified_lines names i (s ∷ ss) = simplified_line names i s ++ simplified_lines names (i + 1) ss

-- what becomes of each term, between the head and the end
abbrev pub simplify_text : Signature → List Simplified → List ℕ
simplify_text sig ss = line (codes "MKBTT" ∷ codes "SIMPLIFY" ∷ codes "1" ∷ []) ++ simplified_lines (names_of sig) 1 ss ++ end_line
