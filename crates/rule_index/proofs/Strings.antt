-- The marks of arguments, one by one.
use Rattle.std.proofs.Common.{ℕ, zero, suc, ◌≡◌, ◌<◌, ◌+◌, refl, sym, ap, ◌∙◌, arith, List, [], ◌∷◌, ◌++◌, length, take, get_or, append_assoc}
use Rattle.std.specs.Prelude.{map}
use Rattle.std.proofs.lemmas.List.{append-nil}
use Rattle.kb_term.specs.Tree.{Tree, apply, list_of, trees_of}
use Rattle.kb_term.specs.View.{tree_of}
use Rattle.kb_term.specs.declared.term.Term.{Term}
use Rattle.rule_index.specs.declared.mark.Mark.{Mark}
use Rattle.rule_index.specs.declared.mark.Mark.TheVariants.{Apply}
use Rattle.rule_index.specs.Marks.{marks_of, marks_in}

-- the marks of terms in a row
abbrev pub marks_row : List Term → List Mark
marks_row [] = []
marks_row (t ∷ ts) = marks_of (tree_of t) ++ marks_row ts

pub marks_in-row : (ts : List Term) → marks_in (trees_of (map tree_of ts)) ≡ marks_row ts
marks_in-row [] = refl
marks_in-row (t ∷ ts) = ap (λ (ms : List Mark). marks_of (tree_of t) ++ ms) (marks_in-row ts)

pub list_of-trees : (ts : List Tree) → list_of (trees_of ts) ≡ ts
list_of-trees [] = refl
list_of-trees (t ∷ ts) = ap (λ (us : List Tree). t ∷ us) (list_of-trees ts)

pub row_more : (ts : List Term) (i : ℕ) (x : Term) → i < length ts → x ≡ get_or ts i x → marks_row (take (suc i) ts) ≡ marks_row (take i ts) ++ marks_of (tree_of x)
row_more [] i x h is = absurd (omega (arith, h))
row_more (t ∷ ts) zero x h is = append-nil (marks_of (tree_of t)) ∙ ap (λ (u : Term). marks_of (tree_of u)) (sym is)
row_more (t ∷ ts) (suc i) x h is = ap (λ (ms : List Mark). marks_of (tree_of t) ++ ms) (row_more ts i x (omega (arith, h)) is) ∙ sym (append_assoc (marks_of (tree_of t)) (marks_row (take i ts)) (marks_of (tree_of x)))

terms_length : (ts : List Term) → length (list_of (trees_of (map tree_of ts))) ≡ length ts
terms_length [] = refl
terms_length (t ∷ ts) = ap suc (terms_length ts)

-- the marks of an application are its own and those of its arguments in a row
pub marks_of-application : (f n : ℕ) (ts : List Term) → n ≡ length ts → marks_of (apply f (trees_of (map tree_of ts))) ≡ Apply f n ∷ marks_row ts
marks_of-application f n ts e = ap (λ (k : ℕ). Apply f k ∷ marks_in (trees_of (map tree_of ts))) (terms_length ts ∙ sym e) ∙ ap (λ (ms : List Mark). Apply f n ∷ ms) (marks_in-row ts)

pub take_all : (ts : List Term) (i : ℕ) → length ts < i + 1 → take i ts ≡ ts
take_all [] zero h = refl
take_all [] (suc i) h = refl
take_all (t ∷ ts) zero h = absurd (omega (arith, h))
take_all (t ∷ ts) (suc i) h = ap (λ (us : List Term). t ∷ us) (take_all ts i (omega (arith, h)))
