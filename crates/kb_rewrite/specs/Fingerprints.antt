-- The tops of terms: marks of the root, of its first two arguments, and of the first two arguments of each of these.
use Rattle.std.specs.Prelude.{ℕ, zero, suc, ◌+◌, ◌*◌, ◌%◌, ◌≡◌, List, [], ◌∷◌, ◌++◌, map, get_or, Option, Some, None, slice_get, bit_and}
use Rattle.std.specs.Borrow.{Bor}
use Rattle.kb_term.specs.Tree.{Tree, variable, apply, list_of}
use Rattle.kb_term.specs.Rule.{Rule}
use Rattle.kb_term.specs.View.{tree_of}
use Rattle.kb_term.specs.declared.term.Term.{Term}
use Rattle.kb_rewrite.specs.declared.fingerprint.Fingerprint.{Fingerprint}

-- the mark of a term: its root symbol's number and 1, as a byte; 0 for a variable
abbrev pub mark_of : Tree → ℕ
mark_of (variable n) = 0
mark_of (apply f ts) = (f + 1) % 256

-- the argument with the number, counted from 0; a variable where there is none
abbrev pub argument_of : Tree → ℕ → Tree
argument_of (variable n) k = variable 0
argument_of (apply f ts) k = get_or (list_of ts) k (variable 0)

-- the term that is there; a variable where there is none
abbrev pub tree_or : Option (Bor Term) → Tree
tree_or None = variable 0
tree_or (Some t) = tree_of t.now

-- the marks of the term's root and of its first two arguments
abbrev pub three_marks : Tree → List ℕ
three_marks t = mark_of t ∷ mark_of (argument_of t 0) ∷ mark_of (argument_of t 1) ∷ []

-- the marks of the top of the term
abbrev pub marks_of : Tree → List ℕ
marks_of t = mark_of t ∷ three_marks (argument_of t 0) ++ three_marks (argument_of t 1)

-- the bytes as one number, the first in its lowest bits
abbrev pub packed : List ℕ → ℕ
packed [] = 0
packed (b ∷ bs) = packed bs * 256 + b

-- 255 for a mark other than 0
abbrev pub known_of : ℕ → ℕ
known_of zero = 0
known_of (suc mark) = 255

-- the marks of the left side, and which of them are known
pub record IsFingerprint (left : Tree) (print : Fingerprint) : Type 0 where
  pub marks : print.marks ≡ packed (marks_of left)
  pub known : print.known ≡ packed (map known_of (marks_of left))

-- each known mark of the fingerprint with the number is that of the top, or there is no such fingerprint
abbrev pub MayFit : List Fingerprint → ℕ → ℕ → Type 0
MayFit prints i top = (print : Fingerprint) → slice_get prints i ≡ Some print → bit_and top print.known ≡ print.marks

-- each fingerprint is that of the left side with its number
abbrev pub AreFingerprints : List Rule → List Fingerprint → Type 0
AreFingerprints rules prints = (i : ℕ) (print : Fingerprint) (rule : Rule) → slice_get prints i ≡ Some print → slice_get rules i ≡ Some rule → IsFingerprint rule.left print
