-- What stands in the fields of a step's line.
use Rattle.std.specs.Prelude.{◌≡◌, ℕ, ◌+◌, ◌≤◌, List, [], ◌∷◌, ◌++◌, length, get_or, drop, codes, decimal, IsTrue, Some, Option}
use Rattle.std.specs.List.{join_with_byte}
use Rattle.kb_term.specs.Pair.{Pair, ArePairWithin, canonical_pair}
use Rattle.kb_term.specs.Signature.{Signature}
use Rattle.kb_term.specs.Tree.{Tree}
use Rattle.kb_term.specs.declared.origin.Origin.{Origin}
use Rattle.kb_overlap.specs.Trace.{TraceStep}
use Rattle.kb_text.specs.Terms.{names_of, term_text, IsPairForm}
use Rattle.kb_trace.specs.TraceText.{position_text, origin_fields, is_position, is_origin, step_fields, step_line, IsStepForm}
use Rattle.kb_term.specs.declared.limits.TheConstants.{MAX_NODES}

-- the bytes are a number from the least to the greatest
pub record IsNumberText (bytes : List ℕ) (least greatest n : ℕ) : Type 0 where
  pub low : least ≤ n
  pub high : n ≤ greatest
  pub spelling : decimal n ≡ bytes

-- the field at the place is the word, and the next is such a number
pub record IsLabelled (fields : List (List ℕ)) (at : ℕ) (word : List ℕ) (least greatest n : ℕ) : Type 0 where
  pub label : get_or fields at [] ≡ word
  pub number : IsNumberText (get_or fields (at + 1) []) least greatest n

-- the bytes are the text of a position
pub record IsPositionText (bytes p : List ℕ) : Type 0 where
  pub form : IsTrue (is_position p)
  pub spelling : position_text p ≡ bytes

-- the field at the place is the word at, and the next is the text of the position
pub record IsPositionIn (fields : List (List ℕ)) (at : ℕ) (p : List ℕ) : Type 0 where
  pub label : get_or fields at [] ≡ codes "at"
  pub position : IsPositionText (get_or fields (at + 1) []) p

-- the fields of the origin stand between the first field and the last four
pub record IsOriginIn (fields : List (List ℕ)) (o : Origin) : Type 0 where
  pub form : IsTrue (is_origin o)
  pub count : length fields ≡ length (origin_fields o) + 5
  pub spelling : fields ≡ get_or fields 0 [] ∷ (origin_fields o ++ drop (length (origin_fields o) + 1) fields)

-- two terms that are their own canonical pair and pass no limit
pub record IsOwnPair (s t : Tree) (p : Pair) : Type 0 where
  pub sides : p ≡ record { first = s; second = t }
  pub within : ArePairWithin s t
  pub canonical : canonical_pair s t ≡ Some p

-- the pair is written in the four fields from the place on
pub record IsPairIn (signature : Signature) (fields : List (List ℕ)) (at : ℕ) (p : Pair) : Type 0 where
  pub form : IsPairForm signature p
  pub colon : get_or fields at [] ≡ codes ":"
  pub first : get_or fields (at + 1) [] ≡ term_text (names_of signature) p.first
  pub sign : get_or fields (at + 2) [] ≡ codes "="
  pub second : get_or fields (at + 3) [] ≡ term_text (names_of signature) p.second

-- the fields are those of the step with the number
pub record IsStepIn (signature : Signature) (number : ℕ) (fields : List (List ℕ)) (s : TraceStep) : Type 0 where
  pub form : IsStepForm signature s
  pub spelling : fields ≡ step_fields (names_of signature) number s

-- the bytes are the line of the step with the number, without its line feed
pub record IsStepText (signature : Signature) (number : ℕ) (bytes : List ℕ) (s : TraceStep) : Type 0 where
  pub form : IsStepForm signature s
  pub spelling : bytes ≡ join_with_byte 32 (step_fields (names_of signature) number s)

-- the text is the line of the step with the number, at most the last that a trace may have, and what is behind it
pub record BeginsWithStep (signature : Signature) (number : ℕ) (text : List ℕ) (s : TraceStep) (rest : List ℕ) : Type 0 where
  pub count : number ≤ MAX_NODES
  pub form : IsStepForm signature s
  pub spelling : text ≡ step_line (names_of signature) number s ++ rest

-- the text begins with the line of no step with the number
abbrev pub BeginsWithNoStep : Signature → ℕ → List ℕ → Type 0
BeginsWithNoStep signature number text = (s : TraceStep) (rest : List ℕ) → ¬ BeginsWithStep signature number text s rest
