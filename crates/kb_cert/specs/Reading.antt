-- What is read of a text, field by field.
use Rattle.std.specs.Prelude.{ℕ, ◌≤◌, ◌<◌, ◌≡◌, List, [], ◌∷◌, ◌++◌, Bool, true, false, length, map, All, Contains, IsTrue, Vec, decimal, ◌&&◌}
use Rattle.std.specs.declared.alloc.Global.{Global}
use Rattle.kb_term.specs.Signature.{Signature}
use Rattle.kb_term.specs.declared.term.Symbol.{Symbol}
use Rattle.kb_linear.specs.Limits.{interpretation_of}
use Rattle.kb_cert.specs.CertificateText.{each_behind, names_of, name_at, interp_text, is_row, are_rows, is_precedence, are_weights, weight_fields}
use Rattle.std.specs.List.{join_with_byte}
use Rattle.kb_kbo.specs.KnuthBendix.{KboOrder}

-- the byte isn't in the text
abbrev pub IsFree : ℕ → List ℕ → Type 0
IsFree b text = All (λ x. ¬ (x ≡ b)) text

-- the text is empty or begins with the byte
abbrev pub IsAtEnd : ℕ → List ℕ → Type 0
IsAtEnd b [] = Unit {0}
IsAtEnd b (x ∷ text) = x ≡ b

-- the field has no such byte, and the rest is empty or begins with it
pub record IsFieldEnd (b : ℕ) (field rest : List ℕ) : Type 0 where
  pub free : IsFree b field
  pub at_end : IsAtEnd b rest

-- so many numbers with the property; what they are written as, each behind the byte, is the text
pub record ArePieces (b : ℕ) (written : ℕ → List ℕ) (P : ℕ → Type 0) (count : ℕ) (text xs : List ℕ) : Type 0 where
  pub count_is : length xs ≡ count
  pub each : All P xs
  pub spelling : each_behind b (map written xs) ≡ text

-- the names of so many symbols of the signature, each behind a space
abbrev pub AreNames : Signature → ℕ → List ℕ → List ℕ → Type 0
AreNames signature = ArePieces 32 (name_at (names_of signature)) (λ f. f < length signature)

-- the symbols are added, or the text is no names of so many
abbrev pub SpellsNames : Signature → ℕ → List ℕ → List Symbol → List Symbol → Bool → Type 0
SpellsNames signature count text old new true = (more : List Symbol) × (new ≡ old ++ more) × AreNames signature count text (map (λ (f : Symbol). f.0) more)
SpellsNames signature count text old new false = (symbols : List ℕ) → ¬ AreNames signature count text symbols

-- no member stands there twice
abbrev pub AreDifferent : List ℕ → Type 0
AreDifferent [] = Unit {0}
AreDifferent (x ∷ xs) = ¬ Contains xs x × AreDifferent xs

-- every symbol of the signature once, by its name
pub record IsPrecedenceText (signature : Signature) (text symbols : List ℕ) : Type 0 where
  pub precedence_is : IsTrue (is_precedence signature symbols)
  pub spelling : each_behind 32 (map (name_at (names_of signature)) symbols) ≡ text

-- so many numbers from 1 to the greatest, each behind a comma
abbrev pub AreNumbers : ℕ → ℕ → List ℕ → List ℕ → Type 0
AreNumbers most = ArePieces 44 decimal (λ n. (1 ≤ n) × (n ≤ most))

-- the numbers are added, or the text is no so many numbers
abbrev pub SpellsNumbers : ℕ → ℕ → List ℕ → List ℕ → List ℕ → Bool → Type 0
SpellsNumbers most count text old new true = (more : List ℕ) × (new ≡ old ++ more) × AreNumbers most count text more
SpellsNumbers most count text old new false = (numbers : List ℕ) → ¬ AreNumbers most count text numbers

-- so many weights from 1 to 15, parted by commas
pub record IsWeightsText (count : ℕ) (text weights : List ℕ) : Type 0 where
  pub count_is : length weights ≡ count
  pub each : All (λ n. (1 ≤ n) × (n ≤ 15)) weights
  pub spelling : join_with_byte 44 (map decimal weights) ≡ text

-- the weights of the signature's symbols behind a space, and every symbol once, by its name
pub record IsOrderText (signature : Signature) (text : List ℕ) (order : KboOrder) : Type 0 where
  pub order_is : IsTrue (are_weights signature order.weights && is_precedence signature order.precedence)
  pub spelling : each_behind 32 (weight_fields order.weights ++ map (name_at (names_of signature)) order.precedence) ≡ text

-- a constant and so many coefficients, parted by commas
pub record IsRowText (arity : ℕ) (text : List ℕ) (row : ℕ × List ℕ) : Type 0 where
  pub row_is : IsTrue (is_row arity row)
  pub spelling : interp_text row ≡ text

-- a row for each symbol, each behind a space
pub record AreRows (signature : Signature) (text : List ℕ) (rows : List (ℕ × List ℕ)) : Type 0 where
  pub rows_are : IsTrue (are_rows signature rows)
  pub spelling : each_behind 32 (map interp_text rows) ≡ text

abbrev pub SpellsRows : Signature → List ℕ → List (ℕ × Vec ℕ Global) → List (ℕ × Vec ℕ Global) → Bool → Type 0
SpellsRows signature text old new true = (more : List (ℕ × Vec ℕ Global)) × (new ≡ old ++ more) × AreRows signature text (interpretation_of more)
SpellsRows signature text old new false = (rows : List (ℕ × List ℕ)) → ¬ AreRows signature text rows
