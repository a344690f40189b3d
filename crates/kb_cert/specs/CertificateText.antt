-- The text of a certificate.
use Rattle.std.specs.Prelude.{◌≡◌, ℕ, List, [], ◌∷◌, ◌++◌, map, flat_map, length, get_or, Bool, true, false, ◌&&◌, nat_eq, nat_le, nat_lt, codes, decimal, IsTrue}
use Rattle.std.specs.List.{list_all, join_with_byte}
use Rattle.kb_term.specs.Signature.{SymbolEntry, Signature}
pub use Rattle.kb_term.specs.Signature.{names_of, name_at}
use Rattle.kb_term.specs.Pair.{distinct}
use Rattle.kb_cert.specs.declared.certificate.Certificate.{Certificate}
use Rattle.kb_cert.specs.declared.certificate.Certificate.TheVariants.{Lpo, Linear, Kbo}

-- the constant and the coefficients of a symbol
abbrev pub interp_text : ℕ × List ℕ → List ℕ
interp_text row = join_with_byte 44 (decimal row.0 ∷ map decimal row.1)

-- the weights parted by commas, as one field; no field where there are none
abbrev pub weight_fields : List ℕ → List (List ℕ)
weight_fields [] = []
weight_fields (w ∷ ws) = join_with_byte 44 (decimal w ∷ map decimal ws) ∷ []

-- LPO and every symbol's name, the greatest first; or LINEAR and each symbol's numbers; or KBO, the weights by symbol number, and every symbol's name, the greatest first
abbrev pub cert_fields : List (List ℕ) → Certificate → List (List ℕ)
cert_fields names (Lpo symbols) = codes "LPO" ∷ map (name_at names) symbols
cert_fields names (Linear rows) = codes "LINEAR" ∷ map interp_text rows
cert_fields names (Kbo order) = codes "KBO" ∷ (weight_fields order.weights ++ map (name_at names) order.precedence)

-- the fields parted by spaces
abbrev pub cert_text : Signature → Certificate → List ℕ
cert_text signature c = join_with_byte 32 (cert_fields (names_of signature) c)

abbrev pub is_between : ℕ → ℕ → ℕ → Bool
is_between low high n = nat_le low n && nat_le n high

-- each symbol's number once
abbrev pub is_precedence : Signature → List ℕ → Bool
is_precedence signature symbols = nat_eq (length symbols) (length signature) && nat_eq (length (distinct symbols)) (length signature) && list_all (λ f. nat_lt f (length signature)) symbols

-- a constant of at most 15, and a coefficient from 1 to 3 for each argument
abbrev pub is_row : ℕ → ℕ × List ℕ → Bool
is_row arity row = nat_le row.0 15 && nat_eq (length row.1) arity && list_all (is_between 1 3) row.1

-- a row for each symbol
abbrev pub are_rows : Signature → List (ℕ × List ℕ) → Bool
are_rows [] [] = true
are_rows [] (row ∷ rows) = false
are_rows (f ∷ signature) [] = false
are_rows (f ∷ signature) (row ∷ rows) = is_row f.arity row && are_rows signature rows

-- a weight from 1 to 15 for each symbol
abbrev pub are_weights : Signature → List ℕ → Bool
are_weights signature weights = nat_eq (length weights) (length signature) && list_all (is_between 1 15) weights

-- exactly the symbols of the signature with their arities, and numbers within the limits
abbrev pub is_certificate : Signature → Certificate → Bool
is_certificate signature (Lpo symbols) = is_precedence signature symbols
is_certificate signature (Linear rows) = are_rows signature rows
is_certificate signature (Kbo order) = are_weights signature order.weights && is_precedence signature order.precedence

abbrev pub CertSpelled : Signature → List ℕ → Certificate → Type 0
CertSpelled signature bytes c = IsTrue (is_certificate signature c) × (bytes ≡ cert_text signature c)

-- each piece with the byte before it
abbrev pub each_behind : ℕ → List (List ℕ) → List ℕ
each_behind b pieces = flat_map (λ (piece : List ℕ). b ∷ piece) pieces
