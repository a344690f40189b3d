-- Names of symbols, read one by one.
use Rattle.std.proofs.Common.{ℕ, zero, suc, ◌≡◌, List, [], ◌∷◌}
use Rattle.kb_term.specs.Signature.{Signature, HasName, names_of, name_at}

-- the name that is read is the one at that place
pub name_read : (signature : Signature) (f : ℕ) (name : List ℕ) → HasName signature f name → name ≡ name_at (names_of signature) f
name_read [] f name h = absurd (cc)
name_read (e ∷ signature) zero name h = cc
name_read (e ∷ signature) (suc f) name h = name_read signature f name h
