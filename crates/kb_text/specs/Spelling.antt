-- How the tokens of a text spell it, in whatever way they are found.
use Rattle.std.specs.Prelude.{◌≡◌, ℕ, ◌+◌, ◌<◌, ◌≤◌, List, [], ◌∷◌, ◌++◌, false, IsTrue, Contains, length, nat_eq, ⊤}
use Rattle.std.specs.List.{list_all, starts_with}
use Rattle.kb_term.specs.Identifier.{is_white_space, begins_otherwise}
use Rattle.kb_text.specs.Tokens.{Token, Placed, marks, identifier, end_of_input}

-- the text is at its end, or white space or a mark begins it
abbrev pub IsBroken : List ℕ → Type 0
IsBroken [] = ⊤
IsBroken (b ∷ rest) = IsTrue (begins_otherwise (b ∷ rest))

-- neither white space nor a mark begins at any byte of the name, which stands before the rest
abbrev pub IsUnbrokenBefore : List ℕ → List ℕ → Type 0
IsUnbrokenBefore rest [] = ⊤
IsUnbrokenBefore rest (b ∷ name) = (begins_otherwise (b ∷ (name ++ rest)) ≡ false) × IsUnbrokenBefore rest name

-- the token with its text, before the rest: the longest mark that begins there, an identifier that goes on until it is broken, or the end
pub data Stands (t : Token) (text rest : List ℕ) : Type 0 where
  a_mark : Contains marks (t, text) → ((m : Token × List ℕ) → Contains marks m → IsTrue (starts_with nat_eq (text ++ rest) m.1) → length m.1 ≤ length text) → Stands t text rest
  an_identifier : t ≡ identifier text → 0 < length text → IsUnbrokenBefore rest text → IsBroken rest → Stands t text rest
  the_end : t ≡ end_of_input → text ≡ [] → rest ≡ [] → Stands t text rest

-- from the place n on the bytes are the texts of the tokens in order, each at its place, with white space before them
abbrev pub AreSpelled : ℕ → List Placed → List ℕ → Type 0
AreSpelled n [] bytes = bytes ≡ []
AreSpelled n (t ∷ ts) bytes =
    (space text rest : List ℕ) × IsTrue (list_all is_white_space space) × (bytes ≡ space ++ (text ++ rest)) × (t.at ≡ n + length space) × Stands t.token text rest × AreSpelled (t.at + length text) ts rest
