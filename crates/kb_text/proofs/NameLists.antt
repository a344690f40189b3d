-- Lists of names, from a place on.
use Rattle.std.proofs.Common.{◌≡◌, ◌+◌, ◌<◌, ◌≤◌, ◌||◌, ap, sym, ◌∙◌, ℕ, List, [], ◌∷◌, Bool, drop, length, get_or, Vec, Global}
use Rattle.std.specs.Prelude.{map, bytes_eq}
use Rattle.std.proofs.lemmas.List.{at_drop_more}
use Rattle.std.proofs.Math.ListN.{drop_of_length-le}
use Rattle.kb_text.specs.Names.{Name, is_among}

abbrev pub NameVec : Type 0
NameVec = Vec ℕ Global

-- the names from a place on
abbrev pub names_from : List NameVec → ℕ → List Name
names_from names i = map (λ (n : NameVec). n.items) (drop i names)

-- the names from a place on begin with the one there
pub names_from-more : (names : List NameVec) (i : ℕ) (next : NameVec) → next ≡ get_or names i next → i < length names → names_from names i ≡ next.items ∷ names_from names (i + 1)
names_from-more names i next e h =
    at_drop_more (λ (ns : List NameVec). map (λ (n : NameVec). n.items) ns) names i next h ∙ ap (λ (n : NameVec). n.items ∷ names_from names (i + 1)) (sym e)

pub names_from-end : (names : List NameVec) (i : ℕ) → length names ≤ i → names_from names i ≡ []
names_from-end names i h =
    ap (λ (ns : List NameVec). map (λ (n : NameVec). n.items) ns) (drop_of_length-le names h)

-- one name on: it is the one sought, or not
pub is_among-left : (names : List NameVec) (i : ℕ) (name : Name) (next : NameVec) (b : Bool) → next ≡ get_or names i next → i < length names → bytes_eq name next.items ≡ b
    → is_among (names_from names i) name ≡ (b || is_among (names_from names (i + 1)) name)
is_among-left names i name next b e h q =
    ap (λ (ns : List Name). is_among ns name) (names_from-more names i next e h) ∙ ap (λ (v : Bool). v || is_among (names_from names (i + 1)) name) q
