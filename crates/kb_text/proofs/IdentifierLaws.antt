-- Where neither white space nor a mark begins.
use Rattle.std.proofs.Common.{◌≡◌, ℕ, ◌<◌, ◌==◌, List, [], ◌∷◌, Bool, true, false, cond, ◌||◌, length, map, refl, sym, ◌∙◌, ap, arith, ◌≤◌, Vec, Global}
use Rattle.std.specs.Prelude.{nat_eq}
use Rattle.std.specs.List.{list_any, starts_with}
use Rattle.std.proofs.lemmas.List.{get_or-map}
use Rattle.std.proofs.lemmas.List.Elements.{All-map}
use Rattle.std.specs.Prelude.{All, AllPairs}
use Rattle.kb_term.specs.Identifier.{begins_otherwise, is_white_space}
use Rattle.kb_text.specs.Tokens.{Token, white, mark, letter, marks, mark_of, start_of}
use Rattle.kb_term.specs.Identifier.{IsIdentifier}
use Rattle.kb_term.specs.Signature.{SymbolEntry, IsSignature, symbols_of_list}

no_mark : (ms : List (Token × List ℕ)) (text : List ℕ) → mark_of ms text ≡ letter → list_any (λ (m : List ℕ). starts_with ◌==◌ text m) (map (λ (m : Token × List ℕ). m.1) ms) ≡ false
no_mark [] text h = refl
no_mark (m ∷ ms) text h = go (no_mark ms text) (starts_with nat_eq text m.1) refl
  where
    go : (mark_of ms text ≡ letter → list_any (λ (x : List ℕ). starts_with ◌==◌ text x) (map (λ (x : Token × List ℕ). x.1) ms) ≡ false) → (b : Bool) → starts_with nat_eq text m.1 ≡ b → (starts_with ◌==◌ text m.1 || list_any (λ (x : List ℕ). starts_with ◌==◌ text x) (map (λ (x : Token × List ℕ). x.1) ms)) ≡ false
    go rest true e = absurd (let f : mark m.0 (length m.1) ≡ letter = sym (ap (λ (b : Bool). cond b (mark m.0 (length m.1)) (mark_of ms text)) e) ∙ h in cc)
    go rest false e =
        ap (λ (b : Bool). b || list_any (λ (x : List ℕ). starts_with ◌==◌ text x) (map (λ (x : Token × List ℕ). x.1) ms)) e
        ∙ rest (sym (ap (λ (b : Bool). cond b (mark m.0 (length m.1)) (mark_of ms text)) e) ∙ h)

pub letter_begins : (b : ℕ) (text : List ℕ) → start_of b text ≡ letter → begins_otherwise (b ∷ text) ≡ false
letter_begins b text h = go (is_white_space b) refl
  where
    go : (w : Bool) → is_white_space b ≡ w → begins_otherwise (b ∷ text) ≡ false
    go true e = absurd (let f : white ≡ letter = sym (ap (λ (w : Bool). cond w white (mark_of marks (b ∷ text))) e) ∙ h in cc)
    go false e =
        ap (λ (w : Bool). w || list_any (λ (m : List ℕ). starts_with ◌==◌ (b ∷ text) m) (map (λ (m : Token × List ℕ). m.1) marks)) e
        ∙ no_mark marks (b ∷ text) (sym (ap (λ (w : Bool). cond w white (mark_of marks (b ∷ text))) e) ∙ h)

-- a relation of the images of each two members
pub AllPairs-map : {X Y : Type 0} (R : Y → Y → Type 0) (f : X → Y) (xs : List X) → AllPairs (λ (a b : X). R (f a) (f b)) xs → AllPairs R (map f xs)
AllPairs-map R f [] h i j d p q = absurd (omega arith)
AllPairs-map R f (x ∷ xs) h i j d p q =
    let r : j < length (x ∷ xs) = omega (arith, length-map f (x ∷ xs)) in
    rw (get_or-map f (x ∷ xs) i x d (omega (arith, r, p)), get_or-map f (x ∷ xs) j x d r) (h i j x p r)
  where
    length-map : {X Y : Type 0} (f : X → Y) (xs : List X) → length (map f xs) ≡ length xs
    length-map f [] = refl
    length-map f (x ∷ xs) = omega (arith, length-map f xs)

abbrev pub Entry : Type 0
Entry = Vec ℕ Global × ℕ

-- names that were tested one by one make a signature
pub tested_signature : (es : List Entry) → All (λ (e : Entry). IsIdentifier e.0.items × (length e.0.items ≤ 64)) es → AllPairs (λ (e f : Entry). ¬ (e.0.items ≡ f.0.items)) es → IsSignature (symbols_of_list es)
tested_signature es a b = record {
  names = All-map (λ (f : SymbolEntry). IsIdentifier f.name × (length f.name ≤ 64)) (λ (f : Entry). record { name = f.0.items; arity = f.1 }) es a;
  differ = AllPairs-map (λ (f g : SymbolEntry). ¬ (f.name ≡ g.name)) (λ (f : Entry). record { name = f.0.items; arity = f.1 }) es b;
}
