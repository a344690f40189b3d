-- Where an identifier by the definition of terms goes on, so does a token.
use Rattle.std.proofs.Common.{◌≡◌, ℕ, ◌==◌, List, [], ◌∷◌, Bool, false, cond, length, map, refl, ◌∙◌, ap}
use Rattle.std.specs.List.{list_any, starts_with}
use Rattle.std.proofs.lemmas.Bool.{or_parts}
use Rattle.kb_term.specs.Identifier.{is_white_space, begins_otherwise}
use Rattle.kb_text.specs.Tokens.{Token, white, mark, letter, marks, mark_of, start_of}

no_mark : (ms : List (Token × List ℕ)) (text : List ℕ) → list_any (λ (m : List ℕ). starts_with ◌==◌ text m) (map (λ (m : Token × List ℕ). m.1) ms) ≡ false → mark_of ms text ≡ letter
no_mark [] text h = refl
no_mark (m ∷ ms) text h =
    let r = or_parts (starts_with ◌==◌ text m.1) (list_any (λ (x : List ℕ). starts_with ◌==◌ text x) (map (λ (x : Token × List ℕ). x.1) ms)) h in
    ap (λ (b : Bool). cond b (mark m.0 (length m.1)) (mark_of ms text)) r.0 ∙ no_mark ms text r.1

pub letter_start : (b : ℕ) (text : List ℕ) → begins_otherwise (b ∷ text) ≡ false → start_of b text ≡ letter
letter_start b text h =
    let r = or_parts (is_white_space b) (list_any (λ (m : List ℕ). starts_with ◌==◌ (b ∷ text) m) (map (λ (m : Token × List ℕ). m.1) marks)) h in
    ap (λ (w : Bool). cond w white (mark_of marks (b ∷ text))) r.0 ∙ no_mark marks (b ∷ text) r.1
