-- Identifiers in a text that is UTF-8.
use Rattle.std.proofs.Common.{◌≡◌, ◌⊎◌, inl, inr, refl, ap, sym, ◌∙◌, subst, arith, ℕ, zero, suc, ◌+◌, ◌-◌, ◌<◌, ◌≤◌, List, [], ◌∷◌, Bool, true, false, cond, length, get_or, take, drop}
use Rattle.std.specs.Prelude.{IsUtf8, nat_eq, not, ◌&&◌}
use Rattle.std.specs.List.{starts_with}
use Rattle.std.specs.Str.{IsCharBoundary}
use Rattle.std.proofs.lemmas.Str.{IsUtf8-between, IsCharBoundary-before_ascii, IsCharBoundary-after_ascii, IsCharBoundary-end}
use Rattle.std.proofs.lemmas.Slice.Eq.{bytes_eq-Decides}
use Rattle.std.proofs.Math.Nat.{eq-or-lt_of_le}
use Rattle.kb_term.specs.Identifier.{IsIdentifier, is_unbroken, is_white_space}
use Rattle.kb_text.specs.Tokens.{Token, white, mark, letter, marks, mark_of, start_of}
use Rattle.kb_text.specs.Starts.{start_in, IsNameTo, AreAscii, mark_length_of}
use Rattle.kb_text.specs.declared.lexer.Mark.{Mark}
use Rattle.kb_text.specs.declared.lexer.Mark.TheVariants.{ArrowEquals, Arrow, Equals, Bar, LeftParen, RightParen, Comma, Quotation}
use Rattle.kb_text.specs.declared.lexer.Start.TheVariants.{Mark as IsMark}
use Rattle.kb_text.proofs.IdentifierLaws.{letter_begins}
use Rattle.kb_text.proofs.Runs.{start_in_place}
use Rattle.std.proofs.lemmas.List.{at_drop_more}

pub white_end : (bytes : List ℕ) (at : ℕ) → IsUtf8 bytes → at < length bytes → get_or bytes at 0 < 128 → IsCharBoundary bytes (at + 1)
white_end bytes at u h a = IsCharBoundary-after_ascii bytes at u h a

pub mark_end : (bytes : List ℕ) (at : ℕ) (m : Mark) → IsUtf8 bytes → at + mark_length_of m ≤ length bytes → AreAscii (IsMark m) (get_or bytes at 0) (get_or bytes (at + 1) 0) (get_or bytes (at + 2) 0) → IsCharBoundary bytes (at + mark_length_of m)
mark_end bytes at ArrowEquals u h a = let e : at + 2 + 1 ≡ at + 3 = omega arith in subst (IsCharBoundary bytes) e (IsCharBoundary-after_ascii bytes (at + 2) u (omega arith) a.1)
mark_end bytes at Arrow u h a = let e : at + 1 + 1 ≡ at + 2 = omega arith in subst (IsCharBoundary bytes) e (IsCharBoundary-after_ascii bytes (at + 1) u (omega arith) a.1)
mark_end bytes at Equals u h a = let e : at + 1 + 1 ≡ at + 2 = omega arith in subst (IsCharBoundary bytes) e (IsCharBoundary-after_ascii bytes (at + 1) u (omega arith) a.1)
mark_end bytes at Bar u h a = IsCharBoundary-after_ascii bytes at u (omega arith) a
mark_end bytes at LeftParen u h a = IsCharBoundary-after_ascii bytes at u (omega arith) a
mark_end bytes at RightParen u h a = IsCharBoundary-after_ascii bytes at u (omega arith) a
mark_end bytes at Comma u h a = IsCharBoundary-after_ascii bytes at u (omega arith) a
mark_end bytes at Quotation u h a = IsCharBoundary-after_ascii bytes at u (omega arith) a

pub name_boundary : (bytes : List ℕ) (at end : ℕ) → IsNameTo bytes at end → IsCharBoundary bytes end
name_boundary bytes at end h = go (eq-or-lt_of_le h.within)
  where
    go : (end ≡ length bytes) ⊎ (end < length bytes) → IsCharBoundary bytes end
    go (inl e) = subst (IsCharBoundary bytes) (sym e) (IsCharBoundary-end bytes)
    go (inr l) = IsCharBoundary-before_ascii bytes end l (h.ascii l)

-- ---- no mark begins in a part of a text where none begins in the text

take-take : (n m : ℕ) (xs : List ℕ) → n ≤ m → take n (take m xs) ≡ take n xs
take-take zero m xs h = refl
take-take (suc n) zero xs h = absurd (omega arith)
take-take (suc n) (suc m) [] h = refl
take-take (suc n) (suc m) (x ∷ xs) h = ap (x ∷◌) (take-take n m xs (omega arith))

part_starts : (xs m : List ℕ) (n : ℕ) (b : Bool) → starts_with nat_eq xs m ≡ false → starts_with nat_eq (take n xs) m ≡ b → b ≡ false
part_starts xs m n false h e = refl
part_starts xs m n true h e =
    let same : m ≡ take (length m) (take n xs) = (bytes_eq-Decides m (take (length m) (take n xs))).0 e in
    let few : length m ≤ n = omega (arith, ap length same, take_le (length m) n xs) in
    let whole : m ≡ take (length m) xs = same ∙ take-take (length m) n xs few in
    absurd (true_false (sym ((bytes_eq-Decides m (take (length m) xs)).1 whole) ∙ h))
  where
    true_false : true ≡ false → ⊥
    true_false e = cc

    take_le : (k n : ℕ) (xs : List ℕ) → length (take k (take n xs)) ≤ n
    take_le zero n xs = omega arith
    take_le (suc k) zero xs = omega arith
    take_le (suc k) (suc n) [] = omega arith
    take_le (suc k) (suc n) (x ∷ xs) = omega (arith, take_le k n xs)

part_mark : (ms : List (Token × List ℕ)) (xs : List ℕ) (n : ℕ) → mark_of ms xs ≡ letter → mark_of ms (take n xs) ≡ letter
part_mark [] xs n h = refl
part_mark (m ∷ ms) xs n h = go (part_mark ms xs n) (starts_with nat_eq xs m.1) refl
  where
    go : (mark_of ms xs ≡ letter → mark_of ms (take n xs) ≡ letter) → (b : Bool) → starts_with nat_eq xs m.1 ≡ b → mark_of (m ∷ ms) (take n xs) ≡ letter
    go ih true e = absurd (let f : mark m.0 (length m.1) ≡ letter = sym (ap (λ (b : Bool). cond b (mark m.0 (length m.1)) (mark_of ms xs)) e) ∙ h in cc)
    go ih false e =
        let none : starts_with nat_eq (take n xs) m.1 ≡ false = part_starts xs m.1 n (starts_with nat_eq (take n xs) m.1) e refl in
        ap (λ (b : Bool). cond b (mark m.0 (length m.1)) (mark_of ms (take n xs))) none
        ∙ ih (sym (ap (λ (b : Bool). cond b (mark m.0 (length m.1)) (mark_of ms xs)) e) ∙ h)

part_letter : (b : ℕ) (xs : List ℕ) (n : ℕ) → start_of b xs ≡ letter → start_of b (take n xs) ≡ letter
part_letter b xs n h = go (is_white_space b) refl
  where
    go : (w : Bool) → is_white_space b ≡ w → start_of b (take n xs) ≡ letter
    go true e = absurd (let f : white ≡ letter = sym (ap (λ (w : Bool). cond w white (mark_of marks (b ∷ xs))) e) ∙ h in cc)
    go false e = ap (λ (w : Bool). cond w white (mark_of marks (b ∷ take n xs))) e ∙ part_mark marks (b ∷ xs) (suc n) (sym (ap (λ (w : Bool). cond w white (mark_of marks (b ∷ xs))) e) ∙ h)

-- letters from a place on are unbroken
letters_unbroken : (n : ℕ) (bytes : List ℕ) (at : ℕ) → at + n ≤ length bytes → ((k : ℕ) → at ≤ k → k < at + n → start_in bytes k ≡ letter) → is_unbroken (take n (drop at bytes)) ≡ true
letters_unbroken zero bytes at h l = refl
letters_unbroken (suc n) bytes at h l =
    let first : start_of (get_or bytes at 0) (take n (drop (at + 1) bytes)) ≡ letter = part_letter (get_or bytes at 0) (drop (at + 1) bytes) n (start_in_place bytes at ∙ l at (omega arith) (omega arith)) in
    at_drop_more (λ (xs : List ℕ). is_unbroken (take (suc n) xs)) bytes at 0 (omega arith)
    ∙ ap (λ (b : Bool). not b && is_unbroken (take n (drop (at + 1) bytes))) (letter_begins (get_or bytes at 0) (take n (drop (at + 1) bytes)) first)
    ∙ letters_unbroken n bytes (at + 1) (omega arith) (λ k p q. l k (omega arith) (omega arith))

length-slice : (n at : ℕ) (bytes : List ℕ) → at + n ≤ length bytes → length (take n (drop at bytes)) ≡ n
length-slice zero at bytes h = refl
length-slice (suc n) at bytes h =
    let rest = length-slice n (at + 1) bytes (omega arith) in
    omega (arith, at_drop_more (λ (xs : List ℕ). length (take (suc n) xs)) bytes at 0 (omega arith), rest)

pub name_identifier : (bytes : List ℕ) (at end : ℕ) → IsUtf8 bytes → IsCharBoundary bytes at → IsNameTo bytes at end → IsIdentifier (take (end - at) (drop at bytes))
name_identifier bytes at end u b h =
    let some = h.some in
    let within = h.within in
    let whole : at + (end - at) ≡ end = omega arith in record {
      some = omega (arith, length-slice (end - at) at bytes (omega arith));
      utf8 = IsUtf8-between bytes at end u (omega arith) b (name_boundary bytes at end h);
      unbroken = letters_unbroken (end - at) bytes at (omega arith) (λ k p q. h.letters k p (omega arith));
    }
