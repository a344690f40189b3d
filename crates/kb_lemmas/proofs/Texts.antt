-- Bytes below 128, and lines.
use Rattle.std.proofs.Common.{ℕ, zero, suc, ◌≡◌, ◌<◌, refl, ap, ◌∙◌, arith, true, List, [], ◌∷◌, ◌++◌, get_or}
use Rattle.std.specs.Prelude.{IsUtf8, nat_lt, replicate}
use Rattle.std.specs.List.{list_all}
use Rattle.std.proofs.lemmas.Bool.{and_parts, ltb-true}
use Rattle.std.proofs.lemmas.List.{append_assoc}
use Rattle.std.proofs.lemmas.Str.{IsUtf8-from_ascii, IsUtf8-nil, IsUtf8-append}

pub ascii_bytes : (bs : List ℕ) → list_all (λ b. nat_lt b 128) bs ≡ true → (i : ℕ) → get_or bs i 0 < 128
ascii_bytes [] h i = omega arith
ascii_bytes (b ∷ bs) h zero = ltb-true b 128 (and_parts (nat_lt b 128) (list_all (λ b. nat_lt b 128) bs) h).0
ascii_bytes (b ∷ bs) h (suc i) = ascii_bytes bs (and_parts (nat_lt b 128) (list_all (λ b. nat_lt b 128) bs) h).1 i

pub ascii_utf8 : (bs : List ℕ) → list_all (λ b. nat_lt b 128) bs ≡ true → IsUtf8 bs
ascii_utf8 bs h = IsUtf8-from_ascii bs (ascii_bytes bs h)

pub letters_utf8 : (n : ℕ) → IsUtf8 (replicate n 120)
letters_utf8 zero = IsUtf8-nil
letters_utf8 (suc n) = IsUtf8-append (120 ∷ []) (replicate n 120) (ascii_utf8 (120 ∷ []) refl) (letters_utf8 n)

pub line_and : (body rest more : List ℕ) → rest ≡ more → (body ++ 10 ∷ []) ++ rest ≡ body ++ 10 ∷ more
line_and body rest more e = append_assoc body (10 ∷ []) rest ∙ ap (λ (t : List ℕ). body ++ 10 ∷ t) e
